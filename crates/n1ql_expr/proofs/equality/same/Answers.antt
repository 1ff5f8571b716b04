use Rattle.std.proofs.lemmas.Bool.Decides.{same_from_decides}
use Rattle.n1ql_ast.specs.Equality.{same_tree}
use Rattle.n1ql_expr.proofs.equality.same.Goals as goal

pub returns : goal.returns
returns c = same_from_decides _ _ c.equal.ensures (c.same_trees_are_equal.ensures c.args.a.now c.args.b.now)
