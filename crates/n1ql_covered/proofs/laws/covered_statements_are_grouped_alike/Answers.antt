use Rattle.std.proofs.lemmas.List.Elements.{recursion_from_All}
use Rattle.n1ql_ast.specs.FormedStatements.{IsFormedKey}
use Rattle.n1ql_covered.proofs.Reading.{TreeLaws}
use Rattle.n1ql_covered.proofs.AlikeStatements.{grouped_over, plain_formed}
use Rattle.n1ql_covered.proofs.laws.covered_statements_are_grouped_alike.Goals as goal

pub returns : goal.returns
returns c =
    let trees : TreeLaws = record { same = c.same_trees_are_equal.ensures; closed = c.closed_expressions_read_no_other_names.ensures } in
    λ def formed q. grouped_over trees def q (plain_formed def.keys (recursion_from_All IsFormedKey def.keys formed.keys))
