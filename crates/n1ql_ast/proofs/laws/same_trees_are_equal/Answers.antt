use Rattle.n1ql_ast.proofs.SameTrees.{same_tree-Decides}
use Rattle.n1ql_ast.proofs.laws.same_trees_are_equal.Goals as goal

pub returns : goal.returns
returns c = same_tree-Decides c.order_of_values_is_total.ensures c.alike_values_are_equal.ensures
