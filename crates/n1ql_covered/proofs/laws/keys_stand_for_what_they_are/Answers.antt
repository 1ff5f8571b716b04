use Rattle.std.proofs.Common.{[]}
use Rattle.std.proofs.lemmas.List.Elements.{recursion_from_All}
use Rattle.n1ql_ast.specs.FormedStatements.{IsFormedIn}
use Rattle.n1ql_covered.proofs.Reading.{TreeLaws, reads}
use Rattle.n1ql_covered.proofs.laws.keys_stand_for_what_they_are.Goals as goal

pub returns : goal.returns
returns c =
    let trees : TreeLaws = record { same = c.same_trees_are_equal.ensures; closed = c.closed_expressions_read_no_other_names.ensures } in
    λ keys formed e. reads keys trees (recursion_from_All (IsFormedIn []) keys formed) e
