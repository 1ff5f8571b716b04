use Rattle.std.proofs.Common.{◌∷◌, refl}
use Rattle.std.proofs.lemmas.List.Elements.{recursion_from_All}
use Rattle.n1ql_meaning.specs.Likeness.{WhereAlike}
use Rattle.n1ql_meaning.proofs.Alike.{none_seen, results_seen, rows_seen}
use Rattle.n1ql_meaning.proofs.laws.statements_that_read_alike_give_the_same_results.Goals as goal

pub returns-clause-rows : goal.returns-clause-rows
returns-clause-rows c keys over q alike docs h = rows_seen keys over q alike docs (recursion_from_All (WhereAlike keys over q) docs h)

pub returns-clause-some : goal.returns-clause-some
returns-clause-some c keys over q alike row rows = results_seen keys over q alike c.order_of_values_is_total.ensures (row ∷ rows) refl

pub returns-clause-none : goal.returns-clause-none
returns-clause-none c = none_seen
