use Rattle.sorted_lists.proofs.Exchange.{without_one-insert_sorted, without_all-with_all}
use Rattle.sorted_lists.proofs.laws.removal_undoes_insertion.Goals as goal

pub returns-clause-one : goal.returns-clause-one
returns-clause-one g c R o same x ys = without_one-insert_sorted o same x ys

pub returns-clause-many : goal.returns-clause-many
returns-clause-many g c R o same more ys = without_all-with_all o same more ys
