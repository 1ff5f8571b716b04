use Rattle.sorted_lists.proofs.Exchange.{insert_sorted-comm, with_all-comm, sort_of-append_comm}
use Rattle.sorted_lists.proofs.laws.insertions_commute.Goals as goal

pub returns-clause-one : goal.returns-clause-one
returns-clause-one g c R o same x y zs = insert_sorted-comm o same x y zs

pub returns-clause-many : goal.returns-clause-many
returns-clause-many g c R o same more less zs = with_all-comm o same more less zs

pub returns-clause-sorts : goal.returns-clause-sorts
returns-clause-sorts g c R o same xs ys = sort_of-append_comm o same xs ys
