use Rattle.sorted_lists.proofs.InOrder.{IsSorted-sort_of, length-sort_of, sort_of-IsSorted, IsSorted-insert_sorted, IsSorted-without_one}
use Rattle.sorted_lists.proofs.laws.sorts_are_in_order.Goals as goal

pub returns-clause-sort : goal.returns-clause-sort
returns-clause-sort g c R o xs = IsSorted-sort_of o xs

pub returns-clause-length : goal.returns-clause-length
returns-clause-length g c R xs = length-sort_of R xs

pub returns-clause-itself : goal.returns-clause-itself
returns-clause-itself g c R o xs s = sort_of-IsSorted o xs s

pub returns-clause-put : goal.returns-clause-put
returns-clause-put g c R o x xs s = IsSorted-insert_sorted o x xs s

pub returns-clause-taken : goal.returns-clause-taken
returns-clause-taken g c R o x xs s = IsSorted-without_one o x xs s
