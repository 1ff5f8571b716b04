use Rattle.sorted_lists.proofs.Stable.{sorted_is_sort_of}
use Rattle.sorted_lists.proofs.laws.a_stable_sort_is_the_sort.Goals as goal

pub returns : goal.returns
returns g c R o xs ys s stable = sorted_is_sort_of o xs ys s stable
