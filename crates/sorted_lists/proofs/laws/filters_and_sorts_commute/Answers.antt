use Rattle.sorted_lists.proofs.Filters.{filter-sort_of}
use Rattle.sorted_lists.proofs.laws.filters_and_sorts_commute.Goals as goal

pub returns : goal.returns
returns g c R o test xs = filter-sort_of o test xs
