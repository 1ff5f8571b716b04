use Rattle.sorted_lists.proofs.Once.{each_once-each_once, each_once-sort_of}
use Rattle.sorted_lists.proofs.laws.each_once_leaves_no_repeat.Goals as goal

pub returns-clause-none : goal.returns-clause-none
returns-clause-none g c R same xs = each_once-each_once same xs

pub returns-clause-sorts : goal.returns-clause-sorts
returns-clause-sorts g c R o xs = each_once-sort_of o xs
