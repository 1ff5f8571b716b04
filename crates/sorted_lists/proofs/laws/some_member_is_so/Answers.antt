use Rattle.sorted_lists.proofs.Members.{list_any-map, list_any-flat_map, list_any-filter, list_any-sort_of, list_any-implies}
use Rattle.sorted_lists.proofs.Once.{list_any-each_once}
use Rattle.std.proofs.lemmas.List.Folds.{list_any-append}
use Rattle.sorted_lists.proofs.laws.some_member_is_so.Goals as goal

pub returns-clause-mapped : goal.returns-clause-mapped
returns-clause-mapped g c f so xs = list_any-map f so xs

pub returns-clause-flattened : goal.returns-clause-flattened
returns-clause-flattened g c f so xs = list_any-flat_map f so xs

pub returns-clause-filtered : goal.returns-clause-filtered
returns-clause-filtered g c keep so xs = list_any-filter keep so xs

pub returns-clause-joined : goal.returns-clause-joined
returns-clause-joined g c so xs ys = list_any-append so xs ys

pub returns-clause-sorted : goal.returns-clause-sorted
returns-clause-sorted g c R so xs = list_any-sort_of R so xs

pub returns-clause-once : goal.returns-clause-once
returns-clause-once g c R same so xs = list_any-each_once same so xs

pub returns-clause-implied : goal.returns-clause-implied
returns-clause-implied g c so other each xs h = list_any-implies so other each xs h
