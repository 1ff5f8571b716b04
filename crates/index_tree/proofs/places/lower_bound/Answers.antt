use Rattle.std.proofs.Common.{rules}
use Rattle.std.proofs.lemmas.List.Sorted.{IsPartitionPoint-from_clause}
use Rattle.std.specs.Arc.{arc_value}
use Rattle.std.specs.Ordering.{is_lt}
use Rattle.n1ql_value.specs.Collation.{row_cmp}
use Rattle.index_tree.proofs.PlaceLemmas.{parted, is_place}
use Rattle.index_tree.proofs.places.lower_bound.Goals as goal

pub returns-clause-point : goal.returns-clause-point
returns-clause-point c =
    is_place _ _ _ c.partition_point.ensures.bound
    (IsPartitionPoint-from_clause (λ held. is_lt (row_cmp (arc_value held) c.args.row.now)) _ _ c.partition_point.ensures.partitioned (parted _ _ c.requires) (λ a r q k. search rules))
