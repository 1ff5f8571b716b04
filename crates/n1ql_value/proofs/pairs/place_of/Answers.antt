use Rattle.std.proofs.Common.{rules}
use Rattle.std.specs.Ordering.{nat_cmp, is_lt}
use Rattle.std.specs.Cmp.Lexicographic.{slice_cmp}
use Rattle.std.proofs.lemmas.List.Sorted.{IsPartitionPoint-from_clause}
use Rattle.n1ql_value.specs.declared.text.Text.{Text as Bytes}
use Rattle.n1ql_value.specs.declared.value.Value.{Value}
use Rattle.n1ql_value.proofs.Places.{names_parted, is_place}
use Rattle.n1ql_value.proofs.pairs.place_of.Goals as goal

pub returns : goal.returns
returns c =
    is_place c.args.entries.now c.args.name.now c.partition_point.result c.partition_point.ensures.bound
    (IsPartitionPoint-from_clause (λ (e : Bytes × Value). is_lt (slice_cmp nat_cmp e.0 c.args.name.now)) _ _ c.partition_point.ensures.partitioned (names_parted c.args.name.now c.args.entries.now c.requires) (λ a r q k. search rules))
