use Rattle.std.proofs.Common.{◌≡◌, ◌+◌, ◌*◌, map, drop}
use Rattle.std.specs.Cmp.Lexicographic.{slice_cmp}
use Rattle.n1ql_value.specs.Datum.{datum_of, pair_of}
use Rattle.n1ql_value.specs.Depth.{largest, depth, pairs_depth}
use Rattle.n1ql_value.specs.Collation.{value_cmp, pair_cmp}
use Rattle.n1ql_value.proofs.collation.+collation.Given as goal

abbrev pub invariant-collate_entries-loop-place : goal.invariant-collate_entries-loop-place
invariant-collate_entries-loop-place l = slice_cmp (pair_cmp value_cmp) (map pair_of (drop l.place l.a)) (map pair_of (drop l.place l.b)) ≡ slice_cmp (pair_cmp value_cmp) (map pair_of l.a) (map pair_of l.b)

abbrev pub invariant-collate_items-loop-place : goal.invariant-collate_items-loop-place
invariant-collate_items-loop-place l = slice_cmp value_cmp (map datum_of (drop l.place l.a)) (map datum_of (drop l.place l.b)) ≡ slice_cmp value_cmp (map datum_of l.a) (map datum_of l.b)

abbrev pub decreases-collate : goal.decreases-collate
decreases-collate l = 3 * depth (datum_of l.a.now)

abbrev pub decreases-collate_items : goal.decreases-collate_items
decreases-collate_items l = 3 * largest (map depth (map datum_of l.a.now)) + 1

abbrev pub decreases-collate_entries : goal.decreases-collate_entries
decreases-collate_entries l = 3 * pairs_depth (map pair_of l.a.now) + 1

abbrev pub decreases-collate_objects : goal.decreases-collate_objects
decreases-collate_objects l = 3 * pairs_depth (map pair_of l.a.now) + 2
