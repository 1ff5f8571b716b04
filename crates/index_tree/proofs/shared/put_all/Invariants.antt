use Rattle.std.proofs.Common.{◌≡◌, ◌≤◌, ◌+◌, vec_len, vec_capacity}
use Rattle.std.specs.List.Sorted.{IsSorted}
use Rattle.n1ql_value.specs.Collation.{row_cmp}
use Rattle.sorted_lists.specs.SortedLists.{with_all}
use Rattle.index_tree.specs.inner.Shared.{rows_in}
use Rattle.index_tree.proofs.shared.put_all.Given as goal

abbrev pub invariant-loop-row : goal.invariant-loop-row
invariant-loop-row l =
    (with_all row_cmp (rows_in l.shared.items) (rows_in l.rows.items) ≡ with_all row_cmp (rows_in l.initial.shared.items) (rows_in l.initial.rows.items))
    × IsSorted row_cmp (rows_in l.rows.items)
    × (vec_len l.rows + vec_len l.shared ≤ vec_capacity l.rows)
    × (vec_len l.rows + vec_len l.shared ≡ vec_len l.initial.rows + vec_len l.initial.shared)
    × (vec_capacity l.initial.rows ≤ vec_capacity l.rows)

abbrev pub decreases-loop-row : goal.decreases-loop-row
decreases-loop-row l = vec_len l.shared
