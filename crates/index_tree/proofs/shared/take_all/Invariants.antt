use Rattle.std.proofs.Common.{◌≡◌, ◌≤◌, take, vec_len, vec_capacity}
use Rattle.std.specs.List.Sorted.{IsSorted}
use Rattle.n1ql_value.specs.Collation.{row_cmp}
use Rattle.sorted_lists.specs.SortedLists.{without_all}
use Rattle.index_tree.specs.inner.Shared.{rows_in}
use Rattle.index_tree.proofs.shared.take_all.Given as goal

abbrev pub invariant-loop-row : goal.invariant-loop-row
invariant-loop-row l =
    (rows_in l.rows.items ≡ without_all row_cmp (rows_in (take l.row-index l.out)) (rows_in l.initial.rows.items))
    × IsSorted row_cmp (rows_in l.rows.items)
    × (vec_capacity l.rows ≡ vec_capacity l.initial.rows)
    × (vec_len l.rows ≤ vec_len l.initial.rows)
