-- Rows of a document, in order and each once, as the code makes them.
use Rattle.std.proofs.Common.{◌≡◌, Bool, true, false, cond, List, refl, ◌∙◌}
use Rattle.n1ql_value.specs.declared.row.Row.{Row}
use Rattle.n1ql_value.specs.Collation.{row_cmp}
use Rattle.n1ql_value.proofs.RowLaws.{row_cmp-total, row_cmp-exact}
use Rattle.sorted_lists.specs.SortedLists.{sort_of}
use Rattle.sorted_lists.proofs.InOrder.{IsSorted-sort_of}
use Rattle.index_def.specs.Keys.{once_if}
use Rattle.key_eval.specs.Neighbours.{neighbours_once}
use Rattle.sorted_lists.proofs.Once.{each_once-sort_of}
use Rattle.key_eval.proofs.Once.{neighbours_are_once}

pub kept_in_order : (distinct : Bool) (rows : List Row) → cond distinct (neighbours_once row_cmp (sort_of row_cmp rows)) (sort_of row_cmp rows) ≡ sort_of row_cmp (once_if distinct rows)
kept_in_order true rows = neighbours_are_once row_cmp-total row_cmp-exact (sort_of row_cmp rows) (IsSorted-sort_of row_cmp-total rows) ∙ each_once-sort_of row_cmp-total rows
kept_in_order false rows = refl
