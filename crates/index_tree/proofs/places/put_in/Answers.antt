use Rattle.std.proofs.Common.{ap, sym, subst, ◌∙◌}
use Rattle.std.specs.List.Sorted.{IsSorted}
use Rattle.n1ql_value.specs.Collation.{row_cmp}
use Rattle.n1ql_value.proofs.RowLaws.{row_cmp-total}
use Rattle.sorted_lists.proofs.InOrder.{IsSorted-insert_sorted}
use Rattle.index_tree.specs.inner.Shared.{rows_in}
use Rattle.index_tree.proofs.PlaceLemmas.{put_at_place}
use Rattle.index_tree.proofs.places.put_in.Goals as goal

pub returns-clause-ok : goal.returns-clause-ok
returns-clause-ok c =
    let bound = rw c.deref.ensures.value at c.lower_bound-at.ensures.bound in
    let point = rw (c.deref.ensures.value, c.deref-2.ensures) at c.lower_bound-at.ensures.point in
    ap rows_in c.in_ok-insert.ensures.items ∙ put_at_place _ _ _ bound point

pub returns-clause-sorted : goal.returns-clause-sorted
returns-clause-sorted c =
    subst (IsSorted row_cmp) (sym (returns-clause-ok c)) (IsSorted-insert_sorted row_cmp-total _ _ c.requires)
