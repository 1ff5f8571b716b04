use Rattle.std.proofs.Common.{IsTrue, true, is_eq, sym, ap, ◌∙◌, subst, rules}
use Rattle.n1ql_value.specs.Collation.{row_cmp}
use Rattle.std.specs.List.Sorted.{IsSorted}
use Rattle.n1ql_value.proofs.RowLaws.{row_cmp-total}
use Rattle.sorted_lists.proofs.InOrder.{IsSorted-without_one}
use Rattle.index_tree.specs.inner.Shared.{rows_in}
use Rattle.index_tree.proofs.PlaceLemmas.{NoneTies, took_at_place, found_at_place, none_past_end, none_at_place, unchanged_without, not_found}
use Rattle.index_tree.proofs.places.take_out.Goals as goal
use Rattle.index_tree.proofs.places.take_out.Goals.{else-at-len-via-then-at-len+else-is_eq, else-at-len-via-else-at-len}

pub returns-then-is_eq-clause-rows : goal.returns-then-is_eq-clause-rows
returns-then-is_eq-clause-rows c =
    let place = rw c.deref.ensures.value at c.lower_bound-at.ensures.point in
    let tie = sym (c.if-is_eq.ensures ∙ ap is_eq (c.collate_rows.ensures ∙ ap (λ r. row_cmp r c.args.row.now) c.deref-then-at-len.ensures)) in
    ap rows_in c.remove.ensures.items ∙ took_at_place _ _ _ (search rules) place _ c.index.ensures tie

is_true : IsTrue true
is_true = search rules

pub returns-then-is_eq-clause-found : goal.returns-then-is_eq-clause-found
returns-then-is_eq-clause-found c =
    let tie = sym (c.if-is_eq.ensures ∙ ap is_eq (c.collate_rows.ensures ∙ ap (λ r. row_cmp r c.args.row.now) c.deref-then-at-len.ensures)) in
    let found = found_at_place _ _ _ (search rules) _ c.index.ensures tie in
    (λ _. found, λ _. is_true)

none : (c : goal.Joined-else-at-len) → NoneTies c.args.rows.now.items c.args.row.now
none c =
    let place = rw c.deref.ensures.value at c.lower_bound-at.ensures.point in
    elim c.else-at-len.branch [
      | else-at-len-via-then-at-len+else-is_eq w ↦ none_at_place _ _ _ c.requires place (search rules) _ w.index.ensures (sym (w.is_eq.ensures ∙ ap is_eq (w.collate_rows.ensures ∙ ap (λ r. row_cmp r c.args.row.now) w.deref-then-at-len.ensures)) ∙ w.if-is_eq.false)
      | else-at-len-via-else-at-len w ↦ none_past_end _ _ _ c.requires place (search rules)
    ]

pub returns-clause-rows : goal.returns-clause-rows
returns-clause-rows c = unchanged_without _ _ (none c)

pub returns-clause-found : goal.returns-clause-found
returns-clause-found c = (λ is. absurd (search rules), λ there. absurd (not_found _ _ (none c) there))

pub returns-then-is_eq-clause-sorted : goal.returns-then-is_eq-clause-sorted
returns-then-is_eq-clause-sorted c =
    subst (IsSorted row_cmp) (sym (returns-then-is_eq-clause-rows c)) (IsSorted-without_one row_cmp-total _ _ c.requires)
