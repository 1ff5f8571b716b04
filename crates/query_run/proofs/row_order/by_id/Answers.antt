use Rattle.std.proofs.Common.{Bool, rules, ap, ◌∙◌}
use Rattle.std.proofs.lemmas.List.Sorted.{answers_always, ranks_by}
use Rattle.std.specs.Ordering.{is_lt}
use Rattle.n1ql_value.specs.declared.row.Row.{Row}
use Rattle.sorted_lists.specs.SortedLists.{sort_of}
use Rattle.query_run.specs.inner.Runs.{by_id}
use Rattle.query_run.proofs.ById.{by_id_total}
use Rattle.query_run.proofs.row_order.by_id.Goals as goal

pub returns : goal.returns
returns c =
    let total = by_id_total c.order_of_rows_is_total.ensures in
    let below : Row → Row → Bool = λ a b. is_lt (by_id a b) in
    let order = ranks_by total (λ (z : Row). z) in
    c.from_vec.ensures
    ∙ (c.a_stable_sort_is_the_sort.ensures by_id total c.into_vec-rows.result.items c.sort_by.new.self.items
    (c.in_ok-sort_by.ensures.sorted below order (answers_always _ _ _ (λ f a r g h. search rules)))
    (c.in_ok-sort_by.ensures.stable below order (answers_always _ _ _ (λ f a r g h. search rules)))
    ∙ ap (sort_of by_id) c.into_vec-rows.ensures)
