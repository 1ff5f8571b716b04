use Rattle.std.proofs.Common.{Bool, rules}
use Rattle.std.proofs.lemmas.Cmp.{on_total}
use Rattle.std.proofs.lemmas.List.Sorted.{answers_always, ranks_by}
use Rattle.std.specs.Ordering.{is_lt, on}
use Rattle.n1ql_value.specs.declared.value.Value.{Value}
use Rattle.n1ql_value.specs.Collation.{value_cmp}
use Rattle.n1ql_value.specs.Datum.{datum_of}
use Rattle.sorted_lists.proofs.Stable.{sorted_is_sort_of}
use Rattle.n1ql_spans.proofs.distinct.in_order.Goals as goal

pub returns : goal.returns
returns c =
    let below : Value → Value → Bool = λ a b. is_lt (on datum_of value_cmp a b) in
    let total = on_total datum_of c.order_of_values_is_total.ensures in
    let order = ranks_by total (λ (z : Value). z) in
    sorted_is_sort_of total c.args.values.items c.sort_by.new.self.items
    (c.in_ok-sort_by.ensures.sorted below order (answers_always _ _ _ (λ f a r g h. search rules)))
    (c.in_ok-sort_by.ensures.stable below order (answers_always _ _ _ (λ f a r g h. search rules)))
