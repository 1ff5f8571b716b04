use Rattle.std.proofs.Common.{◌≡◌, map, ap, ◌∙◌}
use Rattle.std.proofs.lemmas.Result.{IfOk-weaker}
use Rattle.std.specs.Ordering.{on}
use Rattle.n1ql_value.specs.Collation.{value_cmp}
use Rattle.n1ql_value.specs.Datum.{datum_of}
use Rattle.sorted_lists.specs.SortedLists.{sort_of}
use Rattle.n1ql_spans.specs.Bounding.{distinct}
use Rattle.n1ql_spans.specs.inner.Neighbours.{neighbours_once}
use Rattle.n1ql_spans.proofs.DistinctValues.{distinct_values}
use Rattle.n1ql_spans.proofs.distinct.distinct.Goals as goal

pub returns : goal.returns
returns c =
    let sorted = c.in_ok-sorted.ensures ∙ ap (sort_of (on datum_of value_cmp)) c.in_ok-without_nulls.ensures in
    let made = ap (λ vs. map datum_of (neighbours_once (on datum_of value_cmp) vs)) sorted
    ∙ distinct_values c.order_of_values_is_total.ensures c.alike_values_are_equal.ensures c.args.values.now in
    IfOk-weaker c.once.result _ (λ found. map datum_of found.items ≡ distinct (map datum_of c.args.values.now)) (λ found is. ap (map datum_of) is ∙ made) c.once.ensures
