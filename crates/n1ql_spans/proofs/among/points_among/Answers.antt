use Rattle.std.proofs.Common.{◌≡◌, map, sym, ap, ◌∙◌}
use Rattle.std.proofs.lemmas.Result.{IfOk-weaker}
use Rattle.n1ql_value.specs.Datum.{value_of}
use Rattle.n1ql_spans.specs.Bounding.{among, distinct, point}
use Rattle.n1ql_spans.proofs.DistinctValues.{points_of_values}
use Rattle.n1ql_spans.proofs.among.points_among.Goals as goal

pub returns-in_ok-distinct-in-Array : goal.returns-in_ok-distinct-in-Array
returns-in_ok-distinct-in-Array c =
    let values = c.in_ok-distinct-in-Array.field-0.items in
    let made = points_of_values values ∙ (ap (map (λ d. point (value_of d))) (c.in_ok-distinct-in-Array.ensures ∙ ap distinct c.as_slice.ensures) ∙ sym (ap among c.in-Array.is)) in
    IfOk-weaker c.points_of.result _ (λ points. points ≡ among c.args.list.now) (λ points is. is ∙ made) c.points_of.ensures
