use Rattle.std.proofs.Common.{◌-◌, length, refl, sym, ap, ◌∙◌}
use Rattle.std.specs.Ordering.{is_eq, on}
use Rattle.n1ql_value.specs.Collation.{value_cmp}
use Rattle.n1ql_value.specs.Datum.{datum_of}
use Rattle.n1ql_spans.proofs.Neighbours.{ends_at}
use Rattle.n1ql_spans.proofs.distinct.is_last.Goals as goal

pub returns-in-Some : goal.returns-in-Some
returns-in-Some c =
    c.is_eq.ensures
    ∙ (ap is_eq c.collate.ensures
    ∙ sym (ends_at (on datum_of value_cmp) c.args.values.now (length c.args.values.now - 1) c.in-Some.last.now c.args.value.now refl c.in-Some.ensures.value))
