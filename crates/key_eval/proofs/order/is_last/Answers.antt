use Rattle.std.proofs.Common.{◌-◌, length, refl, sym, ap, ◌∙◌}
use Rattle.std.specs.Ordering.{is_eq}
use Rattle.n1ql_value.specs.Collation.{row_cmp}
use Rattle.key_eval.proofs.Once.{ends_at}
use Rattle.key_eval.proofs.order.is_last.Goals as goal

pub returns-in-Some : goal.returns-in-Some
returns-in-Some c =
    c.is_eq.ensures
    ∙ (ap is_eq c.collate_rows.ensures
    ∙ sym (ends_at row_cmp c.args.rows.now (length c.args.rows.now - 1) c.in-Some.last.now c.args.row.now refl c.in-Some.ensures.value))
