use Rattle.std.proofs.Common.{sym, ap, ◌∙◌}
use Rattle.std.proofs.lemmas.Result.{IfOk-weaker}
use Rattle.n1ql_value.specs.declared.datum.Datum.TheVariants as datum
use Rattle.gsi_sched.proofs.Shown.{missing_shown, other_shown}
use Rattle.gsi_sched.proofs.rows_text.key_shown.Goals as goal

pub returns-in-Missing : goal.returns-in-Missing
returns-in-Missing c = ap datum.Array c.new.ensures ∙ sym (missing_shown c.args.key.now c.in-Missing.is)

pub returns-in_default : goal.returns-in_default
returns-in_default c = IfOk-weaker c.in_brackets.result _ _ (λ v h. h ∙ sym (other_shown c.args.key.now c.in_default.not-Missing)) c.in_brackets.ensures
