use Rattle.std.proofs.Common.{Some, ap, ◌∙◌, sym}
use Rattle.std.specs.Option.{option_copied}
use Rattle.script_text.proofs.ReportLemmas.{first_text-some, first_text-none}
use Rattle.script_text.proofs.reporting.events.rows_at.Goals as goal

pub returns-in-Some-text : goal.returns-in-Some-text
returns-in-Some-text c =
    (ap Some c.as_slice.ensures ∙ sym c.in-Some-text.is)
    ∙ first_text-some c.args.answers.now c.args.at c.in-Some.answered.now (sym (ap option_copied c.in-Some.is) ∙ c.get.ensures)

pub returns-in-None-text : goal.returns-in-None-text
returns-in-None-text c =
    sym c.in-None-text.is ∙ first_text-some c.args.answers.now c.args.at c.in-Some.answered.now (sym (ap option_copied c.in-Some.is) ∙ c.get.ensures)

pub returns-in-None : goal.returns-in-None
returns-in-None c = first_text-none c.args.answers.now c.args.at (sym (ap option_copied c.in-None.is) ∙ c.get.ensures)
