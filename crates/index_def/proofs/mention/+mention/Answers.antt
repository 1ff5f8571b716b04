use Rattle.std.proofs.Common.{map, ap, ◌∙◌, sym}
use Rattle.n1ql_ast.specs.Forms.{all_hold}
use Rattle.index_def.specs.Mentions.{is_silent_on}
use Rattle.index_def.proofs.Silence.{case_both, case_second}
use Rattle.index_def.proofs.mention.+mention.Goals as goal

pub is_silent_on-returns-then-are_all_silent_on-2 : goal.is_silent_on-returns-then-are_all_silent_on-2
is_silent_on-returns-then-are_all_silent_on-2 t c =
    let silent = is_silent_on c.args.subject in
    c.is_part_silent_on.ensures ∙ sym (case_both c.args.subject c.in-Case.whens c.in-Case.thens c.in-Case.other c.args.e.now c.in-Case.is
    (ap (λ xs. all_hold (map silent xs)) (sym c.as_slice-in-Case.ensures) ∙ (sym c.are_all_silent_on-in-Case.ensures ∙ c.if-are_all_silent_on.true))
    (ap (λ xs. all_hold (map silent xs)) (sym c.as_slice-then-are_all_silent_on.ensures) ∙ (sym c.are_all_silent_on-then-are_all_silent_on.ensures ∙ c.if-are_all_silent_on-2.true)))

pub is_silent_on-returns-else-are_all_silent_on-2 : goal.is_silent_on-returns-else-are_all_silent_on-2
is_silent_on-returns-else-are_all_silent_on-2 t c =
    let silent = is_silent_on c.args.subject in
    c.if-are_all_silent_on-2.false ∙ sym (case_second c.args.subject c.in-Case.whens c.in-Case.thens c.in-Case.other c.args.e.now c.in-Case.is
    (ap (λ xs. all_hold (map silent xs)) (sym c.as_slice-in-Case.ensures) ∙ (sym c.are_all_silent_on-in-Case.ensures ∙ c.if-are_all_silent_on.true))
    (ap (λ xs. all_hold (map silent xs)) (sym c.as_slice-then-are_all_silent_on.ensures) ∙ (sym c.are_all_silent_on-then-are_all_silent_on.ensures ∙ c.if-are_all_silent_on-2.false)))
