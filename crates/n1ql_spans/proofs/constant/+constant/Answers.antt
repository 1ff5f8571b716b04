use Rattle.std.proofs.Common.{map, sym, ap, ◌∙◌}
use Rattle.n1ql_ast.specs.Bindings.{is_constant}
use Rattle.n1ql_ast.specs.Forms.{all_hold}
use Rattle.n1ql_spans.proofs.Constants.{case_both}
use Rattle.n1ql_spans.proofs.constant.+constant.Goals as goal

pub is_constant-returns-then-are_constant-2 : goal.is_constant-returns-then-are_constant-2
is_constant-returns-then-are_constant-2 t c =
    c.is_part_constant.ensures ∙ sym (case_both c.in-Case.whens c.in-Case.thens c.in-Case.other c.args.e.now c.in-Case.is
    (ap (λ xs. all_hold (map is_constant xs)) (sym c.as_slice-in-Case.ensures) ∙ (sym c.are_constant-in-Case.ensures ∙ c.if-are_constant.true))
    (ap (λ xs. all_hold (map is_constant xs)) (sym c.as_slice-then-are_constant.ensures) ∙ (sym c.are_constant-then-are_constant.ensures ∙ c.if-are_constant-2.true)))
