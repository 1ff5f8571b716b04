use Rattle.std.proofs.Common.{map, sym, ap, ◌∙◌}
use Rattle.std.specs.Option.{option_map}
use Rattle.n1ql_ast.specs.Forms.{all_hold, held_if_any}
use Rattle.n1ql_spans.specs.Covering.{is_covered, plain_keys}
use Rattle.n1ql_spans.specs.inner.ReadWhole.{is_read_whole}
use Rattle.n1ql_spans.proofs.CoveredByCases.{both_hold, covered_case, covered_each, covered_first, first_fails, second_fails}
use Rattle.n1ql_spans.proofs.covering.+covering.Goals as goal

pub is_covered-returns-then-are_covered-2 : goal.is_covered-returns-then-are_covered-2
is_covered-returns-then-are_covered-2 t c =
    let keys = c.args.keys.now in
    let covered = is_covered (plain_keys keys) in
    c.is_part_covered.ensures ∙ sym (both_hold (covered c.args.e.now) (all_hold (map covered c.in-Case.whens)) (all_hold (map covered c.in-Case.thens)) (held_if_any (option_map covered c.in-Case.other))
    (ap covered c.in-Case.is ∙ covered_case keys c.in-Case.whens c.in-Case.thens c.in-Case.other (ap (is_read_whole keys) (sym c.in-Case.is) ∙ (sym c.is_read_whole.ensures ∙ c.if-is_read_whole.false)))
    (ap (λ xs. all_hold (map covered xs)) (sym c.as_slice-in-Case.ensures) ∙ (sym c.are_covered-in-Case.ensures ∙ c.if-are_covered.true))
    (ap (λ xs. all_hold (map covered xs)) (sym c.as_slice-then-are_covered.ensures) ∙ (sym c.are_covered-then-are_covered.ensures ∙ c.if-are_covered-2.true)))

pub is_covered-returns-then-is_covered-9 : goal.is_covered-returns-then-is_covered-9
is_covered-returns-then-is_covered-9 t c =
    let keys = c.args.keys.now in
    let covered = is_covered (plain_keys keys) in
    c.is_part_covered-then-is_covered-9.ensures ∙ sym (both_hold (covered c.args.e.now) (covered c.in-Each.item) (covered c.in-Each.over) (held_if_any (option_map covered c.in-Each.when))
    (ap covered c.in-Each.is ∙ covered_each keys c.in-Each.field-0 c.in-Each.item c.in-Each.over c.in-Each.when (ap (is_read_whole keys) (sym c.in-Each.is) ∙ (sym c.is_read_whole.ensures ∙ c.if-is_read_whole.false)))
    (ap covered (sym c.get-in-Each.ensures) ∙ (sym c.is_covered-in-Each.ensures ∙ c.if-is_covered-8.true))
    (ap covered (sym c.get-then-is_covered-8.ensures) ∙ (sym c.is_covered-then-is_covered-8.ensures ∙ c.if-is_covered-9.true)))

pub is_covered-returns-else-is_covered-9 : goal.is_covered-returns-else-is_covered-9
is_covered-returns-else-is_covered-9 t c =
    let keys = c.args.keys.now in
    let covered = is_covered (plain_keys keys) in
    c.if-is_covered-9.false ∙ sym (second_fails (covered c.args.e.now) (covered c.in-Each.item) (covered c.in-Each.over) (held_if_any (option_map covered c.in-Each.when))
    (ap covered c.in-Each.is ∙ covered_each keys c.in-Each.field-0 c.in-Each.item c.in-Each.over c.in-Each.when (ap (is_read_whole keys) (sym c.in-Each.is) ∙ (sym c.is_read_whole.ensures ∙ c.if-is_read_whole.false)))
    (ap covered (sym c.get-in-Each.ensures) ∙ (sym c.is_covered-in-Each.ensures ∙ c.if-is_covered-8.true))
    (ap covered (sym c.get-then-is_covered-8.ensures) ∙ (sym c.is_covered-then-is_covered-8.ensures ∙ c.if-is_covered-9.false)))

pub is_covered-returns-else-is_covered-8 : goal.is_covered-returns-else-is_covered-8
is_covered-returns-else-is_covered-8 t c =
    let keys = c.args.keys.now in
    let covered = is_covered (plain_keys keys) in
    c.if-is_covered-8.false ∙ sym (first_fails (covered c.args.e.now) (covered c.in-Each.item) (covered c.in-Each.over) (held_if_any (option_map covered c.in-Each.when))
    (ap covered c.in-Each.is ∙ covered_each keys c.in-Each.field-0 c.in-Each.item c.in-Each.over c.in-Each.when (ap (is_read_whole keys) (sym c.in-Each.is) ∙ (sym c.is_read_whole.ensures ∙ c.if-is_read_whole.false)))
    (ap covered (sym c.get-in-Each.ensures) ∙ (sym c.is_covered-in-Each.ensures ∙ c.if-is_covered-8.false)))

pub is_covered-returns-then-is_covered-11 : goal.is_covered-returns-then-is_covered-11
is_covered-returns-then-is_covered-11 t c =
    let keys = c.args.keys.now in
    let covered = is_covered (plain_keys keys) in
    c.is_part_covered-then-is_covered-11.ensures ∙ sym (both_hold (covered c.args.e.now) (covered c.in-First.item) (covered c.in-First.over) (held_if_any (option_map covered c.in-First.when))
    (ap covered c.in-First.is ∙ covered_first keys c.in-First.field-0 c.in-First.item c.in-First.over c.in-First.when (ap (is_read_whole keys) (sym c.in-First.is) ∙ (sym c.is_read_whole.ensures ∙ c.if-is_read_whole.false)))
    (ap covered (sym c.get-in-First.ensures) ∙ (sym c.is_covered-in-First.ensures ∙ c.if-is_covered-10.true))
    (ap covered (sym c.get-then-is_covered-10.ensures) ∙ (sym c.is_covered-then-is_covered-10.ensures ∙ c.if-is_covered-11.true)))

pub is_covered-returns-else-is_covered-11 : goal.is_covered-returns-else-is_covered-11
is_covered-returns-else-is_covered-11 t c =
    let keys = c.args.keys.now in
    let covered = is_covered (plain_keys keys) in
    c.if-is_covered-11.false ∙ sym (second_fails (covered c.args.e.now) (covered c.in-First.item) (covered c.in-First.over) (held_if_any (option_map covered c.in-First.when))
    (ap covered c.in-First.is ∙ covered_first keys c.in-First.field-0 c.in-First.item c.in-First.over c.in-First.when (ap (is_read_whole keys) (sym c.in-First.is) ∙ (sym c.is_read_whole.ensures ∙ c.if-is_read_whole.false)))
    (ap covered (sym c.get-in-First.ensures) ∙ (sym c.is_covered-in-First.ensures ∙ c.if-is_covered-10.true))
    (ap covered (sym c.get-then-is_covered-10.ensures) ∙ (sym c.is_covered-then-is_covered-10.ensures ∙ c.if-is_covered-11.false)))

pub is_covered-returns-else-is_covered-10 : goal.is_covered-returns-else-is_covered-10
is_covered-returns-else-is_covered-10 t c =
    let keys = c.args.keys.now in
    let covered = is_covered (plain_keys keys) in
    c.if-is_covered-10.false ∙ sym (first_fails (covered c.args.e.now) (covered c.in-First.item) (covered c.in-First.over) (held_if_any (option_map covered c.in-First.when))
    (ap covered c.in-First.is ∙ covered_first keys c.in-First.field-0 c.in-First.item c.in-First.over c.in-First.when (ap (is_read_whole keys) (sym c.in-First.is) ∙ (sym c.is_read_whole.ensures ∙ c.if-is_read_whole.false)))
    (ap covered (sym c.get-in-First.ensures) ∙ (sym c.is_covered-in-First.ensures ∙ c.if-is_covered-10.false)))
