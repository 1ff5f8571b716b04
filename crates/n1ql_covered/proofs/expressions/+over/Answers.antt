use Rattle.std.proofs.Common.{◌≡◌, false, None, rules, sym, ap, ◌∙◌}
use Rattle.n1ql_ast.specs.Equality.{same_tree}
use Rattle.n1ql_spans.specs.Covering.{over_keys, own_id}
use Rattle.n1ql_covered.proofs.OversByCases.{case_made, each_made, first_made, place}
use Rattle.n1ql_covered.proofs.expressions.+over.Goals as goal

pub over_keys-returns-in_ok-optional-in-Case : goal.over_keys-returns-in_ok-optional-in-Case
over_keys-returns-in_ok-optional-in-Case t c =
    let none : place c.args.keys.now c.args.e.now ≡ None = search rules in
    let apart : same_tree own_id c.args.e.now ≡ false = sym c.is_own_id.ensures ∙ c.if-is_own_id.false in
    case_made c.args.keys.now c.args.e.now none apart c.in-Case.whens c.in-Case.thens c.in-Case.other _ _ _ c.in-Case.is
    c.in_ok-list-in-Case.ensures c.in_ok-list-in-Case-2.ensures c.in_ok-optional-in-Case.ensures

pub over_keys-returns-in_ok-optional-in-Each : goal.over_keys-returns-in_ok-optional-in-Each
over_keys-returns-in_ok-optional-in-Each t c =
    let none : place c.args.keys.now c.args.e.now ≡ None = search rules in
    let apart : same_tree own_id c.args.e.now ≡ false = sym c.is_own_id.ensures ∙ c.if-is_own_id.false in
    each_made c.args.keys.now c.args.e.now none apart c.in-Each.name c.in-Each.item c.in-Each.over c.in-Each.when _ _ _ _ c.in-Each.is
    c.in_ok-copy-in-Each.ensures
    (c.in_ok-part-in-Each.ensures ∙ ap (over_keys c.args.keys.now) c.get-in-Each.ensures)
    (c.in_ok-part-in-Each-2.ensures ∙ ap (over_keys c.args.keys.now) c.get-in-Each-2.ensures)
    c.in_ok-optional-in-Each.ensures

pub over_keys-returns-in_ok-optional-in-First : goal.over_keys-returns-in_ok-optional-in-First
over_keys-returns-in_ok-optional-in-First t c =
    let none : place c.args.keys.now c.args.e.now ≡ None = search rules in
    let apart : same_tree own_id c.args.e.now ≡ false = sym c.is_own_id.ensures ∙ c.if-is_own_id.false in
    first_made c.args.keys.now c.args.e.now none apart c.in-First.name c.in-First.item c.in-First.over c.in-First.when _ _ _ _ c.in-First.is
    c.in_ok-copy-in-First.ensures
    (c.in_ok-part-in-First.ensures ∙ ap (over_keys c.args.keys.now) c.get-in-First.ensures)
    (c.in_ok-part-in-First-2.ensures ∙ ap (over_keys c.args.keys.now) c.get-in-First-2.ensures)
    c.in_ok-optional-in-First.ensures
