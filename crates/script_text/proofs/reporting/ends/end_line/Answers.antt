use Rattle.std.proofs.Common.{◌≡◌, ◌++◌, ◌∙◌, ℕ, List, OnOk, map, ap, subst}
use Rattle.scan_history.specs.declared.done.End.{End}
use Rattle.script_text.specs.Lines.{array_of, line_of}
use Rattle.script_text.specs.Reports.{totals, end_text}
use Rattle.script_text.proofs.reporting.ends.end_line.Goals as goal

pub returns : goal.returns
returns c =
    let a = c.args in
    subst (λ (text : List ℕ). OnOk c.put_totals.result (c.put_totals.new.out.items ≡ a.out.now.items ++ line_of (totals a.count a.high.now text)))
    (c.deref.ensures.value ∙ (c.in_ok-indexes.ensures ∙ ap (λ (ends : List End). array_of (map end_text ends)) c.as_slice.ensures)) c.put_totals.ensures
