use Rattle.std.proofs.Common.{◌≡◌, ◌++◌, ap, ◌∙◌, List, ℕ, length}
use Rattle.vb_store.specs.Mutations.{high_of}
use Rattle.scan_history.specs.Events.{Event}
use Rattle.scan_history.specs.Fold.{state_after}
use Rattle.script_text.specs.Reports.{no_demands, event_lines, end_line, report_text}
use Rattle.script_text.proofs.reporting.writing.report.Goals as goal

pub returns : goal.returns
unfolding report_text
returns c =
    let n = c.args.script.now.vbuckets in
    let events = c.args.done.now.events in
    let answers = c.args.done.now.answers in
    let ends = c.args.done.now.ends in
    let high = c.in_ok-high.high in
    let lines : List ℕ = event_lines no_demands events answers in
    let first : c.event_lines.new.out.items ≡ lines =
    c.in_ok-event_lines.ensures ∙ (ap (λ (s : List ℕ). s ++ event_lines no_demands c.as_slice-2.result.now answers) c.new-text.ensures.items
    ∙ ap (λ (es : List Event). event_lines no_demands es answers) c.as_slice-2.ensures) in
    let newest : high ≡ high_of n (state_after n events).log =
    c.in_ok-high.ensures ∙ ap (λ (es : List Event). high_of n (state_after n es).log) c.as_slice.ensures in
    c.in_ok-end_line.ensures ∙ (ap (λ (s : List ℕ). s ++ end_line c.len.result high ends) first
    ∙ (ap (λ (k : ℕ). lines ++ end_line k high ends) c.len.ensures ∙ ap (λ (v : List ℕ). lines ++ end_line (length events) v ends) newest))
