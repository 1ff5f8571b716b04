use Rattle.std.proofs.Common.{◌≡◌, ◌++◌, ◌+◌, [], ap, ◌∙◌, List, ℕ, Option, drop, arith}
use Rattle.std.specs.Option.{option_copied, option_map_or}
use Rattle.scan_history.specs.Events.{Event}
use Rattle.scan_history.specs.Happened.{event_of}
use Rattle.script_text.specs.Lines.{line_of}
use Rattle.script_text.specs.Reports.{beside, event_members, event_lines, demands_after, demand_of, first_text, answers_taken, no_demands}
use Rattle.script_text.specs.inner.Demands.{demand_in}
use Rattle.script_text.proofs.DemandLemmas.{none_made}
use Rattle.script_text.proofs.ReportLemmas.{event_more, answers_taken-le, lines_alike}
use Rattle.script_text.proofs.reporting.events.event_lines.Goals as goal

pub loop-happened-init : goal.loop-happened-init
loop-happened-init c =
    let none = c.new-demands.result.items in
    record {
      lines = ap (λ (s : List ℕ). c.args.out.now.items ++ s) (lines_alike (demand_in none) no_demands (λ d. none_made none d c.new-demands.ensures.items) c.args.events.now c.args.answers.now);
      few = omega arith;
    }

pub loop-happened-preserved : goal.loop-happened-preserved
loop-happened-preserved c =
    let i = c.loop-happened.happened-index in
    let a = c.loop-happened.answered in
    let events = c.args.events.now in
    let answers = c.args.answers.now in
    let left = drop a answers in
    let e : Event = c.happened-item.result in
    let held : Event = event_of c.event-event.result.now in
    let out = c.loop-happened.out.items in
    let more = c.put_event.new.out.items in
    let before : ℕ → List ℕ = demand_in c.loop-happened.demands.items in
    let after : ℕ → List ℕ = demand_in c.note_event.new.demands.items in
    let all = c.args.out.now.items ++ event_lines no_demands events answers in
    let told : List ℕ = option_map_or (λ (v : List ℕ). v) (option_copied c.demand_of.result) [] in
    let wanted : told ≡ demand_of before held =
    c.demand_of.ensures ∙ ap (λ (xs : List (Option (List ℕ))). demand_of (demand_in xs) held) c.deref.ensures.value in
    let line : more ≡ out ++ line_of (event_members (beside before left e) e) =
    c.in_ok-put_event.ensures
    ∙ (ap (λ (r : Option (List ℕ)). out ++ line_of (event_members (record { rows = r; demand = told }) held)) c.rows_at.ensures
    ∙ (ap (λ (d : List ℕ). out ++ line_of (event_members (record { rows = first_text left; demand = d }) held)) wanted
    ∙ ap (λ (x : Event). out ++ line_of (event_members (beside before left x) x)) c.event-event.ensures)) in
    let taken : c.answers_taken-answered.result ≡ answers_taken e = c.answers_taken-answered.ensures ∙ ap answers_taken c.event-event.ensures in
    record {
      lines = ap (λ (k : ℕ). more ++ event_lines after (drop (i + 1) events) (drop (a + k) answers)) taken
          ∙ event_more before after events answers i a e out more all c.loop-happened-test.true c.happened-item.is
          (λ d. c.in_ok-note_event.ensures d ∙ ap (λ (x : Event). demands_after before x d) c.event-event.ensures) line c.loop-happened.invariant.lines;
      few = omega (arith, taken, answers_taken-le e, c.loop-happened.invariant.few);
    }
