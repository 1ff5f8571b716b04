use Rattle.std.proofs.Common.{◌≡◌, ◌≤◌, ◌++◌, drop}
use Rattle.script_text.specs.Reports.{event_lines, no_demands}
use Rattle.script_text.specs.inner.Demands.{demand_in}
use Rattle.script_text.proofs.reporting.events.event_lines.Given as goal

abbrev pub invariant-loop-happened : goal.invariant-loop-happened
invariant-loop-happened l = record {
  lines : l.out.items ++ event_lines (demand_in l.demands.items) (drop l.happened-index l.events) (drop l.answered l.answers) ≡ l.fn.out.items ++ event_lines no_demands l.events l.answers;
  few : l.answered ≤ l.happened-index;
}
