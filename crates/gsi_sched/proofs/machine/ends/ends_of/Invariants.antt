use Rattle.std.proofs.Common.{◌≡◌, map, take}
use Rattle.scan_history.specs.Answers.{end_of}
use Rattle.gsi_hub.specs.Past.{state_of}
use Rattle.gsi_sched.proofs.machine.ends.ends_of.Given as goal

abbrev pub invariant-loop-at : goal.invariant-loop-at
invariant-loop-at l = l.ends ≡ map (end_of (state_of l.hub)) (take l.at (state_of l.hub).live)
