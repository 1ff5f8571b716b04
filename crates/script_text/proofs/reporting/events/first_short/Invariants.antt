use Rattle.std.proofs.Common.{ℕ, ◌<◌, ◌≤◌}
use Rattle.seq_vector.specs.Vectors.{entry}
use Rattle.script_text.proofs.reporting.events.first_short.Given as goal

abbrev pub invariant-loop-vb : goal.invariant-loop-vb
invariant-loop-vb l = (k : ℕ) → k < l.vb → entry l.want k ≤ entry l.have k
