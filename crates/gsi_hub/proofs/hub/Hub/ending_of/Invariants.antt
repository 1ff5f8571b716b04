use Rattle.std.proofs.Common.{take}
use Rattle.gsi_hub.specs.Past.{state_of}
use Rattle.gsi_hub.specs.inner.Endings.{IsEnding}
use Rattle.gsi_hub.proofs.hub.Hub.ending_of.Given as goal

abbrev pub invariant-loop-i : goal.invariant-loop-i
invariant-loop-i l = IsEnding (state_of l.self) (take l.i-index l.work.indexes) l.work.high l.ending
