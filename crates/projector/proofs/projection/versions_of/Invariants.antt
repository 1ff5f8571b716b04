use Rattle.std.proofs.Common.{◌≡◌, take}
use Rattle.std.specs.Prelude.{map}
use Rattle.std.specs.Arc.{arc_value}
use Rattle.key_eval.specs.Versions.{version_of}
use Rattle.projector.proofs.projection.versions_of.Given as goal

abbrev pub invariant-loop-m : goal.invariant-loop-m
invariant-loop-m l = l.versions ≡ map (version_of l.def) (map arc_value (take l.m-index l.muts))
