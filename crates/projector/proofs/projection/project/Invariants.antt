use Rattle.std.proofs.Common.{◌≡◌, take}
use Rattle.std.specs.Prelude.{map}
use Rattle.projector.specs.Projections.{projected_of}
use Rattle.projector.proofs.projection.project.Given as goal

abbrev pub invariant-loop-numbered : goal.invariant-loop-numbered
invariant-loop-numbered l = l.projected ≡ map (λ d. projected_of d l.p) (take l.numbered-index l.defs)
