use Rattle.std.proofs.Common.{◌≡◌, List, map, sym, ap, ◌∙◌, subst, take_all}
use Rattle.std.specs.Arc.{arc_value}
use Rattle.index_def.specs.Forms.{IsFormed}
use Rattle.key_eval.specs.declared.projected.Projected.{Projected}
use Rattle.projector.specs.declared.numbered_def.NumberedDef.{NumberedDef}
use Rattle.projector.specs.Projections.{projected_of, StandInOrder}
use Rattle.projector.proofs.Ordered.{stand_in_order}
use Rattle.projector.proofs.projection.project.Goals as goal

pub projected_for-requires : goal.projected_for-requires
projected_for-requires c =
    subst (λ (d : NumberedDef). IsFormed (arc_value d.def)) (sym c.numbered-item.is)
    (c.requires c.loop-numbered.numbered-index c.numbered-item.result c.loop-numbered-test.true)

pub returns-clause-stands : goal.returns-clause-stands
returns-clause-stands c n log stands =
    let all : c.loop-numbered.projected ≡ map (λ d. projected_of d c.args.p.now) c.args.defs.now =
    c.loop-numbered.invariant ∙ ap (map (λ d. projected_of d c.args.p.now)) (take_all c.loop-numbered.numbered-index c.args.defs.now c.loop-numbered-test.false) in
    subst (StandInOrder n log c.args.defs.now) (sym all) (stand_in_order n log c.args.p.now stands c.args.defs.now)
