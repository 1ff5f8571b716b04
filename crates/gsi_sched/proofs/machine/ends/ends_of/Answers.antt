use Rattle.std.proofs.Common.{◌≡◌, ◌+◌, ◌<◌, List, Some, None, slice_get, length, map, take, sym, ap, ◌∙◌, subst, arith}
use Rattle.std.specs.Option.{option_copied}
use Rattle.index_def.specs.LiveIndexes.{Live}
use Rattle.scan_history.specs.declared.done.End.{End}
use Rattle.scan_history.specs.Answers.{end_of}
use Rattle.gsi_hub.specs.Past.{state_of}
use Rattle.gsi_sched.proofs.Ended.{found_at, ends_next}
use Rattle.gsi_sched.proofs.WholeSteps.{there_below}
use Rattle.gsi_sched.proofs.machine.ends.ends_of.Goals as goal
use Rattle.gsi_sched.proofs.machine.ends.ends_of.Goals.{in-Some+in_ok-end_in+in_ok-push, in_default}

pub end_in-requires : goal.end_in-requires
end_in-requires c =
    let hub = c.args.hub.now in
    let there : slice_get (state_of hub).live c.loop-at.at ≡ Some c.in-Some.index.now =
    ap (λ (live : List Live). slice_get live c.loop-at.at) (sym c.catalog-catalog.ensures.live) ∙ sym c.get.ensures ∙ ap option_copied c.in-Some.is in
    record { live = found_at c.known.ensures.below hub.script hub.events c.requires c.loop-at.at c.in-Some.index.now there }

pub loop-at-preserved : goal.loop-at-preserved
loop-at-preserved c =
    let s = state_of c.args.hub.now in
    let at = c.loop-at.at in
    elim c.match-get.branch [
      | in-Some+in_ok-end_in+in_ok-push w ↦
          let there : slice_get s.live at ≡ Some w.in-Some.index.now =
          ap (λ (live : List Live). slice_get live at) (sym c.catalog-catalog.ensures.live) ∙ sym c.get.ensures ∙ ap option_copied w.in-Some.is in
          subst (λ (ends : List End). ends ≡ map (end_of s) (take (at + 1) s.live)) (sym w.ends-is)
          (w.in_ok-push.ensures.ok ∙ ends_next s at w.in-Some.index.now c.loop-at.ends w.in_ok-end_in.field-0 there c.loop-at.invariant w.in_ok-end_in.ensures)
      | in_default w ↦
          let live = c.catalog-catalog.result.now.live in
          let within : at < length live = omega (arith, c.loop-at-test.true, c.len-at-end.ensures) in
          let some = there_below live at within in
          let none : None ≡ Some some.0 = sym (ap option_copied w.in_default.is) ∙ c.get.ensures ∙ some.1 in
          absurd cc
    ]
