use Rattle.std.proofs.Common.{◌≡◌, ◌+◌, Some, List, slice_get, sym, ap, ◌∙◌, subst, arith}
use Rattle.std.proofs.lemmas.Bool.{true≢false}
use Rattle.std.specs.List.{AllByRecursion}
use Rattle.index_def.specs.Forms.{IsFormed}
use Rattle.index_def.specs.LiveIndexes.{Live}
use Rattle.scan_history.specs.First.{is_online}
use Rattle.gsi_hub.specs.Past.{state_of}
use Rattle.gsi_sched.proofs.Served.{slice_past}
use Rattle.gsi_sched.proofs.SentPieces.{AreDefsTo, with_def, without_def, not_online}
use Rattle.gsi_sched.proofs.machine.sending.online_defs.Goals as goal
use Rattle.gsi_sched.proofs.machine.sending.online_defs.Goals.{in-Some+then-matches+in_ok-numbered+in_ok-push, in-Online, in_default-matches, in-Some+else-matches, in_default}

pub loop-at-preserved : goal.loop-at-preserved
loop-at-preserved c =
    let live : List Live = (state_of c.args.hub.now).live in
    let at = c.loop-at.at in
    let same : c.catalog-catalog.result.now.live ≡ live = c.catalog-catalog.ensures.live in
    let formed : AllByRecursion (λ (x : Live). IsFormed x.def) live = subst (AllByRecursion (λ (x : Live). IsFormed x.def)) same c.catalog-catalog.ensures.formed in
    elim c.match-get.branch [
      | in-Some+then-matches+in_ok-numbered+in_ok-push w ↦
          let index = w.in-Some.index.now in
          let there : slice_get live at ≡ Some index = ap (λ (l : List Live). slice_get l at) (sym same) ∙ sym w.in-Some.ensures in
          elim w.match-matches.branch [
            | in-Online w' ↦
                let online = ap is_online (sym w.state.ensures ∙ w'.in-Online.is) in
                let is = ap (λ v. v.items) w.defs-is ∙ w.in_ok-push.ensures.items in
                subst (AreDefsTo live (at + 1)) (sym is) (with_def live at index c.loop-at.defs.items w.in_ok-numbered.field-0 formed there online w.in_ok-numbered.ensures c.loop-at.invariant)
            | in_default-matches w' ↦ absurd (true≢false (sym w.if-matches.true ∙ w'.matches-is))
          ]
      | in-Some+else-matches w ↦
          let index = w.in-Some.index.now in
          let there : slice_get live at ≡ Some index = ap (λ (l : List Live). slice_get l at) (sym same) ∙ sym w.in-Some.ensures in
          elim w.match-matches.branch [
            | in-Online w' ↦ absurd (true≢false (sym w'.matches-is ∙ w.if-matches.false))
            | in_default-matches w' ↦
                let other = not_online index.state (λ online. w'.in_default-matches.not-Online (w.state.ensures ∙ online)) in
                subst (AreDefsTo live (at + 1)) (sym (ap (λ v. v.items) w.defs-is)) (without_def live at index c.loop-at.defs.items there other c.loop-at.invariant)
          ]
      | in_default w ↦
          let past = slice_past c.catalog-catalog.result.now.live at (sym w.in_default.ensures) in
          absurd (omega (arith, past, c.loop-at-test.true, c.len-at-end.ensures))
    ]
