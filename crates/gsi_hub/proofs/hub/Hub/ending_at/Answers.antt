use Rattle.std.proofs.Common.{◌≡◌, ℕ, List, true≢false, refl, sym, ap, ◌∙◌, subst}
use Rattle.std.specs.Arc.{arc_value}
use Rattle.seq_vector.specs.Vectors.{IsCovered}
use Rattle.index_def.specs.LiveIndexes.{numbered}
use Rattle.index_snapshot.specs.declared.snapshot.Snapshot.{Snapshot}
use Rattle.gsi_hub.specs.Past.{state_of}
use Rattle.gsi_hub.specs.Outcomes.{Lags}
use Rattle.gsi_hub.proofs.LiveLists.{found_number}
use Rattle.gsi_hub.proofs.Opens.{shown, live_if}
use Rattle.gsi_hub.proofs.hub.Hub.ending_at.Goals as goal

pub returns-then-covers : goal.returns-then-covers
returns-then-covers c =
    let p = c.args.self.now in
    let s = state_of p in
    let i = c.args.i in
    let high : List ℕ = c.args.high.now in
    let index = shown p.script.vbuckets s (numbered i s.live) (arc_value c.in-Some.newest.now) c.in-Some.ensures in
    let at : c.deref-in-Some.result.now ≡ s.published i =
    c.deref-in-Some.ensures ∙ (ap (λ (x : Snapshot). arc_value x.vector) c.deref.ensures ∙ (index.2.vector ∙ ap s.published (found_number i s.live index.0 index.1))) in
    live_if i s (λ index. IsCovered high (s.published i)) index.0 index.1 (subst (IsCovered high) at (c.covers.ensures.entries.0 c.if-covers.true))

pub returns-else-covers : goal.returns-else-covers
returns-else-covers c =
    let p = c.args.self.now in
    let s = state_of p in
    let i = c.args.i in
    let high : List ℕ = c.args.high.now in
    let index = shown p.script.vbuckets s (numbered i s.live) (arc_value c.in-Some.newest.now) c.in-Some.ensures in
    let at : c.deref-in-Some.result.now ≡ s.published i =
    c.deref-in-Some.ensures ∙ (ap (λ (x : Snapshot). arc_value x.vector) c.deref.ensures ∙ (index.2.vector ∙ ap s.published (found_number i s.live index.0 index.1))) in
    (refl, live_if i s (λ index. Lags s high i) index.0 index.1 (λ covered. true≢false (sym (c.covers.ensures.entries.1 (subst (IsCovered high) (sym at) covered)) ∙ c.if-covers.false)))
