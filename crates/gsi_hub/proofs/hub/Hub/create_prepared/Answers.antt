use Rattle.std.proofs.Common.{◌≡◌, ℕ, ◌+◌, ◌-◌, ◌<◌, ◌^◌, List, [], ◌∷◌, ◌++◌, length, set, vec_len, Some, None, refl, sym, ap, ◌∙◌, subst, arith}
use Rattle.std.specs.Prelude.{vec_capacity}
use Rattle.std.specs.Arc.{arc_value}
use Rattle.index_def.specs.declared.definition.IndexDef.{IndexDef}
use Rattle.index_def.specs.LiveIndexes.{state_at_creation}
use Rattle.index_ddl.specs.Catalogs.{Indexes, creation_fault}
use Rattle.scan_history.specs.Events.{Event, define}
use Rattle.scan_history.specs.Fold.{Client, state_after}
use Rattle.vb_store.specs.Mutations.{high_of}
use Rattle.gsi_hub.specs.Outcomes.{IsDefined}
use Rattle.gsi_hub.specs.Past.{Past, state_of, part_in, Acted}
use Rattle.gsi_hub.specs.inner.Kept.{IsHub}
use Rattle.gsi_hub.specs.inner.Newest.{newest_of}
use Rattle.gsi_hub.specs.inner.Parts.{parts_of}
use Rattle.gsi_hub.specs.inner.Definitions.{IsCreationOf, creation_of, IsWorkOf}
use Rattle.gsi_hub.specs.inner.Steps.{IsFirstEvent}
use Rattle.gsi_hub.proofs.Calls.{hub_created}
use Rattle.gsi_hub.proofs.Snapshots.{newest_push}
use Rattle.gsi_hub.proofs.Admissions.{creation_comes}
use Rattle.gsi_hub.proofs.Statements.{no_fault, work_step, answer_is as answers, one_longer}
use Rattle.gsi_hub.proofs.Steps.{acted, room, part_there_in}
use Rattle.gsi_hub.proofs.hub.Hub.create_prepared.Goals as goal

pub define_at-requires-clause-room : goal.define_at-requires-clause-room
define_at-requires-clause-room c p at =
    let kept = c.self.invariant in
    subst (λ (q : Client). q.next + 1 < 2 ^ 32) (sym (kept.state.each c.args.c p at))
    (room c.known.ensures (arc_value c.self.inside.script) c.self.inside.events.items c.args.c kept.sound kept.legal)

pub invariant_of-self-in-Ok : goal.invariant_of-self-in-Ok
invariant_of-self-in-Ok c =
    let kept = c.self.invariant in
    let script = arc_value c.self.inside.script in
    let store = c.self.inside.store in
    let indexes = c.self.inside.catalog in
    let newest = newest_of c.self.inside.newest.items in
    let parts = parts_of c.self.inside.parts.items in
    let events = c.self.inside.events.items in
    let s = state_after script.vbuckets events in
    let client : c.args.c < script.clients = subst (λ (q : Past). c.args.c < q.script.clients) (sym c.self.view_is) c.requires.client in
    let there = part_there_in script store indexes newest parts s c.args.c kept.state client in
    let k = (s.client c.args.c).next in
    let next : c.next_of-k.result ≡ k = subst (λ (q : Past). c.next_of-k.result ≡ (part_in q c.args.c).next) (sym c.self.view_is) c.next_of-k.ensures in
    let i = c.args.c in
    let j = c.in-Ok.i in
    let def : IndexDef = arc_value c.args.creation.def in
    let deferred = c.args.deferred in
    let parts' = parts_of c.define_at.new.parts.items in
    let old : Past = record { script = script; events = events; spare = vec_capacity c.self.inside.events - vec_len c.self.inside.events } in
    let first : IsFirstEvent old i (creation_of s i k def deferred) =
    subst (λ (q : Past). IsFirstEvent q i (creation_of (state_of q) i (part_in q i).next def deferred)) (sym c.self.view_is) c.requires.first in
    let made = subst (λ (q : Past). IsCreationOf q def deferred c.args.creation) (sym c.self.view_is) c.requires.prepared in
    let in_catalog : arc_value c.args.creation.shared ≡ def = made.in_catalog in
    let no : creation_fault def.name indexes ≡ None =
    subst (λ (d : IndexDef). creation_fault d.name indexes ≡ None) in_catalog (no_fault (creation_fault (arc_value c.args.creation.shared).name indexes) j c.in-Ok.ensures.refused) in
    let comes = creation_comes c.known.ensures old store indexes newest parts kept i k j def deferred c.in-Ok.ensures.number no first in
    let number : j ≡ length s.defs = comes.0 in
    let may = comes.1 in
    let e : Event = define i k j deferred def in
    let added : c.push_reserved-in-Ok.new.self.items ≡ events ++ e ∷ [] =
    c.push_reserved-in-Ok.ensures.items ∙ ap (λ (x : Event). events ++ x ∷ []) (c.new.ensures ∙ ap (λ (n : ℕ). define i n j deferred (arc_value c.args.creation.def)) next) in
    let more : newest_of c.push_reserved.new.self.items ≡ newest ++ Some (arc_value c.args.creation.snapshot) ∷ [] =
    ap newest_of (c.push_reserved.ensures.items ∙ ap (λ xs. xs ++ Some c.args.creation.snapshot ∷ []) c.reserve.ensures.items) ∙ newest_push c.self.inside.newest.items c.args.creation.snapshot in
    let live = ap (λ (x : Indexes). x.live) c.in-Ok.ensures.created ∙ (ap (λ (n : ℕ). c.self.inside.catalog.live ++ record { number = n; def = arc_value c.args.creation.shared; state = state_at_creation deferred } ∷ []) (sym c.in-Ok.ensures.number)
    ∙ ap (λ (d : IndexDef). c.self.inside.catalog.live ++ record { number = j; def = d; state = state_at_creation deferred } ∷ []) in_catalog) in
    let opened : IsWorkOf j (high_of script.vbuckets s.log) deferred c.args.creation.work = subst (λ (n : ℕ). IsWorkOf n (high_of script.vbuckets s.log) deferred c.args.creation.work) (sym number) made.work in
    subst (IsHub script store c.create.new.self (newest_of c.push_reserved.new.self.items) parts') (sym added)
    (hub_created c.known.ensures script store indexes newest parts parts' events kept c.create.new.self (newest_of c.push_reserved.new.self.items) i k j deferred def (arc_value c.args.creation.snapshot)
    may client number c.requires.formed live (ap (λ (x : Indexes). x.made) c.in-Ok.ensures.created) more made.snapshot (one_longer s.defs def)
    (c.define_at.ensures (s.client i) there ∙ ap (λ (q : Client). set parts i q) (work_step i k j (high_of script.vbuckets s.log) deferred def c.args.creation.work (s.client i) opened)))

pub returns-in-Ok-clause-ok : goal.returns-in-Ok-clause-ok
returns-in-Ok-clause-ok c =
    let kept = c.self.invariant in
    let script = arc_value c.self.inside.script in
    let store = c.self.inside.store in
    let indexes = c.self.inside.catalog in
    let newest = newest_of c.self.inside.newest.items in
    let parts = parts_of c.self.inside.parts.items in
    let events = c.self.inside.events.items in
    let s = state_after script.vbuckets events in
    let k = (s.client c.args.c).next in
    let next : c.next_of-k.result ≡ k = subst (λ (q : Past). c.next_of-k.result ≡ (part_in q c.args.c).next) (sym c.self.view_is) c.next_of-k.ensures in
    let i = c.args.c in
    let j = c.in-Ok.i in
    let def : IndexDef = arc_value c.args.creation.def in
    let deferred = c.args.deferred in
    let old : Past = record { script = script; events = events; spare = vec_capacity c.self.inside.events - vec_len c.self.inside.events } in
    let first : IsFirstEvent old i (creation_of s i k def deferred) =
    subst (λ (q : Past). IsFirstEvent q i (creation_of (state_of q) i (part_in q i).next def deferred)) (sym c.self.view_is) c.requires.first in
    let made = subst (λ (q : Past). IsCreationOf q def deferred c.args.creation) (sym c.self.view_is) c.requires.prepared in
    let in_catalog : arc_value c.args.creation.shared ≡ def = made.in_catalog in
    let no : creation_fault def.name indexes ≡ None =
    subst (λ (d : IndexDef). creation_fault d.name indexes ≡ None) in_catalog (no_fault (creation_fault (arc_value c.args.creation.shared).name indexes) j c.in-Ok.ensures.refused) in
    let comes = creation_comes c.known.ensures old store indexes newest parts kept i k j def deferred c.in-Ok.ensures.number no first in
    let number : j ≡ length s.defs = comes.0 in
    let may = comes.1 in
    let e : Event = define i k j deferred def in
    let added : c.push_reserved-in-Ok.new.self.items ≡ events ++ e ∷ [] =
    c.push_reserved-in-Ok.ensures.items ∙ ap (λ (x : Event). events ++ x ∷ []) (c.new.ensures ∙ ap (λ (n : ℕ). define i n j deferred (arc_value c.args.creation.def)) next) in
    let new : Past = record { script = script; events = c.push_reserved-in-Ok.new.self.items; spare = vec_capacity c.push_reserved-in-Ok.new.self - vec_len c.push_reserved-in-Ok.new.self } in
    let len = c.push_reserved-in-Ok.ensures.len in
    let capacity = c.push_reserved-in-Ok.ensures.capacity in
    let shows : IsDefined c.args.creation.answer e =
    subst (λ (n : ℕ). IsDefined c.args.creation.answer (define i k n deferred def)) (sym number) (subst (λ a. IsDefined a (define i k (length s.defs) deferred def)) (sym made.answer) (answers i k (length s.defs) deferred def)) in
    subst (λ (q : Past). Acted i q new (IsDefined c.args.creation.answer)) c.self.view_is
    (acted c.known.ensures old new i e (IsDefined c.args.creation.answer) refl may shows (record { script = refl; events = added; spare = omega (arith, len, capacity) }))
