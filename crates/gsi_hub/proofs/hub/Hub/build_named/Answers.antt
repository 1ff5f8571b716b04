use Rattle.std.proofs.Common.{◌≡◌, ℕ, ◌-◌, ◌<◌, List, [], ◌∷◌, ◌++◌, length, set, vec_len, None, refl, sym, ap, ◌∙◌, subst, arith}
use Rattle.std.specs.Prelude.{vec_capacity}
use Rattle.std.specs.Arc.{arc_value}
use Rattle.vb_store.specs.Mutations.{high_of}
use Rattle.index_def.specs.LiveIndexes.{first_of_each, numbers_of}
use Rattle.index_ddl.specs.Catalogs.{build_fault}
use Rattle.scan_history.specs.Events.{Event, build}
use Rattle.scan_history.specs.First.{first_of_build}
use Rattle.scan_history.specs.Fold.{work, state_after}
use Rattle.gsi_hub.specs.Outcomes.{IsDefined}
use Rattle.gsi_hub.specs.declared.defined.Defined.TheVariants.{Building}
use Rattle.gsi_hub.specs.Past.{Past, state_of, part_in, high_in, Acted}
use Rattle.gsi_hub.specs.inner.Kept.{IsHub}
use Rattle.gsi_hub.specs.inner.Newest.{newest_of}
use Rattle.gsi_hub.specs.inner.Parts.{parts_of}
use Rattle.gsi_hub.specs.inner.Steps.{IsFirstEvent, with_opened}
use Rattle.gsi_hub.proofs.Calls.{hub_built}
use Rattle.gsi_hub.proofs.Admissions.{build_comes}
use Rattle.gsi_hub.proofs.Statements.{no_fault, few_numbers}
use Rattle.gsi_hub.proofs.Steps.{acted, part_there_in}
use Rattle.gsi_hub.proofs.hub.Hub.build_named.Goals as goal

pub filled-indexes-requires-clause-room : goal.filled-indexes-requires-clause-room
filled-indexes-requires-clause-room c =
    let few = few_numbers c.as_slice.result.now c.self.inside.catalog.live in
    let which = ap length (c.as_slice-in-Ok.ensures ∙ c.in-Ok.ensures.numbers) in
    let names = ap length c.as_slice.ensures in
    let len = c.len.ensures in
    let room = c.in_ok-in_part.ensures.capacity in
    omega (arith, few, which, names, len, room)

pub filled-indexes-requires-in-Ok-clause-room : goal.filled-indexes-requires-in-Ok-clause-room
filled-indexes-requires-in-Ok-clause-room c =
    let few = few_numbers c.as_slice.result.now c.self.inside.catalog.live in
    let which = ap length (c.as_slice-in-Ok-2.ensures ∙ c.in-Ok.ensures.numbers) in
    let names = ap length c.as_slice.ensures in
    let len = c.len-2.ensures in
    let room = c.in_ok-in_event.ensures.capacity in
    omega (arith, few, which, names, len, room)

pub invariant_of-self : goal.invariant_of-self
invariant_of-self c =
    let kept = c.self.invariant in
    let script = arc_value c.self.inside.script in
    let store = c.self.inside.store in
    let indexes = c.self.inside.catalog in
    let newest = newest_of c.self.inside.newest.items in
    let parts = parts_of c.self.inside.parts.items in
    let events = c.self.inside.events.items in
    let s = state_after script.vbuckets events in
    let client : c.args.c < script.clients = subst (λ (q : Past). c.args.c < q.script.clients) (sym c.self.view_is) c.requires.client in
    let there = part_there_in script store indexes newest parts s c.args.c kept.state client in
    let k = (s.client c.args.c).next in
    let next : c.next_of-k.result ≡ k = subst (λ (q : Past). c.next_of-k.result ≡ (part_in q c.args.c).next) (sym c.self.view_is) c.next_of-k.ensures in
    let parts' = parts_of c.begin_at.new.parts.items in
    let i = c.args.c in
    let numbers : List ℕ = c.in-Ok.numbers in
    let old : Past = record { script = script; events = events; spare = vec_capacity c.self.inside.events - vec_len c.self.inside.events } in
    let first : IsFirstEvent old i (first_of_build s i k c.args.names.now) =
    subst (λ (q : Past). IsFirstEvent q i (first_of_build (state_of q) i (part_in q i).next c.args.names.now)) (sym c.self.view_is) c.requires.first in
    let names : List (List ℕ) = c.args.names.now in
    let no : build_fault names indexes.live ≡ None =
    subst (λ (ns : List (List ℕ)). build_fault ns indexes.live ≡ None) c.as_slice.ensures (no_fault (build_fault c.as_slice.result.now indexes.live) numbers c.in-Ok.ensures.refused) in
    let which : numbers ≡ first_of_each (numbers_of names indexes.live) =
    c.in-Ok.ensures.numbers ∙ ap (λ (ns : List (List ℕ)). first_of_each (numbers_of ns indexes.live)) c.as_slice.ensures in
    let may = build_comes c.known.ensures old store indexes newest parts kept i k names numbers no which first in
    let e : Event = build i k numbers in
    let high : c.in_ok-high.high ≡ high_of script.vbuckets s.log =
    subst (λ (q : Past). c.in_ok-high.high ≡ high_in q) (sym c.self.view_is) (c.in_ok-high.ensures ∙ c.high.ensures.newest) in
    let added : c.push_reserved.new.self.items ≡ events ++ e ∷ [] =
    c.push_reserved.ensures.items ∙ ap (λ (x : Event). events ++ x ∷ []) (c.new.ensures ∙ (ap (λ (n : ℕ). build i n c.filled-indexes-in-Ok.result) next
    ∙ ap (build i k) (c.filled-indexes-in-Ok.ensures ∙ c.as_slice-in-Ok-2.ensures))) in
    let given : c.filled-indexes.result ≡ numbers = c.filled-indexes.ensures ∙ c.as_slice-in-Ok.ensures in
    subst (IsHub script store c.build.new.self newest parts') (sym added)
    (hub_built c.known.ensures script store indexes newest parts parts' events kept c.build.new.self i k numbers may client c.in-Ok.ensures.live c.build.ensures.made
    (c.begin_at.ensures (s.client i) there
    ∙ (ap (λ (ns : List ℕ). set parts i (with_opened (work ns c.in_ok-high.high) (s.client i))) given
    ∙ ap (λ (h : List ℕ). set parts i (with_opened (work numbers h) (s.client i))) high)))

pub returns-in-Ok-clause-ok : goal.returns-in-Ok-clause-ok
returns-in-Ok-clause-ok c =
    let kept = c.self.invariant in
    let script = arc_value c.self.inside.script in
    let store = c.self.inside.store in
    let indexes = c.self.inside.catalog in
    let newest = newest_of c.self.inside.newest.items in
    let parts = parts_of c.self.inside.parts.items in
    let events = c.self.inside.events.items in
    let s = state_after script.vbuckets events in
    let k = (s.client c.args.c).next in
    let next : c.next_of-k.result ≡ k = subst (λ (q : Past). c.next_of-k.result ≡ (part_in q c.args.c).next) (sym c.self.view_is) c.next_of-k.ensures in
    let i = c.args.c in
    let numbers : List ℕ = c.in-Ok.numbers in
    let old : Past = record { script = script; events = events; spare = vec_capacity c.self.inside.events - vec_len c.self.inside.events } in
    let first : IsFirstEvent old i (first_of_build s i k c.args.names.now) =
    subst (λ (q : Past). IsFirstEvent q i (first_of_build (state_of q) i (part_in q i).next c.args.names.now)) (sym c.self.view_is) c.requires.first in
    let names : List (List ℕ) = c.args.names.now in
    let no : build_fault names indexes.live ≡ None =
    subst (λ (ns : List (List ℕ)). build_fault ns indexes.live ≡ None) c.as_slice.ensures (no_fault (build_fault c.as_slice.result.now indexes.live) numbers c.in-Ok.ensures.refused) in
    let which : numbers ≡ first_of_each (numbers_of names indexes.live) =
    c.in-Ok.ensures.numbers ∙ ap (λ (ns : List (List ℕ)). first_of_each (numbers_of ns indexes.live)) c.as_slice.ensures in
    let may = build_comes c.known.ensures old store indexes newest parts kept i k names numbers no which first in
    let e : Event = build i k numbers in
    let added : c.push_reserved.new.self.items ≡ events ++ e ∷ [] =
    c.push_reserved.ensures.items ∙ ap (λ (x : Event). events ++ x ∷ []) (c.new.ensures ∙ (ap (λ (n : ℕ). build i n c.filled-indexes-in-Ok.result) next
    ∙ ap (build i k) (c.filled-indexes-in-Ok.ensures ∙ c.as_slice-in-Ok-2.ensures))) in
    let new : Past = record { script = script; events = c.push_reserved.new.self.items; spare = vec_capacity c.push_reserved.new.self - vec_len c.push_reserved.new.self } in
    let len = c.push_reserved.ensures.len in
    let capacity = c.push_reserved.ensures.capacity in
    subst (λ (q : Past). Acted i q new (IsDefined (Building numbers))) c.self.view_is
    (acted c.known.ensures old new i e (IsDefined (Building numbers)) refl may refl (record { script = refl; events = added; spare = omega (arith, len, capacity) }))
