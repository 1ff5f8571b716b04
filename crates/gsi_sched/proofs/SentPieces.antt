-- Pieces as they are projected for indexes, and sent or given to them.
use Rattle.std.proofs.Common.{◌≡◌, ℕ, ◌+◌, ◌==◌, Bool, true, false, cond, List, [], ◌∷◌, ◌++◌, length, map, take, slice_get, Option, Some, None, Result, Ok, Err, refl, sym, ap, ◌∙◌, subst, arith, length-set}
use Rattle.std.specs.Prelude.{⊤, IfSome, IfOk}
use Rattle.std.specs.Arc.{arc_value}
use Rattle.std.specs.List.{All, AllByRecursion}
use Rattle.std.proofs.lemmas.Bool.{cond_both, cond-true, cond-false}
use Rattle.std.proofs.lemmas.List.{take_more, map-append}
use Rattle.std.proofs.lemmas.List.Elements.{All-nil, All-push, filter-append}
use Rattle.std.proofs.lemmas.Option.{same_Some, IfSome_then, slice_get_within, get_or_from_slice_get}
use Rattle.n1ql_value.specs.declared.state.State.{State as Stage}
use Rattle.n1ql_value.specs.declared.state.State.TheVariants.{Deferred, Building, Online}
use Rattle.index_def.specs.declared.definition.IndexDef.{IndexDef}
use Rattle.index_def.specs.Forms.{IsFormed}
use Rattle.index_def.specs.LiveIndexes.{Live, AreNumbered, numbered}
use Rattle.dcp_stream.specs.declared.piece.Piece.{Piece}
use Rattle.key_eval.specs.declared.projected.Projected.{Projected}
use Rattle.projector.specs.declared.numbered_def.NumberedDef.{NumberedDef}
use Rattle.projector.specs.Projections.{projected_of}
use Rattle.stability.specs.declared.offer.Offer.{Offer}
use Rattle.stability.specs.declared.offer.Offer.TheVariants.{Next, Repeat, Gap}
use Rattle.index_snapshot.specs.Workers.{Worker as RowWorker, offered, applied}
use Rattle.scan_history.specs.First.{is_online}
use Rattle.scan_history.specs.Fold.{State}
use Rattle.gsi_sched.specs.Running.{IsWorking}
use Rattle.gsi_sched.specs.Slots.{Slot}
use Rattle.gsi_sched.specs.inner.SlotLists.{with_slot, OnSlot, given_to_worker, all_given, Takes, IsPieceFor, HasSlots, projected_as, online_in, numbered_def_of, numbered_def_in}
use Rattle.gsi_sched.proofs.LiveIndexes.{found_is, online_is_built, each_numbered}
use Rattle.gsi_sched.proofs.Served.{each_weaker, each_there}
use Rattle.gsi_sched.proofs.SlotLists.{there_still, on_changed, given_none, given_next}

map_twice : {A B C : Type 0} (f : B → C) (g : A → B) (xs : List A) → map f (map g xs) ≡ map (λ x. f (g x)) xs
map_twice f g [] = refl
map_twice {C = C} f g (x ∷ xs) = ap (λ (rest : List C). f (g x) ∷ rest) (map_twice f g xs)

pub take_next : {A : Type 0} (xs : List A) (k : ℕ) (x : A) → slice_get xs k ≡ Some x → take (k + 1) xs ≡ take k xs ++ x ∷ []
take_next xs k x there = take_more xs k x (slice_get_within xs k x there) ∙ ap (λ y. take k xs ++ y ∷ []) (get_or_from_slice_get xs k x x there)

-- ---- the definitions of the online indexes

abbrev pub projected_by : Piece → ℕ × IndexDef → Projected
projected_by p d = projected_as d.0 d.1 p

-- by number and definition alone
pub projected_same : (p : Piece) (defs : List NumberedDef) (live : List Live) → map numbered_def_of defs ≡ map numbered_def_in live
    → map (λ d. projected_of d p) defs ≡ map (λ (index : Live). projected_as index.number index.def p) live
projected_same p defs live same =
    sym (map_twice (projected_by p) numbered_def_of defs) ∙ (ap (map (projected_by p)) same ∙ map_twice (projected_by p) numbered_def_in live)

online_next : (live : List Live) (at : ℕ) (index : Live) → slice_get live at ≡ Some index
    → online_in (take (at + 1) live) ≡ online_in (take at live) ++ cond (is_online index.state) (index ∷ []) []
online_next live at index there =
    ap online_in (take_next live at index there) ∙ filter-append (λ (index : Live). is_online index.state) (take at live) (index ∷ [])

def_next : (live : List Live) (at : ℕ) (index : Live) (defs : List NumberedDef) (d : NumberedDef) → slice_get live at ≡ Some index → is_online index.state ≡ true
    → numbered_def_of d ≡ numbered_def_in index → map numbered_def_of defs ≡ map numbered_def_in (online_in (take at live))
    → map numbered_def_of (defs ++ d ∷ []) ≡ map numbered_def_in (online_in (take (at + 1) live))
def_next live at index defs d there online is so_far =
    map-append numbered_def_of defs (d ∷ [])
    ∙ (ap (λ x. map numbered_def_of defs ++ x ∷ []) is ∙ (ap (λ ds. ds ++ numbered_def_in index ∷ []) so_far
    ∙ sym (ap (map numbered_def_in) (online_next live at index there ∙ ap (λ (x : List Live). online_in (take at live) ++ x) (cond-true (is_online index.state) (index ∷ []) [] online))
    ∙ map-append numbered_def_in (online_in (take at live)) (index ∷ []))))

no_def_next : (live : List Live) (at : ℕ) (index : Live) (defs : List NumberedDef) → slice_get live at ≡ Some index → is_online index.state ≡ false
    → map numbered_def_of defs ≡ map numbered_def_in (online_in (take at live)) → map numbered_def_of defs ≡ map numbered_def_in (online_in (take (at + 1) live))
no_def_next live at index defs there other so_far =
    so_far
    ∙ sym (ap (map numbered_def_in) (online_next live at index there ∙ ap (λ (x : List Live). online_in (take at live) ++ x) (cond-false (is_online index.state) (index ∷ []) [] other))
    ∙ map-append numbered_def_in (online_in (take at live)) [] ∙ append_none (map numbered_def_in (online_in (take at live))))
  where
    append_none : {A : Type 0} (xs : List A) → xs ++ [] ≡ xs
    append_none [] = refl
    append_none (x ∷ xs) = ap (λ rest. x ∷ rest) (append_none xs)

-- a definition is that of its index
formed_as : (d : NumberedDef) (index : Live) → numbered_def_of d ≡ numbered_def_in index → IsFormed index.def → IsFormed (arc_value d.def)
formed_as d index is formed = subst IsFormed (sym (ap (λ (x : ℕ × IndexDef). x.1) is)) formed

-- the definitions of the online ones among the first live indexes
abbrev pub AreDefsTo : List Live → ℕ → List NumberedDef → Type 0
AreDefsTo live at defs = (map numbered_def_of defs ≡ map numbered_def_in (online_in (take at live))) × All (λ (d : NumberedDef). IsFormed (arc_value d.def)) defs

pub with_def : (live : List Live) (at : ℕ) (index : Live) (defs : List NumberedDef) (d : NumberedDef) → AllByRecursion (λ (x : Live). IsFormed x.def) live → slice_get live at ≡ Some index
    → is_online index.state ≡ true → numbered_def_of d ≡ numbered_def_in index → AreDefsTo live at defs → AreDefsTo live (at + 1) (defs ++ d ∷ [])
with_def live at index defs d formed there online is so_far = (
  def_next live at index defs d there online is so_far.0,
  All-push (λ (d : NumberedDef). IsFormed (arc_value d.def)) defs d so_far.1 (formed_as d index is (each_there (λ (x : Live). IsFormed x.def) live at index formed there)),
)

pub without_def : (live : List Live) (at : ℕ) (index : Live) (defs : List NumberedDef) → slice_get live at ≡ Some index → is_online index.state ≡ false → AreDefsTo live at defs → AreDefsTo live (at + 1) defs
without_def live at index defs there other so_far = (no_def_next live at index defs there other so_far.0, so_far.1)

pub not_online : (state : Stage) → (state ≡ Online → ⊥) → is_online state ≡ false
not_online Online other = absurd (other refl)
not_online Deferred other = refl
not_online Building other = refl

-- ---- slots that pieces are sent to

sent_there : (s : State) (p : Piece) (slots : List (Option Slot)) → HasSlots s slots → (live : List Live) → AllByRecursion (λ (x : Live). numbered x.number s.live ≡ Some x) live
    → AllByRecursion (λ (q : Projected). OnSlot (λ slot. ⊤) (slice_get slots q.index)) (map (λ (index : Live). projected_as index.number index.def p) (online_in live))
sent_there s p slots has [] found = tt
sent_there s p slots has (x ∷ live) found =
    let rest = sent_there s p slots has live found.1 in
    cond_both (is_online x.state) (x ∷ online_in live) (online_in live)
    (λ kept. AllByRecursion (λ (q : Projected). OnSlot (λ slot. ⊤) (slice_get slots q.index)) (map (λ (index : Live). projected_as index.number index.def p) kept))
    (λ online. (has x.number x found.0 (online_is_built x.state online), rest)) (λ other. rest)

pub each_sent_there : (s : State) (p : Piece) (slots : List (Option Slot)) → HasSlots s slots → AreNumbered 0 (length s.defs) s.live
    → AllByRecursion (λ (q : Projected). OnSlot (λ slot. ⊤) (slice_get slots q.index)) (map (λ (index : Live). projected_as index.number index.def p) (online_in s.live))
each_sent_there s p slots has numbers = sent_there s p slots has s.live (each_numbered 0 (length s.defs) s.live numbers)

-- slots that are there stay, whatever is changed
pub each_there_still : (change : Slot → Slot) (i : ℕ) (slots : List (Option Slot)) (ps : List Projected) → AllByRecursion (λ (q : Projected). OnSlot (λ slot. ⊤) (slice_get slots q.index)) ps
    → AllByRecursion (λ (q : Projected). OnSlot (λ slot. ⊤) (slice_get (with_slot change i slots) q.index)) ps
each_there_still change i slots ps there =
    each_weaker (λ (q : Projected). OnSlot (λ slot. ⊤) (slice_get slots q.index)) (λ (q : Projected). OnSlot (λ slot. ⊤) (slice_get (with_slot change i slots) q.index))
    (λ q. there_still change i q.index slots) ps there

-- ---- one index

-- what is projected for a definition that is that of an index, by its number
pub projected_one : (i : ℕ) (live : List Live) (p : Piece) (d : NumberedDef) (index : Live) → numbered i live ≡ Some index → numbered_def_of d ≡ numbered_def_in index
    → IfSome (numbered i live) (λ (other : Live). map (λ d. projected_of d p) (d ∷ []) ≡ projected_as i other.def p ∷ [])
projected_one i live p d index found is =
    subst (λ o. IfSome o (λ (other : Live). map (λ d. projected_of d p) (d ∷ []) ≡ projected_as i other.def p ∷ [])) (sym found)
    (ap (λ x. projected_by p x ∷ []) is ∙ ap (λ k. projected_as k index.def p ∷ []) (found_is i live index found))

pub projected_ok : {E : Type 0} (r : Result (List Projected) E) (i : ℕ) (live : List Live) (p : Piece) (d : NumberedDef) (index : Live) → numbered i live ≡ Some index
    → numbered_def_of d ≡ numbered_def_in index → IfOk r (λ ps. ps ≡ map (λ d. projected_of d p) (d ∷ []))
    → IfOk r (λ ps. IfSome (numbered i live) (λ (other : Live). ps ≡ projected_as i other.def p ∷ []))
projected_ok (Err e) i live p d index found is gave = tt
projected_ok (Ok ps) i live p d index found is gave = IfSome_then (numbered i live) (projected_one i live p d index found is) (λ other same. gave ∙ same)

-- what holds of each live index, holds of one that is found
found_holds : (P : Live → Type 0) (i : ℕ) (live : List Live) (index : Live) → AllByRecursion P live → numbered i live ≡ Some index → P index
found_holds P i [] index all found = absurd cc
found_holds P i (x ∷ live) index all found =
    let by : (b : Bool) → (x.number == i) ≡ b → P index = λ b. elim b as (λ b. (x.number == i) ≡ b → P index) [
      | true ↦ λ own. subst P (same_Some x index (sym (cond-true (x.number == i) (Some x) (numbered i live) own) ∙ found)) all.0
      | false ↦ λ apart. found_holds P i live index all.1 (sym (cond-false (x.number == i) (Some x) (numbered i live) apart) ∙ found)
    ] in
    by (x.number == i) refl

-- its definition is formed
pub one_formed : (i : ℕ) (live : List Live) (index : Live) (d : NumberedDef) → AllByRecursion (λ (x : Live). IsFormed x.def) live → numbered i live ≡ Some index → numbered_def_of d ≡ numbered_def_in index
    → All (λ (d : NumberedDef). IsFormed (arc_value d.def)) (d ∷ [])
one_formed i live index d formed found is =
    let Formed : NumberedDef → Type 0 = λ d. IsFormed (arc_value d.def) in
    All-push Formed [] d (All-nil Formed) (formed_as d index is (found_holds (λ (x : Live). IsFormed x.def) i live index formed found))

-- what holds of the index of a number, where it works
pub of_working : (live : List Live) (i : ℕ) (P : Live → Type 0) → (works : IsWorking live i) → IfSome (numbered i live) P → P works.0
of_working live i P works is = subst (λ o. IfSome o P) works.1 is

pub to_working : (live : List Live) (i : ℕ) (P : Live → Type 0) → (works : IsWorking live i) → P works.0 → IfSome (numbered i live) P
to_working live i P works is = subst (λ o. IfSome o P) (sym works.1) is

-- ---- pieces that are given

tracked_size : (p : Projected) (o : Offer) (w : RowWorker) → length (applied p o w).taken.at ≡ length w.taken.at
tracked_size p (Next after) w = length-set w.taken.at p.vb p.to
tracked_size p Repeat w = refl
tracked_size p (Gap have from) w = refl

-- a piece fits the worker after another was given
pub fits_still : (q : Projected) (slot : Slot) (p : Piece) → IsPieceFor slot p → IsPieceFor (given_to_worker q slot) p
fits_still q slot p fits =
    let same = tracked_size q (offered q slot.worker) slot.worker in
    record { vbucket = omega (arith, fits.vbucket, same); some = fits.some; last = fits.last }

pub all_fit_still : (q : Projected) (slot : Slot) (ps : List Piece) → AllByRecursion (IsPieceFor slot) ps → AllByRecursion (IsPieceFor (given_to_worker q slot)) ps
all_fit_still q slot ps fit = each_weaker (IsPieceFor slot) (IsPieceFor (given_to_worker q slot)) (fits_still q slot) ps fit

-- once it is projected, it can be given
pub takes_projected : (i : ℕ) (def : IndexDef) (p : Piece) (slot : Slot) → IsPieceFor slot p → Takes slot (projected_as i def p)
takes_projected i def p slot fits = record { vbucket = fits.vbucket; some = fits.some; last = fits.last }

pub given_so_far : (i : ℕ) (o : Option Live) (slots : List (Option Slot)) → IfSome o (λ (index : Live). slots ≡ with_slot (all_given []) i slots)
given_so_far i None slots = tt
given_so_far i (Some index) slots = sym (given_none i slots)

-- what was given so far, and one more
pub given_more : (i : ℕ) (def : IndexDef) (pieces : List Piece) (k : ℕ) (p : Piece) (first slots : List (Option Slot)) → slice_get pieces k ≡ Some p
    → slots ≡ with_slot (all_given (map (projected_as i def) (take k pieces))) i first
    → with_slot (given_to_worker (projected_as i def p)) i slots ≡ with_slot (all_given (map (projected_as i def) (take (k + 1) pieces))) i first
given_more i def pieces k p first slots there so_far =
    ap (with_slot (given_to_worker (projected_as i def p)) i) so_far
    ∙ (given_next (map (projected_as i def) (take k pieces)) (projected_as i def p) i first
    ∙ ap (λ (ps : List Projected). with_slot (all_given ps) i first) (sym (ap (map (projected_as i def)) (take_next pieces k p there) ∙ map-append (projected_as i def) (take k pieces) (p ∷ []))))

pub fit_more : (i : ℕ) (def : IndexDef) (p : Piece) (slots : List (Option Slot)) (ps : List Piece) → OnSlot (λ slot. AllByRecursion (IsPieceFor slot) ps) (slice_get slots i)
    → OnSlot (λ slot. AllByRecursion (IsPieceFor slot) ps) (slice_get (with_slot (given_to_worker (projected_as i def p)) i slots) i)
fit_more i def p slots ps fit =
    on_changed (given_to_worker (projected_as i def p)) i slots (λ slot. AllByRecursion (IsPieceFor slot) ps) (λ slot. AllByRecursion (IsPieceFor slot) ps)
    (λ slot all. all_fit_still (projected_as i def p) slot ps all) fit

-- so it is, once a piece is given to an index that works
pub given_to_working : (live : List Live) (i : ℕ) (works : IsWorking live i) (pieces : List Piece) (k : ℕ) (p : Piece) (first slots now : List (Option Slot)) → slice_get pieces k ≡ Some p
    → IfSome (numbered i live) (λ (index : Live). slots ≡ with_slot (all_given (map (projected_as i index.def) (take k pieces))) i first)
    → OnSlot (λ slot. AllByRecursion (IsPieceFor slot) pieces) (slice_get slots i)
    → IfSome (numbered i live) (λ (index : Live). now ≡ with_slot (given_to_worker (projected_as i index.def p)) i slots)
    → IfSome (numbered i live) (λ (index : Live). now ≡ with_slot (all_given (map (projected_as i index.def) (take (k + 1) pieces))) i first)
    × OnSlot (λ slot. AllByRecursion (IsPieceFor slot) pieces) (slice_get now i)
given_to_working live i works pieces k p first slots now there so_far fit gave =
    let index = works.0 in
    let one = of_working live i (λ (index : Live). now ≡ with_slot (given_to_worker (projected_as i index.def p)) i slots) works gave in
    let before = of_working live i (λ (index : Live). slots ≡ with_slot (all_given (map (projected_as i index.def) (take k pieces))) i first) works so_far in (
      to_working live i (λ (index : Live). now ≡ with_slot (all_given (map (projected_as i index.def) (take (k + 1) pieces))) i first) works
          (one ∙ given_more i index.def pieces k p first slots there before),
      subst (λ items. OnSlot (λ slot. AllByRecursion (IsPieceFor slot) pieces) (slice_get items i)) (sym one) (fit_more i index.def p slots pieces fit),
    )
