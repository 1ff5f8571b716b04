-- Writing one list among the lists of the vBuckets.
use Rattle.std.proofs.Common.{◌≡◌, ℕ, ◌<◌, List, [], ◌∷◌, ◌++◌, length, get_or, set, map, ap, sym, ◌∙◌}
use Rattle.std.specs.Arc.{arc_value}
use Rattle.std.specs.declared.sync.Arc.{Arc}
use Rattle.std.specs.declared.vec.Vec.{Vec}
use Rattle.std.proofs.Math.Seq.{map-set_same}
use Rattle.std.proofs.lemmas.List.{map-set, get_or-map, map-append}
use Rattle.vb_store.specs.declared.mutation.Mutation.{Mutation}
use Rattle.vb_store.specs.inner.Held.{lists_of}

-- the mutations of one list
abbrev pub list_of : {Y Z : Type 0} → Vec (Arc Mutation Y) Z → List Mutation
list_of v = map arc_value v.items

-- a list is written that holds the same
pub lists_of-kept : {Y Z : Type 0} (vs : List (Vec (Arc Mutation Y) Z)) (i : ℕ) (old new : Vec (Arc Mutation Y) Z) → old ≡ get_or vs i old → new.items ≡ old.items → lists_of (set vs i new) ≡ lists_of vs
lists_of-kept vs i old new at same = map-set_same list_of vs i new old (ap (map arc_value) same ∙ ap list_of at)

-- a list is written that holds one more
pub lists_of-push : {Y Z : Type 0} (vs : List (Vec (Arc Mutation Y) Z)) (i : ℕ) (old new : Vec (Arc Mutation Y) Z) (m : Arc Mutation Y) → i < length vs → old ≡ get_or vs i old → new.items ≡ old.items ++ m ∷ [] → lists_of (set vs i new) ≡ set (lists_of vs) i (get_or (lists_of vs) i [] ++ arc_value m ∷ [])
lists_of-push vs i old new m within at more =
    let now : list_of new ≡ get_or (lists_of vs) i [] ++ arc_value m ∷ [] =
    ap (map arc_value) more ∙ map-append arc_value old.items (m ∷ []) ∙ ap (λ ms. ms ++ arc_value m ∷ []) (ap list_of at ∙ sym (get_or-map list_of vs i old [] within)) in
    map-set list_of vs i new ∙ ap (λ ms. set (lists_of vs) i ms) now
