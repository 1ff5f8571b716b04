-- An index found by its name in the map is the live index of that name.
use Rattle.std.proofs.Common.{◌≡◌, ℕ, zero, suc, ◌+◌, Bool, true, false, cond, ◌==◌, List, [], ◌∷◌, map, drop, slice_get, Option, Some, None, find, option_map, refl, sym, ap, ap₂, ◌∙◌, arith}
use Rattle.std.specs.Option.{unwrap_or}
use Rattle.std.specs.Str.{bytes_eq}
use Rattle.std.specs.Map.{lookup, keys_of, values_of}
use Rattle.index_def.specs.LiveIndexes.{Live, is_named, named, is_numbered}

module _ {K : Type 0} (bytes : K → List ℕ) where
  abbrev pub IsKeyed : List (K × Live) → Type 0
  IsKeyed entries = map bytes (keys_of entries) ≡ map (λ (index : Live). index.def.name) (values_of entries)

  pub found_by_name : (name : List ℕ) (es : List (K × Live)) → IsKeyed es → lookup (λ k. bytes_eq name (bytes k)) es ≡ named name (values_of es)
  found_by_name name [] h = refl
  found_by_name name (e ∷ es) h =
      ap₂ (λ (b : Bool) (found : Option Live). cond b (Some e.1) found)
      (ap (bytes_eq name) (ap (λ l. Rattle.std.specs.List.slice_index_or l 0 []) h))
      (found_by_name name es (ap (Rattle.std.specs.Prelude.drop 1) h))

-- a search from a place on: the element there, or the search from behind it
pub find_from : {X : Type 0} (p : X → Bool) (xs : List X) (i : ℕ) (x : X) → slice_get xs i ≡ Some x → find p (drop i xs) ≡ cond (p x) (Some x) (find p (drop (suc i) xs))
find_from p [] i x at = absurd cc
find_from p (y ∷ ys) zero x at = ap (λ (z : Option _). find p (unwrap_or (option_map (λ w. w ∷ ys) z) [])) at
find_from p (y ∷ ys) (suc i) x at = find_from p ys i x at

by_number : (number : ℕ) (index : Live) (b : Bool) → (index.number == number) ≡ b → (rest : Option Live) → cond (index.number == number) (Some index) rest ≡ cond b (Some index) rest
by_number number index b h rest = ap (λ c. cond c (Some index) rest) h

-- a search by number that comes to an index: it is the one, or the search goes on behind it
pub numbered_here : (number : ℕ) (live : List Live) (i : ℕ) (index : Live) → Some index ≡ slice_get live i → index.number ≡ number → find (is_numbered number) (drop i live) ≡ Some index
numbered_here number live i index at is = find_from (is_numbered number) live i index (sym at) ∙ by_number number index true (grind (arith, is)) _

pub numbered_later : (number : ℕ) (live : List Live) (i : ℕ) (index : Live) → Some index ≡ slice_get live i → (index.number ≡ number → ⊥) → find (is_numbered number) (drop i live) ≡ find (is_numbered number) (drop (i + 1) live)
numbered_later number live i index at not =
    let next : suc i ≡ i + 1 = omega arith in
    find_from (is_numbered number) live i index (sym at) ∙ by_number number index false (grind (arith, not)) _
    ∙ ap (λ n. find (is_numbered number) (drop n live)) next
