-- The names of an object, in byte order and each once.
use Rattle.std.specs.Prelude.{◌≡◌, ℕ, List, [], ◌∷◌, ⊤, Option, Some, None, if◌then◌else◌}
use Rattle.std.specs.Ordering.{nat_cmp, is_eq, match_ordering}
use Rattle.std.specs.declared.cmp.Ordering.TheVariants.{Less}
use Rattle.std.specs.Cmp.Lexicographic.{slice_cmp}

-- the name is below the first of the pairs
abbrev pub IsBelowFirst : {A : Type 0} → List ℕ → List (List ℕ × A) → Type 0
IsBelowFirst name [] = ⊤
IsBelowFirst name (p ∷ ps) = slice_cmp nat_cmp name p.0 ≡ Less

-- the names strictly grow
abbrev pub NamesGrow : {A : Type 0} → List (List ℕ × A) → Type 0
NamesGrow [] = ⊤
NamesGrow (p ∷ ps) = IsBelowFirst p.0 ps × NamesGrow ps

-- what stands under a name, by the first pair that has it
abbrev pub under_name : {A : Type 0} → List ℕ → List (List ℕ × A) → Option A
under_name name [] = None
under_name name (p ∷ ps) = if is_eq (slice_cmp nat_cmp name p.0) then Some p.1 else under_name name ps

-- the pairs with this one in its place, or in place of the one that had its name
abbrev pub with_pair : {A : Type 0} → List ℕ → A → List (List ℕ × A) → List (List ℕ × A)
with_pair name a [] = (name, a) ∷ []
with_pair name a (p ∷ ps) = match_ordering (slice_cmp nat_cmp name p.0) ((name, a) ∷ p ∷ ps) ((name, a) ∷ ps) (p ∷ with_pair name a ps)
