-- Where a name stands among the pairs of an object.
use Rattle.std.specs.Prelude.{◌≡◌, ◌<◌, ◌≤◌, ℕ, true, false, List, length, slice_index_or}
use Rattle.std.specs.Ordering.{nat_cmp, is_lt}
use Rattle.std.specs.Cmp.Lexicographic.{slice_cmp}
use Rattle.n1ql_value.specs.declared.text.Text.{Text as Bytes}
use Rattle.n1ql_value.specs.declared.value.Value.{Value}

-- the names before the place are below the name, and those from it on aren't
pub record IsPlace (es : List (Bytes × Value)) (name : List ℕ) (at : ℕ) : Type 0 where
  pub bound : at ≤ length es
  pub below : (k : ℕ) (d : Bytes × Value) → k < at → is_lt (slice_cmp nat_cmp (slice_index_or es k d).0 name) ≡ true
  pub above : (k : ℕ) (d : Bytes × Value) → at ≤ k → k < length es → is_lt (slice_cmp nat_cmp (slice_index_or es k d).0 name) ≡ false

-- the pair at the place has the name
abbrev pub HasName : List (Bytes × Value) → ℕ → List ℕ → Type 0
HasName es at name = (at < length es) × ((d : Bytes × Value) → (slice_index_or es at d).0 ≡ name)

-- there is no pair at the place, or it has another name
abbrev pub LacksName : List (Bytes × Value) → ℕ → List ℕ → Type 0
LacksName es at name = (d : Bytes × Value) → at < length es → (slice_index_or es at d).0 ≡ name → ⊥
