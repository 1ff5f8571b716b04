-- The first index of a number, by its place.
use Rattle.std.proofs.Common.{◌≡◌, ℕ, zero, suc, ◌+◌, ◌≤◌, Bool, true, false, cond, ◌||◌, ◌==◌, List, [], ◌∷◌, length, take, slice_get, Some, refl, sym, ap, ◌∙◌, true≢false, arith}
use Rattle.std.specs.List.{list_any}
use Rattle.n1ql_value.specs.declared.state.State.{State}
use Rattle.index_def.specs.LiveIndexes.{Live, is_numbered, with_state, in_state}
use Rattle.index_ddl.specs.inner.Writes.{in_state_at}

parts : (a b : Bool) → (a || b) ≡ false → (a ≡ false) × (b ≡ false)
parts true b h = absurd (true≢false h)
parts false b h = (refl, h)

pub none_yet : (number : ℕ) (live : List Live) (at : ℕ) (index : Live) → Some index ≡ slice_get live at → list_any (is_numbered number) (take at live) ≡ false
    → is_numbered number index ≡ false → list_any (is_numbered number) (take (suc at) live) ≡ false
none_yet number [] at index is none here = absurd cc
none_yet number (x ∷ live) zero index is none here =
    let it : index ≡ x = cc in ap (λ b. b || false) (ap (is_numbered number) (sym it) ∙ here)
none_yet number (x ∷ live) (suc at) index is none here =
    let both = parts (is_numbered number x) (list_any (is_numbered number) (take at live)) none in
    ap (λ b. b || list_any (is_numbered number) (take (suc at) live)) both.0 ∙ none_yet number live at index is both.1 here

pub first_at : (number : ℕ) (state : State) (live : List Live) (at : ℕ) (index : Live) → Some index ≡ slice_get live at
    → list_any (is_numbered number) (take at live) ≡ false → is_numbered number index ≡ true → in_state number state live ≡ in_state_at at state live
first_at number state [] at index is none here = absurd cc
first_at number state (x ∷ live) zero index is none here =
    let it : index ≡ x = cc in
    ap (λ b. cond b (with_state state x ∷ live) (x ∷ in_state number state live)) (ap (is_numbered number) (sym it) ∙ here)
first_at number state (x ∷ live) (suc at) index is none here =
    let both = parts (is_numbered number x) (list_any (is_numbered number) (take at live)) none in
    ap (λ b. cond b (with_state state x ∷ live) (x ∷ in_state number state live)) both.0
    ∙ ap (λ l. x ∷ l) (first_at number state live at index is both.1 here)

pub nowhere : (number : ℕ) (state : State) (live : List Live) (at : ℕ) → list_any (is_numbered number) (take at live) ≡ false → length live ≤ at → in_state number state live ≡ live
nowhere number state [] at none past = refl
nowhere number state (x ∷ live) zero none past = absurd (omega arith)
nowhere number state (x ∷ live) (suc at) none past =
    let both = parts (is_numbered number x) (list_any (is_numbered number) (take at live)) none in
    ap (λ b. cond b (with_state state x ∷ live) (x ∷ in_state number state live)) both.0
    ∙ ap (λ l. x ∷ l) (nowhere number state live at both.1 (omega arith))

pub is_it : (number : ℕ) (index : Live) → index.number ≡ number → is_numbered number index ≡ true
is_it number index is = grind (arith, is)

pub is_not_it : (number : ℕ) (index : Live) → (index.number ≡ number → ⊥) → is_numbered number index ≡ false
is_not_it number index not = grind (arith, not)
