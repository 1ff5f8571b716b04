-- What each client's last request has to cover, in a list by client.
use Rattle.std.proofs.Common.{◌≡◌, ℕ, zero, suc, ◌+◌, ◌<◌, List, [], ◌∷◌, ◌++◌, Option, Some, None, Bool, true, false, cond, eqb, length, set, refl, ap, sym, ◌∙◌, inl, inr, arith}
use Rattle.std.proofs.lemmas.Bool.{ne_eqb, eq-eqb}
use Rattle.std.proofs.lemmas.Bool.Decides.{eqb_tells}
use Rattle.script_text.specs.inner.Demands.{demand_in}

-- one more place of a client that made none
pub none_behind : (demands : List (Option (List ℕ))) (d : ℕ) → demand_in (demands ++ None ∷ []) d ≡ demand_in demands d
none_behind [] zero = refl
none_behind [] (suc d) = refl
none_behind (x ∷ demands) zero = refl
none_behind (x ∷ demands) (suc d) = none_behind demands d

apart : (a b : ℕ) → (a ≡ b → ⊥) → eqb a b ≡ false
apart a b e = ne_eqb a b e

-- numbers are the same where the next ones are
next : (d c : ℕ) → eqb d c ≡ eqb (suc d) (suc c)
next d c = elim (eqb_tells d c) [
  | inl w ↦ w.0 ∙ sym (eq-eqb (suc d) (suc c) (ap suc w.1))
  | inr w ↦ w.0 ∙ sym (apart (suc d) (suc c) (λ e. w.1 (omega (arith, e))))
]

-- a demand in its place
pub set_one : (demands : List (Option (List ℕ))) (c : ℕ) (demand : List ℕ) (d : ℕ) → c < length demands → demand_in (set demands c (Some demand)) d ≡ cond (eqb d c) demand (demand_in demands d)
set_one [] c demand d h = absurd (omega (arith, h))
set_one (x ∷ demands) zero demand zero h = refl
set_one (x ∷ demands) zero demand (suc d) h = ap (λ (b : Bool). cond b demand (demand_in demands d)) (sym (apart (suc d) zero (λ e. absurd (omega (arith, e)))))
set_one (x ∷ demands) (suc c) demand zero h = ap (λ (b : Bool). cond b demand (demand_in (x ∷ demands) zero)) (sym (apart zero (suc c) (λ e. absurd (omega (arith, e)))))
set_one (x ∷ demands) (suc c) demand (suc d) h =
    set_one demands c demand d (omega (arith, h)) ∙ ap (λ (b : Bool). cond b demand (demand_in demands d)) (next d c)

-- where there are no places nobody made a request
pub none_made : (demands : List (Option (List ℕ))) (d : ℕ) → demands ≡ [] → demand_in demands d ≡ []
none_made demands zero h = ap (λ xs. demand_in xs zero) h
none_made demands (suc d) h = ap (λ xs. demand_in xs (suc d)) h
