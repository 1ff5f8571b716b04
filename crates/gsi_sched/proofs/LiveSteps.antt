-- What is found of a live index by its number after an event.
use Rattle.std.proofs.Common.{◌≡◌, ◌≢◌, ℕ, ◌+◌, ◌<◌, ◌≤◌, Bool, true, false, cond, ◌==◌, List, [], ◌∷◌, ◌++◌, Option, Some, None, refl, sym, ap, ◌∙◌, subst, inl, inr, arith}
use Rattle.std.proofs.lemmas.Bool.{ne_eqb, cases_Bool, or_cases, or_left, or_right, true≢false, false_from_ne_true}
use Rattle.std.proofs.lemmas.Option.{same_Some}
use Rattle.std.specs.List.{list_any}
use Rattle.n1ql_value.specs.declared.state.State.{State}
use Rattle.index_def.specs.LiveIndexes.{Live, AreNumbered, is_numbered, numbered, with_state, in_state, all_in_state, without}
use Rattle.gsi_sched.proofs.LiveIndexes.{is_it, is_own, found_made}

-- the head of a list, or what is found behind it
abbrev pub found : Bool → Live → Option Live → Option Live
found b x o = cond b (Some x) o

-- what isn't among numbers is none of them
pub not_among : (i k : ℕ) (ks : List ℕ) → list_any (λ j. i == j) (k ∷ ks) ≡ false → (i ≢ k) × (list_any (λ j. i == j) ks ≡ false)
not_among i k ks out = (
  (λ same. true≢false (sym (or_left (i == k) (list_any (λ j. i == j) ks) (subst (λ j. (i == j) ≡ true) same (is_own i))) ∙ out)),
  false_from_ne_true (list_any (λ j. i == j) ks) (λ has. true≢false (sym (or_right (i == k) (list_any (λ j. i == j) ks) has) ∙ out)),
)

-- ---- another state

changed_other : (i k : ℕ) (state : State) (live : List Live) → i ≢ k → numbered i (in_state k state live) ≡ numbered i live
changed_other i k state [] other = refl
changed_other i k state (x ∷ live) other = by (is_numbered k x) refl (changed_other i k state live other)
  where
    by : (b : Bool) → is_numbered k x ≡ b → numbered i (in_state k state live) ≡ numbered i live
        → numbered i (cond b (with_state state x ∷ live) (x ∷ in_state k state live)) ≡ found (x.number == i) x (numbered i live)
    by true is rest =
        let no : (x.number == i) ≡ false = ne_eqb x.number i (λ same. other (sym same ∙ is_it x.number k is)) in
        ap (λ b. found b (with_state state x) (numbered i live)) no ∙ sym (ap (λ b. found b x (numbered i live)) no)
    by false is rest = ap (found (x.number == i) x) rest

pub others_stay : (i : ℕ) (ks : List ℕ) (state : State) (live : List Live) → list_any (λ j. i == j) ks ≡ false → numbered i (all_in_state ks state live) ≡ numbered i live
others_stay i [] state live out = refl
others_stay i (k ∷ ks) state live out =
    let parts = not_among i k ks out in
    others_stay i ks state (in_state k state live) parts.1 ∙ changed_other i k state live parts.0

-- the state of one that changed
changed_own : (i : ℕ) (state : State) (live : List Live) (later : Live) → numbered i (in_state i state live) ≡ Some later → later.state ≡ state
changed_own i state [] later is = absurd cc
changed_own i state (x ∷ live) later is = by (is_numbered i x) refl (changed_own i state live later) is
  where
    by : (b : Bool) → is_numbered i x ≡ b → (numbered i (in_state i state live) ≡ Some later → later.state ≡ state)
        → numbered i (cond b (with_state state x ∷ live) (x ∷ in_state i state live)) ≡ Some later → later.state ≡ state
    by true own rest there = sym (ap (λ (y : Live). y.state) (same_Some (with_state state x) later (sym (ap (λ b. found b (with_state state x) (numbered i live)) own) ∙ there)))
    by false other rest there = rest (sym (ap (λ b. found b x (numbered i (in_state i state live))) other) ∙ there)

changed_still : (i k : ℕ) (state : State) (live : List Live) → ((later : Live) → numbered i live ≡ Some later → later.state ≡ state)
    → (later : Live) → numbered i (in_state k state live) ≡ Some later → later.state ≡ state
changed_still i k state live all later is = elim (cases_Bool (i == k)) [
  | inl here ↦ changed_own i state live later (subst (λ j. numbered i (in_state j state live) ≡ Some later) (sym (is_it i k here)) is)
  | inr other ↦
      all later (sym (changed_other i k state live (λ same. true≢false (sym (subst (λ j. (i == j) ≡ true) same (is_own i)) ∙ other))) ∙ is)
]

all_still : (i : ℕ) (ks : List ℕ) (state : State) (live : List Live) → ((later : Live) → numbered i live ≡ Some later → later.state ≡ state)
    → (later : Live) → numbered i (all_in_state ks state live) ≡ Some later → later.state ≡ state
all_still i [] state live all = all
all_still i (k ∷ ks) state live all = all_still i ks state (in_state k state live) (changed_still i k state live all)

pub changed_among : (i : ℕ) (ks : List ℕ) (state : State) (live : List Live) (later : Live) → list_any (λ j. i == j) ks ≡ true
    → numbered i (all_in_state ks state live) ≡ Some later → later.state ≡ state
changed_among i [] state live later has is = absurd (true≢false (sym has))
changed_among i (k ∷ ks) state live later has is = elim (or_cases (i == k) (list_any (λ j. i == j) ks) has) [
  | inl here ↦
      all_still i ks state (in_state k state live)
      (subst (λ j. (later : Live) → numbered i (in_state j state live) ≡ Some later → later.state ≡ state) (is_it i k here) (changed_own i state live)) later is
  | inr there ↦ changed_among i ks state (in_state k state live) later there is
]

-- ---- one more, and one less

pub pushed_other : (i : ℕ) (live : List Live) (x : Live) → i ≢ x.number → numbered i (live ++ x ∷ []) ≡ numbered i live
pushed_other i [] x other = ap (λ b. found b x None) (ne_eqb x.number i (λ same. other (sym same)))
pushed_other i (y ∷ live) x other = ap (found (y.number == i) y) (pushed_other i live x other)

-- from the count on none is found
pub none_from : (i made : ℕ) (live : List Live) → AreNumbered 0 made live → made ≤ i → numbered i live ≡ None
none_from i made live numbers above = by (numbered i live) refl
  where
    by : (o : Option Live) → numbered i live ≡ o → numbered i live ≡ None
    by None none = none
    by (Some index) is = let low = found_made i 0 made live index numbers is in absurd (omega (arith, low, above))

pub left_other : (i k : ℕ) (live : List Live) → i ≢ k → numbered i (without k live) ≡ numbered i live
left_other i k [] other = refl
left_other i k (x ∷ live) other = by (is_numbered k x) refl (left_other i k live other)
  where
    by : (b : Bool) → is_numbered k x ≡ b → numbered i (without k live) ≡ numbered i live
        → numbered i (cond b live (x ∷ without k live)) ≡ found (x.number == i) x (numbered i live)
    by true is rest = sym (ap (λ b. found b x (numbered i live)) (ne_eqb x.number i (λ same. other (sym same ∙ is_it x.number k is))))
    by false is rest = ap (found (x.number == i) x) rest

-- below the least number none is found
none_below : (i least made : ℕ) (live : List Live) → i < least → AreNumbered least made live → numbered i live ≡ None
none_below i least made [] low numbers = refl
none_below i least made (x ∷ live) low numbers =
    let other : (x.number == i) ≡ false = ne_eqb x.number i (λ same. omega (arith, same, low, numbers.0)) in
    ap (λ b. found b x (numbered i live)) other ∙ none_below i (x.number + 1) made live (omega (arith, low, numbers.0)) numbers.1

pub left_none : (i least made : ℕ) (live : List Live) → AreNumbered least made live → numbered i (without i live) ≡ None
left_none i least made [] numbers = refl
left_none i least made (x ∷ live) numbers = by (is_numbered i x) refl (left_none i (x.number + 1) made live numbers.1)
  where
    by : (b : Bool) → is_numbered i x ≡ b → numbered i (without i live) ≡ None → numbered i (cond b live (x ∷ without i live)) ≡ None
    by true is rest = let it = is_it x.number i is in none_below i (x.number + 1) made live (omega (arith, it)) numbers.1
    by false is rest = ap (λ b. found b x (numbered i (without i live))) is ∙ rest
