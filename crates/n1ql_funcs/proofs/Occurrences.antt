-- A text occurs in another just where it stands between two parts of it.
use Rattle.std.proofs.Common.{◌≡◌, ◌↔◌, ℕ, Bool, true, false, ◌&&◌, ◌||◌, ◌==◌, List, [], ◌∷◌, ◌++◌, refl, sym, ap, ◌∙◌}
use Rattle.std.proofs.lemmas.Bool.{and_parts, eqb-true, eq-eqb}
use Rattle.std.specs.List.{starts_with}
use Rattle.std.specs.Str.Iter.{HasSubslice}
use Rattle.n1ql_value.specs.FunctionValues.{occurs}

-- what begins with a text goes on after it
begins : (part text : List ℕ) → starts_with ◌==◌ text part ≡ true → (rest : List ℕ) × (text ≡ part ++ rest)
begins [] text h = (text, refl)
begins (x ∷ part) [] h = absurd (cc)
begins (x ∷ part) (y ∷ text) h =
    let both = and_parts (x == y) (starts_with ◌==◌ text part) h in
    let more = begins part text both.1 in
    let same : x ≡ y = eqb-true x y both.0 in
    (more.0, cc (same, more.1))

begins_with : (part rest : List ℕ) → starts_with ◌==◌ (part ++ rest) part ≡ true
begins_with [] rest = refl
begins_with (x ∷ part) rest = ap (λ b. b && starts_with ◌==◌ (part ++ rest) part) (eq-eqb x x refl) ∙ begins_with part rest

stands : (text part : List ℕ) → occurs text part ≡ true → HasSubslice text part
stands [] part h = let found = begins part [] h in ([], found.0, found.1)
stands (b ∷ text) part h = stands_by (stands text part) (starts_with ◌==◌ (b ∷ text) part) refl h
  where
    stands_by : (occurs text part ≡ true → HasSubslice text part) → (here : Bool) → starts_with ◌==◌ (b ∷ text) part ≡ here → (here || occurs text part) ≡ true → HasSubslice (b ∷ text) part
    stands_by later true is h = let found = begins part (b ∷ text) is in ([], found.0, found.1)
    stands_by later false is h = let found = later h in (b ∷ found.0, found.1, ap (λ bs. b ∷ bs) found.2)

here_or_later : (text part : List ℕ) → starts_with ◌==◌ text part ≡ true → occurs text part ≡ true
here_or_later [] part h = h
here_or_later (b ∷ text) part h = ap (λ here. here || occurs text part) h

or_true : (a b : Bool) → b ≡ true → (a || b) ≡ true
or_true true b h = refl
or_true false b h = h

occurs_between : (before part after : List ℕ) → occurs (before ++ (part ++ after)) part ≡ true
occurs_between [] part after = here_or_later (part ++ after) part (begins_with part after)
occurs_between (b ∷ before) part after = or_true _ _ (occurs_between before part after)

same_truth : (a b : Bool) → (a ≡ true → b ≡ true) → (b ≡ true → a ≡ true) → a ≡ b
same_truth true b h k = sym (h refl)
same_truth false true h k = k refl
same_truth false false h k = refl

pub occurs_as_found : (found : Bool) (text part : List ℕ) → (found ≡ true) ↔ HasSubslice text part → found ≡ occurs text part
occurs_as_found found text part h =
    same_truth found (occurs text part)
    (λ e. let parts = h.0 e in ap (λ bs. occurs bs part) parts.2 ∙ occurs_between parts.0 part parts.1)
    (λ e. h.1 (stands text part e))
