-- Beginnings of one list, and what holds of the rest.
use Rattle.std.proofs.Common.{◌≡◌, Bool, true, false, cond, nat_lt, ◌<◌, ◌≤◌, List, [], ◌∷◌, ◌++◌, length, refl, ap, sym, ◌∙◌, subst, arith, append_assoc}
use Rattle.std.proofs.lemmas.Bool.Decides.{nat_tests}
use Rattle.std.proofs.lemmas.List.Elements.{All-tail}
use Rattle.std.specs.List.{All}
use mathlib.Core.List.{IsPrefix}
use Rattle.history_lock.specs.Events.{longer}

module _ {A : Type 0} where
  pub prefix_self : (xs : List A) → IsPrefix xs xs
  prefix_self [] = ([], refl)
  prefix_self (x ∷ xs) = (let r = prefix_self xs in r.0, ap (λ ys. x ∷ ys) (prefix_self xs).1)

  pub prefix_trans : (xs ys zs : List A) → IsPrefix xs ys → IsPrefix ys zs → IsPrefix xs zs
  prefix_trans xs ys zs p q = (p.0 ++ q.0, sym (append_assoc xs p.0 q.0) ∙ (ap (λ w. w ++ q.0) p.1 ∙ q.1))

  -- of two beginnings of one list the shorter begins the longer
  pub prefix_shorter : (xs ys zs : List A) → IsPrefix xs zs → IsPrefix ys zs → length xs ≤ length ys → IsPrefix xs ys
  prefix_shorter [] ys zs p q le = (ys, refl)
  prefix_shorter (x ∷ xs) [] zs p q le = absurd (omega arith)
  prefix_shorter (x ∷ xs) (y ∷ ys) [] p q le = absurd (cc (p.1))
  prefix_shorter (x ∷ xs) (y ∷ ys) (z ∷ zs) p q le =
      let heads : x ≡ y = cc (p.1, q.1) in
      let rest = prefix_shorter xs ys zs (p.0, cc (p.1)) (q.0, cc (q.1)) (omega arith) in
      (rest.0, cc (heads, rest.1))

  suffix_all : (P : A → Type 0) (xs ys : List A) → All P (xs ++ ys) → All P ys
  suffix_all P [] ys h = h
  suffix_all P (x ∷ xs) ys h = suffix_all P xs ys (All-tail P x (xs ++ ys) h)

  -- what holds of all behind a shorter beginning holds of all behind a longer one
  pub later_all : (P : A → Type 0) (xs ms ys ns zs : List A) → xs ++ ms ≡ zs → ys ++ ns ≡ zs → length xs ≤ length ys → All P ms → All P ns
  later_all P [] ms ys ns zs p q le h = suffix_all P ys ns (subst (All P) (p ∙ sym q) h)
  later_all P (x ∷ xs) ms [] ns zs p q le h = absurd (omega arith)
  later_all P (x ∷ xs) ms (y ∷ ys) ns [] p q le h = absurd (cc p)
  later_all P (x ∷ xs) ms (y ∷ ys) ns (z ∷ zs) p q le h = later_all P xs ms ys ns zs (cc p) (cc q) (omega arith) h

  longer_by : (b : Bool) (xs ys zs : List A) → nat_lt (length xs) (length ys) ≡ b → IsPrefix xs zs → IsPrefix ys zs
      → IsPrefix xs (cond b ys xs) × IsPrefix ys (cond b ys xs) × IsPrefix (cond b ys xs) zs × (length xs ≤ length (cond b ys xs))
  longer_by true xs ys zs is p q = let lt : length xs < length ys = grind (arith, nat_tests) in (prefix_shorter xs ys zs p q (omega arith), prefix_self ys, q, omega arith)
  longer_by false xs ys zs is p q = let le : length ys ≤ length xs = grind (arith, nat_tests) in (prefix_self xs, prefix_shorter ys xs zs q p le, p, omega arith)

  -- two beginnings of one list begin the longer of them, which begins that list too
  pub longer_begins : (xs ys zs : List A) → IsPrefix xs zs → IsPrefix ys zs
      → IsPrefix xs (longer xs ys) × IsPrefix ys (longer xs ys) × IsPrefix (longer xs ys) zs × (length xs ≤ length (longer xs ys))
  longer_begins xs ys zs p q = longer_by (nat_lt (length xs) (length ys)) xs ys zs refl p q
