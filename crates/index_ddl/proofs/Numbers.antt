-- Each number once, in the order in which they are first given.
use Rattle.std.proofs.Common.{◌≡◌, ℕ, zero, suc, ◌+◌, Bool, true, false, not, cond, ◌||◌, ◌==◌, List, [], ◌∷◌, ◌++◌, filter, take, slice_get, Option, Some, None, option_map, refl, sym, ap, ap₂, ◌∙◌, true≢false, arith}
use Rattle.std.specs.List.{list_any}
use Rattle.std.specs.Option.{option_map_or}
use Rattle.std.proofs.lemmas.List.{append-nil as append_nil}
use Rattle.index_def.specs.LiveIndexes.{Live, named}
use Rattle.index_def.specs.LiveIndexes.{first_of_each, numbers_of}
use Rattle.index_ddl.specs.inner.Writes.{added_once}

filter_push : (p : ℕ → Bool) (xs : List ℕ) (n : ℕ) → filter p (xs ++ n ∷ []) ≡ filter p xs ++ filter p (n ∷ [])
filter_push p [] n = refl
filter_push p (x ∷ xs) n = by (p x) (filter_push p xs n)
  where
    by : (b : Bool) → filter p (xs ++ n ∷ []) ≡ filter p xs ++ filter p (n ∷ [])
        → cond b (x ∷ filter p (xs ++ n ∷ [])) (filter p (xs ++ n ∷ [])) ≡ cond b (x ∷ filter p xs) (filter p xs) ++ filter p (n ∷ [])
    by true rest = ap (λ l. x ∷ l) rest
    by false rest = rest

-- the numbers equal to n stay where others are left out
any_left : (x n : ℕ) (xs : List ℕ) → (n == x) ≡ false → list_any (λ m. m == n) (filter (λ m. not (m == x)) xs) ≡ list_any (λ m. m == n) xs
any_left x n [] other = refl
any_left x n (y ∷ ys) other = by (y == x) refl (any_left x n ys other)
  where
    by : (b : Bool) → (y == x) ≡ b → list_any (λ m. m == n) (filter (λ m. not (m == x)) ys) ≡ list_any (λ m. m == n) ys
        → list_any (λ m. m == n) (cond (not (y == x)) (y ∷ filter (λ m. not (m == x)) ys) (filter (λ m. not (m == x)) ys)) ≡ ((y == n) || list_any (λ m. m == n) ys)
    by true is rest =
        let there : (y == n) ≡ false = grind (arith, is, other) in
        ap (λ c. list_any (λ m. m == n) (cond (not c) (y ∷ filter (λ m. not (m == x)) ys) (filter (λ m. not (m == x)) ys))) is
        ∙ rest ∙ sym (ap (λ c. c || list_any (λ m. m == n) ys) there)
    by false is rest =
        ap (λ c. list_any (λ m. m == n) (cond (not c) (y ∷ filter (λ m. not (m == x)) ys) (filter (λ m. not (m == x)) ys))) is
        ∙ ap (λ c. (y == n) || c) rest

-- one number more, behind a first one x and the others ns without it
one_more : (x n : ℕ) (ns : List ℕ) → x ∷ filter (λ m. not (m == x)) (added_once ns n) ≡ added_once (x ∷ filter (λ m. not (m == x)) ns) n
one_more x n ns = by (n == x) refl (list_any (λ m. m == n) ns) refl
  where
    by : (b : Bool) → (n == x) ≡ b → (c : Bool) → list_any (λ m. m == n) ns ≡ c → x ∷ filter (λ m. not (m == x)) (added_once ns n) ≡ added_once (x ∷ filter (λ m. not (m == x)) ns) n
    by true is c there = same c there
      where
        gone : filter (λ m. not (m == x)) (n ∷ []) ≡ []
        gone = ap (λ b. cond (not b) (n ∷ []) []) is

        first : (x == n) ≡ true
        first = grind (arith, is)

        same : (c : Bool) → list_any (λ m. m == n) ns ≡ c → x ∷ filter (λ m. not (m == x)) (added_once ns n) ≡ added_once (x ∷ filter (λ m. not (m == x)) ns) n
        same true there =
            ap (λ c. x ∷ filter (λ m. not (m == x)) (cond c ns (ns ++ n ∷ []))) there
            ∙ sym (ap (λ c. cond (c || list_any (λ m. m == n) (filter (λ m. not (m == x)) ns)) (x ∷ filter (λ m. not (m == x)) ns) (x ∷ filter (λ m. not (m == x)) ns ++ n ∷ [])) first)
        same false there =
            ap (λ c. x ∷ filter (λ m. not (m == x)) (cond c ns (ns ++ n ∷ []))) there
            ∙ ap (λ l. x ∷ l) (filter_push (λ m. not (m == x)) ns n ∙ ap (λ l. filter (λ m. not (m == x)) ns ++ l) gone ∙ append_nil (filter (λ m. not (m == x)) ns))
            ∙ sym (ap (λ c. cond (c || list_any (λ m. m == n) (filter (λ m. not (m == x)) ns)) (x ∷ filter (λ m. not (m == x)) ns) (x ∷ filter (λ m. not (m == x)) ns ++ n ∷ [])) first)
    by false is c there = same c there
      where
        kept : filter (λ m. not (m == x)) (n ∷ []) ≡ n ∷ []
        kept = ap (λ b. cond (not b) (n ∷ []) []) is

        other : (x == n) ≡ false
        other = grind (arith, is)

        found : (c : Bool) → list_any (λ m. m == n) ns ≡ c → ((x == n) || list_any (λ m. m == n) (filter (λ m. not (m == x)) ns)) ≡ c
        found c there = ap (λ b. b || list_any (λ m. m == n) (filter (λ m. not (m == x)) ns)) other ∙ any_left x n ns is ∙ there

        same : (c : Bool) → list_any (λ m. m == n) ns ≡ c → x ∷ filter (λ m. not (m == x)) (added_once ns n) ≡ added_once (x ∷ filter (λ m. not (m == x)) ns) n
        same true there =
            ap (λ c. x ∷ filter (λ m. not (m == x)) (cond c ns (ns ++ n ∷ []))) there
            ∙ sym (ap (λ c. cond c (x ∷ filter (λ m. not (m == x)) ns) (x ∷ filter (λ m. not (m == x)) ns ++ n ∷ [])) (found true there))
        same false there =
            ap (λ c. x ∷ filter (λ m. not (m == x)) (cond c ns (ns ++ n ∷ []))) there
            ∙ ap (λ l. x ∷ l) (filter_push (λ m. not (m == x)) ns n ∙ ap (λ l. filter (λ m. not (m == x)) ns ++ l) kept)
            ∙ sym (ap (λ c. cond c (x ∷ filter (λ m. not (m == x)) ns) (x ∷ filter (λ m. not (m == x)) ns ++ n ∷ [])) (found false there))

pub first_of_each-push : (ns : List ℕ) (n : ℕ) → first_of_each (ns ++ n ∷ []) ≡ added_once (first_of_each ns) n
first_of_each-push [] n = refl
first_of_each-push (x ∷ ns) n = ap (λ l. x ∷ filter (λ m. not (m == x)) l) (first_of_each-push ns n) ∙ one_more x n (first_of_each ns)

-- the numbers of one name more
pub numbers_next : (names : List (List ℕ)) (live : List Live) (at : ℕ) (name : List ℕ) → Some name ≡ slice_get names at
    → numbers_of (take (suc at) names) live ≡ numbers_of (take at names) live ++ numbers_of (name ∷ []) live
numbers_next [] live at name is = absurd cc
numbers_next (x ∷ names) live zero name is =
    let it : name ≡ x = cc in ap (λ n. numbers_of (n ∷ []) live) (sym it)
numbers_next (x ∷ names) live (suc at) name is = by (named x live) (numbers_next names live at name is)
  where
    by : (found : Option Live) → numbers_of (take (suc at) names) live ≡ numbers_of (take at names) live ++ numbers_of (name ∷ []) live
        → option_map_or (λ (index : Live). index.number ∷ numbers_of (take (suc at) names) live) found (numbers_of (take (suc at) names) live)
        ≡ option_map_or (λ (index : Live). index.number ∷ numbers_of (take at names) live) found (numbers_of (take at names) live) ++ numbers_of (name ∷ []) live
    by None rest = rest
    by (Some index) rest = ap (λ l. index.number ∷ l) rest

pub numbers_step : (names : List (List ℕ)) (live : List Live) (at : ℕ) (name : List ℕ) → Some name ≡ slice_get names at
    → option_map_or (added_once (first_of_each (numbers_of (take at names) live))) (option_map (λ (index : Live). index.number) (named name live)) (first_of_each (numbers_of (take at names) live))
    ≡ first_of_each (numbers_of (take (suc at) names) live)
numbers_step names live at name is = by (named name live) refl
  where
    before : List ℕ
    before = numbers_of (take at names) live

    by : (found : Option Live) → named name live ≡ found
        → option_map_or (added_once (first_of_each before)) (option_map (λ (index : Live). index.number) (named name live)) (first_of_each before) ≡ first_of_each (numbers_of (take (suc at) names) live)
    by None there =
        ap (λ (found : Option Live). option_map_or (added_once (first_of_each before)) (option_map (λ (index : Live). index.number) found) (first_of_each before)) there
        ∙ ap first_of_each (sym (append_nil before) ∙ ap (λ (found : Option Live). before ++ option_map_or (λ (index : Live). index.number ∷ []) found []) (sym there) ∙ sym (numbers_next names live at name is))
    by (Some index) there =
        ap (λ (found : Option Live). option_map_or (added_once (first_of_each before)) (option_map (λ (index : Live). index.number) found) (first_of_each before)) there
        ∙ sym (first_of_each-push before index.number)
        ∙ ap first_of_each (ap (λ (found : Option Live). before ++ option_map_or (λ (index : Live). index.number ∷ []) found []) (sym there) ∙ sym (numbers_next names live at name is))
