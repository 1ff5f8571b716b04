-- What becomes of the live indexes, and of one of them, when one comes, changes or goes.
use Rattle.std.proofs.Common.{◌≡◌, ℕ, suc, ◌+◌, ◌<◌, ◌≤◌, Bool, true, false, not, cond, ◌==◌, List, [], ◌∷◌, ◌++◌, find, Option, Some, None, refl, sym, ap, ◌∙◌, subst, arith}
use Rattle.std.specs.List.{AllByRecursion}
use Rattle.std.specs.Option.{option_map_or}
use Rattle.std.proofs.lemmas.Bool.Decides.{nat_tests}
use Rattle.n1ql_value.specs.declared.state.State.{State}
use Rattle.index_def.specs.LiveIndexes.{Live, is_named, is_numbered, named, numbered, without, with_state, in_state, all_in_state, AreNumbered, first_of_each, numbers_of}
use Rattle.scan_history.proofs.Lists.{each_filter, found_passes}

pub weaker : (least less made : ℕ) (live : List Live) → less ≤ least → AreNumbered least made live → AreNumbered less made live
weaker least less made [] le h = omega (arith, le, h)
weaker least less made (index ∷ live) le h = (omega (arith, le, h.0), h.1)

-- the least number is no more than the count
pub bounded : (least made : ℕ) (live : List Live) → AreNumbered least made live → least ≤ made
bounded least made [] h = h
bounded least made (index ∷ live) h = let rest = bounded (index.number + 1) made live h.1 in omega (arith, rest, h.0)

pub pushed : (least made : ℕ) (live : List Live) (index : Live) → index.number ≡ made → AreNumbered least made live → AreNumbered least (suc made) (live ++ index ∷ [])
pushed least made [] index last h = (omega (arith, last, h), omega (arith, last))
pushed least made (x ∷ live) index last h = (h.0, pushed (x.number + 1) made live index last h.1)

pub left : (number least made : ℕ) (live : List Live) → AreNumbered least made live → AreNumbered least made (without number live)
left number least made [] h = h
left number least made (x ∷ live) h = by (is_numbered number x) (left number (x.number + 1) made live h.1)
  where
    by : (b : Bool) → AreNumbered (x.number + 1) made (without number live) → AreNumbered least made (cond b live (x ∷ without number live))
    by true rest = weaker (x.number + 1) least made live (omega (arith, h.0)) h.1
    by false rest = (h.0, rest)

pub changed : (number least made : ℕ) (state : State) (live : List Live) → AreNumbered least made live → AreNumbered least made (in_state number state live)
changed number least made state [] h = h
changed number least made state (x ∷ live) h = by (is_numbered number x) (changed number (x.number + 1) made state live h.1)
  where
    by : (b : Bool) → AreNumbered (x.number + 1) made (in_state number state live) → AreNumbered least made (cond b (with_state state x ∷ live) (x ∷ in_state number state live))
    by true rest = h
    by false rest = (h.0, rest)

pub all_changed : (numbers : List ℕ) (made : ℕ) (state : State) (live : List Live) → AreNumbered 0 made live → AreNumbered 0 made (all_in_state numbers state live)
all_changed [] made state live h = h
all_changed (n ∷ ns) made state live h = all_changed ns made state (in_state n state live) (changed n 0 made state live h)

-- what holds of each live index still does
module _ (P : Live → Type 0) where
  pub each_left : (number : ℕ) (live : List Live) → AllByRecursion P live → AllByRecursion P (without number live)
  each_left number [] all = all
  each_left number (x ∷ live) all = by (is_numbered number x) (each_left number live all.1)
    where
      by : (b : Bool) → AllByRecursion P (without number live) → AllByRecursion P (cond b live (x ∷ without number live))
      by true rest = all.1
      by false rest = (all.0, rest)

  module _ (state : State) (still : (x : Live) → P x → P (with_state state x)) where
    pub each_changed : (number : ℕ) (live : List Live) → AllByRecursion P live → AllByRecursion P (in_state number state live)
    each_changed number [] all = all
    each_changed number (x ∷ live) all = by (is_numbered number x) (each_changed number live all.1)
      where
        by : (b : Bool) → AllByRecursion P (in_state number state live) → AllByRecursion P (cond b (with_state state x ∷ live) (x ∷ in_state number state live))
        by true rest = (still x all.0, all.1)
        by false rest = (all.0, rest)

    pub each_all_changed : (numbers : List ℕ) (live : List Live) → AllByRecursion P live → AllByRecursion P (all_in_state numbers state live)
    each_all_changed [] live all = all
    each_all_changed (n ∷ ns) live all = each_all_changed ns (in_state n state live) (each_changed n live all)

-- a live index that is found has a number below the count
pub found_made : (test : Live → Bool) (least made : ℕ) (live : List Live) (index : Live) → AreNumbered least made live → find test live ≡ Some index → index.number < made
found_made test least made [] index h found = absurd cc
found_made test least made (x ∷ live) index h found = by (test x) refl (found_made test (x.number + 1) made live index h.1)
  where
    by : (b : Bool) → test x ≡ b → (find test live ≡ Some index → index.number < made) → index.number < made
    by true is rest =
        let same : Some x ≡ Some index = sym (ap (λ c. cond c (Some x) (find test live)) is) ∙ found in
        let it : x ≡ index = cc in
        let low : x.number + 1 ≤ made = bounded (x.number + 1) made live h.1 in
        subst (λ (y : Live). y.number < made) it (omega (arith, low))
    by false is rest = rest (sym (ap (λ c. cond c (Some x) (find test live)) is) ∙ found)

pub numbered_made : (i made : ℕ) (live : List Live) (index : Live) → AreNumbered 0 made live → numbered i live ≡ Some index → i < made
numbered_made i made live index h found =
    let passes : (index.number == i) ≡ true = found_passes (is_numbered i) live index found in
    let same : index.number ≡ i = grind (arith, nat_tests, passes) in
    subst (λ n. n < made) same (found_made (is_numbered i) 0 made live index h found)

-- the numbers of live indexes that are named are below the count
pub numbers_made : (made : ℕ) (live : List Live) (names : List (List ℕ)) → AreNumbered 0 made live → AllByRecursion (λ n. n < made) (numbers_of names live)
numbers_made made live [] h = tt
numbers_made made live (name ∷ names) h = by (named name live) refl (numbers_made made live names h)
  where
    by : (o : Option Live) → named name live ≡ o → AllByRecursion (λ n. n < made) (numbers_of names live)
        → AllByRecursion (λ n. n < made) (option_map_or (λ (index : Live). index.number ∷ numbers_of names live) o (numbers_of names live))
    by None is rest = rest
    by (Some index) is rest = (found_made (is_named name) 0 made live index h is, rest)

pub each_first : (P : ℕ → Type 0) (ns : List ℕ) → AllByRecursion P ns → AllByRecursion P (first_of_each ns)
each_first P [] all = all
each_first P (n ∷ ns) all = (all.0, each_filter P (λ m. not (m == n)) (first_of_each ns) (each_first P ns all.1))

-- below the least number none is found
pub none_below : (i least made : ℕ) (live : List Live) → i < least → AreNumbered least made live → numbered i live ≡ None
none_below i least made [] low h = refl
none_below i least made (x ∷ live) low h =
    let other : (x.number == i) ≡ false = grind (arith, nat_tests, low, h.0) in
    ap (λ b. cond b (Some x) (numbered i live)) other ∙ none_below i (x.number + 1) made live (omega (arith, low, h.0)) h.1

-- What holds of the live index of a number, if there is one, still does: Holds goes by what is found.
module _ (Holds : Option Live → Type 0) (i : ℕ) where
  -- at the head or behind it
  pick : (b : Bool) (x y o p : Option Live) → (Holds x → Holds y) → (Holds o → Holds p) → Holds (cond b x o) → Holds (cond b y p)
  pick true x y o p head rest h = head h
  pick false x y o p head rest h = rest h

  pub still_pushed : (live : List Live) (index : Live) → (index.number == i) ≡ false → Holds (numbered i live) → Holds (numbered i (live ++ index ∷ []))
  still_pushed [] index other h = subst (λ b. Holds (cond b (Some index) None)) (sym other) h
  still_pushed (x ∷ live) index other h =
      pick (x.number == i) (Some x) (Some x) (numbered i live) (numbered i (live ++ index ∷ [])) (λ k. k) (still_pushed live index other) h

  module _ (state : State) (still : (x : Live) → Holds (Some x) → Holds (Some (with_state state x))) where
    pub still_changed : (j : ℕ) (live : List Live) → Holds (numbered i live) → Holds (numbered i (in_state j state live))
    still_changed j [] h = h
    still_changed j (x ∷ live) h = by (is_numbered j x) (still_changed j live)
      where
        by : (b : Bool) → (Holds (numbered i live) → Holds (numbered i (in_state j state live)))
            → Holds (numbered i (cond b (with_state state x ∷ live) (x ∷ in_state j state live)))
        by true rest = pick (x.number == i) (Some x) (Some (with_state state x)) (numbered i live) (numbered i live) (still x) (λ k. k) h
        by false rest = pick (x.number == i) (Some x) (Some x) (numbered i live) (numbered i (in_state j state live)) (λ k. k) rest h

    pub still_all_changed : (numbers : List ℕ) (live : List Live) → Holds (numbered i live) → Holds (numbered i (all_in_state numbers state live))
    still_all_changed [] live h = h
    still_all_changed (n ∷ ns) live h = still_all_changed ns (in_state n state live) (still_changed n live h)

  pub still_left : (gone : Holds None) (j least made : ℕ) (live : List Live) → AreNumbered least made live → Holds (numbered i live) → Holds (numbered i (without j live))
  still_left gone j least made [] n h = h
  still_left gone j least made (x ∷ live) n h = by (is_numbered j x) (still_left gone j (x.number + 1) made live n.1)
    where
      behind : (b : Bool) → (x.number == i) ≡ b → Holds (cond b (Some x) (numbered i live)) → Holds (numbered i live)
      behind true is k =
          let same : x.number ≡ i = grind (arith, nat_tests, is) in
          subst Holds (sym (none_below i (x.number + 1) made live (omega (arith, same)) n.1)) gone
      behind false is k = k

      by : (b : Bool) → (Holds (numbered i live) → Holds (numbered i (without j live))) → Holds (numbered i (cond b live (x ∷ without j live)))
      by true rest = behind (x.number == i) refl h
      by false rest = pick (x.number == i) (Some x) (Some x) (numbered i live) (numbered i (without j live)) (λ k. k) rest h
