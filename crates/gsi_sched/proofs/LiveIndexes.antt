-- What is found of a live index by its number.
use Rattle.std.proofs.Common.{◌≡◌, ◌≢◌, ℕ, ◌+◌, ◌<◌, ◌≤◌, Bool, true, false, cond, ◌==◌, List, [], ◌∷◌, ◌++◌, find, map, Option, Some, MatchOption, refl, sym, ap, ◌∙◌, subst, arith}
use Rattle.std.proofs.lemmas.Option.{same_Some}
use Rattle.std.specs.Prelude.{⊤}
use Rattle.std.specs.List.{AllByRecursion, filter, list_any}
use Rattle.std.proofs.lemmas.Bool.{cond_both, cond-true, cond-false, or_left, or_right, true≢false}
use Rattle.std.proofs.lemmas.Bool.Decides.{nat_tests}
use Rattle.n1ql_value.specs.declared.state.State.{State}
use Rattle.n1ql_value.specs.declared.state.State.TheVariants.{Deferred, Building}
use Rattle.index_def.specs.LiveIndexes.{Live, AreNumbered, is_numbered, numbered, with_state, in_state, all_in_state}
use Rattle.scan_history.specs.First.{is_online}
use Rattle.gsi_sched.specs.Running.{IsBuilt}
use Rattle.gsi_sched.proofs.Served.{each_weaker}

-- by a test
find_here : {A : Type 0} (test : A → Bool) (x : A) (xs : List A) → test x ≡ true → find test (x ∷ xs) ≡ Some x
find_here test x xs is = cond-true (test x) (Some x) (find test xs) is

find_on : {A : Type 0} (test : A → Bool) (x : A) (xs : List A) → test x ≡ false → find test (x ∷ xs) ≡ find test xs
find_on test x xs is = cond-false (test x) (Some x) (find test xs) is

pub is_own : (i : ℕ) → (i == i) ≡ true
is_own i = grind (arith, nat_tests)

is_other : (i j : ℕ) → j < i → (i == j) ≡ false
is_other i j low = grind (arith, nat_tests, low)

pub is_it : (i j : ℕ) → (i == j) ≡ true → i ≡ j
is_it i j is = grind (arith, nat_tests, is)

-- what is found by a number has it
pub found_is : (i : ℕ) (live : List Live) (index : Live) → numbered i live ≡ Some index → index.number ≡ i
found_is i [] index found = absurd cc
found_is i (x ∷ live) index found =
    let by : (b : Bool) → (x.number == i) ≡ b → index.number ≡ i = λ b. elim b as (λ b. (x.number == i) ≡ b → index.number ≡ i) [
      | true ↦ λ is. subst (λ (y : Live). y.number ≡ i) (same_Some x index (sym (find_here (is_numbered i) x live is) ∙ found)) (is_it x.number i is)
      | false ↦ λ other. found_is i live index (sym (find_on (is_numbered i) x live other) ∙ found)
    ] in
    by (x.number == i) refl

-- numbers that are found among numbers that begin at the least are no lower
found_above : (i least made : ℕ) (live : List Live) (index : Live) → AreNumbered least made live → numbered i live ≡ Some index → least ≤ i
found_above i least made [] index h found = absurd cc
found_above i least made (x ∷ live) index h found =
    let by : (b : Bool) → (x.number == i) ≡ b → least ≤ i = λ b. elim b as (λ b. (x.number == i) ≡ b → least ≤ i) [
      | true ↦ λ is. let same = is_it x.number i is in omega (arith, same, h.0)
      | false ↦ λ other.
          let above = found_above i (x.number + 1) made live index h.1 (sym (find_on (is_numbered i) x live other) ∙ found) in
          omega (arith, above, h.0)
    ] in
    by (x.number == i) refl

-- the least number is no more than the count
bounded : (least made : ℕ) (live : List Live) → AreNumbered least made live → least ≤ made
bounded least made [] h = h
bounded least made (index ∷ live) h = let rest = bounded (index.number + 1) made live h.1 in omega (arith, rest, h.0)

-- what is found was made
pub found_made : (i least made : ℕ) (live : List Live) (index : Live) → AreNumbered least made live → numbered i live ≡ Some index → i < made
found_made i least made [] index h found = absurd cc
found_made i least made (x ∷ live) index h found =
    let by : (b : Bool) → (x.number == i) ≡ b → i < made = λ b. elim b as (λ b. (x.number == i) ≡ b → i < made) [
      | true ↦ λ is. let same = is_it x.number i is in let rest = bounded (x.number + 1) made live h.1 in omega (arith, same, rest)
      | false ↦ λ other. found_made i (x.number + 1) made live index h.1 (sym (find_on (is_numbered i) x live other) ∙ found)
    ] in
    by (x.number == i) refl

-- what a test finds is what its number finds
pub found_numbered : (test : Live → Bool) (least made : ℕ) (live : List Live) (index : Live) → AreNumbered least made live → find test live ≡ Some index
    → (least ≤ index.number) × (numbered index.number live ≡ Some index)
found_numbered test least made [] index h found = absurd cc
found_numbered test least made (x ∷ live) index h found =
    let Goal : Type 0 = (least ≤ index.number) × (numbered index.number (x ∷ live) ≡ Some index) in
    let by : (b : Bool) → test x ≡ b → Goal = λ b. elim b as (λ b. test x ≡ b → Goal) [
      | true ↦ λ is.
          let it : x ≡ index = same_Some x index (sym (find_here test x live is) ∙ found) in (
            subst (λ (y : Live). least ≤ y.number) it h.0,
            subst (λ (y : Live). numbered y.number (x ∷ live) ≡ Some y) it (find_here (is_numbered x.number) x live (is_own x.number)),
          )
      | false ↦ λ other.
          let rest = found_numbered test (x.number + 1) made live index h.1 (sym (find_on test x live other) ∙ found) in
          (omega (arith, rest.0, h.0), find_on (is_numbered index.number) x live (grind (arith, nat_tests, rest.0)) ∙ rest.1)
    ] in
    by (test x) refl

-- the last one, which its number finds
pub last_found : (least made : ℕ) (live : List Live) (x : Live) → AreNumbered least made (live ++ x ∷ []) → (least ≤ x.number) × (numbered x.number (live ++ x ∷ []) ≡ Some x)
last_found least made [] x h = (h.0, find_here (is_numbered x.number) x [] (is_own x.number))
last_found least made (y ∷ live) x h =
    let rest = last_found (y.number + 1) made live x h.1 in
    (omega (arith, rest.0, h.0), find_on (is_numbered x.number) y (live ++ x ∷ []) (grind (arith, nat_tests, rest.0)) ∙ rest.1)

-- an index that is online isn't deferred
pub online_is_built : (state : State) → is_online state ≡ true → state ≢ Deferred
online_is_built state is e = true≢false (sym is ∙ ap is_online e)

-- ---- indexes that begin to be built

abbrev Serves : Option Live → Type 0
Serves found = MatchOption found ⊤ (λ index. index.state ≢ Deferred)

pub built_from : (live : List Live) (i : ℕ) → Serves (numbered i live) → IsBuilt live i
built_from live i serves index found = subst Serves found serves

building_serves : (i n : ℕ) (live : List Live) → Serves (numbered i live) → Serves (numbered i (in_state n Building live))
building_serves i n [] h = h
building_serves i n (x ∷ live) h =
    let tail : Serves (numbered i live) → Serves (numbered i (in_state n Building live)) = building_serves i n live in
    let rest : (b : Bool) → Serves (cond b (Some x) (numbered i live)) → Serves (cond b (Some x) (numbered i (in_state n Building live))) =
    λ b. elim b as (λ b. Serves (cond b (Some x) (numbered i live)) → Serves (cond b (Some x) (numbered i (in_state n Building live)))) [ true ↦ λ g. g | false ↦ tail ] in
    let here : (b : Bool) → Serves (cond b (Some x) (numbered i live)) → Serves (cond b (Some (with_state Building x)) (numbered i live)) =
    λ b. elim b as (λ b. Serves (cond b (Some x) (numbered i live)) → Serves (cond b (Some (with_state Building x)) (numbered i live))) [ true ↦ λ g. λ e. absurd cc | false ↦ λ g. g ] in
    cond_both (is_numbered n x) (with_state Building x ∷ live) (x ∷ in_state n Building live) (λ l. Serves (numbered i l))
    (λ is. here (x.number == i) h) (λ other. rest (x.number == i) h)

building_own : (i : ℕ) (live : List Live) → Serves (numbered i (in_state i Building live))
building_own i [] = tt
building_own i (x ∷ live) =
    cond_both (is_numbered i x) (with_state Building x ∷ live) (x ∷ in_state i Building live) (λ l. Serves (numbered i l))
    (λ is. subst Serves (sym (find_here (is_numbered i) (with_state Building x) live is)) (λ e. absurd cc))
    (λ other. subst Serves (sym (find_on (is_numbered i) x (in_state i Building live) other)) (building_own i live))

all_building_serves : (i : ℕ) (ns : List ℕ) (live : List Live) → Serves (numbered i live) → Serves (numbered i (all_in_state ns Building live))
all_building_serves i [] live h = h
all_building_serves i (n ∷ ns) live h = all_building_serves i ns (in_state n Building live) (building_serves i n live h)

pub all_built : (ns : List ℕ) (live : List Live) → AllByRecursion (IsBuilt (all_in_state ns Building live)) ns
all_built [] live = tt
all_built (n ∷ ns) live = (
  built_from (all_in_state ns Building (in_state n Building live)) n (all_building_serves n ns (in_state n Building live) (building_own n live)),
  all_built ns (in_state n Building live),
)

-- ---- the numbers of some live indexes

-- a live index that is found by its number is among those for which it holds
pub among : (so : Live → Bool) (i : ℕ) (live : List Live) (index : Live) → numbered i live ≡ Some index → so index ≡ true
    → list_any (λ j. i == j) (map (λ (x : Live). x.number) (filter so live)) ≡ true
among so i [] index found is = absurd cc
among so i (x ∷ live) index found is =
    let has : List Live → Type 0 = λ kept. list_any (λ j. i == j) (map (λ (x : Live). x.number) kept) ≡ true in
    let by : (b : Bool) → (x.number == i) ≡ b → has (filter so (x ∷ live)) = λ b. elim b as (λ b. (x.number == i) ≡ b → has (filter so (x ∷ live))) [
      | true ↦ λ own.
          let it : x ≡ index = same_Some x index (sym (find_here (is_numbered i) x live own) ∙ found) in
          let kept : so x ≡ true = ap so it ∙ is in
          subst has (sym (cond-true (so x) (x ∷ filter so live) (filter so live) kept))
          (or_left (i == x.number) (list_any (λ j. i == j) (map (λ (x : Live). x.number) (filter so live))) (grind (arith, nat_tests, own)))
      | false ↦ λ other.
          let rest : has (filter so live) = among so i live index (sym (find_on (is_numbered i) x live other) ∙ found) is in
          cond_both (so x) (x ∷ filter so live) (filter so live) has
          (λ kept. or_right (i == x.number) (list_any (λ j. i == j) (map (λ (x : Live). x.number) (filter so live))) rest) (λ left. rest)
    ] in
    by (x.number == i) refl

-- what follows of each of those
pub each_among : (so : Live → Bool) (Q : Live → Type 0) (P : ℕ → Type 0) → ((index : Live) → Q index → so index ≡ true → P index.number)
    → (live : List Live) → AllByRecursion Q live → AllByRecursion P (map (λ (x : Live). x.number) (filter so live))
each_among so Q P then [] all = tt
each_among so Q P then (x ∷ live) all =
    let rest = each_among so Q P then live all.1 in
    cond_both (so x) (x ∷ filter so live) (filter so live) (λ kept. AllByRecursion P (map (λ (x : Live). x.number) kept))
    (λ is. (then x all.0 is, rest)) (λ other. rest)

-- each live index is found by its number
pub each_numbered : (least made : ℕ) (live : List Live) → AreNumbered least made live → AllByRecursion (λ (x : Live). numbered x.number live ≡ Some x) live
each_numbered least made [] h = tt
each_numbered least made (x ∷ live) h = (
  find_here (is_numbered x.number) x live (is_own x.number),
  each_weaker (λ (y : Live). numbered y.number live ≡ Some y) (λ (y : Live). numbered y.number (x ∷ live) ≡ Some y)
      (λ y found.
      let above = found_above y.number (x.number + 1) made live y h.1 found in
      find_on (is_numbered y.number) x live (grind (arith, nat_tests, above)) ∙ found)
      live (each_numbered (x.number + 1) made live h.1),
)
