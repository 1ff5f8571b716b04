-- The indexes that a client's command waits for: the first of them, and the rest once it is caught up.
use Rattle.std.proofs.Common.{◌≡◌, ◌≢◌, ℕ, ◌+◌, ◌<◌, ◌≤◌, Bool, true, false, not, cond, ◌&&◌, ◌==◌, List, [], ◌∷◌, length, map, filter, Option, Some, None, is_some, refl, sym, ap, ◌∙◌, subst, inl, inr, arith}
use Rattle.std.specs.List.{AllByRecursion, list_any}
use Rattle.std.proofs.lemmas.Bool.{cases_eq, cond_both, cond-true, cond-false, and_parts, and_from, or_cases, or_left, or_right, not_from_false, false_from_ne_true, ne_eqb, true≢false}
use Rattle.seq_vector.specs.Vectors.{IsCovered, covers}
use Rattle.index_def.specs.LiveIndexes.{Live, AreNumbered, numbered}
use Rattle.scan_history.specs.declared.script.Script.{Script}
use Rattle.scan_history.specs.Consistent.{IsReached}
use Rattle.scan_history.specs.Fold.{work, State}
use Rattle.scan_history.specs.Legal.{live_among}
use Rattle.scan_history.specs.Events.{publish}
use Rattle.scan_history.specs.Readings.{Read, AreRead}
use Rattle.std.specs.Str.{bytes_eq}
use Rattle.gsi_sched.specs.Machine.{Machine, now_in, high_in, published_in, with_event, with_worker}
use Rattle.gsi_sched.specs.ScheduleLines.{publish_at}
use Rattle.gsi_sched.specs.ClientActions.{catch_up, awaited}
use Rattle.gsi_sched.specs.Running.{IsWorking, IsRunning}
use Rattle.gsi_sched.specs.inner.Below.{Below}
use Rattle.gsi_sched.specs.inner.ClientTurns.{IsFirstOf}
use Rattle.gsi_sched.proofs.Served.{each_weaker}
use Rattle.gsi_sched.proofs.LiveIndexes.{is_it, found_is, among, each_among, each_numbered}
use Rattle.gsi_sched.proofs.NextEvents.{holds_of_any}
use Rattle.gsi_sched.proofs.CatchUps.{caught_one}

-- ---- lists of numbers

passing_among : (test : ℕ → Bool) (i : ℕ) (is : List ℕ) → list_any (λ j. i == j) is ≡ true → test i ≡ true → list_any (λ j. i == j) (filter test is) ≡ true
passing_among test i [] has passes = absurd (true≢false (sym has))
passing_among test i (j ∷ js) has passes =
    let Has : List ℕ → Type 0 = λ ks. list_any (λ j. i == j) ks ≡ true in
    elim (or_cases (i == j) (list_any (λ j. i == j) js) has) [
      | inl here ↦
          let own : test j ≡ true = subst (λ k. test k ≡ true) (is_it i j here) passes in
          subst Has (sym (cond-true (test j) (j ∷ filter test js) (filter test js) own)) (or_left (i == j) (list_any (λ j. i == j) (filter test js)) here)
      | inr there ↦
          let rest = passing_among test i js there passes in
          cond_both (test j) (j ∷ filter test js) (filter test js) Has (λ kept. or_right (i == j) (list_any (λ j. i == j) (filter test js)) rest) (λ left. rest)
    ]

none_passes : (so : Live → Bool) (live : List Live) → AllByRecursion (λ x. so x ≡ false) live → filter so live ≡ []
none_passes so [] all = refl
none_passes so (x ∷ live) all = cond-false (so x) (x ∷ filter so live) (filter so live) all.0 ∙ none_passes so live all.1

-- the numbers of those that pass are no lower than the least
passing_above : (so : Live → Bool) (least made : ℕ) (live : List Live) → AreNumbered least made live → AllByRecursion (λ j. least ≤ j) (map (λ (x : Live). x.number) (filter so live))
passing_above so least made [] numbers = tt
passing_above so least made (x ∷ live) numbers =
    let rest = each_weaker (λ j. x.number + 1 ≤ j) (λ j. least ≤ j) (λ j above. omega (arith, above, numbers.0)) (map (λ (x : Live). x.number) (filter so live))
    (passing_above so (x.number + 1) made live numbers.1) in
    cond_both (so x) (x ∷ filter so live) (filter so live) (λ kept. AllByRecursion (λ j. least ≤ j) (map (λ (x : Live). x.number) kept))
    (λ is. (numbers.0, rest)) (λ other. rest)

-- the least of those that pass is the first
pub least_is_first : (so : Live → Bool) (i least made : ℕ) (live : List Live) → AreNumbered least made live
    → list_any (λ j. i == j) (map (λ (x : Live). x.number) (filter so live)) ≡ true → AllByRecursion (λ j. i ≤ j) (map (λ (x : Live). x.number) (filter so live))
    → IsFirstOf i (map (λ (x : Live). x.number) (filter so live))
least_is_first so i least made [] numbers has all = absurd (true≢false (sym has))
least_is_first so i least made (x ∷ live) numbers has all = by (so x) refl (λ has all. least_is_first so i (x.number + 1) made live numbers.1 has all)
  where
    by : (b : Bool) → so x ≡ b
        → (list_any (λ j. i == j) (map (λ (x : Live). x.number) (filter so live)) ≡ true → AllByRecursion (λ j. i ≤ j) (map (λ (x : Live). x.number) (filter so live))
        → IsFirstOf i (map (λ (x : Live). x.number) (filter so live)))
        → IsFirstOf i (map (λ (x : Live). x.number) (filter so (x ∷ live)))
    by true is behind =
        let kept : filter so (x ∷ live) ≡ x ∷ filter so live = cond-true (so x) (x ∷ filter so live) (filter so live) is in
        let le : i ≤ x.number = (subst (λ ks. AllByRecursion (λ j. i ≤ j) (map (λ (x : Live). x.number) ks)) kept all).0 in
        let one : list_any (λ j. i == j) (map (λ (x : Live). x.number) (x ∷ filter so live)) ≡ true =
        subst (λ ks. list_any (λ j. i == j) (map (λ (x : Live). x.number) ks) ≡ true) kept has in
        let ge : x.number ≤ i = elim (or_cases (i == x.number) (list_any (λ j. i == j) (map (λ (x : Live). x.number) (filter so live))) one) [
          | inl here ↦ let same = is_it i x.number here in omega (arith, same)
          | inr there ↦
              let above = holds_of_any (λ j. x.number + 1 ≤ j) i (map (λ (x : Live). x.number) (filter so live)) (passing_above so (x.number + 1) made live numbers.1) there in
              omega (arith, above)
        ] in
        subst (λ ks. IsFirstOf i (map (λ (x : Live). x.number) ks)) (sym kept) (omega (arith, le, ge))
    by false other behind =
        let left : filter so (x ∷ live) ≡ filter so live = cond-false (so x) (x ∷ filter so live) (filter so live) other in
        subst (λ ks. IsFirstOf i (map (λ (x : Live). x.number) ks)) (sym left)
        (behind
        (subst (λ ks. list_any (λ j. i == j) (map (λ (x : Live). x.number) ks) ≡ true) left has)
        (subst (λ ks. AllByRecursion (λ j. i ≤ j) (map (λ (x : Live). x.number) ks)) left all))

-- those that pass where the first no longer does
module _ (so then : Live → Bool) (i : ℕ) (own : (x : Live) → x.number ≡ i → then x ≡ false) (others : (x : Live) → x.number ≢ i → then x ≡ so x) where
  same_behind : (least made : ℕ) (live : List Live) → i < least → AreNumbered least made live → filter then live ≡ filter so live
  same_behind least made [] low numbers = refl
  same_behind least made (x ∷ live) low numbers =
      let rest = same_behind (x.number + 1) made live (omega (arith, low, numbers.0)) numbers.1 in
      ap (λ b. cond b (x ∷ filter then live) (filter then live)) (others x (λ same. omega (arith, same, low, numbers.0)))
      ∙ ap (λ kept. cond (so x) (x ∷ kept) kept) rest

  pub rest_passes : (least made : ℕ) (live : List Live) (rest : List ℕ) → AreNumbered least made live → map (λ (x : Live). x.number) (filter so live) ≡ i ∷ rest
      → map (λ (x : Live). x.number) (filter then live) ≡ rest
  rest_passes least made [] rest numbers is = absurd cc
  rest_passes least made (x ∷ live) rest numbers is = by (so x) refl (rest_passes (x.number + 1) made live rest numbers.1)
    where
      by : (b : Bool) → so x ≡ b → (map (λ (x : Live). x.number) (filter so live) ≡ i ∷ rest → map (λ (x : Live). x.number) (filter then live) ≡ rest)
          → map (λ (x : Live). x.number) (filter then (x ∷ live)) ≡ rest
      by true passes further =
          let both : x.number ∷ map (λ (x : Live). x.number) (filter so live) ≡ i ∷ rest =
          sym (ap (map (λ (x : Live). x.number)) (cond-true (so x) (x ∷ filter so live) (filter so live) passes)) ∙ is in
          let here : x.number ≡ i = cc in
          let behind : map (λ (x : Live). x.number) (filter so live) ≡ rest = cc in
          ap (map (λ (x : Live). x.number)) (cond-false (then x) (x ∷ filter then live) (filter then live) (own x here)
          ∙ same_behind (x.number + 1) made live (omega (arith, here)) numbers.1) ∙ behind
      by false fails further =
          let is_behind : map (λ (x : Live). x.number) (filter so live) ≡ i ∷ rest =
          sym (ap (map (λ (x : Live). x.number)) (cond-false (so x) (x ∷ filter so live) (filter so live) fails)) ∙ is in
          let none : then x ≡ false = elim (cases_eq x.number i) [ inl here ↦ own x here | inr other ↦ others x other ∙ fails ] in
          ap (map (λ (x : Live). x.number)) (cond-false (then x) (x ∷ filter then live) (filter then live) none) ∙ further is_behind

-- ---- what a building waits for

-- an index of these lags behind where the building began
abbrev pub lags_in : (s : State) (numbers since : List ℕ) → Live → Bool
lags_in s numbers since index = list_any (λ i. index.number == i) numbers && not (covers (s.published index.number) since)

-- none, where each that is live is covered
pub waits_for_none : (made : ℕ) (s : State) (numbers since : List ℕ) → AreNumbered 0 made s.live
    → ((i : ℕ) → list_any (λ j. i == j) (live_among numbers s) ≡ true → covers (s.published i) since ≡ true) → awaited false s (work numbers since) ≡ []
waits_for_none made s numbers since are covered =
    ap (map (λ (x : Live). x.number)) (none_passes (lags_in s numbers since) s.live
    (each_weaker (λ (x : Live). numbered x.number s.live ≡ Some x) (λ x. lags_in s numbers since x ≡ false)
    (λ x found.
    false_from_ne_true (lags_in s numbers since x) (λ lags.
    let parts = and_parts (list_any (λ i. x.number == i) numbers) (not (covers (s.published x.number) since)) lags in
    let live = passing_among (λ i. is_some (numbered i s.live)) x.number numbers parts.0 (ap is_some found) in
    true≢false (sym parts.1 ∙ ap not (covered x.number live))))
    s.live (each_numbered 0 made s.live are)))

-- or the least that lags is the first
pub waits_for_least : (below : Below) (made : ℕ) (s : State) (numbers since : List ℕ) (i : ℕ) → AreNumbered 0 made s.live
    → list_any (λ j. i == j) (live_among numbers s) ≡ true → (¬ IsCovered since (s.published i))
    → AllByRecursion (λ j. (¬ IsCovered since (s.published j)) → i ≤ j) (live_among numbers s) → IsFirstOf i (awaited false s (work numbers since))
waits_for_least below made s numbers since i are has lags least =
    let so = lags_in s numbers since in
    let parts = passes_both numbers has in
    let least_of : AllByRecursion (λ j. i ≤ j) (map (λ (x : Live). x.number) (filter so s.live)) =
    each_among so (λ (x : Live). numbered x.number s.live ≡ Some x) (λ j. i ≤ j)
    (λ x found is.
    let both = and_parts (list_any (λ j. x.number == j) numbers) (not (covers (s.published x.number) since)) is in
    let live = passing_among (λ j. is_some (numbered j s.live)) x.number numbers both.0 (ap is_some found) in
    holds_of_any (λ j. (¬ IsCovered since (s.published j)) → i ≤ j) x.number (live_among numbers s) least live
    (λ covered. true≢false (sym both.1 ∙ ap not ((below.tells (s.published x.number) since).1 covered))))
    s.live (each_numbered 0 made s.live are) in
    by (numbered i s.live) refl parts.1 parts.0 least_of
  where
    passes_both : (is : List ℕ) → list_any (λ j. i == j) (filter (λ j. is_some (numbered j s.live)) is) ≡ true → (list_any (λ j. i == j) is ≡ true) × (is_some (numbered i s.live) ≡ true)
    passes_both [] has = absurd (true≢false (sym has))
    passes_both (j ∷ js) has = on (is_some (numbered j s.live)) refl (passes_both js)
      where
        behind : (list_any (λ k. i == k) js ≡ true) × (is_some (numbered i s.live) ≡ true) → (list_any (λ k. i == k) (j ∷ js) ≡ true) × (is_some (numbered i s.live) ≡ true)
        behind rest = (or_right (i == j) (list_any (λ k. i == k) js) rest.0, rest.1)

        on : (b : Bool) → is_some (numbered j s.live) ≡ b
            → (list_any (λ k. i == k) (filter (λ j. is_some (numbered j s.live)) js) ≡ true → (list_any (λ k. i == k) js ≡ true) × (is_some (numbered i s.live) ≡ true))
            → (list_any (λ k. i == k) (j ∷ js) ≡ true) × (is_some (numbered i s.live) ≡ true)
        on true live further =
            let one = subst (λ ks. list_any (λ k. i == k) ks ≡ true) (cond-true (is_some (numbered j s.live)) (j ∷ filter (λ j. is_some (numbered j s.live)) js) (filter (λ j. is_some (numbered j s.live)) js) live) has in
            elim (or_cases (i == j) (list_any (λ k. i == k) (filter (λ j. is_some (numbered j s.live)) js)) one) [
              | inl here ↦ (or_left (i == j) (list_any (λ k. i == k) js) here, subst (λ k. is_some (numbered k s.live) ≡ true) (sym (is_it i j here)) live)
              | inr there ↦ behind (further there)
            ]
        on false gone further =
            behind (further (subst (λ ks. list_any (λ k. i == k) ks ≡ true) (cond-false (is_some (numbered j s.live)) (j ∷ filter (λ j. is_some (numbered j s.live)) js) (filter (λ j. is_some (numbered j s.live)) js) gone) has))

    by : (o : Option Live) → numbered i s.live ≡ o → is_some (numbered i s.live) ≡ true → list_any (λ j. i == j) numbers ≡ true
        → AllByRecursion (λ j. i ≤ j) (map (λ (x : Live). x.number) (filter (lags_in s numbers since) s.live)) → IsFirstOf i (awaited false s (work numbers since))
    by None none live in_numbers least_of = absurd (true≢false (sym live ∙ ap is_some none))
    by (Some index) found live in_numbers least_of =
        let so = lags_in s numbers since in
        let short : covers (s.published i) since ≡ false = false_from_ne_true (covers (s.published i) since) (λ yes. lags ((below.tells (s.published i) since).0 yes)) in
        let here : (list_any (λ j. i == j) numbers && not (covers (s.published i) since)) ≡ true =
        and_from (list_any (λ j. i == j) numbers) (not (covers (s.published i) since)) in_numbers (not_from_false (covers (s.published i) since) short) in
        let is : so index ≡ true = subst (λ k. (list_any (λ j. k == j) numbers && not (covers (s.published k) since)) ≡ true) (sym (found_is i s.live index found)) here in
        least_is_first so i 0 made s.live are (among so i s.live index found is) least_of

-- ---- once one is caught up

module _ (below : Below) (script : Script) (read : List ℕ → Read) (are : AreRead read) where
  abbrev n : ℕ
  n = script.vbuckets

  -- other publications stay
  others_published : (m : Machine) (i : ℕ) (at : List ℕ) (j : ℕ) → j ≢ i → published_in n j (publish_at n at i m) ≡ published_in n j m
  others_published m i at j other =
      cond_both (bytes_eq at (published_in n i m)) m (with_event (publish i at) m) (λ t. published_in n j t ≡ published_in n j m) (λ same. refl)
      (λ new.
      ap (λ (t : State). t.published j) (below.one_more n m.events (publish i at))
      ∙ cond-false (j == i) at (published_in n j m) (ne_eqb j i other))

  -- a building's rest
  pub rest_awaited : (m : Machine) (i : ℕ) (rest numbers since : List ℕ) → IsRunning script m → IsWorking (now_in n m).live i
      → IsReached (high_in n m) since → awaited false (now_in n m) (work numbers since) ≡ i ∷ rest
      → awaited false (now_in n (catch_up n m i)) (work numbers since) ≡ rest
  rest_awaited m i rest numbers since runs works reached is =
      let s = now_in n m in
      let t = now_in n (catch_up n m i) in
      let one = caught_one below script read are m i runs works in
      let holds = below.consistent script m.events runs.legal in
      let covered : covers (t.published i) since ≡ true =
      (below.tells (t.published i) since).1 (subst (IsCovered since) (sym one.2) reached.below) in
      ap (λ live. map (λ (x : Live). x.number) (filter (lags_in t numbers since) live)) one.1.live
      ∙ rest_passes (lags_in s numbers since) (lags_in t numbers since) i
      (λ x here.
      false_from_ne_true (lags_in t numbers since x) (λ lags.
      let parts = and_parts (list_any (λ j. x.number == j) numbers) (not (covers (t.published x.number) since)) lags in
      true≢false (sym parts.1 ∙ (ap (λ k. not (covers (t.published k) since)) here ∙ ap not covered))))
      (λ x other.
      ap (λ v. list_any (λ j. x.number == j) numbers && not (covers v since))
      (others_published (with_worker i (record (m.worker i) { at = high_in n m }) m) i (high_in n m) x.number other))
      0 (length s.defs) s.live rest holds.live is
