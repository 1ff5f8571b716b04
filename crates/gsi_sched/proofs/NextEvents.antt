-- A client's next event may follow, once what it waits for is caught up.
use Rattle.std.proofs.Common.{◌≡◌, ◌⊎◌, ℕ, Bool, true, false, not, ◌&&◌, ◌==◌, List, [], ◌∷◌, length, Option, Some, None, MatchOption, is_some, refl, sym, ap, ◌∙◌, subst, inl, inr}
use Rattle.std.proofs.lemmas.Option.{same_Some}
use Rattle.std.specs.List.{AllByRecursion, filter, list_any}
use Rattle.std.specs.Option.{option_map_or}
use Rattle.std.proofs.lemmas.Bool.{cond_both, cases_Bool, and_parts, and_from, or_cases, or_left, or_right, not_from_false, false_from_ne_true, both_ways, true≢false}
use Rattle.seq_vector.specs.Vectors.{IsCovered, covers}
use Rattle.vb_store.specs.Mutations.{high_of}
use Rattle.index_def.specs.LiveIndexes.{Live, numbered}
use Rattle.scan_history.specs.declared.script.Script.{Script}
use Rattle.scan_history.specs.declared.why.Why.TheVariants.{Plain}
use Rattle.scan_history.specs.Consistent.{IsReached, IsOpenSince, IsConsistent}
use Rattle.scan_history.specs.Events.{Event, answer, pick, fetch, not_yet, refuse}
use Rattle.scan_history.specs.First.{command_at}
use Rattle.scan_history.specs.Fold.{Opened, nothing, work, started, picked, State}
use Rattle.scan_history.specs.Legal.{MayGoOnline, MayAnswer, MayNotYet, MayFetch, IsDropped, MayFollow, live_among, waits, is_covered_by_index}
use Rattle.scan_history.specs.NextEvent.{end_of_work, answered, decided, next_of_open}
use Rattle.scan_history.specs.Readings.{Read}
use Rattle.scan_history.specs.Refusals as code
use Rattle.gsi_sched.specs.ClientActions.{awaited}
use Rattle.gsi_sched.specs.Running.{IsBuilt, IsWorking, indexes_of}
use Rattle.gsi_sched.specs.inner.Below.{Below}
use Rattle.gsi_sched.proofs.LiveIndexes.{is_it, is_own, found_is, among, each_among, each_numbered}
use Rattle.gsi_sched.proofs.FirstEvents.{by_option}
use Rattle.gsi_sched.proofs.CatchUps.{IsQuiet}

-- one of those of which it holds
pub holds_of_any : (P : ℕ → Type 0) (i : ℕ) (is : List ℕ) → AllByRecursion P is → list_any (λ j. i == j) is ≡ true → P i
holds_of_any P i [] all has = absurd (true≢false (sym has))
holds_of_any P i (j ∷ js) all has = elim (or_cases (i == j) (list_any (λ j. i == j) js) has) [
  | inl here ↦ subst P (sym (is_it i j here)) all.0
  | inr there ↦ holds_of_any P i js all.1 there
]

-- what holds of those that are among the numbers and pass
holds_of_passing : (test : ℕ → Bool) (P : ℕ → Type 0) (is : List ℕ) → ((i : ℕ) → list_any (λ j. i == j) is ≡ true → test i ≡ true → P i) → AllByRecursion P (filter test is)
holds_of_passing test P [] holds = tt
holds_of_passing test P (i ∷ is) holds =
    let rest = holds_of_passing test P is (λ j has. holds j (or_right (j == i) (list_any (λ k. j == k) is) has)) in
    cond_both (test i) (i ∷ filter test is) (filter test is) (AllByRecursion P)
    (λ passes. (holds i (or_left (i == i) (list_any (λ k. i == k) is) (is_own i)) passes, rest)) (λ fails. rest)

module _ (below : Below) (script : Script) where
  abbrev n : ℕ
  n = script.vbuckets

  -- ---- what an open command waits for works

  pub awaited_works : (waiting : Bool) (s : State) (o : Opened) → IsConsistent n s → AllByRecursion (IsBuilt s.live) (indexes_of o)
      → AllByRecursion (IsWorking s.live) (awaited waiting s o)
  awaited_works waiting s nothing holds built = tt
  awaited_works waiting s (work numbers since) holds built =
      each_among (λ index. list_any (λ i. index.number == i) numbers && not (covers (s.published index.number) since))
      (λ (x : Live). numbered x.number s.live ≡ Some x) (IsWorking s.live)
      (λ index found is.
      let parts = and_parts (list_any (λ i. index.number == i) numbers) (not (covers (s.published index.number) since)) is in
      (index, found, holds_of_any (IsBuilt s.live) index.number numbers built parts.0 index found))
      s.live (each_numbered 0 (length s.defs) s.live holds.live)
  awaited_works waiting s (started i demand since) holds built =
      each_among (λ index. index.number == i && (not (covers (s.published i) demand) && waiting))
      (λ (x : Live). numbered x.number s.live ≡ Some x) (IsWorking s.live)
      (λ index found is.
      let parts = and_parts (index.number == i) (not (covers (s.published i) demand) && waiting) is in
      (index, found, subst (IsBuilt s.live) (sym (is_it index.number i parts.0)) built.0 index found))
      s.live (each_numbered 0 (length s.defs) s.live holds.live)
  awaited_works waiting s (picked i at) holds built = tt

  -- ---- where it is caught up

  module _ (s t : State) (holds : IsConsistent n s) (quiet : IsQuiet s t) (waiting : Bool) where
    abbrev high : List ℕ
    high = high_of n s.log

    abbrev IsCaught : Opened → Type 0
    IsCaught o = (j : ℕ) → list_any (λ i. j == i) (awaited waiting s o) ≡ true → t.published j ≡ high

    -- what was covered still is
    still_covered : (v : List ℕ) (i : ℕ) → length v ≡ length high → IsCovered v (s.published i) → IsCovered v (t.published i)
    still_covered v i size is = below.transitive v (s.published i) (t.published i) (size ∙ sym (holds.published i).size) is (quiet.forth i)

    -- each live index that is built is published where the building began
    built_covered : (numbers since : List ℕ) → IsReached high since → IsCaught (work numbers since)
        → (i : ℕ) → list_any (λ j. i == j) numbers ≡ true → is_some (numbered i t.live) ≡ true → IsCovered since (t.published i)
    built_covered numbers since reached caught i has live = by (numbered i s.live) refl
      where
        by : (o : Option Live) → numbered i s.live ≡ o → IsCovered since (t.published i)
        by None gone = absurd (true≢false (sym live ∙ ap is_some (ap (numbered i) quiet.live ∙ gone)))
        by (Some index) found = elim (cases_Bool (covers (s.published i) since)) [
          | inl was ↦ still_covered since i reached.size ((below.tells (s.published i) since).0 was)
          | inr short ↦
              let own : index.number ≡ i = found_is i s.live index found in
              let so : Live → Bool = λ x. list_any (λ j. x.number == j) numbers && not (covers (s.published x.number) since) in
              let waited : (list_any (λ j. i == j) numbers && not (covers (s.published i) since)) ≡ true =
              and_from (list_any (λ j. i == j) numbers) (not (covers (s.published i) since)) has (not_from_false (covers (s.published i) since) short) in
              let is : so index ≡ true = subst (λ k. (list_any (λ j. k == j) numbers && not (covers (s.published k) since)) ≡ true) (sym own) waited in
              subst (IsCovered since) (sym (caught i (among so i s.live index found is))) reached.below
        ]

    -- a request that waits and isn't answered asked for more than there was when it began
    asked_for_more : (i : ℕ) (demand since : List ℕ) (index : Live) → numbered i s.live ≡ Some index → length demand ≡ length high → IsReached high since
        → IsCaught (started i demand since) → waiting ≡ true → covers (t.published i) demand ≡ false → ¬ IsCovered demand since
    asked_for_more i demand since index found size reached caught waited short covered =
        let so : Live → Bool = λ x. x.number == i && (not (covers (s.published i) demand) && waiting) in
        let own : (index.number == i) ≡ true = subst (λ k. (k == i) ≡ true) (sym (found_is i s.live index found)) (is_own i) in
        let not_yet : IsCovered demand (t.published i) → ⊥ = λ is. both_ways (covers (t.published i) demand) short ((below.tells (t.published i) demand).1 is) in
        let was_short : covers (s.published i) demand ≡ false =
        false_from_ne_true (covers (s.published i) demand) (λ yes. not_yet (still_covered demand i size ((below.tells (s.published i) demand).0 yes))) in
        let is : so index ≡ true =
        and_from (index.number == i) (not (covers (s.published i) demand) && waiting) own
        (and_from (not (covers (s.published i) demand)) waiting (not_from_false (covers (s.published i) demand) was_short) waited) in
        not_yet (subst (IsCovered demand) (sym (caught i (among so i s.live index found is)))
        (below.transitive demand since high (size ∙ sym reached.size) covered reached.below))

    -- ---- the next event, by what is open

    module _ (read : List ℕ → Read) (c : ℕ) (waits_so : waits (command_at script c (t.client c).next) ≡ waiting) where
      abbrev k : ℕ
      k = (t.client c).next

      abbrev Follows : Event → Type 0
      Follows e = MayFollow read script t e

      is_dropped : (o : Opened) → (t.client c).opened ≡ o → IsDropped t o → Follows (refuse c k code.dropped Plain)
      is_dropped o opened is = inr (refl, refl, (refl, subst (IsDropped t) (sym opened) is))

      ends_work : (numbers since : List ℕ) → (t.client c).opened ≡ work numbers since → AllByRecursion (λ i. IsCovered since (t.published i)) (live_among numbers t)
          → Follows (end_of_work c k (live_among numbers t))
      ends_work numbers since opened all = by (live_among numbers t) refl
        where
          by : (is : List ℕ) → live_among numbers t ≡ is → Follows (end_of_work c k is)
          by [] none = is_dropped (work numbers since) opened none
          by (i ∷ is) some =
              (refl, subst (MayGoOnline t (i ∷ is)) (sym opened) (sym some, (λ e. absurd cc), subst (AllByRecursion (λ j. IsCovered since (t.published j))) some all))

      is_live : (i : ℕ) (index : Live) (P : Live → Type 0) → numbered i t.live ≡ Some index → P index → MatchOption (numbered i t.live) ⊥ P
      is_live i index P found p = subst (λ (o : Option Live). MatchOption o ⊥ P) (sym found) p

      answers : (i : ℕ) (demand since : List ℕ) (index : Live) → (t.client c).opened ≡ started i demand since → numbered i t.live ≡ Some index
          → IsCovered demand (t.published i) → Follows (answered script c k (t.published i))
      answers i demand since index opened found covered =
          let may : MayAnswer t (t.published i) (t.client c).opened =
          subst (MayAnswer t (t.published i)) (sym opened) (is_live i index (λ x. (t.published i ≡ t.published i) × IsCovered demand (t.published i)) found (refl, covered)) in
          cond_both (is_covered_by_index (command_at script c k)) (answer c k (t.published i)) (pick c k (t.published i)) Follows
          (λ yes. ((refl, may), yes)) (λ no. ((refl, may), no))

      decides : (i : ℕ) (demand since : List ℕ) (index : Live) → (t.client c).opened ≡ started i demand since → numbered i t.live ≡ Some index
          → (waiting ≡ true → covers (t.published i) demand ≡ false → ¬ IsCovered demand since) → Follows (decided script c k demand (t.published i))
      decides i demand since index opened found more =
          cond_both (covers (t.published i) demand) (answered script c k (t.published i)) (not_yet c k (t.published i)) Follows
          (λ yes. answers i demand since index opened found ((below.tells (t.published i) demand).0 yes))
          (λ no.
          let uncovered : ¬ IsCovered demand (t.published i) = λ is. both_ways (covers (t.published i) demand) no ((below.tells (t.published i) demand).1 is) in
          let why : (waits (command_at script c k) ≡ false) ⊎ (¬ IsCovered demand since) =
          elim (cases_Bool waiting) [ inl waited ↦ inr (more waited no) | inr never ↦ inl (waits_so ∙ never) ] in (
            refl,
            subst (MayNotYet t (waits (command_at script c k)) (t.published i)) (sym opened)
                (is_live i index (λ x. (t.published i ≡ t.published i) × (¬ IsCovered demand (t.published i)) × ((waits (command_at script c k) ≡ false) ⊎ (¬ IsCovered demand since))) found
                (refl, uncovered, why)),
          ))

      asks : (i : ℕ) (demand since : List ℕ) → (t.client c).opened ≡ started i demand since → length demand ≡ length high → IsReached high since → IsCaught (started i demand since)
          → Follows (option_map_or (λ (index : Live). decided script c k demand (t.published i)) (numbered i t.live) (refuse c k code.dropped Plain))
      asks i demand since opened size reached caught =
          by_option Follows (λ (index : Live). decided script c k demand (t.published i)) (refuse c k code.dropped Plain) (numbered i t.live)
          (λ index found. decides i demand since index opened found
          (asked_for_more i demand since index (ap (numbered i) (sym quiet.live) ∙ found) size reached caught))
          (λ none. is_dropped (started i demand since) opened none)

      pub follows : (o : Opened) (e : Event) → (t.client c).opened ≡ o → IsOpenSince high (length s.defs) o
          → ((i : ℕ) (demand since : List ℕ) → o ≡ started i demand since → length demand ≡ length high) → IsCaught o
          → next_of_open read script t c o ≡ Some e → Follows e
      follows nothing e opened since size caught is = below.first read script t c e opened is
      follows (work numbers from) e opened since size caught is =
          subst Follows (same_Some (end_of_work c k (live_among numbers t)) e is)
          (ends_work numbers from opened (holds_of_passing (λ i. is_some (numbered i t.live)) (λ i. IsCovered from (t.published i)) numbers (built_covered numbers from since.1 caught)))
      follows (started i demand from) e opened since size caught is =
          subst Follows (same_Some _ e is) (asks i demand from opened (size i demand from refl) since.1 caught)
      follows (picked i at) e opened since size caught is =
          subst Follows (same_Some (fetch c k at (high_of n t.log)) e is) (refl, subst (MayFetch (high_of n t.log) at (high_of n t.log)) (sym opened) (refl, refl))
