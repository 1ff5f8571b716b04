-- A request that is answered, or not yet, in a legal history.
use Rattle.std.proofs.Common.{◌≡◌, ℕ, List, [], ◌∷◌, ◌++◌, length, Some, refl, sym, ap, ◌∙◌, subst}
use Rattle.std.specs.Prelude.{◌⊎◌, true, false, ◌≢◌}
use Rattle.seq_vector.specs.Vectors.{IsCovered, join}
use Rattle.vb_store.specs.Mutations.{high_of}
use Rattle.scan_coord.specs.Demands.{base_of, wanted_of}
use Rattle.index_def.specs.LiveIndexes.{Live, numbered}
use Rattle.scan_history.specs.declared.command.Command.TheVariants as command
use Rattle.scan_history.specs.declared.script.Script.{Script}
use Rattle.scan_history.specs.Events.{Event, mutate, define, build, online, publish, removed, start, answer, pick, fetch, not_yet, refuse}
use Rattle.scan_history.specs.Consistent.{IsConsistent}
use Rattle.scan_history.specs.First.{command_at, session_of}
use Rattle.scan_history.specs.Fold.{Opened, nothing, work, started, picked, State, first_state, state_from, state_after}
use Rattle.scan_history.specs.Legal.{MayAnswer, MayNotYet, MayFollow, IsLegalFrom, waits}
use Rattle.scan_history.specs.Readings.{Read}
use Rattle.scan_history.specs.Requests.{IsAsked}
use Rattle.scan_history.specs.Served.{IsScanSince, IsCoveredAnswer, IsShortOfDemand, IsFairTo}
use Rattle.scan_history.specs.Sound.{IsSound}
use Rattle.scan_history.specs.inner.Known.{Known}
use Rattle.scan_history.proofs.Consistency.{consistent_first, consistent_from}
use Rattle.scan_history.proofs.Lists.{if_some}
use Rattle.scan_history.proofs.Requests.{Asks, asks_from, within, base_size}
use Rattle.scan_history.proofs.Steps.{legal_parts}

-- what the join of two vectors is covered by covers both
pub record Joins : Type 0 where
  pub first : (v w : List ℕ) → length v ≡ length w → IsCovered v (join v w)
  pub second : (v w : List ℕ) → length v ≡ length w → IsCovered w (join v w)

module _ (known : Known) (joins : Joins) (read : List ℕ → Read) (script : Script) (s : State) (c k : ℕ) (sound : IsSound script)
    (holds : IsConsistent script.vbuckets s) (asks : Asks script c (s.client c) (s.client c).opened) (next : k ≡ (s.client c).next) where
  scan : (i : ℕ) (demand since : List ℕ) → (s.client c).opened ≡ started i demand since → (asked : IsAsked script c (s.client c) demand since)
      → IsScanSince script s c k i asked.ask since
  scan i demand since is asked =
      record {
        index = asked.index;
        spans = asked.spans;
        command = ap (command_at script c) next ∙ asked.command;
        opened = is ∙ ap (λ d. started i d since) asked.wants;
      }

  covered : (i : ℕ) (demand since at : List ℕ) → (s.client c).opened ≡ started i demand since → MayAnswer s at (started i demand since)
      → IsCoveredAnswer script s c k at
  covered i demand since at is may =
      let asked : IsAsked script c (s.client c) demand since = subst (Asks script c (s.client c)) is asks in
      let found = if_some (numbered i s.live) (λ (index : Live). (at ≡ s.published i) × IsCovered demand at) may in
      let base : List ℕ = base_of asked.ask.demand (session_of (s.client c)) since in
      let seen_size : length (s.client c).seen ≡ script.vbuckets = (holds.client c).seen.size ∙ known.high_size script.vbuckets s.log in
      let since_size : length since ≡ script.vbuckets = sym asked.seen.size ∙ seen_size in
      let base_is : length base ≡ script.vbuckets =
      base_size asked.ask.demand since (s.client c).seen (s.client c).wrote script.vbuckets since_size (asked.wrote.size ∙ since_size)
      (within script c (s.client c).next (command.Scan asked.index asked.spans asked.ask) sound asked.command).1 in
      let sizes : length (s.client c).seen ≡ length base = seen_size ∙ sym base_is in
      let all : IsCovered (join (s.client c).seen base) at = subst (λ d. IsCovered d at) asked.wants found.2.1 in
      let joined : length (join (s.client c).seen base) ≡ length (s.client c).seen = known.join_size (s.client c).seen base sizes in
      record {
        i = i;
        ask = asked.ask;
        since = since;
        scan = scan i demand since is asked;
        newest = found.2.0;
        asked = known.transitive base (join (s.client c).seen base) at (sym sizes ∙ sym joined) (joins.second (s.client c).seen base sizes) all;
        seen = known.transitive (s.client c).seen (join (s.client c).seen base) at (sym joined) (joins.first (s.client c).seen base sizes) all;
      }

  short : (i : ℕ) (demand since have : List ℕ) → (s.client c).opened ≡ started i demand since
      → MayNotYet s (waits (command_at script c k)) have (started i demand since) → IsShortOfDemand script s c k have
  short i demand since have is may =
      let asked : IsAsked script c (s.client c) demand since = subst (Asks script c (s.client c)) is asks in
      let found = if_some (numbered i s.live) (λ (index : Live). (have ≡ s.published i) × (¬ IsCovered demand have) × ((waits (command_at script c k) ≡ false) ⊎ (¬ IsCovered demand since))) may in
      record {
        i = i;
        ask = asked.ask;
        since = since;
        scan = scan i demand since is asked;
        newest = found.2.0;
        short = subst (λ d. ¬ IsCovered d have) asked.wants found.2.1;
      }

  pub answered : (at : List ℕ) (o : Opened) → (s.client c).opened ≡ o → MayAnswer s at o → IsCoveredAnswer script s c k at
  answered at nothing is may = absurd may
  answered at (work indexes high) is may = absurd may
  answered at (picked i v) is may = absurd may
  answered at (started i demand since) is may = covered i demand since at is may

  pub not_answered : (have : List ℕ) (o : Opened) → (s.client c).opened ≡ o → MayNotYet s (waits (command_at script c k)) have o → IsShortOfDemand script s c k have
  not_answered have nothing is may = absurd may
  not_answered have (work indexes high) is may = absurd may
  not_answered have (picked i v) is may = absurd may
  not_answered have (started i demand since) is may = short i demand since have is may

module _ (known : Known) (joins : Joins) (read : List ℕ → Read) (script : Script) (sound : IsSound script) where
  served : (s : State) (e : Event) → IsConsistent script.vbuckets s → ((c : ℕ) → Asks script c (s.client c) (s.client c).opened) → MayFollow read script s e
      → IsFairTo script s e
  served s (answer c k at) holds asks may = answered known joins read script s c k sound holds (asks c) may.0.0 at (s.client c).opened refl may.0.1
  served s (not_yet c k have) holds asks may = not_answered known joins read script s c k sound holds (asks c) may.0 have (s.client c).opened refl may.1
  served s (mutate c k what) holds asks may = tt
  served s (define c k i deferred def) holds asks may = tt
  served s (build c k indexes) holds asks may = tt
  served s (online c k indexes) holds asks may = tt
  served s (publish i at) holds asks may = tt
  served s (removed c k i) holds asks may = tt
  served s (start c k i demand) holds asks may = tt
  served s (pick c k at) holds asks may = tt
  served s (fetch c k at fetched) holds asks may = tt
  served s (refuse c k number why) holds asks may = tt

  pub served_in : (before after : List Event) (e : Event) → IsLegalFrom read script (first_state script.vbuckets) (before ++ e ∷ after)
      → IsFairTo script (state_after script.vbuckets before) e
  unfolding state_after
  served_in before after e legal =
      let first : State = first_state script.vbuckets in
      let none = consistent_first known script.vbuckets in
      let parts = legal_parts read script first before (e ∷ after) legal in
      served (state_from script.vbuckets first before) e (consistent_from known read script first before none parts.0)
      (λ c. asks_from known read script first before c none parts.0 tt) parts.1.0
