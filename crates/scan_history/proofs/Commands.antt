-- A client's commands come in order, and what is open is one of them.
use Rattle.std.proofs.Common.{◌≡◌, ◌≢◌, ℕ, ◌+◌, ◌<◌, true, List, [], ◌∷◌, length, refl, subst, inl, inr, arith}
use Rattle.std.proofs.lemmas.Bool.{cond_both}
use Rattle.std.proofs.lemmas.Option.{slice_get_within}
use Rattle.vb_store.specs.Mutations.{high_of}
use Rattle.scan_history.specs.declared.script.Script.{Script}
use Rattle.scan_history.specs.Events.{Event, mutate, define, build, online, publish, removed, start, answer, pick, fetch, not_yet, refuse}
use Rattle.scan_history.specs.Fold.{Opened, nothing, Client, State, own_step, is_of, step, state_from}
use Rattle.scan_history.specs.Readings.{Read}
use Rattle.scan_history.specs.First.{commands_of, command_at}
use Rattle.scan_history.specs.Legal.{IsFirst, MayGoOnline, MayAnswer, MayFetch, MayNotYet, IsDropped, MayFollow, IsLegalFrom, waits}
use Rattle.scan_history.specs.Consistent.{IsConsistent}
use Rattle.scan_history.specs.Requests.{IsWithinCommands}
use Rattle.scan_history.specs.inner.Known.{Known}
use Rattle.scan_history.proofs.Consistency.{of_one, fits, consistent_next}

-- what holds of something that is open holds of no client that does nothing
is_open : (Holds : Opened → Type 0) → (Holds nothing → ⊥) → (o : Opened) → Holds o → o ≢ nothing
is_open Holds never o h e = never (subst Holds e h)

closes : (commands : ℕ) (part : Client) → part.next < commands → part.opened ≡ nothing → IsWithinCommands commands (record part { next = part.next + 1 })
closes commands part there idle = record { closed = omega (arith, there); opened = λ busy. absurd (busy idle) }

opens : (commands : ℕ) (part : Client) → part.next < commands → IsWithinCommands commands part
opens commands part there = record { closed = omega (arith, there); opened = λ busy. there }

module _ (known : Known) (read : List ℕ → Read) (script : Script) where
  abbrev count : ℕ → ℕ
  count c = length (commands_of script c)

  -- the client of an event that may follow has a next command
  abbrev HasNext : State → ℕ → Type 0
  HasNext s c = (s.client c).next < count c

  module _ (s : State) (holds : IsConsistent script.vbuckets s) (within : (c : ℕ) → IsWithinCommands (count c) (s.client c)) where
    first : (d : ℕ) (e : Event) → IsFirst read script s d e → HasNext s d
    first d e is = slice_get_within (commands_of script d) (s.client d).next _ (fits known read script s holds d e is).1

    was_open : (d : ℕ) (Holds : Opened → Type 0) → (Holds nothing → ⊥) → Holds (s.client d).opened → HasNext s d
    was_open d Holds never h = (within d).opened (is_open Holds never (s.client d).opened h)

    has_next : (e : Event) (c : ℕ) → is_of c e ≡ true → MayFollow read script s e → HasNext s c
    has_next (mutate d k what) c of may = subst (HasNext s) (of_one c d of) (first d (mutate d k what) may)
    has_next (define d k i deferred def) c of may = subst (HasNext s) (of_one c d of) (first d (define d k i deferred def) may)
    has_next (build d k indexes) c of may = subst (HasNext s) (of_one c d of) (first d (build d k indexes) may)
    has_next (removed d k i) c of may = subst (HasNext s) (of_one c d of) (first d (removed d k i) may)
    has_next (start d k i demand) c of may = subst (HasNext s) (of_one c d of) (first d (start d k i demand) may)
    has_next (publish i at) c of may = absurd cc
    has_next (online d k indexes) c of may = subst (HasNext s) (of_one c d of) (was_open d (MayGoOnline s indexes) (λ h. h) may.1)
    has_next (answer d k at) c of may = subst (HasNext s) (of_one c d of) (was_open d (MayAnswer s at) (λ h. h) may.0.1)
    has_next (pick d k at) c of may = subst (HasNext s) (of_one c d of) (was_open d (MayAnswer s at) (λ h. h) may.0.1)
    has_next (fetch d k at fetched) c of may = subst (HasNext s) (of_one c d of) (was_open d (MayFetch (high_of script.vbuckets s.log) at fetched) (λ h. h) may.1)
    has_next (not_yet d k have) c of may = subst (HasNext s) (of_one c d of) (was_open d (MayNotYet s (waits (command_at script d k)) have) (λ h. h) may.1)
    has_next (refuse d k number why) c of may =
        subst (HasNext s) (of_one c d of) (elim may [
          | inl is ↦ first d (refuse d k number why) is
          | inr was ↦ was_open d (IsDropped s) (λ h. h) was.2.1
        ])

    own : (e : Event) (c : ℕ) → is_of c e ≡ true → HasNext s c → IsWithinCommands (count c) (own_step (high_of script.vbuckets s.log) (s.client c) e)
    own (define d k i deferred def) c of there =
        cond_both deferred _ _ (IsWithinCommands (count c)) (λ yes. closes (count c) (record (s.client c) { opened = nothing }) there refl) (λ no. opens (count c) _ there)
    own (build d k indexes) c of there = opens (count c) _ there
    own (start d k i demand) c of there = opens (count c) _ there
    own (pick d k at) c of there = opens (count c) _ there
    own (publish i at) c of there = absurd cc
    own _ c of there = record { closed = omega (arith, there); opened = λ busy. absurd (busy refl) }

    within_next : (e : Event) → MayFollow read script s e → (c : ℕ) → IsWithinCommands (count c) ((step script.vbuckets s e).client c)
    within_next e may c =
        cond_both (is_of c e) (own_step (high_of script.vbuckets s.log) (s.client c) e) (s.client c) (IsWithinCommands (count c))
        (λ of. own e c of (has_next e c of may)) (λ other. within c)

  pub within_from : (s : State) (events : List Event) → IsConsistent script.vbuckets s → ((c : ℕ) → IsWithinCommands (count c) (s.client c)) → IsLegalFrom read script s events
      → (c : ℕ) → IsWithinCommands (count c) ((state_from script.vbuckets s events).client c)
  within_from s [] holds within legal = within
  within_from s (e ∷ es) holds within legal =
      within_from (step script.vbuckets s e) es (consistent_next known read script s holds e legal.0) (within_next s holds within e legal.0) legal.1
