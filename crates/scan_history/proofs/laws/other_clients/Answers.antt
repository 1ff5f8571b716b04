use Rattle.std.proofs.Common.{◌≡◌, ◌↔◌, ℕ, ◌+◌, true, false, ◌==◌, List, [], ◌∷◌, Option, Some, None, option_map, refl, ap, ◌∙◌, arith}
use Rattle.std.proofs.lemmas.Bool.{cond-false}
use Rattle.std.proofs.lemmas.Bool.Decides.{nat_tests}
use Rattle.std.specs.List.{AllByRecursion}
use Rattle.std.specs.Option.{option_map_or}
use Rattle.vb_store.specs.Mutations.{high_of}
use Rattle.scan_history.specs.Events.{Event, client_of}
use Rattle.scan_history.specs.Fold.{State, step, is_of, own_step, state_from}
use Rattle.scan_history.proofs.Consistency.{of_one}
use Rattle.scan_history.proofs.laws.other_clients.Goals as goal

others : (n : ℕ) (s : State) (events : List Event) (c : ℕ) → AllByRecursion (λ e. is_of c e ≡ false) events → (state_from n s events).client c ≡ s.client c
others n s [] c h = refl
others n s (e ∷ es) c h =
    others n (step n s e) es c h.1 ∙ cond-false (is_of c e) (own_step (high_of n s.log) (s.client c) e) (s.client c) h.0

pub returns-clause-all : goal.returns-clause-all
returns-clause-all c = others

-- the client is this one exactly where the party is its
same_party : (client : Option ℕ) (c : ℕ) → (option_map_or (λ d. d == c) client false ≡ true) ↔ (option_map (λ d. d + 1) client ≡ Some (c + 1))
same_party None c = (λ is. absurd cc, λ is. absurd cc)
same_party (Some d) c = (
  λ is. ap (λ n. Some (n + 1)) (of_one c d is),
  λ is. let next : d + 1 ≡ c + 1 = cc in let same : d ≡ c = omega (arith, next) in grind (arith, nat_tests, same),
)

pub returns-clause-party : goal.returns-clause-party
returns-clause-party c e d = same_party (client_of e) d
