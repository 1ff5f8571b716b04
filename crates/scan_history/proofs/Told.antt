-- The history that is told is legal and finished.
use Rattle.std.proofs.Common.{◌≡◌, ℕ, zero, suc, ◌<◌, ◌≤◌, false, length, List, [], ◌∷◌, Some, codes, refl, ap, ◌∙◌, inl, arith}
use Rattle.std.specs.Option.{option_map_or}
use Rattle.seq_vector.specs.Vectors.{fnv1a, IsCovered}
use Rattle.n1ql_ast.specs.declared.ddl.Ddl.TheVariants as ddl
use Rattle.scan_history.specs.declared.why.Why.TheVariants.{Because}
use Rattle.scan_history.proofs.StatementForm.{definition_on}
use Rattle.scan_history.specs.Events.{mutate, define, publish, online, start, not_yet, answer, refuse}
use Rattle.scan_history.specs.Fold.{nothing, State, first_state, state_from}
use Rattle.scan_history.specs.First.{commands_of, first_of_text}
use Rattle.scan_history.specs.Readings.{Read, reads}
use Rattle.scan_history.specs.Legal.{IsLegalFrom, IsFinished}
use Rattle.scan_history.specs.Refusals as code
use Rattle.scan_history.specs.Told.{told_doc, told_script, told_history}
use Rattle.scan_history.proofs.StatementReading.{create_on}
use Rattle.scan_history.proofs.StatementDefinition.{no_reason}

-- among one vBucket
covered : (a b : ℕ) → a ≤ b → IsCovered (a ∷ []) (b ∷ [])
covered a b le zero within = le
covered a b le (suc vb) within = absurd (omega arith)

uncovered : (a b : ℕ) → b < a → IsCovered (a ∷ []) (b ∷ []) → ⊥
uncovered a b lt covered = let le = covered 0 (omega arith) in omega (arith, le, lt)

-- the states before the definition and before the drop
abbrev defining : State
defining = state_from 1 (first_state 1) (mutate 0 0 (record { vb = 0; seqno = 1; id = codes "a"; body = Some (told_doc 1) }) ∷ [])

abbrev dropping : State
dropping = state_from 1 defining (
    define 0 1 0 false (definition_on 120) ∷ publish 0 (1 ∷ []) ∷ mutate 1 0 (record { vb = 0; seqno = 2; id = codes "b"; body = Some (told_doc 2) }) ∷ online 0 1 (0 ∷ [])
    ∷ start 1 1 0 (2 ∷ []) ∷ not_yet 1 1 (1 ∷ []) ∷ start 0 2 0 (0 ∷ []) ∷ answer 0 2 (1 ∷ []) ∷ [])

module _ (read : List ℕ → Read) (creates : read (codes "CREATE INDEX ix ON ks(x)") ≡ reads (ddl.Create (create_on 120))) (removes : read (codes "DROP INDEX ix ON ks") ≡ reads (ddl.Remove (codes "ks") (codes "ix"))) where
  pub legal : IsLegalFrom read told_script (first_state 1) told_history
  unfolding fnv1a
  legal = (
    (refl, refl),
    (
      (
        refl,
        ap (λ r. Some (first_of_text told_script defining 0 1 r)) creates
            ∙ ap (λ o. Some (option_map_or (λ reason. refuse 0 1 code.bad_definition (Because reason)) o (define 0 1 0 false (definition_on 120)))) (no_reason 120),
      ),
      (
        record { served = λ e. absurd cc; size = refl; forth = covered 0 1 (omega arith); reached = covered 1 1 (omega arith); other = λ e. absurd cc },
        (
          (refl, refl),
          (
            (refl, (refl, (λ e. absurd cc), (covered 1 1 (omega arith), tt))),
            (
              (refl, refl),
              (
                (refl, (refl, uncovered 2 1 (omega arith), inl refl)),
                (
                  (refl, refl),
                  (
                    ((refl, (refl, covered 0 1 (omega arith))), refl),
                    (
                      (refl, ap (λ r. Some (first_of_text told_script dropping 1 2 r)) removes),
                      (
                        inl (refl, refl),
                        tt,
                      ),
                    ),
                  ),
                ),
              ),
            ),
          ),
        ),
      ),
    ),
  )

closed : (c : ℕ) → c < 2 → ((state_from 1 (first_state 1) told_history).client c).opened ≡ nothing
closed zero within = refl
closed (suc zero) within = refl
closed (suc (suc c)) within = absurd (omega arith)

done : (c : ℕ) → c < 2 → ((state_from 1 (first_state 1) told_history).client c).next ≡ length (commands_of told_script c)
done zero within = refl
done (suc zero) within = refl
done (suc (suc c)) within = absurd (omega arith)

pub finished : IsFinished told_script (state_from 1 (first_state 1) told_history)
finished = record { closed = closed; done = done; published = tt }
