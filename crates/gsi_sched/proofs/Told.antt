-- The text of an answer.
use Rattle.std.proofs.Common.{◌≡◌, ℕ, List, [], ◌∷◌, ◌++◌, Some, refl, sym, ap, ◌∙◌, subst}
use Rattle.std.specs.Arc.{arc_value}
use Rattle.index_tree.specs.Range.{rows_within}
use Rattle.vb_store.specs.Documents.{documents_at}
use Rattle.index_snapshot.specs.declared.snapshot.Snapshot.{Snapshot}
use Rattle.index_snapshot.specs.Stands.{SnapshotStands}
use Rattle.scan_history.specs.declared.done.Answered.{Answered}
use Rattle.scan_history.specs.declared.script.Script.{Script}
use Rattle.scan_history.specs.Answers.{spans_of, scan_under, started_definition, answer_at, answers_of}
use Rattle.scan_history.specs.Events.{Event, answer}
use Rattle.scan_history.specs.First.{command_at}
use Rattle.scan_history.specs.Fold.{State, state_after}
use Rattle.scan_history.specs.RowTexts.{rows_text}
use Rattle.gsi_sched.specs.Machine.{Machine, now_in}
use Rattle.gsi_sched.specs.declared.machine.RunningMachine.{RunningMachine}
use Rattle.gsi_sched.specs.inner.ClientTurns.{IsSnapshotFor, IsUntoldFrom, IsTold, IsScanAt, EndsInAnswer}
use Rattle.gsi_sched.specs.inner.Known.{Known}
use Rattle.gsi_sched.proofs.Answers.{answers_more}
use Rattle.gsi_sched.proofs.Followed.{IsQuietEvent, keeps_after}

-- lists that end alike
pub same_ends : {A : Type 0} (xs ys : List A) (x y : A) → xs ++ x ∷ [] ≡ ys ++ y ∷ [] → (xs ≡ ys) × (x ≡ y)
same_ends [] [] x y is = (refl, cc)
same_ends [] (b ∷ []) x y is = absurd cc
same_ends [] (b ∷ c ∷ ys) x y is = absurd cc
same_ends (a ∷ []) [] x y is = absurd cc
same_ends (a ∷ c ∷ xs) [] x y is = absurd cc
same_ends (a ∷ xs) (b ∷ ys) x y is =
    let tail : xs ++ x ∷ [] ≡ ys ++ y ∷ [] = cc in
    let rest = same_ends xs ys x y tail in
    let head : a ≡ b = cc in
    (cc, rest.1)

-- the two newest answers are one
pub record IsSameAnswer (before other : List Event) (c k d l : ℕ) (at v : List ℕ) : Type 0 where
  pub events : before ≡ other
  pub client : c ≡ d
  pub place : k ≡ l
  pub vector : at ≡ v

pub same_answer : (before other : List Event) (c k d l : ℕ) (at v : List ℕ) → before ++ answer c k at ∷ [] ≡ other ++ answer d l v ∷ [] → IsSameAnswer before other c k d l at v
same_answer before other c k d l at v is =
    let both = same_ends before other (answer c k at) (answer d l v) is in
    let last : answer c k at ≡ answer d l v = both.1 in
    record { events = both.0; client = cc; place = cc; vector = cc }

-- an answer changes neither mutations nor live indexes
pub answer_quiet : (c k : ℕ) (at : List ℕ) → IsQuietEvent (answer c k at)
answer_quiet c k at = record { log = λ log. refl; live = λ live. refl }

module _ (known : Known) (r : RunningMachine) (x : Snapshot) where
  abbrev script : Script
  script = r.hub.script

  abbrev n : ℕ
  n = script.vbuckets

  -- the answer that is missing, by that which the hub shows
  pub shows_scan : (c k : ℕ) → IsUntoldFrom x r → EndsInAnswer c k r.hub.events → IsScanAt (arc_value r.script) c k
  shows_scan c k untold ends =
      let u = untold.4 in
      let same = same_answer ends.0 untold.0.events c k untold.1 untold.2 ends.1 untold.3 (sym ends.2 ∙ u.events) in
      subst (λ (s : Script). IsScanAt s c k) (sym u.script)
      (subst (λ d. IsScanAt script d k) (sym same.client) (subst (λ l. IsScanAt script untold.1 l) (sym same.place) untold.6))

  -- the text is the answer's
  text_is : (m : Machine) (c k : ℕ) (at : List ℕ) → IsSnapshotFor n c at m x
      → rows_text (rows_within (spans_of (command_at script c k)) x.rows)
      ≡ rows_text (scan_under (started_definition (now_in n m) c) (spans_of (command_at script c k)) (documents_at (now_in n m).log at))
  text_is m c k at is =
      let spans = spans_of (command_at script c k) in
      let log = (now_in n m).log in
      ap rows_text
      (known.scans n log x spans is.stands
      ∙ ap (λ v. scan_under (Some (arc_value x.def)) spans (documents_at log v)) is.vector
      ∙ ap (λ def. scan_under def spans (documents_at log at)) (sym is.def))

  -- a snapshot for the answer that the hub shows
  snapshot_same : (m other : Machine) (c d k l : ℕ) (at v : List ℕ) → IsSameAnswer m.events other.events c k d l at v → IsSnapshotFor n d v other x → IsSnapshotFor n c at m x
  snapshot_same m other c d k l at v same is =
      let state : now_in n other ≡ now_in n m = ap (state_after n) (sym same.events) in
      let def : started_definition (now_in n m) d ≡ Some (arc_value x.def) = subst (λ (s : State). started_definition s d ≡ Some (arc_value x.def)) state is.def in
      record {
        def = subst (λ e. started_definition (now_in n m) e ≡ Some (arc_value x.def)) (sym same.client) def;
        vector = is.vector ∙ sym same.vector;
        stands = subst (λ (s : State). SnapshotStands n s.log x) state is.stands;
      }

  pub told : (c k : ℕ) (text : List ℕ) (answers : List Answered) → IsUntoldFrom x r → EndsInAnswer c k r.hub.events
      → text ≡ rows_text (rows_within (spans_of (command_at (arc_value r.script) c k)) x.rows)
      → (let one : Answered = record { c = c; k = k; text = Some text } in answers ≡ r.answers ++ one ∷ [])
      → IsTold r (record r { answers = answers })
  told c k text answers untold ends is added = record {
    script = refl;
    follows = λ m d l at missing.
        let e : Event = answer d l at in
        let shown = same_answer ends.0 m.events c k d l ends.1 at (sym ends.2 ∙ missing.events) in
        let given = same_answer m.events untold.0.events d l untold.1 untold.2 at untold.3 (sym missing.events ∙ untold.4.events) in
        let for_it = snapshot_same m untold.0 d untold.1 l untold.2 at untold.3 given untold.5 in
        let kept = keeps_after n m e r known.below.one_more (answer_quiet d l at) missing.keeps in
        let spans_same : spans_of (command_at (arc_value r.script) c k) ≡ spans_of (command_at script d l) =
        ap (λ (s : Script). spans_of (command_at s c k)) missing.script ∙ ap (λ j. spans_of (command_at script j k)) shown.client ∙ ap (λ j. spans_of (command_at script d j)) shown.place in
        let text_same : text ≡ rows_text (scan_under (started_definition (now_in n m) d) (spans_of (command_at script d l)) (documents_at (now_in n m).log at)) =
        is ∙ ap (λ spans. rows_text (rows_within spans x.rows)) spans_same ∙ text_is m d l at for_it in
        let one : ℕ → ℕ → List ℕ → Answered = λ c k text. record { c = c; k = k; text = Some text } in
        let one_same : one c k text ∷ [] ≡ answer_at script (now_in n m).log (now_in n m) e =
        ap (λ j. one j k text ∷ []) shown.client ∙ ap (λ j. one d j text ∷ []) shown.place ∙ ap (λ t. one d l t ∷ []) text_same in
        record {
          sound = missing.sound;
          script = missing.script;
          runs = missing.runs_on;
          events = missing.events;
          keeps = record { maint = kept.maint; initial = kept.initial; slots = kept.slots; places = kept.places };
          answers =
              added ∙ ap (λ old. old ++ one c k text ∷ []) missing.answers ∙ ap (λ new. answers_of script m.events ++ new) one_same
              ∙ sym (answers_more script known.answers_stay m.events e missing.runs_on.legal) ∙ ap (answers_of script) (sym missing.events);
        };
  }
