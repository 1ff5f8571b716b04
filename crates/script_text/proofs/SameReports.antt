-- Legal histories of one script with equal reports go on with the same event, again and again.
use Rattle.std.proofs.Common.{◌≡◌, ◌↔◌, ℕ, ◌+◌, ◌^◌, ◌<◌, ◌≤◌, zero, suc, List, [], ◌∷◌, ◌++◌, length, drop, Option, Some, None, refl, sym, ap, ap₂, ◌∙◌, subst, append_assoc, length-append, arith}
use Rattle.std.specs.Prelude.{⊤}
use Rattle.std.proofs.lemmas.List.{drop-drop}
use Rattle.std.proofs.Math.Seq.{drop-append_seam}
use mathlib.Core.List.{IsPrefix}
use Rattle.seq_vector.specs.Vectors.{entry}
use Rattle.vb_store.specs.declared.mutation.Mutation.{Mutation}
use Rattle.vb_store.specs.Mutations.{high_of}
use Rattle.scan_history.specs.declared.done.Answered.{Answered}
use Rattle.scan_history.specs.declared.done.End.{End}
use Rattle.scan_history.specs.declared.script.Script.{Script}
use Rattle.scan_history.specs.Answers.{answer_at, answers_from, answers_of}
use Rattle.scan_history.specs.Consistent.{IsConsistent}
use Rattle.scan_history.specs.Events.{Event, answer, fetch}
use Rattle.scan_history.specs.Fold.{State, started, first_state, step, state_after}
use Rattle.scan_history.specs.Legal.{MayFollow, IsLegal}
use Rattle.scan_history.specs.Marks.{mark_of}
use Rattle.scan_history.specs.Readings.{Read, AreRead}
use Rattle.scan_history.specs.Requests.{IsAsked}
use Rattle.scan_history.specs.Sound.{IsSound}
use Rattle.script_text.specs.Lines.{line_of}
use Rattle.script_text.specs.Reports.{LineMembers, Beside, event_members, event_lines, end_line, first_text, answers_taken, demands_after, demand_of, beside}
use Rattle.script_text.proofs.ReportMarks.{is_no_end, lines_tell}
use Rattle.script_text.proofs.SmallNumbers.{AreAsked, IsSpent, spent_next, fetches_not, told}

-- what the crates below promise of legal histories
pub record Known : Type 0 where
  pub marks : (read : List ℕ → Read) (script : Script) (s : State) (e other : Event) → mark_of e ≡ mark_of other → MayFollow read script s e → MayFollow read script s other → e ≡ other
  pub next_state : (n : ℕ) (events : List Event) (e : Event) → state_after n (events ++ e ∷ []) ≡ step n (state_after n events) e
  pub next_legal : (script : Script) (events : List Event) (e : Event) → IsLegal script (events ++ e ∷ [])
      ↔ (IsLegal script events × ((read : List ℕ → Read) → AreRead read → MayFollow read script (state_after script.vbuckets events) e))
  pub begins : (script : Script) (events more : List Event) → IsLegal script (events ++ more) → IsLegal script events
  pub consistent : (script : Script) (events : List Event) → IsLegal script events → IsConsistent script.vbuckets (state_after script.vbuckets events)
  pub asked : (script : Script) (events : List Event) (c i : ℕ) (demand since : List ℕ) → IsLegal script events
      → ((state_after script.vbuckets events).client c).opened ≡ started i demand since
      → IsAsked script c ((state_after script.vbuckets events).client c) demand since
  pub answers : (script : Script) (events more : List Event) → IsLegal script (events ++ more) → IsPrefix (answers_of script events) (answers_of script (events ++ more))
  pub few : (n : ℕ) (log : List Mutation) (vb : ℕ) → entry (high_of n log) vb ≤ length log
  pub size : (n : ℕ) (log : List Mutation) → length (high_of n log) ≡ n

-- behind the same beginning
behind_same : (p q u v : List ℕ) → p ≡ q → p ++ u ≡ q ++ v → u ≡ v
behind_same p q u v same e =
    sym (drop-append_seam p u) ∙ (ap (drop (length p)) (e ∙ ap (λ l. l ++ v) (sym same)) ∙ drop-append_seam p v)

-- a text among the first answers
first_among : (t : ℕ) (xs ys : List Answered) → t < length xs → first_text (drop t (xs ++ ys)) ≡ first_text (drop t xs)
first_among t [] ys lt = absurd (omega arith)
first_among zero (x ∷ xs) ys lt = refl
first_among (suc t) (x ∷ xs) ys lt = first_among t xs ys (omega arith)

-- only answers tell of rows
same_members : (demand : List ℕ) (rows others : Option (List ℕ)) (e : Event) → (answers_taken e ≡ 1 → rows ≡ others)
    → event_members (record { rows = rows; demand = demand }) e ≡ event_members (record { rows = others; demand = demand }) e
same_members demand rows others (answer c k at) same = ap (λ r. event_members (record { rows = r; demand = demand }) (answer c k at)) (same refl)
same_members demand rows others (fetch c k at fetched) same = ap (λ r. event_members (record { rows = r; demand = demand }) (fetch c k at fetched)) (same refl)
same_members demand rows others _ same = refl

abbrev IsNoFetch : Event → Type 0
IsNoFetch (fetch c k at fetched) = ⊥
IsNoFetch _ = ⊤

taken_one : (e : Event) → answers_taken e ≡ 1 → 0 < answers_taken e
taken_one e is = omega (arith, is)

module _ (script : Script) where
  taken : (log : List Mutation) (s : State) (e : Event) → IsNoFetch e → length (answer_at script log s e) ≡ answers_taken e
  taken log s (fetch c k at fetched) other = absurd other
  taken log s (answer c k at) other = refl
  taken log s _ other = refl

  answers_push : (log : List Mutation) (s : State) (events : List Event) (e : Event) → IsNoFetch e
      → length (answers_from script log s (events ++ e ∷ [])) ≡ length (answers_from script log s events) + answers_taken e
  answers_push log s [] e other = omega (arith, length-append (answer_at script log s e) [], taken log s e other)
  answers_push log s (x ∷ events) e other =
      let then : State = step script.vbuckets s x in
      omega (
        arith,
        length-append (answer_at script log s x) (answers_from script log then (events ++ e ∷ [])),
        length-append (answer_at script log s x) (answers_from script log then events),
        answers_push log then events e other,
      )

  -- so many answers are taken by events, whatever mutations come later
  abbrev pub IsTaken : List Event → ℕ → Type 0
  IsTaken events t = (log : List Mutation) → length (answers_from script log (first_state script.vbuckets) events) ≡ t

  taken_answers : (events : List Event) (t : ℕ) → IsTaken events t → length (answers_of script events) ≡ t
  unfolding answers_of
  taken_answers events t all = all (state_after script.vbuckets events).log

  abbrev state_of : List Event → State
  state_of events = state_after script.vbuckets events

  module _ (known : Known) (sound : IsSound script) (read : List ℕ → Read) (are : AreRead read) where
    -- events, and then one more
    behind : (P : List Event → Type 0) (events more : List Event) (e : Event) → P (events ++ e ∷ more) → P ((events ++ e ∷ []) ++ more)
    behind P events more e h = subst P (sym (append_assoc events (e ∷ []) more)) h

    legal_then : (events more : List Event) (e : Event) → IsLegal script (events ++ e ∷ more) → IsLegal script (events ++ e ∷ [])
    legal_then events more e legal = known.begins script (events ++ e ∷ []) more (behind (IsLegal script) events more e legal)

    may_then : (events more : List Event) (e : Event) → IsLegal script (events ++ e ∷ more) → MayFollow read script (state_of events) e
    may_then events more e legal = ((known.next_legal script events e).0 (legal_then events more e legal)).1 read are

    no_fetch : (events : List Event) (e : Event) → IsSpent script (state_of events) → MayFollow read script (state_of events) e → IsNoFetch e
    no_fetch events (fetch c k at fetched) spent may = fetches_not read script (state_of events) c k at fetched spent may
    no_fetch events _ spent may = tt

    spent_then : (events : List Event) (e : Event) → IsLegal script events → IsSpent script (state_of events) → MayFollow read script (state_of events) e
        → IsSpent script (state_of (events ++ e ∷ []))
    spent_then events e legal spent may =
        subst (IsSpent script) (sym (known.next_state script.vbuckets events e))
        (spent_next read script (state_of events) e (λ c i demand since is. known.asked script events c i demand since legal is) spent may)

    -- the text of the answer that an event takes, in a longer history
    answer_text : (events more : List Event) (e : Event) (t : ℕ) → IsTaken (events ++ e ∷ []) (t + answers_taken e) → IsLegal script (events ++ e ∷ more)
        → answers_taken e ≡ 1 → first_text (drop t (answers_of script (events ++ e ∷ more))) ≡ first_text (drop t (answers_of script (events ++ e ∷ [])))
    answer_text events more e t all legal one =
        let longer : IsPrefix (answers_of script (events ++ e ∷ [])) (answers_of script (events ++ e ∷ more)) =
        subst (λ es. IsPrefix (answers_of script (events ++ e ∷ [])) (answers_of script es)) (append_assoc events (e ∷ []) more)
        (known.answers script (events ++ e ∷ []) more (behind (IsLegal script) events more e legal)) in
        ap (λ xs. first_text (drop t xs)) (sym longer.1)
        ∙ first_among t (answers_of script (events ++ e ∷ [])) longer.0 (omega (arith, one, taken_answers (events ++ e ∷ []) (t + answers_taken e) all))

    -- the lines of events behind others, and the line at the end
    abbrev text_of : (ℕ → List ℕ) → (before events : List Event) → ℕ → List ℕ → List ℕ
    text_of demands before events t end = event_lines demands events (drop t (answers_of script (before ++ events))) ++ end

    abbrev rest_of : (ℕ → List ℕ) → (before : List Event) → Event → List Event → ℕ → List ℕ → List ℕ
    rest_of demands before e more t end =
        event_lines (demands_after demands e) more (drop (answers_taken e) (drop t (answers_of script (before ++ e ∷ more)))) ++ end

    abbrev line_then : (ℕ → List ℕ) → (before : List Event) → Event → List Event → ℕ → List ℕ
    line_then demands before e more t = line_of (event_members (beside demands (drop t (answers_of script (before ++ e ∷ more))) e) e)

    split : (demands : ℕ → List ℕ) (before : List Event) (e : Event) (more : List Event) (t : ℕ) (end : List ℕ)
        → text_of demands before (e ∷ more) t end ≡ line_then demands before e more t ++ rest_of demands before e more t end
    split demands before e more t end =
        append_assoc (line_then demands before e more t) (event_lines (demands_after demands e) more (drop (answers_taken e) (drop t (answers_of script (before ++ e ∷ more))))) end

    rest_is : (demands : ℕ → List ℕ) (before : List Event) (e : Event) (more : List Event) (t : ℕ) (end : List ℕ)
        → rest_of demands before e more t end ≡ text_of (demands_after demands e) (before ++ e ∷ []) more (t + answers_taken e) end
    rest_is demands before e more t end =
        ap (λ xs. event_lines (demands_after demands e) more xs ++ end)
        (drop-drop (answers_taken e) t (answers_of script (before ++ e ∷ more))
        ∙ ap (λ es. drop (t + answers_taken e) (answers_of script es)) (sym (append_assoc before (e ∷ []) more)))

    -- behind the line of an event in two histories the texts are equal too
    rests : (demands : ℕ → List ℕ) (before : List Event) (e : Event) (more others : List Event) (t : ℕ) (end final : List ℕ) → IsTaken (before ++ e ∷ []) (t + answers_taken e)
        → IsLegal script (before ++ e ∷ more) → IsLegal script (before ++ e ∷ others)
        → text_of demands before (e ∷ more) t end ≡ text_of demands before (e ∷ others) t final
        → text_of (demands_after demands e) (before ++ e ∷ []) more (t + answers_taken e) end ≡ text_of (demands_after demands e) (before ++ e ∷ []) others (t + answers_taken e) final
    rests demands before e more others t end final all legal too same =
        let rows : answers_taken e ≡ 1
        → first_text (drop t (answers_of script (before ++ e ∷ more))) ≡ first_text (drop t (answers_of script (before ++ e ∷ others))) =
        λ one. answer_text before more e t all legal one ∙ sym (answer_text before others e t all too one) in
        let line : line_then demands before e more t ≡ line_then demands before e others t =
        ap line_of (same_members (demand_of demands e) (first_text (drop t (answers_of script (before ++ e ∷ more)))) (first_text (drop t (answers_of script (before ++ e ∷ others)))) e rows) in
        sym (rest_is demands before e more t end)
        ∙ (behind_same (line_then demands before e more t) (line_then demands before e others t) (rest_of demands before e more t end) (rest_of demands before e others t final) line
        (sym (split demands before e more t end) ∙ (same ∙ split demands before e others t final))
        ∙ rest_is demands before e others t final)

    -- the first events are the same
    first_same : (demands : ℕ → List ℕ) (before : List Event) (e x : Event) (more others : List Event) (t : ℕ) (end final : List ℕ) → IsSpent script (state_of before)
        → IsLegal script (before ++ e ∷ more) → IsLegal script (before ++ x ∷ others)
        → text_of demands before (e ∷ more) t end ≡ text_of demands before (x ∷ others) t final → e ≡ x
    first_same demands before e x more others t end final spent legal too same =
        let s : State = state_of before in
        let may = may_then before more e legal in
        let might = may_then before others x too in
        let holds = known.consistent script before (known.begins script before (e ∷ more) legal) in
        let small = told read script s known.few known.size sound holds spent in
        let marks : mark_of e ≡ mark_of x =
        lines_tell script.vbuckets (beside demands (drop t (answers_of script (before ++ e ∷ more))) e) (beside demands (drop t (answers_of script (before ++ x ∷ others))) x) e x
        (rest_of demands before e more t end) (rest_of demands before x others t final) (omega (arith, sound.vbuckets.1)) (small e may) (small x might)
        (sym (split demands before e more t end) ∙ (same ∙ split demands before x others t final)) in
        known.marks read script s e x marks may might

    no_more : (demands : ℕ → List ℕ) (before : List Event) (e : Event) (more : List Event) (t : ℕ) (end : List ℕ) (count : ℕ) (high : List ℕ) (ends : List End)
        → text_of demands before (e ∷ more) t end ≡ end_line count high ends → ⊥
    no_more demands before e more t end count high ends same =
        is_no_end (beside demands (drop t (answers_of script (before ++ e ∷ more))) e) e (rest_of demands before e more t end) count high ends
        (sym (split demands before e more t end) ∙ same)

    pub same_events : (events others before : List Event) (t : ℕ) (demands : ℕ → List ℕ) (count : ℕ) (high : List ℕ) (ends : List End) (number : ℕ) (newest : List ℕ) (finals : List End)
        → IsSpent script (state_of before) → IsTaken before t → IsLegal script (before ++ events) → IsLegal script (before ++ others)
        → text_of demands before events t (end_line count high ends) ≡ text_of demands before others t (end_line number newest finals) → events ≡ others
    same_events [] [] before t demands count high ends number newest finals spent all legal too same = refl
    same_events [] (x ∷ others) before t demands count high ends number newest finals spent all legal too same =
        absurd (no_more demands before x others t (end_line number newest finals) count high ends (sym same))
    same_events (e ∷ events) [] before t demands count high ends number newest finals spent all legal too same =
        absurd (no_more demands before e events t (end_line count high ends) number newest finals same)
    same_events (e ∷ events) (x ∷ others) before t demands count high ends number newest finals spent all legal too same =
        let end : List ℕ = end_line count high ends in
        let final : List ℕ = end_line number newest finals in
        let first : e ≡ x = first_same demands before e x events others t end final spent legal too same in
        let alike = subst (λ y. IsLegal script (before ++ y ∷ others) × (text_of demands before (e ∷ events) t end ≡ text_of demands before (y ∷ others) t final)) (sym first) (too, same) in
        let may = may_then before events e legal in
        let counted : IsTaken (before ++ e ∷ []) (t + answers_taken e) =
        λ log. answers_push log (first_state script.vbuckets) before e (no_fetch before e spent may) ∙ ap (λ k. k + answers_taken e) (all log) in
        let rest : events ≡ others =
        same_events events others (before ++ e ∷ []) (t + answers_taken e) (demands_after demands e) count high ends number newest finals
        (spent_then before e (known.begins script before (e ∷ events) legal) spent may) counted
        (behind (IsLegal script) before events e legal) (behind (IsLegal script) before others e alike.0)
        (rests demands before e events others t end final counted legal alike.0 alike.1) in
        ap₂ ◌∷◌ first rest
