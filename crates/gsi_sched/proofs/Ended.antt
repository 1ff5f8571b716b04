-- How an index ended, and how many commands a client has.
use Rattle.std.proofs.Common.{◌≡◌, ℕ, zero, suc, ◌+◌, ◌≤◌, List, [], ◌∷◌, ◌++◌, length, map, take, slice_get, Option, Some, None, sym, ap, ◌∙◌, subst, length-append, arith}
use Rattle.std.specs.Arc.{arc_value}
use Rattle.std.specs.List.{flat_map}
use Rattle.std.specs.Option.{option_map_or}
use Rattle.std.proofs.lemmas.List.{map-append}
use Rattle.n1ql_value.specs.declared.state.State.{State as Stage}
use Rattle.index_def.specs.Index.{index_of}
use Rattle.vb_store.specs.Documents.{documents_at}
use Rattle.index_def.specs.LiveIndexes.{Live, numbered}
use Rattle.index_snapshot.specs.declared.snapshot.Snapshot.{Snapshot}
use Rattle.scan_history.specs.declared.command.Command.{Command}
use Rattle.scan_history.specs.declared.done.End.{End}
use Rattle.scan_history.specs.declared.script.Script.{Script}
use Rattle.scan_history.specs.Answers.{end_of}
use Rattle.scan_history.specs.Events.{Event}
use Rattle.scan_history.specs.Fold.{State, state_after}
use Rattle.scan_history.specs.Legal.{IsLegal}
use Rattle.scan_history.specs.Sound.{IsSound}
use Rattle.gsi_hub.specs.Commands.{IsRequest}
use Rattle.gsi_hub.specs.Snapshots.{IsNewest}
use Rattle.gsi_sched.specs.inner.Below.{Below}
use Rattle.gsi_sched.specs.inner.ClientTurns.{IsScanAt}
use Rattle.gsi_sched.proofs.Served.{each_there}
use Rattle.gsi_sched.proofs.LiveIndexes.{each_numbered}
use Rattle.gsi_sched.proofs.WholeSteps.{take_next}

-- ---- how an index ended

abbrev pub ended_as : ℕ → List ℕ → Stage → List ℕ → ℕ → End
ended_as i name state vector rows = record { i = i; name = name; state = state; vector = vector; rows = rows }

pub end_made : (n : ℕ) (s : State) (index : Live) (x : Snapshot) (i : ℕ) (name : List ℕ) (state : Stage) (vector : List ℕ) (rows : ℕ) → IsNewest n s index x
    → i ≡ index.number → name ≡ index.def.name → state ≡ index.state → vector ≡ arc_value x.vector → rows ≡ length x.rows → ended_as i name state vector rows ≡ end_of s index
end_made n s index x i name state vector rows is number named stage at count =
    let board : List ℕ = s.published index.number in
    let all : rows ≡ length (index_of index.def (documents_at s.log board)) =
    count ∙ ap length is.stands.rows ∙ ap (λ def. length (index_of def (documents_at s.log (arc_value x.vector)))) is.def
    ∙ ap (λ v. length (index_of index.def (documents_at s.log v))) is.vector in
    ap (λ j. ended_as j name state vector rows) number
    ∙ ap (λ text. ended_as index.number text state vector rows) named
    ∙ ap (λ st. ended_as index.number index.def.name st vector rows) stage
    ∙ ap (λ v. ended_as index.number index.def.name index.state v rows) (at ∙ is.vector)
    ∙ ap (λ k. ended_as index.number index.def.name index.state board k) all

pub ends_next : (s : State) (at : ℕ) (index : Live) (ends : List End) (end : End) → slice_get s.live at ≡ Some index → ends ≡ map (end_of s) (take at s.live) → end ≡ end_of s index
    → ends ++ end ∷ [] ≡ map (end_of s) (take (at + 1) s.live)
ends_next s at index ends end there so_far one =
    ap (λ es. es ++ end ∷ []) so_far ∙ ap (λ e. map (end_of s) (take at s.live) ++ e ∷ []) one
    ∙ sym (map-append (end_of s) (take at s.live) (index ∷ [])) ∙ ap (map (end_of s)) (sym (take_next s.live at index there))

-- the live index at a place is that of its number
pub found_at : (below : Below) (script : Script) (events : List Event) → IsLegal script events → (at : ℕ) (index : Live)
    → slice_get (state_after script.vbuckets events).live at ≡ Some index → numbered index.number (state_after script.vbuckets events).live ≡ Some index
found_at below script events legal at index there =
    let s = state_after script.vbuckets events in
    each_there (λ (x : Live). numbered x.number s.live ≡ Some x) s.live at index (each_numbered 0 (length s.defs) s.live (below.consistent script events legal).live) there

-- ---- how many commands a client has

within_all : {A : Type 0} (lists : List (List A)) (i : ℕ) (list : List A) → slice_get lists i ≡ Some list → length list ≤ length (flat_map (λ (xs : List A). xs) lists)
within_all [] i list is = absurd cc
within_all (xs ∷ lists) zero list is =
    let same : xs ≡ list = cc in
    omega (arith, length-append xs (flat_map (λ xs. xs) lists), ap length same)
within_all (xs ∷ lists) (suc i) list is =
    let rest = within_all lists i list is in
    omega (arith, length-append xs (flat_map (λ xs. xs) lists), rest)

pub commands_fit : (script : Script) → IsSound script → (c : ℕ) (commands : List Command) → slice_get script.commands c ≡ Some commands → length commands ≤ 65536
commands_fit script sound c commands there =
    let within = within_all script.commands c commands there in
    omega (arith, within, sound.lines)

-- ---- a command that is a scan

pub scan_has_client : (script : Script) (c k : ℕ) → slice_get script.commands c ≡ None → IsScanAt script c k → ⊥
scan_has_client script c k none scan = subst (λ (o : Option (List Command)). IsRequest (slice_get (option_map_or (λ (commands : List Command). commands) o []) k)) none scan
