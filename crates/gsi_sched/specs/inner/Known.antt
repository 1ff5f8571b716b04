-- What the laws promise of a machine, of one more event of its history, and of scans.
use Rattle.std.specs.Prelude.{◌≡◌, ℕ, List, [], ◌∷◌, ◌++◌}
use Rattle.std.specs.Arc.{arc_value}
use mathlib.Core.List.{IsPrefix}
use Rattle.n1ql_value.specs.declared.range.Range.{Range}
use Rattle.vb_store.specs.declared.mutation.Mutation.{Mutation}
use Rattle.vb_store.specs.Documents.{documents_at}
use Rattle.index_tree.specs.Range.{rows_within}
use Rattle.index_def.specs.Index.{scan_of}
use Rattle.index_snapshot.specs.declared.snapshot.Snapshot.{Snapshot}
use Rattle.index_snapshot.specs.Stands.{SnapshotStands}
use Rattle.scan_history.specs.declared.script.Script.{Script}
use Rattle.scan_history.specs.Answers.{answers_of}
use Rattle.scan_history.specs.Events.{Event}
use Rattle.scan_history.specs.Fold.{started, state_after}
use Rattle.scan_history.specs.Legal.{MayFollow, IsLegal}
use Rattle.scan_history.specs.Readings.{Read, AreRead}
use Rattle.scan_history.specs.Requests.{IsAsked}
use Rattle.gsi_sched.specs.inner.Below.{Below}
use Rattle.gsi_sched.specs.inner.Stood.{Stood}

pub record Known : Type 0 where
  pub below : Below
  pub stood : Stood
  pub some_read : (read : List ℕ → Read) × AreRead read
  pub legal_before : (script : Script) (events more : List Event) → IsLegal script (events ++ more) → IsLegal script events
  pub followed : (script : Script) (events : List Event) (e : Event) → IsLegal script (events ++ e ∷ [])
      → (read : List ℕ → Read) → AreRead read → MayFollow read script (state_after script.vbuckets events) e
  pub asked : (script : Script) (events : List Event) (c i : ℕ) (demand since : List ℕ) → IsLegal script events
      → ((state_after script.vbuckets events).client c).opened ≡ started i demand since
      → IsAsked script c ((state_after script.vbuckets events).client c) demand since
  pub answers_stay : (script : Script) (events more : List Event)
      → IsLegal script (events ++ more) → IsPrefix (answers_of script events) (answers_of script (events ++ more))
  pub scans : (n : ℕ) (log : List Mutation) (x : Snapshot) (spans : List (List Range))
      → SnapshotStands n log x → rows_within spans x.rows ≡ scan_of (arc_value x.def) spans (documents_at log (arc_value x.vector))
