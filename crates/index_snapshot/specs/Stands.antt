-- What a worker and a snapshot stand for.
use Rattle.std.specs.Prelude.{◌≡◌, ℕ, List, length}
use Rattle.std.specs.Arc.{arc_value}
use Rattle.seq_vector.specs.Vectors.{IsCovered}
use Rattle.vb_store.specs.declared.mutation.Mutation.{Mutation}
use Rattle.vb_store.specs.Mutations.{IsNumbered, high_of}
use Rattle.vb_store.specs.Documents.{documents_at}
use Rattle.index_def.specs.Keys.{keys_of}
use Rattle.index_def.specs.Index.{index_of}
use Rattle.index_state.specs.Index.{HoldsKeys}
use Rattle.index_snapshot.specs.declared.snapshot.Snapshot.{Snapshot}
use Rattle.index_snapshot.specs.Workers.{Worker}

-- the mutations are numbered in n vBuckets, and have come as far as the vector
pub record IsReachedBy (n : ℕ) (log : List Mutation) (v : List ℕ) : Type 0 where
  pub numbered : IsNumbered n log
  pub size : length v ≡ n
  pub reached : IsCovered v (high_of n log)

-- each id holds the rows of its document at the worker's vector, and no other id holds any
pub record WorkerStands (n : ℕ) (log : List Mutation) (w : Worker) : Type 0 where
  pub at : IsReachedBy n log w.taken.at
  pub rows : HoldsKeys (keys_of w.def) (documents_at log w.taken.at) w.held

-- the rows are the index of the documents at the snapshot's vector
pub record SnapshotStands (n : ℕ) (log : List Mutation) (s : Snapshot) : Type 0 where
  pub at : IsReachedBy n log (arc_value s.vector)
  pub rows : s.rows ≡ index_of (arc_value s.def) (documents_at log (arc_value s.vector))
