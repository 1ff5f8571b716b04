-- What the crates below promise of workers and pieces that stand for mutations.
use Rattle.std.specs.Prelude.{◌≡◌, ℕ, ◌+◌, ◌<◌, ◌≤◌, max, List, ◌++◌, length}
use Rattle.std.specs.FinMap as map
use Rattle.seq_vector.specs.Vectors.{entry, zeros}
use Rattle.vb_store.specs.declared.mutation.Mutation.{Mutation}
use Rattle.vb_store.specs.Mutations.{IsNumbered, high_of}
use Rattle.vb_store.specs.Documents.{documents_at}
use Rattle.index_def.specs.declared.definition.IndexDef.{IndexDef}
use Rattle.key_eval.specs.declared.projected.Projected.{Projected}
use Rattle.key_eval.specs.Stands.{ProjectedStands}
use Rattle.index_snapshot.specs.Workers.{Worker, delivered}
use Rattle.index_snapshot.specs.Stands.{WorkerStands}

pub record Stood : Type 0 where
  pub worker_grows : (n : ℕ) (log more : List Mutation) (w : Worker) → IsNumbered n (log ++ more) → WorkerStands n log w → WorkerStands n (log ++ more) w
  pub piece_grows : (n : ℕ) (def : IndexDef) (log more : List Mutation) (p : Projected) → IsNumbered n (log ++ more) → ProjectedStands n def log p → ProjectedStands n def (log ++ more) p
  pub delivery : (n : ℕ) (log : List Mutation) (w : Worker) (p : Projected) → WorkerStands n log w → ProjectedStands n w.def log p → WorkerStands n log (delivered p w)
  pub moves : (w : Worker) (p : Projected) → p.vb < length w.taken.at → p.from ≤ entry w.taken.at p.vb + 1
      → entry (delivered p w).taken.at p.vb ≡ max (entry w.taken.at p.vb) p.to
  pub stays : (w : Worker) (p : Projected) (vb : ℕ) → ¬ (vb ≡ p.vb) → entry (delivered p w).taken.at vb ≡ entry w.taken.at vb
  pub at_zero : (n k : ℕ) (log : List Mutation) → IsNumbered n log → documents_at log (zeros k) ≡ map.empty
  pub high_size : (n : ℕ) (log : List Mutation) → length (high_of n log) ≡ n
