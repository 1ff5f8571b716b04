-- What a projected piece stands for.
use Rattle.std.specs.Prelude.{◌≡◌, ℕ, ◌-◌, ◌<◌, ◌≤◌, List, map}
use Rattle.seq_vector.specs.Vectors.{entry}
use Rattle.vb_store.specs.declared.mutation.Mutation.{Mutation}
use Rattle.vb_store.specs.Mutations.{IsNumbered, high_of, slice_of}
use Rattle.index_def.specs.declared.definition.IndexDef.{IndexDef}
use Rattle.key_eval.specs.declared.projected.Projected.{Projected}
use Rattle.key_eval.specs.Versions.{version_of}

-- it holds what becomes of the mutations of its vBucket with its numbers, in order, and these lie in what was accepted
pub record ProjectedStands (n : ℕ) (def : IndexDef) (log : List Mutation) (p : Projected) : Type 0 where
  pub numbered : IsNumbered n log
  pub vbucket : p.vb < n
  pub begins : 1 ≤ p.from
  pub some : p.from ≤ p.to
  pub last : p.to ≤ p.end
  pub reached : p.end ≤ entry (high_of n log) p.vb
  pub holds : p.versions ≡ map (version_of def) (slice_of log p.vb (p.from - 1) p.to)
