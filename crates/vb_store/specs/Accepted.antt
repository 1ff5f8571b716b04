-- What contracts see of a store.
use Rattle.std.specs.Prelude.{ℕ, List}
use Rattle.vb_store.specs.declared.mutation.Mutation.{Mutation}

-- how many vBuckets there are, and the mutations in order of acceptance
pub record Accepted : Type 0 where
  pub vbuckets : ℕ
  pub log : List Mutation
