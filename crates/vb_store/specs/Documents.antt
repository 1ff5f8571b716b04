-- The documents that stand at a vector.
use Rattle.std.specs.Prelude.{ℕ, List, Bool, Option, Some, None, nat_le}
use Rattle.std.specs.List.{filter, fold}
use Rattle.std.specs.FinMap as map
use Rattle.n1ql_value.specs.declared.value.Value.{Value}
use Rattle.n1ql_value.specs.Documents.{Documents}
use Rattle.seq_vector.specs.Vectors.{entry}
use Rattle.vb_store.specs.declared.mutation.Mutation.{Mutation}

-- the documents with this body under the id, or with none
abbrev pub with_body : Documents → List ℕ → Option Value → Documents
with_body docs id None = map.remove docs id
with_body docs id (Some doc) = map.insert docs id doc

-- the documents after one more mutation
abbrev pub with_mutation : Documents → Mutation → Documents
with_mutation docs m = with_body docs m.id m.body

-- the documents after some more mutations
abbrev pub with_mutations : Documents → List Mutation → Documents
with_mutations docs ms = fold with_mutation docs ms

-- whether the vector has come as far as the mutation
abbrev pub reaches : List ℕ → Mutation → Bool
reaches v m = nat_le m.seqno (entry v m.vb)

-- the documents at a vector: what the mutations leave that the vector reaches
unfoldable pub documents_at : List Mutation → List ℕ → Documents
documents_at log v = with_mutations map.empty (filter (reaches v) log)

-- the document that a mutation leaves under its id
abbrev pub body_of : Option Mutation → Option Value
body_of None = None
body_of (Some m) = m.body
