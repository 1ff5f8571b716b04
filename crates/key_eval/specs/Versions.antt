-- What becomes of a mutation in an index.
use Rattle.vb_store.specs.declared.mutation.Mutation.{Mutation}
use Rattle.index_def.specs.declared.definition.IndexDef.{IndexDef}
use Rattle.index_def.specs.Keys.{keys_of_body}
use Rattle.key_eval.specs.declared.key_version.KeyVersion.{KeyVersion}

-- the number and the id of a mutation, with the rows that its id has from then on
abbrev pub version_of : IndexDef → Mutation → KeyVersion
version_of def m = record { seqno = m.seqno; id = m.id; rows = keys_of_body def m.id m.body }
