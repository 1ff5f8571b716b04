use Rattle.index_def.specs.Keys.{keys_of}
use Rattle.vb_store.specs.Documents.{documents_at}
use Rattle.index_snapshot.proofs.laws.rows_are_the_index.Goals as goal

pub returns : goal.returns
returns c n log w stands = c.rows_are_the_index.ensures (keys_of w.def) (documents_at log w.taken.at) w.held stands.rows
