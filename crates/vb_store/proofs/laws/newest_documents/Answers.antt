use Rattle.vb_store.proofs.Changes.{documents_at-high}
use Rattle.vb_store.proofs.laws.newest_documents.Goals as goal

pub returns : goal.returns
returns c = documents_at-high
