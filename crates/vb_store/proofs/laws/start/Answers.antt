use Rattle.vb_store.proofs.Changes.{documents_at-zeros}
use Rattle.vb_store.proofs.laws.start.Goals as goal

pub returns : goal.returns
returns c = documents_at-zeros
