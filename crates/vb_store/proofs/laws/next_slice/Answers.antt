use Rattle.vb_store.proofs.Changes.{documents_at-slice}
use Rattle.vb_store.proofs.laws.next_slice.Goals as goal

pub returns : goal.returns
returns c = documents_at-slice
