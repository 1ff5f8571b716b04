use Rattle.vb_store.proofs.Changes.{documents_at-next}
use Rattle.vb_store.proofs.laws.next_mutation.Goals as goal

pub returns : goal.returns
returns c = documents_at-next
