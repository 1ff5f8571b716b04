use Rattle.vb_store.proofs.Changes.{get-documents_at, get-documents_at-high}
use Rattle.vb_store.proofs.laws.last_mutation_counts.Goals as goal

pub returns-clause-at_vector : goal.returns-clause-at_vector
returns-clause-at_vector c = get-documents_at

pub returns-clause-at_high : goal.returns-clause-at_high
returns-clause-at_high c = get-documents_at-high
