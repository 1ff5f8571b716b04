use Rattle.vb_store.proofs.Numbering.{numbered_push, high_of-push}
use Rattle.vb_store.proofs.Changes.{documents_at-push}
use Rattle.vb_store.proofs.laws.append_changes.Goals as goal

pub returns-clause-documents : goal.returns-clause-documents
returns-clause-documents c = documents_at-push

pub returns-clause-numbered : goal.returns-clause-numbered
returns-clause-numbered c = numbered_push

pub returns-clause-high : goal.returns-clause-high
returns-clause-high c = λ n log m next. high_of-push n log m next.number
