use Rattle.std.proofs.Common.{[]}
use Rattle.vb_store.proofs.Numbering.{numbered_parts, slice_of-append}
use Rattle.vb_store.proofs.Changes.{documents_at-append}
use Rattle.vb_store.proofs.laws.growth.Goals as goal

pub returns-clause-documents : goal.returns-clause-documents
returns-clause-documents c = documents_at-append

pub returns-clause-slices : goal.returns-clause-slices
returns-clause-slices c = slice_of-append

pub returns-clause-front : goal.returns-clause-front
returns-clause-front c = λ n log more h. (numbered_parts n [] log more h).0
