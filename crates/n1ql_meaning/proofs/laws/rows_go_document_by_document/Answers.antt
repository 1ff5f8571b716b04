use Rattle.n1ql_meaning.proofs.RowsByDocument.{by_document}
use Rattle.n1ql_meaning.proofs.laws.rows_go_document_by_document.Goals as goal

pub returns : goal.returns
returns c = by_document
