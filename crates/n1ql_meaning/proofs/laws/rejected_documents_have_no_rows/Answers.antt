use Rattle.n1ql_meaning.proofs.RowsByDocument.{none_of_rejected}
use Rattle.n1ql_meaning.proofs.laws.rejected_documents_have_no_rows.Goals as goal

pub returns : goal.returns
returns c = none_of_rejected
