use Rattle.std.proofs.Common.{IsTrue}
use Rattle.index_def.specs.Keys.{has_leading}
use Rattle.index_def.proofs.RowsOfDocument.{all_keys}
use Rattle.index_def.proofs.laws.rows_have_a_leading_key.Goals as goal

pub returns : goal.returns
returns c = λ def id doc. all_keys (λ row. IsTrue (has_leading row.keys)) def id doc (λ tuple leads. leads)
