use Rattle.std.proofs.Common.{◌≡◌, refl}
use Rattle.index_def.proofs.RowsOfDocument.{all_keys}
use Rattle.index_def.proofs.laws.rows_carry_their_id.Goals as goal

pub returns : goal.returns
returns c = λ def id doc. all_keys (λ row. row.id ≡ id) def id doc (λ tuple leads. refl)
