use Rattle.n1ql_json.proofs.Whole.{is_read_back}
use Rattle.n1ql_json.proofs.laws.what_is_written_is_read_back.Goals as goal

pub returns : goal.returns
returns c = is_read_back
