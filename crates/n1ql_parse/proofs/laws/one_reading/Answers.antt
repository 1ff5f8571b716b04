use Rattle.n1ql_parse.proofs.OneAnswer.{text-same, expressions}
use Rattle.n1ql_parse.proofs.laws.one_reading.Goals as goal

pub returns : goal.returns
returns c = λ text alias e other. text-same (expressions alias) c.one_token_list.ensures text e other
