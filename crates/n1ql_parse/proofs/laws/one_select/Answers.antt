use Rattle.n1ql_parse.proofs.OneAnswer.{text-same, selects}
use Rattle.n1ql_parse.proofs.laws.one_select.Goals as goal

pub returns : goal.returns
returns c = text-same selects c.one_token_list.ensures
