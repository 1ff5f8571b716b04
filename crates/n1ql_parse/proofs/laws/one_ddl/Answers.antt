use Rattle.n1ql_parse.proofs.OneAnswer.{text-same, statements}
use Rattle.n1ql_parse.proofs.laws.one_ddl.Goals as goal

pub returns : goal.returns
returns c = text-same statements c.one_token_list.ensures
