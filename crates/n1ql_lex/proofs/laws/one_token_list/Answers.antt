use Rattle.n1ql_lex.proofs.OneCut.{tokens-same}
use Rattle.n1ql_lex.proofs.laws.one_token_list.Goals as goal

pub returns : goal.returns
returns c = tokens-same
