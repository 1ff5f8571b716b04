use Rattle.n1ql_ast.specs.Selections.{FollowsSelect}
use Rattle.n1ql_parse.proofs.OneAnswer.{fault-same}
use Rattle.n1ql_parse.proofs.laws.one_select_fault.Goals as goal

pub returns : goal.returns
returns c = fault-same c.one_token_list.ensures c.one_fault.ensures c.tokens_or_fault.ensures.never_both FollowsSelect
