use Rattle.n1ql_parse.proofs.OneAnswer.{text-or-fault, text-never-fault, selects}
use Rattle.n1ql_parse.proofs.laws.select_or_fault.Goals as goal

pub returns-clause-either : goal.returns-clause-either
returns-clause-either c = text-or-fault selects c.tokens_or_fault.ensures.either

pub returns-clause-never_both : goal.returns-clause-never_both
returns-clause-never_both c = text-never-fault selects c.one_token_list.ensures c.tokens_or_fault.ensures.never_both
