use Rattle.n1ql_parse.proofs.OneAnswer.{text-or-fault, text-never-fault, expressions}
use Rattle.n1ql_parse.proofs.laws.reading_or_fault.Goals as goal

pub returns-clause-either : goal.returns-clause-either
returns-clause-either c = λ text alias. text-or-fault (expressions alias) c.tokens_or_fault.ensures.either text

pub returns-clause-never_both : goal.returns-clause-never_both
returns-clause-never_both c = λ text alias e at. text-never-fault (expressions alias) c.one_token_list.ensures c.tokens_or_fault.ensures.never_both text e at
