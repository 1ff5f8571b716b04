use Rattle.n1ql_lex.proofs.Decided.{tokens-or-fault}
use Rattle.n1ql_lex.proofs.OneCut.{never-both}
use Rattle.n1ql_lex.proofs.laws.tokens_or_fault.Goals as goal

pub returns-clause-either : goal.returns-clause-either
returns-clause-either c = tokens-or-fault

pub returns-clause-never_both : goal.returns-clause-never_both
returns-clause-never_both c = never-both
