use Rattle.n1ql_lex.proofs.OneCut.{tokens-grow, tokens-blanks}
use Rattle.n1ql_lex.proofs.laws.spans_grow.Goals as goal

pub returns-clause-grow : goal.returns-clause-grow
returns-clause-grow c = tokens-grow

pub returns-clause-blanks : goal.returns-clause-blanks
returns-clause-blanks c = tokens-blanks
