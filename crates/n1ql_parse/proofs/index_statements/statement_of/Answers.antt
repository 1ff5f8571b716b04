use Rattle.std.proofs.Common.{◌∙◌}
use Rattle.n1ql_parse.specs.Input.{classes_of}
use Rattle.n1ql_parse.proofs.Texts.{statement-given}
use Rattle.n1ql_parse.proofs.index_statements.statement_of.Goals as goal

pub returns-clause-read : goal.returns-clause-read
returns-clause-read c =
    (statement-given c.as_slice.result.now (classes_of c.args.tokens.now) c.whole_statement.result (c.as_slice.ensures ∙ c.in_ok-classes.ensures) c.whole_statement.ensures).0

pub returns-clause-stop : goal.returns-clause-stop
returns-clause-stop c =
    (statement-given c.as_slice.result.now (classes_of c.args.tokens.now) c.whole_statement.result (c.as_slice.ensures ∙ c.in_ok-classes.ensures) c.whole_statement.ensures).1
