use Rattle.std.proofs.Common.{◌∙◌}
use Rattle.n1ql_parse.specs.Input.{classes_of}
use Rattle.n1ql_parse.proofs.Texts.{expr-given}
use Rattle.n1ql_parse.proofs.expressions.unresolved_of.Goals as goal

pub returns-clause-read : goal.returns-clause-read
returns-clause-read c =
    (expr-given c.as_slice.result.now (classes_of c.args.tokens.now) c.parsed_whole.result (c.as_slice.ensures ∙ c.in_ok-classes.ensures) c.parsed_whole.ensures).0

pub returns-clause-stop : goal.returns-clause-stop
returns-clause-stop c =
    (expr-given c.as_slice.result.now (classes_of c.args.tokens.now) c.parsed_whole.result (c.as_slice.ensures ∙ c.in_ok-classes.ensures) c.parsed_whole.ensures).1
