use Rattle.std.proofs.Common.{◌∙◌}
use Rattle.n1ql_parse.specs.Input.{classes_of}
use Rattle.n1ql_parse.proofs.Texts.{select-given}
use Rattle.n1ql_parse.proofs.queries.unresolved_of.Goals as goal

pub returns-clause-read : goal.returns-clause-read
returns-clause-read c =
    (select-given c.as_slice.result.now (classes_of c.args.tokens.now) c.whole_select.result (c.as_slice.ensures ∙ c.in_ok-classes.ensures) c.whole_select.ensures).0

pub returns-clause-stop : goal.returns-clause-stop
returns-clause-stop c =
    (select-given c.as_slice.result.now (classes_of c.args.tokens.now) c.whole_select.result (c.as_slice.ensures ∙ c.in_ok-classes.ensures) c.whole_select.ensures).1
