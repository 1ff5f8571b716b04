use Rattle.std.proofs.Common.{ap, ◌∙◌, ◌<◌, length, arith}
use Rattle.n1ql_parse.specs.Faults.{place_of, too_many}
use Rattle.n1ql_parse.specs.Readings.{most_tokens}
use Rattle.n1ql_parse.proofs.tokens.text.few_tokens.Goals as goal

pub returns-in-Ok-clause-fault : goal.returns-in-Ok-clause-fault
returns-in-Ok-clause-fault c =
    let many : most_tokens < length c.in-Ok.tokens = omega arith in
    too_many c.in-Ok.ensures.read many (c.place_of.ensures ∙ ap (λ ts. place_of c.args.text.now ts most_tokens) c.as_slice.ensures)
