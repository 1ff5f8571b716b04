use Rattle.std.proofs.lemmas.Str.Pattern.{contains_text}
use Rattle.n1ql_funcs.proofs.Occurrences.{occurs_as_found}
use Rattle.n1ql_funcs.proofs.calls.occurs.Goals as goal

pub returns : goal.returns
returns c = occurs_as_found c.contains.result c.args.text.now c.args.part.now (contains_text c.contains.result c.args.part.now c.args.text.now c.contains.ensures.cases)
