use Rattle.std.proofs.Common.{rules, tests}
use Rattle.std.proofs.lemmas.Iterator.{YieldsList-from_slice}
use Rattle.std.proofs.lemmas.Iterator.Search.{find_from_yields_List}
use Rattle.n1ql_value.specs.Kinds.{is_valued}
use Rattle.n1ql_funcs.proofs.Chosen.{first_found}
use Rattle.n1ql_funcs.proofs.choice.first_valued.Goals as goal

pub returns : goal.returns
returns c = first_found is_valued c.find.result c.args.values.now (find_from_yields_List is_valued _ _ c.find.result c.find.ensures.ran (YieldsList-from_slice c.args.values.now cc) (λ x b q k. search (rules, tests)))
