use Rattle.std.proofs.Common.{rules, tests, not}
use Rattle.std.proofs.lemmas.Iterator.{YieldsList-from_slice}
use Rattle.std.proofs.lemmas.Iterator.Search.{find_from_yields_List}
use Rattle.n1ql_value.specs.Kinds.{is_null}
use Rattle.n1ql_funcs.proofs.Chosen.{first_found}
use Rattle.n1ql_funcs.proofs.choice.first_not_null.Goals as goal

pub returns : goal.returns
returns c = first_found (λ v. not (is_null v)) c.find.result c.args.values.now (find_from_yields_List (λ v. not (is_null v)) _ _ c.find.result c.find.ensures.ran (YieldsList-from_slice c.args.values.now cc) (λ x b q k. search (rules, tests)))
