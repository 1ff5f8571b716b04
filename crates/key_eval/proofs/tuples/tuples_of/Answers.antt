use Rattle.std.proofs.Common.{List, [], ◌∷◌, map, ap, ◌∙◌, arith}
use Rattle.std.specs.List.{fold}
use Rattle.std.proofs.lemmas.List.{take_all}
use Rattle.n1ql_value.specs.declared.datum.Datum.{Datum}
use Rattle.n1ql_value.specs.Datum.{datum_of}
use Rattle.n1ql_ast.specs.declared.key.Key.{Key}
use Rattle.n1ql_expr.specs.Scopes.{environment_of}
use Rattle.index_def.specs.Keys.{values_of}
use Rattle.key_eval.specs.Tuples.{extended}
use Rattle.key_eval.proofs.Growing.{grown_from_nothing}
use Rattle.key_eval.proofs.tuples.tuples_of.Goals as goal

pub returns : goal.returns
returns c =
    let gives : Key → List Datum = λ key. map datum_of (values_of key (environment_of c.args.scope.now)) in
    c.loop-key.invariant
    ∙ (ap (λ keys. fold extended ([] ∷ []) (map gives keys)) (take_all c.loop-key.key-index c.args.keys.now (omega arith))
    ∙ grown_from_nothing (map gives c.args.keys.now))
