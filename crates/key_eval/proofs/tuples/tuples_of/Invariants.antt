use Rattle.std.proofs.Common.{◌≡◌, [], ◌∷◌, map, take}
use Rattle.std.specs.List.{fold}
use Rattle.n1ql_value.specs.Datum.{datum_of}
use Rattle.n1ql_expr.specs.Scopes.{environment_of}
use Rattle.index_def.specs.Keys.{values_of}
use Rattle.key_eval.specs.Tuples.{extended}
use Rattle.key_eval.proofs.tuples.tuples_of.Given as goal

abbrev pub invariant-loop-key : goal.invariant-loop-key
invariant-loop-key l = l.tuples.items ≡ fold extended ([] ∷ []) (map (λ key. map datum_of (values_of key (environment_of l.scope))) (take l.key-index l.keys))
