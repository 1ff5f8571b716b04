use Rattle.std.proofs.Common.{◌≡◌, [], ◌∷◌, ◌++◌, map}
use Rattle.n1ql_value.specs.Datum.{datum_of}
use Rattle.key_eval.proofs.tuples.add_to_copies.Given as goal

abbrev pub invariant-loop-value : goal.invariant-loop-value
invariant-loop-value l = l.made.items ≡ l.fn.made.items ++ map (λ d. l.tuple ++ d ∷ []) (map datum_of l.yielded)
