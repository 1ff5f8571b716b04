use Rattle.std.proofs.Common.{◌≡◌, None, drop}
use Rattle.std.specs.Option.{option_copied, option_map}
use Rattle.n1ql_value.specs.Datum.{datum_of}
use Rattle.n1ql_value.specs.Collation.{value_cmp}
use Rattle.n1ql_funcs.proofs.Chosen.{onward}
use Rattle.n1ql_funcs.proofs.choice.least.Given as goal

abbrev pub invariant-loop-value : goal.invariant-loop-value
invariant-loop-value l = onward (λ d e. value_cmp e d) (option_map datum_of (option_copied l.found)) (drop l.value-index l.values) ≡ onward (λ d e. value_cmp e d) None l.values
