use Rattle.std.proofs.Common.{◌≡◌, take, map}
use Rattle.n1ql_value.specs.declared.datum.Datum.TheVariants as datum
use Rattle.n1ql_value.specs.declared.text.Text.{Text as Bytes}
use Rattle.n1ql_value.specs.declared.value.Value.{Value}
use Rattle.n1ql_funcs.proofs.calls.names.Given as goal

abbrev pub invariant-loop-name : goal.invariant-loop-name
invariant-loop-name l = l.found ≡ map (λ (e : Bytes × Value). datum.Text e.0) (take l.name-index l.entries)
