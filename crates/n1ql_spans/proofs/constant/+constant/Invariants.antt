use Rattle.std.proofs.Common.{◌≡◌, drop, map}
use Rattle.n1ql_ast.specs.Bindings.{is_constant}
use Rattle.n1ql_ast.specs.Forms.{all_hold}
use Rattle.n1ql_spans.proofs.constant.+constant.Given as goal

abbrev pub invariant-are_constant-loop-x : goal.invariant-are_constant-loop-x
invariant-are_constant-loop-x l = all_hold (map is_constant (drop l.x-index l.xs)) ≡ all_hold (map is_constant l.xs)
