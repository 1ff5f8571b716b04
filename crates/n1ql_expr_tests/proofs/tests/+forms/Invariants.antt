use Rattle.std.proofs.Common.{◌≡◌, drop, map}
use Rattle.n1ql_ast.specs.Forms.{all_hold, is_well_formed}
use Rattle.n1ql_expr_tests.proofs.tests.+forms.Given as goal

abbrev pub invariant-all_formed-loop-e : goal.invariant-all_formed-loop-e
invariant-all_formed-loop-e l = all_hold (map is_well_formed (drop l.e-index l.exprs)) ≡ all_hold (map is_well_formed l.exprs)
