use Rattle.std.proofs.Common.{◌≡◌, drop, map}
use Rattle.n1ql_ast.specs.Forms.{all_hold}
use Rattle.n1ql_spans.specs.Covering.{is_covered, plain_keys}
use Rattle.n1ql_spans.proofs.covering.+covering.Given as goal

abbrev pub invariant-are_covered-loop-x : goal.invariant-are_covered-loop-x
invariant-are_covered-loop-x l = all_hold (map (is_covered (plain_keys l.keys)) (drop l.x-index l.xs)) ≡ all_hold (map (is_covered (plain_keys l.keys)) l.xs)
