use Rattle.std.proofs.Common.{◌≡◌, ◌^◌, ◌≤◌, drop}
use Rattle.n1ql_lex.specs.Numbers.{value_after, value_of}
use Rattle.n1ql_lex.proofs.number.value_of.Given as goal

abbrev pub invariant-loop-digit : goal.invariant-loop-digit
invariant-loop-digit l = (l.value ≤ 2 ^ 63) × (value_after l.value (drop l.digit-index l.digits) ≡ value_of l.digits)
