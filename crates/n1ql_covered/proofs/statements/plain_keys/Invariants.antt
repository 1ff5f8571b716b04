use Rattle.std.proofs.Common.{◌≡◌, ◌++◌, drop}
use Rattle.n1ql_spans.specs.Covering.{plain_keys}
use Rattle.n1ql_covered.proofs.statements.plain_keys.Given as goal

abbrev pub invariant-loop-key : goal.invariant-loop-key
invariant-loop-key l = plain_keys l.keys ≡ l.found ++ plain_keys (drop l.key-index l.keys)
