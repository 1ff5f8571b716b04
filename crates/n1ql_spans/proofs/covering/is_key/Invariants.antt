use Rattle.std.proofs.Common.{◌≡◌, drop}
use Rattle.std.specs.List.{list_any}
use Rattle.n1ql_spans.specs.inner.ReadWhole.{is_plain}
use Rattle.n1ql_spans.proofs.covering.is_key.Given as goal

abbrev pub invariant-loop-key : goal.invariant-loop-key
invariant-loop-key l = list_any (is_plain l.e) (drop l.key-index l.keys) ≡ list_any (is_plain l.e) l.keys
