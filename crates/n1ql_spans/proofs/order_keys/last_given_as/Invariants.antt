use Rattle.std.proofs.Common.{◌≡◌, take}
use Rattle.std.specs.Option.{option_copied}
use Rattle.n1ql_meaning.specs.OrderKeys.{last_given_as}
use Rattle.n1ql_spans.proofs.order_keys.last_given_as.Given as goal

abbrev pub invariant-loop-term : goal.invariant-loop-term
invariant-loop-term l = option_copied l.found ≡ last_given_as l.name (take l.term-index l.terms)
