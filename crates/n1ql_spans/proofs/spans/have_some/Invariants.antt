use Rattle.std.proofs.Common.{◌≡◌, drop}
use Rattle.std.specs.List.{list_all}
use Rattle.n1ql_spans.specs.Spans.{has_some}
use Rattle.n1ql_spans.proofs.spans.have_some.Given as goal

abbrev pub invariant-loop-list : goal.invariant-loop-list
invariant-loop-list l = list_all has_some (drop l.list-index l.lists) ≡ list_all has_some l.lists
