use Rattle.std.proofs.Common.{◌≡◌, drop}
use Rattle.std.specs.List.{list_all}
use Rattle.n1ql_spans.specs.Covering.{is_covered, plain_keys}
use Rattle.n1ql_spans.proofs.statement.cover_unnests.Given as goal

abbrev pub invariant-loop-unnest : goal.invariant-loop-unnest
invariant-loop-unnest l = list_all (λ u. is_covered (plain_keys l.keys) u.over) (drop l.unnest-index l.unnests) ≡ list_all (λ u. is_covered (plain_keys l.keys) u.over) l.unnests
