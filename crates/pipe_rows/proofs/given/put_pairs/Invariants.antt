use Rattle.std.proofs.Common.{◌≡◌, map, take}
use Rattle.std.specs.List.{fold}
use Rattle.n1ql_value.specs.Constructors.{with_given}
use Rattle.n1ql_value.specs.Datum.{pair_of}
use Rattle.pipe_rows.proofs.given.put_pairs.Given as goal

abbrev pub invariant-loop-pair : goal.invariant-loop-pair
invariant-loop-pair l = l.pairs ≡ fold with_given l.initial.pairs (map pair_of (take l.pair-index l.more))
