use Rattle.std.proofs.Common.{◌≡◌}
use Rattle.index_def.specs.Keys.{rows_of_tuples}
use Rattle.key_eval.proofs.rows.rows_of_tuples.Given as goal

abbrev pub invariant-loop-keys : goal.invariant-loop-keys
invariant-loop-keys l = l.rows.items ≡ rows_of_tuples l.yielded l.id
