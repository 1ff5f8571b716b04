use Rattle.std.proofs.Common.{◌≡◌, ◌++◌, drop, map}
use Rattle.n1ql_value.specs.Datum.{datum_of}
use Rattle.query_run.specs.Texts.{list_text}
use Rattle.query_run.proofs.Texts.{rest_text}
use Rattle.query_run.proofs.list_text.text_within.Given as goal

abbrev pub invariant-loop-value : goal.invariant-loop-value
invariant-loop-value l = list_text (map datum_of l.values) ≡ l.text.items ++ rest_text l.later (drop l.value-index l.values)
