use Rattle.std.proofs.Common.{not, sym, ap, ◌∙◌}
use Rattle.n1ql_value.specs.Datum.{value_of, value_of-datum_of}
use Rattle.n1ql_value.specs.Kinds.{is_missing}
use Rattle.key_eval.proofs.rows.has_leading.Goals as goal

pub returns : goal.returns
returns c = ap not (c.is_missing.ensures ∙ ap is_missing (sym (value_of-datum_of c.get_or.result.now) ∙ ap value_of c.get_or.ensures))
