use Rattle.pipe_rows.proofs.Telling.{seen_more}
use Rattle.pipe_rows.proofs.distinct.is_new.Goals as goal

pub returns-clause-seen : goal.returns-clause-seen
returns-clause-seen c = λ v. seen_more c.order_of_values_is_total.ensures c.args.value.now c.in_ok-copy.field-0 v _ _ c.in_ok-copy.ensures (c.in_ok-insert.ensures.updates.0 v)
