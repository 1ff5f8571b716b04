use Rattle.std.proofs.Common.{arith}
use Rattle.n1ql_value.specs.Datum.{datum_of}
use Rattle.n1ql_value.proofs.Keys.{span_more}
use Rattle.n1ql_value.proofs.span.ListOf+Range.holds.Goals as goal

-- this range holds its key, so the rest decides
pub loop-place-preserved : goal.loop-place-preserved
loop-place-preserved c =
    span_more c.as_slice-range-items.result.now c.args.row.now.keys c.loop-place.place c.range-item.result (datum_of c.get_or.result.now) c.holds.result _
    (omega arith) c.range-item.is c.get_or.ensures c.holds.ensures c.if-not-holds.false c.loop-place.invariant
