use Rattle.std.proofs.Common.{arith, OnErr, ◌∙◌, ◌+◌, ap, sym, subst}
use Rattle.std.proofs.lemmas.Result.{err_from_is_err_and}
use Rattle.gsi_main.specs.Writing.{WrotePart}
use Rattle.gsi_main.specs.Faults.{next_count}
use Rattle.gsi_main.proofs.Transfers.{Appends-more, rose_next}
use Rattle.gsi_main.proofs.writing.write_report.Goals as goal

pub pieces-preserved : goal.pieces-preserved
pieces-preserved g c = record {
  in_range = omega (arith, c.in_ok-done.ensures.within, c.split_at.ensures.back_len);
  appended = Appends-more _ _ _ c.pieces.done _ c.args.report.now _ c.split_at.ensures.back c.pieces.invariant.appended c.in_ok-done.ensures.bytes;
  kept = c.in_ok-done.ensures.cause.kept ∙ c.pieces.invariant.kept;
}

pub returns-in_err-done-clause-part : goal.returns-in_err-done-clause-part
returns-in_err-done-clause-part g c =
    let failed = err_from_is_err_and c.from_residual.result c.from_residual.ensures.1 in
    let more = c.in_err-done.ensures.bytes in
    subst (λ r. OnErr r (WrotePart (g.K.Sink.held c.args.sink.now) (g.K.Sink.held c.write.new.self) (g.K.Sink.faults c.args.sink.now) (g.K.Sink.faults c.write.new.self) c.args.report.now))
    (sym failed.1) (record {
      appended = (c.pieces.done + more.0, Appends-more _ _ _ c.pieces.done more.0 c.args.report.now _ c.split_at.ensures.back c.pieces.invariant.appended more.1);
      rose = rose_next _ _ (c.in_err-done.ensures.cause.failed ∙ ap next_count c.pieces.invariant.kept);
    })
