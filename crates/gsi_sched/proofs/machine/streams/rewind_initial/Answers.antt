use Rattle.std.proofs.Common.{◌≡◌, ap, ◌∙◌}
use Rattle.dcp_stream.specs.Pieces.{back_to}
use Rattle.gsi_sched.proofs.StreamsLent.{put_initial, on_lent, written_back}
use Rattle.gsi_sched.proofs.machine.streams.rewind_initial.Goals as goal

pub returns : goal.returns
returns c =
    let p = c.in-Some.position in
    let old = c.args.streams.now in
    let m = c.rewind.new.self in
    let back = written_back c.init.result p _ c.in-Some.is c.init.ensures.value _ (c.init.follows.holds m) in
    on_lent c.init.result p _ c.in-Some.is c.init.ensures.value (λ x. c.init.follows.lender m ≡ put_initial c.args.i (back_to c.args.to.now x) old)
    (back ∙ ap (λ y. put_initial c.args.i y old) c.rewind.ensures.back)
