use Rattle.std.proofs.Common.{◌≡◌, length, arith}
use Rattle.script_text.proofs.Vectors.{filled-none, filled-more, filled-length}
use Rattle.script_text.proofs.reader.values.full_vector.vector_of.Goals as goal

pub loop-vb-init : goal.loop-vb-init
loop-vb-init c = filled-none c.args.vbuckets c.args.entries.now c.in_ok-vector.vector c.in_ok-vector.ensures

pub loop-vb-preserved : goal.loop-vb-preserved
loop-vb-preserved c =
    filled-more c.args.vbuckets c.loop-vb.vb c.args.entries.now c.loop-vb.vector c.set.new.self c.entry_of.result
    (omega (arith, c.loop-vb-test.true)) c.loop-vb.invariant c.entry_of.ensures c.set.ensures

pub set-requires : goal.set-requires
set-requires c =
    let long : length c.loop-vb.vector ≡ c.args.vbuckets =
    filled-length c.args.vbuckets c.loop-vb.vb c.args.entries.now c.loop-vb.vector (omega (arith, c.loop-vb-test.true)) c.loop-vb.invariant in
    omega (arith, long, c.loop-vb-test.true)
