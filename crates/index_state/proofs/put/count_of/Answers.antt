use Rattle.std.proofs.Common.{◌≡◌, ◌+◌, length, arith, rules}
use Rattle.index_state.proofs.PutLemmas.{count_in-more}
use Rattle.index_state.proofs.put.count_of.Goals as goal

pub loop-put-preserved : goal.loop-put-preserved
loop-put-preserved c =
    let summed : c.in_ok-count.count ≡ c.loop-put.count + length c.put-item.result.again = search rules in
    let more = count_in-more c.args.puts.now c.loop-put.put-index c.put-item.result c.loop-put-test.true c.put-item.is in
    let before = c.loop-put.invariant in
    omega arith
