use Rattle.std.proofs.Common.{◌≤◌, arith}
use Rattle.script_text.proofs.Bounds.{vbuckets-few, clients-few, workers-few}
use Rattle.script_text.proofs.reader.script.header.header_with.Goals as goal

pub overflow_cast-result : goal.overflow_cast-result
overflow_cast-result c =
    let few : c.count_at.result ≤ 1024 = rw c.count_at.ensures (vbuckets-few c.args.members.now c.requires) in omega arith

pub overflow_cast-result-2 : goal.overflow_cast-result-2
overflow_cast-result-2 c =
    let few : c.count_at-2.result ≤ 64 = rw c.count_at-2.ensures (clients-few c.args.members.now c.requires) in omega arith

pub overflow_cast-result-3 : goal.overflow_cast-result-3
overflow_cast-result-3 c =
    let few : c.count_at-3.result ≤ 16 = rw c.count_at-3.ensures (workers-few c.args.members.now c.requires) in omega arith
