use Rattle.std.proofs.Common.{◌-◌, ◌≤◌, arith}
use Rattle.seq_vector.specs.Vectors.{entry}
use Rattle.index_def.specs.Keys.{keys_of}
use Rattle.index_snapshot.proofs.Delivery.{stands_delivered}
use Rattle.index_snapshot.proofs.laws.a_delivery_keeps.Goals as goal

pub returns : goal.returns
returns c n log w p stands piece =
    let size = stands.at.size in
    let within = piece.vbucket in
    stands_delivered n log w p stands piece (c.a_document_comes.ensures (keys_of w.def)) (c.a_document_goes.ensures (keys_of w.def))
    (λ le. c.next_slice.ensures n log w.taken.at p.vb p.to stands.at.numbered (omega arith) le)
    (λ le. c.slice_numbers.ensures.above log p.vb (p.from - 1) (entry w.taken.at p.vb) p.to le)
