use Rattle.std.proofs.Common.{◌≡◌, refl, ap, ◌∙◌}
use Rattle.seq_vector.specs.Vectors.{entry}
use Rattle.stability.specs.Offers.{Tracked}
use Rattle.stability.specs.declared.offer.Offer.{Offer}
use Rattle.index_snapshot.specs.Workers.{applied, offered}
use Rattle.index_snapshot.proofs.Delivery.{applied-taken}
use Rattle.index_snapshot.proofs.laws.a_delivery_moves.Goals as goal

pub returns-clause-own : goal.returns-clause-own
returns-clause-own c w p within near =
    ap (λ (t : Tracked). entry t.at p.vb) (applied-taken p (offered p w) w) ∙ c.numbers_rise.ensures.own w.taken p.vb p.from p.to p.end within near

pub returns-clause-others : goal.returns-clause-others
returns-clause-others c w p vb other =
    ap (λ (t : Tracked). entry t.at vb) (applied-taken p (offered p w) w) ∙ c.numbers_rise.ensures.others w.taken p.vb p.from p.to p.end vb other

pub returns-clause-gap : goal.returns-clause-gap
returns-clause-gap c w p some gap =
    ap (λ (o : Offer). applied p o w)
    ((c.three_answers.ensures.gap (entry w.taken.at p.vb) p.from p.to (entry w.taken.at p.vb) p.from some).1 (gap, refl, refl))
