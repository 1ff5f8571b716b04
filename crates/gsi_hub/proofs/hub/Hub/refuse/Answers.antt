use Rattle.std.proofs.Common.{◌≡◌, ℕ, refl, sym, ap, subst}
use Rattle.scan_history.specs.Events.{Event, refuse}
use Rattle.gsi_hub.specs.Past.{part_in, MayCome}
use Rattle.gsi_hub.proofs.Steps.{acted, first_comes}
use Rattle.gsi_hub.proofs.hub.Hub.refuse.Goals as goal

pub close-requires-clause-may : goal.close-requires-clause-may
close-requires-clause-may c =
    let p = c.args.self.now in
    subst (λ (k : ℕ). MayCome p (refuse c.args.c k c.args.number c.args.why)) (sym c.next_of-k.ensures)
    (first_comes c.known.ensures p c.args.c (refuse c.args.c (part_in p c.args.c).next c.args.number c.args.why) c.requires.first)

pub returns : goal.returns
returns c =
    let p = c.args.self.now in
    let e : Event = refuse c.args.c c.next_of-k.result c.args.number c.args.why in
    let may = subst (λ (k : ℕ). MayCome p (refuse c.args.c k c.args.number c.args.why)) (sym c.next_of-k.ensures)
    (first_comes c.known.ensures p c.args.c (refuse c.args.c (part_in p c.args.c).next c.args.number c.args.why) c.requires.first) in
    acted c.known.ensures p c.close.new.self c.args.c e (λ (x : Event). x ≡ refuse c.args.c (part_in p c.args.c).next c.args.number c.args.why) refl
    may (ap (λ (k : ℕ). refuse c.args.c k c.args.number c.args.why) c.next_of-k.ensures) c.close.ensures
