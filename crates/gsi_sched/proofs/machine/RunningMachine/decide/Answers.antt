use Rattle.std.proofs.Common.{refl, sym, subst}
use Rattle.index_snapshot.specs.declared.snapshot.Snapshot.{Snapshot}
use Rattle.gsi_hub.specs.declared.picked.Picked.TheVariants as pick
use Rattle.gsi_sched.specs.inner.ClientTurns.{IsUntoldFrom}
use Rattle.gsi_sched.proofs.Decided.{untold_of, answered_on, answered_act, refused_on, refused_act, short_now}
use Rattle.gsi_sched.proofs.machine.RunningMachine.decide.Goals as goal

pub tell-requires : goal.tell-requires
tell-requires c = record {
  untold =
      subst (λ (x : Snapshot). IsUntoldFrom x (record c.args.self.now { hub = c.pick.new.self })) (sym c.deref.ensures)
      (untold_of c.known.ensures c.args.self.now c.reserve.new.self c.reserve.ensures.same c.args.c c.requires.request c.pick.new.self (pick.Picked c.in-Picked.snapshot) c.in-Picked.ensures
      c.requires.following c.in-Picked.snapshot refl);
}

pub returns-in_ok-tell-in-Picked-clause-ended : goal.returns-in_ok-tell-in-Picked-clause-ended
returns-in_ok-tell-in-Picked-clause-ended c =
    answered_on c.known.ensures c.args.self.now c.reserve.new.self c.reserve.ensures.same c.args.c c.requires.request c.pick.new.self (pick.Picked c.in-Picked.snapshot) c.in-Picked.ensures
    c.in-Picked.snapshot refl c.tell.new.self c.in_ok-tell-in-Picked.ensures

pub returns-in_ok-tell-in-Picked-clause-acted : goal.returns-in_ok-tell-in-Picked-clause-acted
returns-in_ok-tell-in-Picked-clause-acted c =
    answered_act c.known.ensures c.args.self.now c.reserve.new.self c.reserve.ensures.same c.args.c c.requires.request c.pick.new.self (pick.Picked c.in-Picked.snapshot) c.in-Picked.ensures
    c.in-Picked.snapshot refl c.tell.new.self c.in_ok-tell-in-Picked.ensures

pub returns-in-NotYet-clause-short : goal.returns-in-NotYet-clause-short
returns-in-NotYet-clause-short c =
    short_now c.known.ensures c.args.self.now c.reserve.new.self c.reserve.ensures.same c.args.c c.requires.request c.pick.new.self
    (pick.NotYet c.in-NotYet.vb c.in-NotYet.want c.in-NotYet.have c.in-NotYet.at) c.in-NotYet.ensures
    c.in-NotYet.vb c.in-NotYet.want c.in-NotYet.have c.in-NotYet.at refl

pub returns-in-Dropped-clause-ended : goal.returns-in-Dropped-clause-ended
returns-in-Dropped-clause-ended c =
    refused_on c.known.ensures c.args.self.now c.reserve.new.self c.reserve.ensures.same c.args.c c.requires.request c.pick.new.self pick.Dropped c.in-Dropped.ensures refl

pub returns-in-Dropped-clause-acted : goal.returns-in-Dropped-clause-acted
returns-in-Dropped-clause-acted c =
    refused_act c.known.ensures c.args.self.now c.reserve.new.self c.reserve.ensures.same c.args.c c.requires.request c.pick.new.self pick.Dropped c.in-Dropped.ensures refl
