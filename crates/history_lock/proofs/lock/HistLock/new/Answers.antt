use Rattle.std.proofs.Common.{rules, ◌≡◌, [], ◌∷◌, Some, List, Option, sym, subst}
use Rattle.atomic_table.specs.Table.{opening}
use Rattle.history_lock.specs.Rule.{IsKept, first_view}
use Rattle.history_lock.proofs.Steps.{starts}
use Rattle.history_lock.proofs.lock.HistLock.new.Goals as goal

pub new-requires : goal.new-requires
new-requires g c =
    let items : c.push.new.self.items ≡ Some c.args.state ∷ [] = search rules in
    subst (λ (xs : List (Option g.row.S.Denot)). IsKept g.S.Chronicle.events g.S.Chronicle.party (opening (0 ∷ 0 ∷ 0 ∷ []) xs (first_view {E = g.row.S-Entry.Denot}))) (sym items)
    (starts g.S.Chronicle.events g.S.Chronicle.party c.args.state c.requires)
