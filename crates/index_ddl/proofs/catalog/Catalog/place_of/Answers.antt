use Rattle.std.proofs.Common.{◌≡◌, ◌+◌, ℕ, suc, true, false, ◌==◌, take, sym, ap, subst, ◌∙◌, arith}
use Rattle.std.specs.List.{list_any}
use Rattle.index_def.specs.LiveIndexes.{is_numbered}
use Rattle.index_ddl.proofs.Places.{none_yet, first_at, nowhere, is_it, is_not_it}
use Rattle.index_ddl.proofs.catalog.Catalog.place_of.Goals as goal

pub returns-then-number-clause-found : goal.returns-then-number-clause-found
returns-then-number-clause-found c state =
    first_at c.args.number state c.args.self.now.live c.loop-at.at c.in_ok-index.index.now c.in_ok-index.ensures c.loop-at.invariant
    (is_it c.args.number c.in_ok-index.index.now (sym c.number.ensures ∙ c.if-number.true))

pub loop-at-preserved : goal.loop-at-preserved
loop-at-preserved c =
    let next : suc c.loop-at.at ≡ c.loop-at.at + 1 = omega arith in
    subst (λ n. list_any (is_numbered c.args.number) (take n c.args.self.now.live) ≡ false) next
    (none_yet c.args.number c.args.self.now.live c.loop-at.at c.in_ok-index.index.now c.in_ok-index.ensures c.loop-at.invariant
    (is_not_it c.args.number c.in_ok-index.index.now (λ is. c.if-number.false (c.number.ensures ∙ is))))

pub returns-clause-none : goal.returns-clause-none
returns-clause-none c state =
    nowhere c.args.number state c.args.self.now.live c.loop-at.at c.loop-at.invariant (omega (arith, c.loop-at-test.false, c.len-at-end.ensures))
