use Rattle.std.proofs.Common.{◌≡◌, sym, ◌∙◌}
use Rattle.index_ddl.proofs.Lookups.{numbered_here, numbered_later}
use Rattle.index_ddl.proofs.catalog.Catalog.numbered.Goals as goal

-- src/catalog.rt:87:17
pub returns-then-number : goal.returns-then-number
returns-then-number c =
    sym (numbered_here c.args.number c.args.self.now.live c.loop-at.at c.in_ok-index.index.now c.in_ok-index.ensures (sym c.number.ensures ∙ c.if-number.true))
    ∙ c.loop-at.invariant

-- src/catalog.rt:84:9
pub loop-at-preserved : goal.loop-at-preserved
loop-at-preserved c =
    sym (numbered_later c.args.number c.args.self.now.live c.loop-at.at c.in_ok-index.index.now c.in_ok-index.ensures (λ is. c.if-number.false (c.number.ensures ∙ is)))
    ∙ c.loop-at.invariant
