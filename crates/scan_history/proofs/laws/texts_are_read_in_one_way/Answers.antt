use Rattle.std.proofs.Common.{◌≡◌, ◌⊎◌, ℕ, List, ap, inl, inr}
use Rattle.n1ql_ast.specs.declared.ddl.Ddl.{Ddl}
use Rattle.n1ql_parse.specs.Readings.{IsReadingDdl}
use Rattle.n1ql_parse.specs.Faults.{IsDdlFaultAt}
use Rattle.scan_history.specs.Readings.{Read, reads, faults, IsRead}
use Rattle.scan_history.proofs.laws.texts_are_read_in_one_way.Goals as goal

as_read : (text : List ℕ) → ((d : Ddl) × IsReadingDdl text d) ⊎ ((at : ℕ) × IsDdlFaultAt text at) → (r : Read) × IsRead text r
as_read text (inl d) = (reads d.0, d.1)
as_read text (inr at) = (faults at.0, at.1)

pub returns-clause-some : goal.returns-clause-some
returns-clause-some c =
    (λ text. (as_read text (c.ddl_or_fault.ensures.either text)).0, λ text. (as_read text (c.ddl_or_fault.ensures.either text)).1)

module _
    (one : (text : List ℕ) (d other : Ddl) → IsReadingDdl text d → IsReadingDdl text other → d ≡ other)
    (one_fault : (text : List ℕ) (at other : ℕ) → IsDdlFaultAt text at → IsDdlFaultAt text other → at ≡ other)
    (never_both : (text : List ℕ) (d : Ddl) (at : ℕ) → IsReadingDdl text d → IsDdlFaultAt text at → ⊥)
    (text : List ℕ) where
  same : (r other : Read) → IsRead text r → IsRead text other → r ≡ other
  same (reads d) (reads other) is also = ap reads (one text d other is also)
  same (reads d) (faults at) is also = absurd (never_both text d at is also)
  same (faults at) (reads d) is also = absurd (never_both text d at also is)
  same (faults at) (faults other) is also = ap faults (one_fault text at other is also)

pub returns-clause-one : goal.returns-clause-one
returns-clause-one c read other are also text =
    same c.one_ddl.ensures c.one_ddl_fault.ensures c.ddl_or_fault.ensures.never_both text (read text) (other text) (are text) (also text)

pub returns-clause-told : goal.returns-clause-told
returns-clause-told c read are text is so =
    same c.one_ddl.ensures c.one_ddl_fault.ensures c.ddl_or_fault.ensures.never_both text (read text) is (are text) so
