use Rattle.std.proofs.Common.{◌≡◌, Some, sym, ◌∙◌}
use Rattle.scan_history.specs.Events.{Event}
use Rattle.scan_history.proofs.Pivot.{next}
use Rattle.scan_history.proofs.laws.one_next_event.Goals as goal

pub returns-clause-next : goal.returns-clause-next
returns-clause-next c = next c.tests_tell_of_each_vbucket.ensures.covers

some_is : (e other : Event) → Some e ≡ Some other → e ≡ other
some_is e other is = cc

pub returns-clause-one : goal.returns-clause-one
returns-clause-one c read script s e other client of also may too =
    let tells = c.tests_tell_of_each_vbucket.ensures.covers in
    some_is e other (sym (next tells read script s e client of may) ∙ next tells read script s other client also too)
