use Rattle.std.proofs.Common.{refl, sym, ap, ◌∙◌}
use Rattle.n1ql_value.specs.declared.text.Text.{Text}
use Rattle.n1ql_value.specs.declared.value.Value.{Value}
use Rattle.n1ql_value.proofs.Places.{found_at, absent_at, place_along, named_along, unnamed_along}
use Rattle.n1ql_value.proofs.pairs.taken.Goals as goal

pub place_of-at-requires : goal.place_of-at-requires
place_of-at-requires c = rw c.deref.ensures.value c.requires

-- what is taken out of the place is what stands there
pub returns-then-has_name : goal.returns-then-has_name
returns-then-has_name c =
    let place = place_along c.place_of-at.result c.deref.ensures.value refl c.place_of-at.ensures in
    let named = named_along c.place_of-at.result c.deref-2.ensures.value refl (c.if-has_name.ensures.same refl) in
    sym (found_at c.args.entries.items c.args.name.now c.place_of-at.result c.swap_remove.result place named.0 c.swap_remove.ensures.value (ap (λ (e : Text × Value). e.0) c.swap_remove.ensures.value ∙ named.1 c.swap_remove.result))

pub returns : goal.returns
returns c =
    let place = place_along c.place_of-at.result c.deref.ensures.value refl c.place_of-at.ensures in
    let unnamed = unnamed_along c.place_of-at.result c.deref-2.ensures.value refl (c.if-has_name.ensures.other refl) in
    sym (absent_at c.args.entries.items c.args.name.now c.place_of-at.result c.requires place unnamed)
