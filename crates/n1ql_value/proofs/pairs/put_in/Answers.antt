use Rattle.std.proofs.Common.{refl}
use Rattle.n1ql_value.proofs.Places.{replaced_at, inserted_at, NamesGrow-replaced, NamesGrow-inserted, place_along, named_along, unnamed_along}
use Rattle.n1ql_value.proofs.pairs.put_in.Goals as goal

pub place_of-at-requires : goal.place_of-at-requires
place_of-at-requires c = rw c.deref.ensures.value c.requires

-- the pair that stands there gives way
pub returns-then-has_name-clause-ok : goal.returns-then-has_name-clause-ok
returns-then-has_name-clause-ok c =
    let place = place_along c.place_of-at.result c.deref.ensures.value c.as_str.ensures c.place_of-at.ensures in
    let named = named_along c.place_of-at.result c.deref-2.ensures.value c.as_str-2.ensures (c.if-has_name.ensures.same refl) in
    replaced_at c.args.entries.now.items c.args.name c.args.value c.place_of-at.result place named.1 named.0

pub returns-then-has_name-clause-grow : goal.returns-then-has_name-clause-grow
returns-then-has_name-clause-grow c =
    let place = place_along c.place_of-at.result c.deref.ensures.value c.as_str.ensures c.place_of-at.ensures in
    let named = named_along c.place_of-at.result c.deref-2.ensures.value c.as_str-2.ensures (c.if-has_name.ensures.same refl) in
    NamesGrow-replaced c.args.entries.now.items c.args.name c.args.value c.place_of-at.result c.requires
    (replaced_at c.args.entries.now.items c.args.name c.args.value c.place_of-at.result place named.1 named.0)

-- the pair goes in between
pub returns-in_ok-insert-clause-ok : goal.returns-in_ok-insert-clause-ok
returns-in_ok-insert-clause-ok c =
    let place = place_along c.place_of-at.result c.deref.ensures.value c.as_str.ensures c.place_of-at.ensures in
    let unnamed = unnamed_along c.place_of-at.result c.deref-2.ensures.value c.as_str-2.ensures (c.if-has_name.ensures.other refl) in
    rw c.in_ok-insert.ensures.items (inserted_at c.args.entries.now.items c.args.name c.args.value c.place_of-at.result place unnamed)

pub returns-in_ok-insert-clause-grow : goal.returns-in_ok-insert-clause-grow
returns-in_ok-insert-clause-grow c =
    let place = place_along c.place_of-at.result c.deref.ensures.value c.as_str.ensures c.place_of-at.ensures in
    let unnamed = unnamed_along c.place_of-at.result c.deref-2.ensures.value c.as_str-2.ensures (c.if-has_name.ensures.other refl) in
    rw c.in_ok-insert.ensures.items (NamesGrow-inserted c.args.entries.now.items c.args.name c.args.value c.place_of-at.result c.requires
    (inserted_at c.args.entries.now.items c.args.name c.args.value c.place_of-at.result place unnamed))
