use Rattle.std.proofs.Common.{refl, sym, get_or}
use Rattle.std.proofs.lemmas.List.{get_or_default}
use Rattle.n1ql_value.proofs.Places.{found_at, absent_at}
use Rattle.n1ql_value.proofs.pairs.found.Goals as goal

pub returns-then-has_name : goal.returns-then-has_name
returns-then-has_name c =
    let has = c.if-has_name.ensures.same refl in
    let es = c.args.entries.now in
    let at = c.place_of-at.result in
    sym (found_at es c.args.name.now at (get_or es at c.index-entries-at.result) c.place_of-at.ensures has.0 (get_or_default es at c.index-entries-at.result (get_or es at c.index-entries-at.result) has.0) (has.1 c.index-entries-at.result))

pub returns-else-has_name : goal.returns-else-has_name
returns-else-has_name c = sym (absent_at c.args.entries.now c.args.name.now c.place_of-at.result c.requires c.place_of-at.ensures (c.if-has_name.ensures.other refl))
