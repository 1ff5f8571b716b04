use Rattle.std.proofs.Common.{◌≡◌, suc, map, get_or, arith, ap, ◌∙◌}
use Rattle.std.proofs.lemmas.List.{length-map}
use Rattle.n1ql_value.specs.declared.value.Value.{Value}
use Rattle.n1ql_value.specs.Datum.{datum_of, pair_of}
use Rattle.n1ql_value.specs.Depth.{largest, depth, pairs_depth, depth-array, depth-object}
use Rattle.n1ql_value.specs.Collation.{value_cmp}
use Rattle.n1ql_value.proofs.CollationOfValues.{numbers_by_value, strings_by_bytes, arrays_by_elements, objects_by_pairs, number_apart, string_apart, array_apart, object_apart, plain_apart}
use Rattle.n1ql_value.proofs.Slices.{compare_end, depth_at, pair_depth_at}
use Rattle.n1ql_value.proofs.collation.+collation.Goals as goal

pub collate-returns-in-Int-b : goal.collate-returns-in-Int-b
collate-returns-in-Int-b t c = cc (numbers_by_value c.in-Int.x c.in-Int-b.y)

pub collate-returns-in_default-b : goal.collate-returns-in_default-b
collate-returns-in_default-b t c = cc (number_apart c.args.a.now c.args.b.now c.in-Int.x c.in-Int.is c.in_default-b.not-Int)

pub collate-returns-in-Text-b : goal.collate-returns-in-Text-b
collate-returns-in-Text-b t c = cc (strings_by_bytes c.in-Text.x c.in-Text-b.y)

pub collate-returns-in_default-b-2 : goal.collate-returns-in_default-b-2
collate-returns-in_default-b-2 t c = cc (string_apart c.args.a.now c.args.b.now c.in-Text.x c.in-Text.is c.in_default-b-2.not-Text)

pub collate-returns-in-Array-b : goal.collate-returns-in-Array-b
collate-returns-in-Array-b t c = cc (arrays_by_elements c.in-Array.xs c.in-Array-b.ys)

pub collate-returns-in_default-b-3 : goal.collate-returns-in_default-b-3
collate-returns-in_default-b-3 t c = cc (array_apart c.args.a.now c.args.b.now c.in-Array.xs c.in-Array.is c.in_default-b-3.not-Array)

pub collate-returns-in-Object-b : goal.collate-returns-in-Object-b
collate-returns-in-Object-b t c = cc (objects_by_pairs c.in-Object.ps c.in-Object-b.qs, length-map c.as_slice-in-Object-b.result.now pair_of, length-map c.as_slice-in-Object-b-2.result.now pair_of)

pub collate-returns-in_default-b-4 : goal.collate-returns-in_default-b-4
collate-returns-in_default-b-4 t c = cc (object_apart c.args.a.now c.args.b.now c.in-Object.ps c.in-Object.is c.in_default-b-4.not-Object)

pub collate-returns-in_default : goal.collate-returns-in_default
collate-returns-in_default t c = cc (plain_apart c.args.a.now c.args.b.now c.in_default.not-Int c.in_default.not-Text c.in_default.not-Array c.in_default.not-Object)

pub collate_items-returns : goal.collate_items-returns
collate_items-returns t c = cc (compare_end value_cmp datum_of c.args.a.now c.args.b.now c.loop-place.place (omega arith), c.loop-place.invariant)

pub collate-collate_items-requires : goal.collate-collate_items-requires
collate-collate_items-requires t c =
    let whole : depth (datum_of c.args.a.now) ≡ suc (largest (map depth c.in-Array.xs)) = ap (λ (v : Value). depth (datum_of v)) c.in-Array.is ∙ depth-array c.in-Array.xs in
    let parts : largest (map depth (map datum_of c.as_slice.result.now)) ≡ largest (map depth c.in-Array.xs) = ap (λ ds. largest (map depth ds)) c.as_slice.ensures in
    (omega (arith, c.decreases), tt)

pub collate-collate_objects-requires : goal.collate-collate_objects-requires
collate-collate_objects-requires t c =
    let whole : depth (datum_of c.args.a.now) ≡ suc (pairs_depth c.in-Object.ps) = ap (λ (v : Value). depth (datum_of v)) c.in-Object.is ∙ depth-object c.in-Object.ps in
    let parts : pairs_depth (map pair_of c.as_slice-in-Object-b.result.now) ≡ pairs_depth c.in-Object.ps = ap pairs_depth c.as_slice-in-Object-b.ensures.pairs in
    (omega (arith, c.decreases), tt)

pub collate_items-collate-requires : goal.collate_items-collate-requires
collate_items-collate-requires t c =
    let item = c.index-a-place.result in
    let same : depth (datum_of item) ≡ depth (datum_of (get_or c.args.a.now c.loop-place.place item)) = ap (λ (v : Value). depth (datum_of v)) c.index-a-place.is in
    (omega (arith, c.decreases, same, depth_at c.args.a.now c.loop-place.place item (omega arith)), tt)

pub collate_entries-collate-requires : goal.collate_entries-collate-requires
collate_entries-collate-requires t c =
    (omega (arith, c.decreases, pair_depth_at c.args.a.now c.loop-place.place c.index-a-place-in-loop-place.result (omega arith)), tt)
