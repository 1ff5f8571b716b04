use Rattle.std.proofs.Common.{◌≡◌, rules, suc, map, get_or, arith, sym, ap, ◌∙◌, subst}
use Rattle.std.specs.Int.{w64}
use Rattle.std.proofs.lemmas.Int.{to_z-of_z}
use Rattle.std.specs.Str.{is_utf8}
use Rattle.std.proofs.lemmas.Str.{is_utf8-from_IsUtf8}
use Rattle.std.proofs.lemmas.Grind.{common_steps}
use Rattle.n1ql_json.specs.Valid.{all_true, is_value}
use Rattle.serde_json.specs.Data.{number, string, array, object}
use Rattle.serde_json.specs.Find.{of_integer}
use Rattle.serde_json.specs.View.{view, items_of, members_view}
use Rattle.serde_json.proofs.Views.{view-Array, view-Object}
use Rattle.n1ql_value.specs.declared.value.Value.{Value}
use Rattle.n1ql_value.specs.declared.value.Value.TheVariants.{Missing, Null, Bool, Int, Text, Array, Object}
use Rattle.n1ql_value.specs.Datum.{datum_of, pair_of}
use Rattle.n1ql_value.specs.Depth.{largest, depth, pairs_depth, depth-array, depth-object}
use Rattle.n1ql_value.specs.Names.{NamesGrow}
use Rattle.n1ql_json.specs.Json.{json_of}
use Rattle.n1ql_json.proofs.Held.{is_held, is_held_pair, is_value-layer, is_int64-fits, all_more, all_taken, array_held, items_held, object_held, pair_held}
use Rattle.n1ql_value.proofs.Slices.{depth_at, pair_depth_at}
use Rattle.n1ql_json.proofs.Layers.{Entry, view-Null, view-Bool, json_of-layer, put_more}
use Rattle.n1ql_json.proofs.writing.+json.Goals as goal

pub json_items-json_value-requires : goal.json_items-json_value-requires
json_items-json_value-requires t c =
    let item = c.item-item.result in
    let same : depth (datum_of item) ≡ depth (datum_of (get_or c.args.items.now c.loop-item.item-index item)) = ap (λ (v : Value). depth (datum_of v)) c.item-item.is in
    (omega (arith, c.decreases, same, depth_at c.args.items.now c.loop-item.item-index item (omega arith)), tt)

pub json_members-json_value-requires : goal.json_members-json_value-requires
json_members-json_value-requires t c =
    let es = c.as_slice-name-items.result.now in
    let entry : Entry = c.loop-name-item.result in
    let same : depth (datum_of entry.1) ≡ depth (datum_of (get_or es c.loop-name.name-index entry).1) = ap (λ (e : Entry). depth (datum_of e.1)) c.loop-name-item.is in
    let whole : pairs_depth (map pair_of es) ≡ pairs_depth c.args.pairs.now = ap pairs_depth c.as_slice-name-items.ensures.pairs in
    (omega (arith, c.decreases, same, whole, pair_depth_at es c.loop-name.name-index entry (omega arith)), tt)

pub json_members-loop-name-preserved : goal.json_members-loop-name-preserved
json_members-loop-name-preserved t c =
    let es = c.as_slice-name-items.result.now in
    let grow : NamesGrow (map pair_of es) = subst NamesGrow (sym c.as_slice-name-items.ensures.pairs) c.as_slice-name-items.ensures.grow in
    record {
      json = c.in_ok-put.ensures.ok ∙ put_more es c.loop-name.name-index c.loop-name-item.result (members_view c.loop-name.found.entries) c.as_str.result.now (view c.in_ok-member.member) c.loop-name-test.true c.loop-name-item.is grow c.loop-name.invariant.json c.as_str.ensures c.in_ok-member.ensures.json;
      held = all_more is_held_pair es c.loop-name.name-index c.loop-name-item.result c.loop-name-test.true c.loop-name-item.is (pair_held c.loop-name-item.result c.as_str.result.now (sym c.as_str.ensures) c.as_str.utf8 c.in_ok-member.ensures.held) c.loop-name.invariant.held;
    }

pub json_value-json_items-requires : goal.json_value-json_items-requires
json_value-json_items-requires t c =
    let whole : depth (datum_of c.args.value.now) ≡ suc (largest (map depth c.in-Array.items)) = ap (λ (v : Value). depth (datum_of v)) c.in-Array.is ∙ depth-array c.in-Array.items in
    let parts : largest (map depth (map datum_of c.as_slice.result.now)) ≡ largest (map depth c.in-Array.items) = ap (λ ds. largest (map depth ds)) c.as_slice.ensures in
    (omega (arith, c.decreases), tt)

pub json_value-json_members-requires : goal.json_value-json_members-requires
json_value-json_members-requires t c =
    let whole : depth (datum_of c.args.value.now) ≡ suc (pairs_depth c.in-Object.pairs) = ap (λ (v : Value). depth (datum_of v)) c.in-Object.is ∙ depth-object c.in-Object.pairs in
    (omega (arith, c.decreases), tt)

pub json_value-returns-in-Missing-clause-json : goal.json_value-returns-in-Missing-clause-json
json_value-returns-in-Missing-clause-json t c = view-Null ∙ sym (json_of-layer c.args.value.now Missing c.in-Missing.is)

pub json_value-returns-in-Null-clause-json : goal.json_value-returns-in-Null-clause-json
json_value-returns-in-Null-clause-json t c = view-Null ∙ sym (json_of-layer c.args.value.now Null c.in-Null.is)

pub json_value-returns-in-Bool-clause-json : goal.json_value-returns-in-Bool-clause-json
json_value-returns-in-Bool-clause-json t c = view-Bool c.in-Bool.b ∙ sym (json_of-layer c.args.value.now (Bool c.in-Bool.b) c.in-Bool.is)

pub json_value-returns-in-Int-clause-json : goal.json_value-returns-in-Int-clause-json
json_value-returns-in-Int-clause-json t c = c.from.ensures ∙ ap (λ z. number (of_integer z)) (to_z-of_z w64 c.in-Int.n (search rules)) ∙ sym (json_of-layer c.args.value.now (Int c.in-Int.n) c.in-Int.is)

pub json_value-returns-in_ok-try_from_str-in-Text-clause-json : goal.json_value-returns-in_ok-try_from_str-in-Text-clause-json
json_value-returns-in_ok-try_from_str-in-Text-clause-json t c =
    c.in_ok-try_from_str-in-Text.ensures ∙ (ap string c.as_str.ensures ∙ sym (json_of-layer c.args.value.now (Text c.in-Text.text) c.in-Text.is))

pub json_value-returns-in_ok-json_items-in-Array-clause-json : goal.json_value-returns-in_ok-json_items-in-Array-clause-json
json_value-returns-in_ok-json_items-in-Array-clause-json t c =
    view-Array c.in_ok-json_items-in-Array.field-0
    ∙ (ap array (c.in_ok-json_items-in-Array.ensures.json ∙ ap (λ ds. items_of (map json_of ds)) c.as_slice.ensures)
    ∙ sym (json_of-layer c.args.value.now (Array c.in-Array.items) c.in-Array.is))

pub json_value-returns-in_ok-json_members-in-Object-clause-json : goal.json_value-returns-in_ok-json_members-in-Object-clause-json
json_value-returns-in_ok-json_members-in-Object-clause-json t c =
    view-Object c.in_ok-json_members-in-Object.field-0
    ∙ (ap object c.in_ok-json_members-in-Object.ensures.json
    ∙ sym (json_of-layer c.args.value.now (Object c.in-Object.pairs) c.in-Object.is))

pub json_items-loop-item-preserved : goal.json_items-loop-item-preserved
json_items-loop-item-preserved t c = record {
  json = grind (arith, common_steps);
  held = all_more is_held c.args.items.now c.loop-item.item-index c.item-item.result c.loop-item-test.true c.item-item.is c.in_ok-json_value.ensures.held c.loop-item.invariant.held;
}

pub json_items-returns-clause-held : goal.json_items-returns-clause-held
json_items-returns-clause-held t c = items_held c.args.items.now (all_taken is_held c.args.items.now c.loop-item.item-index (omega arith) c.loop-item.invariant.held)

pub json_members-returns-clause-held : goal.json_members-returns-clause-held
json_members-returns-clause-held t c =
    let es = c.as_slice-name-items.result.now in
    object_held c.args.pairs.now es c.as_slice-name-items.ensures.pairs c.as_slice-name-items.ensures.grow (all_taken is_held_pair es c.loop-name.name-index (omega arith) c.loop-name.invariant.held)

pub json_value-returns-in-Missing-clause-held : goal.json_value-returns-in-Missing-clause-held
json_value-returns-in-Missing-clause-held t c = is_value-layer c.args.value.now Missing c.in-Missing.is

pub json_value-returns-in-Null-clause-held : goal.json_value-returns-in-Null-clause-held
json_value-returns-in-Null-clause-held t c = is_value-layer c.args.value.now Null c.in-Null.is

pub json_value-returns-in-Bool-clause-held : goal.json_value-returns-in-Bool-clause-held
json_value-returns-in-Bool-clause-held t c = is_value-layer c.args.value.now (Bool c.in-Bool.b) c.in-Bool.is

pub json_value-returns-in-Int-clause-held : goal.json_value-returns-in-Int-clause-held
json_value-returns-in-Int-clause-held t c = is_value-layer c.args.value.now (Int c.in-Int.n) c.in-Int.is ∙ is_int64-fits c.in-Int.n (search rules)

pub json_value-returns-in_ok-try_from_str-in-Text-clause-held : goal.json_value-returns-in_ok-try_from_str-in-Text-clause-held
json_value-returns-in_ok-try_from_str-in-Text-clause-held t c =
    is_value-layer c.args.value.now (Text c.in-Text.text) c.in-Text.is ∙ (ap is_utf8 (sym c.as_str.ensures) ∙ is_utf8-from_IsUtf8 c.as_str.result.now c.as_str.utf8)

pub json_value-returns-in_ok-json_items-in-Array-clause-held : goal.json_value-returns-in_ok-json_items-in-Array-clause-held
json_value-returns-in_ok-json_items-in-Array-clause-held t c =
    array_held c.args.value.now c.in-Array.items c.in-Array.is (ap (λ ds. all_true (map is_value ds)) (sym c.as_slice.ensures) ∙ c.in_ok-json_items-in-Array.ensures.held)
