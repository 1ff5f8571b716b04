use Rattle.std.proofs.Common.{◌≡◌, ◌+◌, ◌*◌, take, map, true}
use Rattle.serde_json.specs.View.{view, members_view}
use Rattle.n1ql_value.specs.Datum.{datum_of}
use Rattle.n1ql_value.specs.Depth.{largest, depth, pairs_depth}
use Rattle.n1ql_json.specs.Json.{json_of}
use Rattle.n1ql_json.specs.Valid.{all_true}
use Rattle.n1ql_json.proofs.Held.{is_held, is_held_pair}
use Rattle.n1ql_json.proofs.Layers.{members_to}
use Rattle.n1ql_json.proofs.writing.+json.Given as goal

abbrev pub invariant-json_items-loop-item : goal.invariant-json_items-loop-item
invariant-json_items-loop-item l = record {
  json : map view l.found.items ≡ map json_of (map datum_of (take l.item-index l.items));
  held : all_true (map is_held (take l.item-index l.items)) ≡ true;
}

abbrev pub invariant-json_members-loop-name : goal.invariant-json_members-loop-name
invariant-json_members-loop-name l = record {
  json : members_view l.found.entries ≡ members_to l.name-items l.name-index;
  held : all_true (map is_held_pair (take l.name-index l.name-items)) ≡ true;
}

abbrev pub decreases-json_value : goal.decreases-json_value
decreases-json_value l = 2 * depth (datum_of l.value.now)

abbrev pub decreases-json_items : goal.decreases-json_items
decreases-json_items l = 2 * largest (map depth (map datum_of l.items.now)) + 1

abbrev pub decreases-json_members : goal.decreases-json_members
decreases-json_members l = 2 * pairs_depth l.pairs.now + 1
