use Rattle.std.proofs.Common.{◌≡◌, List, ◌++◌, option_map}
use Rattle.std.specs.Prelude.{ℕ}
use Rattle.std.specs.Vec.Iter.{into_iter_items}
use Rattle.serde_json.specs.View.{items_view, members_view}
use Rattle.n1ql_value.specs.declared.datum.Datum.{Datum}
use Rattle.n1ql_json.specs.Reads.{items_read, members_read}
use Rattle.n1ql_json.proofs.Members.{Entry, IsNamed}
use Rattle.n1ql_json.proofs.reading.+values.Given as goal

abbrev pub invariant-values_from-loop-item : goal.invariant-values_from-loop-item
invariant-values_from-loop-item l = items_read (items_view l.fn.items.items) ≡ option_map (λ (ds : List Datum). l.values ++ ds) (items_read (items_view (into_iter_items l.item-iterator)))

abbrev pub invariant-pairs_from-loop-name : goal.invariant-pairs_from-loop-name
invariant-pairs_from-loop-name l =
    (done : List Entry) × (l.fn.members.entries ≡ done ++ l.name-iterator) × IsNamed done l.pairs
    × (members_read (members_view l.fn.members.entries) ≡ option_map (λ (ps : List (List ℕ × Datum)). l.pairs ++ ps) (members_read (members_view l.name-iterator)))
