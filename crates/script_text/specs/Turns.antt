-- The turn that a line of the schedule gives.
use Rattle.std.specs.Prelude.{ℕ, List, [], codes, Option, Some, None}
use Rattle.std.specs.Option.{option_map_or}
use Rattle.scan_history.specs.declared.turn.Turn.{Turn}
use Rattle.scan_history.specs.declared.turn.Turn.TheVariants as turn
use Rattle.script_text.specs.declared.reader.format.form.Form.{Form}
use Rattle.script_text.specs.declared.reader.format.form.Form.TheVariants.{Upsert, Delete, Ddl, Scan, Query, Client, Project, Deliver, Lose, Publish, Rewind}
use Rattle.script_text.specs.Members.{Members, no_members, value_at, text_at, optional_text, count_at}
use Rattle.script_text.specs.SparseVectors.{vector_of, vector_of_value}

-- the index that a turn names
abbrev pub named_index : Members → List ℕ
named_index members = text_at (codes "index") [] members

-- the place in the index's inbox, the first where nothing is said
abbrev pub place : Members → ℕ
place members = count_at (codes "place") 0 members

-- the vector that a stream goes back to
abbrev pub rewound_to : ℕ → Members → List ℕ
rewound_to n members = option_map_or (vector_of_value n) (value_at (codes "to") members) (vector_of n no_members)

-- the turn that a line of a form gives, among n vBuckets
unfoldable pub turn_of : ℕ → Form → Members → Option Turn
turn_of n Upsert members = None
turn_of n Delete members = None
turn_of n Ddl members = None
turn_of n Scan members = None
turn_of n Query members = None
turn_of n Client members = Some (turn.Client (count_at (codes "c") 0 members))
turn_of n Project members = Some (turn.Project (count_at (codes "vb") 0 members) (optional_text (codes "index") members))
turn_of n Deliver members = Some (turn.Deliver (named_index members) (place members))
turn_of n Lose members = Some (turn.Lose (named_index members) (place members))
turn_of n Publish members = Some (turn.Publish (named_index members))
turn_of n Rewind members = Some (turn.Rewind (rewound_to n members) (optional_text (codes "index") members))
