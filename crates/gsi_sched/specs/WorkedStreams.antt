-- Worked replays of streams: scripts and the histories that they give, whatever the documents are.
use Rattle.std.specs.Prelude.{ℕ, true, false, List, [], ◌∷◌, codes, Some, None}
use Rattle.n1ql_value.specs.declared.value.Value.{Value}
use Rattle.n1ql_ast.specs.declared.create.Create.{Create}
use Rattle.index_def.specs.Definitions.{definition_of}
use Rattle.scan_coord.specs.declared.demand.Demand.TheVariants.{NotBounded, RequestPlus}
use Rattle.scan_history.specs.declared.command.Command.TheVariants as command
use Rattle.scan_history.specs.declared.turn.Turn.TheVariants.{Client, Project, Deliver, Lose, Publish, Rewind}
use Rattle.scan_history.specs.declared.script.Script.{Script}
use Rattle.scan_history.specs.Events.{Event, mutate, define, online, publish, start, answer, not_yet}
use Rattle.gsi_sched.specs.WorkedScripts.{ix, ask_ix, worked}

-- eight documents are put, and then an index is created and asked
abbrev pub each_document_once_script : (ℕ → Value) → Script
each_document_once_script doc =
    worked 1 64 (
    (command.Upsert (codes "h") (doc 0) ∷ command.Upsert (codes "g") (doc 1) ∷ command.Upsert (codes "f") (doc 2)
    ∷ command.Upsert (codes "e") (doc 3) ∷ command.Upsert (codes "d") (doc 4) ∷ command.Upsert (codes "c") (doc 5)
    ∷ command.Upsert (codes "b") (doc 6) ∷ command.Upsert (codes "a") (doc 7) ∷ command.Ddl (codes "CREATE INDEX ix ON ks(x)")
    ∷ ask_ix NotBounded true ∷ [])
    ∷ [])
    ([])

abbrev pub each_document_once : (ℕ → Value) → Create → List Event
each_document_once doc create =
    mutate 0 0 (record { vb = 0; seqno = 1; id = codes "h"; body = Some (doc 0) })
    ∷ mutate 0 1 (record { vb = 0; seqno = 2; id = codes "g"; body = Some (doc 1) })
    ∷ mutate 0 2 (record { vb = 0; seqno = 3; id = codes "f"; body = Some (doc 2) })
    ∷ mutate 0 3 (record { vb = 0; seqno = 4; id = codes "e"; body = Some (doc 3) })
    ∷ mutate 0 4 (record { vb = 0; seqno = 5; id = codes "d"; body = Some (doc 4) })
    ∷ mutate 0 5 (record { vb = 0; seqno = 6; id = codes "c"; body = Some (doc 5) })
    ∷ mutate 0 6 (record { vb = 0; seqno = 7; id = codes "b"; body = Some (doc 6) })
    ∷ mutate 0 7 (record { vb = 0; seqno = 8; id = codes "a"; body = Some (doc 7) })
    ∷ define 0 8 0 false (definition_of create)
    ∷ publish 0 (8 ∷ [])
    ∷ online 0 8 (0 ∷ [])
    ∷ start 0 9 0 (0 ∷ [])
    ∷ answer 0 9 (8 ∷ [])
    ∷ []

-- a piece that was sent again after a rewind is a repeat, and nothing is published for it
abbrev pub a_repeat_changes_nothing_script : (ℕ → Value) → Script
a_repeat_changes_nothing_script doc =
    worked 1 1 (
    (command.Ddl (codes "CREATE INDEX ix ON ks(x)") ∷ command.Upsert (codes "a") (doc 0) ∷ command.Upsert (codes "a") (doc 1)
    ∷ ask_ix NotBounded true ∷ [])
    ∷ [])
    (Client 0 ∷ Client 0 ∷ Client 0 ∷ Project 0 None ∷ Client 0 ∷ Project 0 None ∷ Deliver ix 0 ∷ Deliver ix 0 ∷ Publish ix
    ∷ Rewind (0 ∷ []) None ∷ Project 0 None ∷ Deliver ix 0 ∷ Publish ix ∷ [])

abbrev pub a_repeat_changes_nothing : (ℕ → Value) → Create → List Event
a_repeat_changes_nothing doc create =
    define 0 0 0 false (definition_of create)
    ∷ online 0 0 (0 ∷ [])
    ∷ mutate 0 1 (record { vb = 0; seqno = 1; id = codes "a"; body = Some (doc 0) })
    ∷ mutate 0 2 (record { vb = 0; seqno = 2; id = codes "a"; body = Some (doc 1) })
    ∷ publish 0 (2 ∷ [])
    ∷ start 0 3 0 (0 ∷ [])
    ∷ answer 0 3 (2 ∷ [])
    ∷ []

-- the second of three pieces is lost: the third leaves a gap, and a request that doesn't wait isn't answered
abbrev pub a_lost_piece_leaves_a_gap_script : (ℕ → Value) → Script
a_lost_piece_leaves_a_gap_script doc =
    worked 1 1 (
    (command.Ddl (codes "CREATE INDEX ix ON ks(x)") ∷ command.Upsert (codes "a") (doc 0) ∷ command.Upsert (codes "b") (doc 1)
    ∷ command.Upsert (codes "c") (doc 2) ∷ ask_ix RequestPlus false ∷ [])
    ∷ [])
    (Client 0 ∷ Client 0 ∷ Client 0 ∷ Client 0 ∷ Client 0 ∷ Project 0 None ∷ Project 0 None ∷ Project 0 None ∷ Deliver ix 0 ∷ Lose ix 0
    ∷ Deliver ix 0 ∷ Publish ix ∷ Client 0 ∷ Client 0 ∷ [])

abbrev pub a_lost_piece_leaves_a_gap : (ℕ → Value) → Create → List Event
a_lost_piece_leaves_a_gap doc create =
    define 0 0 0 false (definition_of create)
    ∷ online 0 0 (0 ∷ [])
    ∷ mutate 0 1 (record { vb = 0; seqno = 1; id = codes "a"; body = Some (doc 0) })
    ∷ mutate 0 2 (record { vb = 0; seqno = 2; id = codes "b"; body = Some (doc 1) })
    ∷ mutate 0 3 (record { vb = 0; seqno = 3; id = codes "c"; body = Some (doc 2) })
    ∷ publish 0 (1 ∷ [])
    ∷ start 0 4 0 (3 ∷ [])
    ∷ not_yet 0 4 (1 ∷ [])
    ∷ publish 0 (3 ∷ [])
    ∷ []

-- while an index is built it has an initial stream; when it goes online, the maintenance stream goes back to where its worker is
abbrev pub a_merge_rewinds_script : (ℕ → Value) → Script
a_merge_rewinds_script doc =
    worked 1 1 (
    (command.Upsert (codes "a") (doc 0) ∷ command.Ddl (codes "CREATE INDEX ix ON ks(x)") ∷ command.Upsert (codes "b") (doc 1) ∷ [])
    ∷ [])
    (Client 0 ∷ Client 0 ∷ Project 0 (Some ix) ∷ Deliver ix 0 ∷ Publish ix ∷ Client 0 ∷ Client 0 ∷ Project 0 None ∷ Deliver ix 0 ∷ Project 0 None
    ∷ Deliver ix 0 ∷ Publish ix ∷ [])

abbrev pub a_merge_rewinds : (ℕ → Value) → Create → List Event
a_merge_rewinds doc create =
    mutate 0 0 (record { vb = 0; seqno = 1; id = codes "a"; body = Some (doc 0) })
    ∷ define 0 1 0 false (definition_of create)
    ∷ publish 0 (1 ∷ [])
    ∷ online 0 1 (0 ∷ [])
    ∷ mutate 0 2 (record { vb = 0; seqno = 2; id = codes "b"; body = Some (doc 1) })
    ∷ publish 0 (2 ∷ [])
    ∷ []

-- a client that has nothing left does nothing
abbrev pub clients_with_nothing_left_script : Script
clients_with_nothing_left_script =
    worked 1024 64 (
    ([])
    ∷ [])
    (Client 0 ∷ Client 0 ∷ Client 0 ∷ Client 0 ∷ Client 0 ∷ Client 0 ∷ Client 0 ∷ Client 0 ∷ [])

abbrev pub clients_with_nothing_left : List Event
clients_with_nothing_left =
    []
