-- Worked replays of requests: scripts and the histories that they give, whatever the documents are.
use Rattle.std.specs.Prelude.{ℕ, true, false, List, [], ◌∷◌, codes, Some, None}
use Rattle.n1ql_value.specs.declared.value.Value.{Value}
use Rattle.n1ql_ast.specs.declared.create.Create.{Create}
use Rattle.index_def.specs.Definitions.{definition_of}
use Rattle.scan_coord.specs.declared.demand.Demand.TheVariants.{NotBounded, AtPlus, Mine, RequestPlus}
use Rattle.scan_history.specs.declared.command.Command.TheVariants as command
use Rattle.scan_history.specs.declared.turn.Turn.TheVariants.{Client, Project, Deliver, Publish}
use Rattle.scan_history.specs.declared.script.Script.{Script}
use Rattle.scan_history.specs.declared.why.Why.TheVariants.{Plain}
use Rattle.scan_history.specs.Events.{Event, mutate, define, online, publish, removed, start, answer, not_yet, refuse}
use Rattle.gsi_sched.specs.WorkedScripts.{ix, ask_ix, worked}

-- a request waits, but for a vector that no mutation reaches; one for what its client wrote is answered
abbrev pub a_vector_that_is_never_reached_script : (ℕ → Value) → Script
a_vector_that_is_never_reached_script doc =
    worked 1 64 (
    (command.Ddl (codes "CREATE INDEX ix ON ks(x)") ∷ command.Upsert (codes "a") (doc 0) ∷ ask_ix (AtPlus (2 ∷ [])) true ∷ ask_ix Mine true ∷ [])
    ∷ [])
    ([])

abbrev pub a_vector_that_is_never_reached : (ℕ → Value) → Create → List Event
a_vector_that_is_never_reached doc create =
    define 0 0 0 false (definition_of create)
    ∷ online 0 0 (0 ∷ [])
    ∷ mutate 0 1 (record { vb = 0; seqno = 1; id = codes "a"; body = Some (doc 0) })
    ∷ start 0 2 0 (2 ∷ [])
    ∷ publish 0 (1 ∷ [])
    ∷ not_yet 0 2 (1 ∷ [])
    ∷ start 0 3 0 (1 ∷ [])
    ∷ answer 0 3 (1 ∷ [])
    ∷ []

-- a request waits for what was accepted before it began, not for another client's mutation after that
abbrev pub a_later_mutation_is_not_waited_for_script : (ℕ → Value) → Script
a_later_mutation_is_not_waited_for_script doc =
    worked 1 64 (
    (command.Ddl (codes "CREATE INDEX ix ON ks(x)") ∷ command.Upsert (codes "a") (doc 0) ∷ ask_ix RequestPlus true ∷ [])
    ∷ (command.Upsert (codes "b") (doc 1) ∷ [])
    ∷ [])
    (Client 0 ∷ Client 0 ∷ Client 0 ∷ Project 0 None ∷ Deliver ix 0 ∷ Publish ix ∷ Client 0 ∷ Client 1 ∷ Client 0 ∷ [])

abbrev pub a_later_mutation_is_not_waited_for : (ℕ → Value) → Create → List Event
a_later_mutation_is_not_waited_for doc create =
    define 0 0 0 false (definition_of create)
    ∷ online 0 0 (0 ∷ [])
    ∷ mutate 0 1 (record { vb = 0; seqno = 1; id = codes "a"; body = Some (doc 0) })
    ∷ publish 0 (1 ∷ [])
    ∷ start 0 2 0 (1 ∷ [])
    ∷ mutate 1 0 (record { vb = 0; seqno = 2; id = codes "b"; body = Some (doc 1) })
    ∷ answer 0 2 (1 ∷ [])
    ∷ publish 0 (2 ∷ [])
    ∷ []

-- a client that saw a publication isn't answered from an older one; what it wrote counts only where it asks for that
abbrev pub what_was_seen_counts_script : (ℕ → Value) → Script
what_was_seen_counts_script doc =
    worked 1 64 (
    (command.Ddl (codes "CREATE INDEX ix ON ks(x)") ∷ command.Upsert (codes "a") (doc 0) ∷ ask_ix RequestPlus true ∷ command.Delete (codes "a")
    ∷ ask_ix NotBounded true ∷ ask_ix Mine true ∷ [])
    ∷ [])
    ([])

abbrev pub what_was_seen_counts : (ℕ → Value) → Create → List Event
what_was_seen_counts doc create =
    define 0 0 0 false (definition_of create)
    ∷ online 0 0 (0 ∷ [])
    ∷ mutate 0 1 (record { vb = 0; seqno = 1; id = codes "a"; body = Some (doc 0) })
    ∷ start 0 2 0 (1 ∷ [])
    ∷ publish 0 (1 ∷ [])
    ∷ answer 0 2 (1 ∷ [])
    ∷ mutate 0 3 (record { vb = 0; seqno = 2; id = codes "a"; body = None })
    ∷ start 0 4 0 (1 ∷ [])
    ∷ answer 0 4 (1 ∷ [])
    ∷ start 0 5 0 (2 ∷ [])
    ∷ publish 0 (2 ∷ [])
    ∷ answer 0 5 (2 ∷ [])
    ∷ []

-- four documents go to the four vBuckets; the demand isn't reached in one of them
abbrev pub four_vbuckets_script : (ℕ → Value) → Script
four_vbuckets_script doc =
    worked 4 64 (
    (command.Upsert (codes "d") (doc 0) ∷ command.Upsert (codes "c") (doc 1) ∷ command.Upsert (codes "b") (doc 2)
    ∷ command.Upsert (codes "a") (doc 3) ∷ command.Ddl (codes "CREATE INDEX ix ON ks(x)") ∷ ask_ix (AtPlus (0 ∷ 1 ∷ 2 ∷ 0 ∷ [])) true ∷ [])
    ∷ [])
    ([])

abbrev pub four_vbuckets : (ℕ → Value) → Create → List Event
four_vbuckets doc create =
    mutate 0 0 (record { vb = 3; seqno = 1; id = codes "d"; body = Some (doc 0) })
    ∷ mutate 0 1 (record { vb = 2; seqno = 1; id = codes "c"; body = Some (doc 1) })
    ∷ mutate 0 2 (record { vb = 1; seqno = 1; id = codes "b"; body = Some (doc 2) })
    ∷ mutate 0 3 (record { vb = 0; seqno = 1; id = codes "a"; body = Some (doc 3) })
    ∷ define 0 4 0 false (definition_of create)
    ∷ publish 0 (1 ∷ 1 ∷ 1 ∷ 1 ∷ [])
    ∷ online 0 4 (0 ∷ [])
    ∷ start 0 5 0 (0 ∷ 1 ∷ 2 ∷ 0 ∷ [])
    ∷ not_yet 0 5 (1 ∷ 1 ∷ 1 ∷ 1 ∷ [])
    ∷ []

-- an index is dropped while a request on it is open
abbrev pub a_drop_under_a_request_script : Script
a_drop_under_a_request_script =
    worked 1 64 (
    (command.Ddl (codes "CREATE INDEX ix ON ks(x)") ∷ ask_ix NotBounded true ∷ [])
    ∷ (command.Ddl (codes "DROP INDEX ix ON ks") ∷ [])
    ∷ [])
    (Client 0 ∷ Client 0 ∷ Client 0 ∷ Client 1 ∷ Client 0 ∷ [])

abbrev pub a_drop_under_a_request : Create → List Event
a_drop_under_a_request create =
    define 0 0 0 false (definition_of create)
    ∷ online 0 0 (0 ∷ [])
    ∷ start 0 1 0 (0 ∷ [])
    ∷ removed 1 0 0
    ∷ refuse 0 1 10 Plain
    ∷ []

-- the index is dropped while it is built
abbrev pub a_drop_under_a_build_script : Script
a_drop_under_a_build_script =
    record a_drop_under_a_request_script { schedule = Client 0 ∷ Client 1 ∷ Client 0 ∷ [] }

abbrev pub a_drop_under_a_build : Create → List Event
a_drop_under_a_build create =
    define 0 0 0 false (definition_of create)
    ∷ removed 1 0 0
    ∷ refuse 0 0 10 Plain
    ∷ refuse 0 1 5 Plain
    ∷ []
