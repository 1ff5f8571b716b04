-- Worked replays of statements: scripts, what their texts are read as, and the histories that they give, whatever the documents are.
use Rattle.std.specs.Prelude.{ℕ, true, false, List, [], ◌∷◌, codes, Some}
use Rattle.n1ql_value.specs.declared.value.Value.{Value}
use Rattle.n1ql_ast.specs.declared.create.Create.{Create}
use Rattle.n1ql_ast.specs.declared.ddl.Ddl.TheVariants as ddl
use Rattle.index_def.specs.Definitions.{definition_of}
use Rattle.index_def.specs.declared.reason.Reason.TheVariants.{ConstantKey}
use Rattle.scan_coord.specs.declared.demand.Demand.TheVariants.{NotBounded}
use Rattle.scan_history.specs.declared.command.Command.TheVariants as command
use Rattle.scan_history.specs.declared.script.Script.{Script}
use Rattle.scan_history.specs.declared.why.Why.TheVariants.{Plain, At, Because}
use Rattle.scan_history.specs.Events.{Event, mutate, define, build, online, publish, start, answer, refuse}
use Rattle.scan_history.specs.Readings.{Read, reads, faults}
use Rattle.gsi_sched.specs.WorkedScripts.{told_as, nothing_read, ask_ix, worked}

-- a deferred index isn't online; its building is asked for, once
abbrev pub a_build_is_asked_for_read : Create → List ℕ → Read
a_build_is_asked_for_read create =
    told_as (codes "CREATE INDEX ix ON ks(x) WITH {\"defer_build\": true}") (reads (ddl.Create create)) (
    told_as (codes "BUILD INDEX ON ks(ix)") (reads (ddl.Build (codes "ks") (codes "ix" ∷ []))) nothing_read)

abbrev pub a_build_is_asked_for_script : (ℕ → Value) → Script
a_build_is_asked_for_script doc =
    worked 1 64 (
    (command.Upsert (codes "a") (doc 0) ∷ command.Ddl (codes "CREATE INDEX ix ON ks(x) WITH {\"defer_build\": true}") ∷ ask_ix NotBounded true
    ∷ command.Ddl (codes "BUILD INDEX ON ks(ix)") ∷ ask_ix NotBounded true ∷ command.Ddl (codes "BUILD INDEX ON ks(ix)") ∷ [])
    ∷ [])
    ([])

abbrev pub a_build_is_asked_for : (ℕ → Value) → Create → List Event
a_build_is_asked_for doc create =
    mutate 0 0 (record { vb = 0; seqno = 1; id = codes "a"; body = Some (doc 0) })
    ∷ define 0 1 0 true (definition_of create)
    ∷ refuse 0 2 8 Plain
    ∷ build 0 3 (0 ∷ [])
    ∷ publish 0 (1 ∷ [])
    ∷ online 0 3 (0 ∷ [])
    ∷ start 0 4 0 (0 ∷ [])
    ∷ answer 0 4 (1 ∷ [])
    ∷ refuse 0 5 6 Plain
    ∷ []

-- a text that is no statement, another keyspace, a reason against a definition, a name that is taken, and one that isn't there
abbrev pub each_refusal_read : (create constant : Create) → List ℕ → Read
each_refusal_read create constant =
    told_as (codes "CREATE INDEX ix ON") (faults 18) (
    told_as (codes "DROP INDEX ix ON other") (reads (ddl.Remove (codes "other") (codes "ix"))) (
    told_as (codes "CREATE INDEX ix ON ks(1)") (reads (ddl.Create constant)) (
    told_as (codes "CREATE INDEX ix ON ks(x)") (reads (ddl.Create create)) (
    told_as (codes "DROP INDEX nope ON ks") (reads (ddl.Remove (codes "ks") (codes "nope"))) nothing_read))))

abbrev pub each_refusal_script : Script
each_refusal_script =
    worked 1 64 (
    (command.Ddl (codes "CREATE INDEX ix ON") ∷ command.Ddl (codes "DROP INDEX ix ON other") ∷ command.Ddl (codes "CREATE INDEX ix ON ks(1)")
    ∷ command.Ddl (codes "CREATE INDEX ix ON ks(x)") ∷ command.Ddl (codes "CREATE INDEX ix ON ks(x)")
    ∷ command.Ddl (codes "DROP INDEX nope ON ks") ∷ [])
    ∷ [])
    ([])

abbrev pub each_refusal : Create → List Event
each_refusal create =
    refuse 0 0 1 (At 18)
    ∷ refuse 0 1 2 Plain
    ∷ refuse 0 2 3 (Because ConstantKey)
    ∷ define 0 3 0 false (definition_of create)
    ∷ online 0 3 (0 ∷ [])
    ∷ refuse 0 4 4 Plain
    ∷ refuse 0 5 5 Plain
    ∷ []
