-- The first action of a client's next command.
use Rattle.std.specs.Prelude.{ℕ, Bool, true, false, not, nat_le, List, [], length, Option, Some, None, option_map, slice_get, if◌then◌else◌}
use Rattle.std.specs.List.{list_all}
use Rattle.std.specs.Option.{option_map_or}
use Rattle.std.specs.Str.{bytes_eq}
use Rattle.n1ql_value.specs.Limits.{max_indexes}
use Rattle.n1ql_value.specs.declared.state.State.{State as Stage}
use Rattle.n1ql_value.specs.declared.state.State.TheVariants.{Online}
use Rattle.vb_store.specs.Mutations.{high_of, next_mutation}
use Rattle.n1ql_ast.specs.declared.create.Create.{Create}
use Rattle.n1ql_ast.specs.declared.ddl.Ddl.{Ddl}
use Rattle.n1ql_ast.specs.declared.ddl.Ddl.TheVariants as ddl
use Rattle.index_def.specs.Definitions.{definition_of}
use Rattle.index_def.specs.Deferral.{is_build_deferred}
use Rattle.index_def.specs.LiveIndexes.{Live, named, is_live, is_live_deferred, first_of_each, numbers_of}
use Rattle.index_def.specs.Reasons.{first_reason}
use Rattle.scan_coord.specs.declared.session.Session.{Session}
use Rattle.scan_coord.specs.Demands.{wanted_of}
use Rattle.scan_history.specs.declared.ask.Ask.{Ask}
use Rattle.scan_history.specs.declared.command.Command.{Command}
use Rattle.scan_history.specs.declared.command.Command.TheVariants as command
use Rattle.scan_history.specs.declared.script.Script.{Script}
use Rattle.scan_history.specs.declared.why.Why.TheVariants.{Plain, At, Because}
use Rattle.scan_history.specs.Events.{Event, mutate, define, build, removed, start, refuse}
use Rattle.scan_history.specs.Fold.{Client, State}
use Rattle.scan_history.specs.Readings.{Read, reads, faults}
use Rattle.scan_history.specs.Refusals as code

-- the commands of a client, and its command at place k
abbrev pub commands_of : Script → ℕ → List Command
commands_of script c = option_map_or (λ commands. commands) (slice_get script.commands c) []

abbrev pub command_at : Script → ℕ → ℕ → Option Command
command_at script c k = slice_get (commands_of script c) k

abbrev pub is_online : Stage → Bool
is_online Online = true
is_online _ = false

-- CREATE INDEX with no reason against it: refused for a name that is taken, or where as many indexes were created as there may be
abbrev pub first_of_sound : State → ℕ → ℕ → Create → Event
first_of_sound s c k create =
    if is_live s.live create.name then refuse c k code.exists Plain
    else (if nat_le max_indexes (length s.defs) then refuse c k code.too_many_indexes Plain
    else define c k (length s.defs) (is_build_deferred create) (definition_of create))

-- CREATE INDEX: refused for the first reason against it
abbrev pub first_of_create : State → ℕ → ℕ → Create → Event
first_of_create s c k create =
    option_map_or (λ reason. refuse c k code.bad_definition (Because reason)) (first_reason create) (first_of_sound s c k create)

-- BUILD INDEX: refused where a name isn't live, or is of an index that isn't deferred
abbrev pub first_of_build : State → ℕ → ℕ → List (List ℕ) → Event
first_of_build s c k names =
    if not (list_all (is_live s.live) names) then refuse c k code.unknown_index Plain
    else (if not (list_all (is_live_deferred s.live) names) then refuse c k code.not_deferred Plain
    else build c k (first_of_each (numbers_of names s.live)))

-- DROP INDEX: refused where the name isn't live
abbrev pub first_of_drop : State → ℕ → ℕ → List ℕ → Event
first_of_drop s c k name =
    option_map_or (λ (index : Live). removed c k index.number) (named name s.live) (refuse c k code.unknown_index Plain)

-- a statement is refused on another keyspace than the script's
abbrev pub in_keyspace : Script → List ℕ → ℕ → ℕ → Event → Event
in_keyspace script keyspace c k e = if bytes_eq keyspace script.keyspace then e else refuse c k code.keyspace Plain

abbrev pub first_of_statement : Script → State → ℕ → ℕ → Ddl → Event
first_of_statement script s c k (ddl.Create create) = in_keyspace script create.keyspace c k (first_of_create s c k create)
first_of_statement script s c k (ddl.Build keyspace names) = in_keyspace script keyspace c k (first_of_build s c k names)
first_of_statement script s c k (ddl.Remove keyspace name) = in_keyspace script keyspace c k (first_of_drop s c k name)

-- a text that is no statement is refused at the place of its fault
abbrev pub first_of_text : Script → State → ℕ → ℕ → Read → Event
first_of_text script s c k (reads statement) = first_of_statement script s c k statement
first_of_text script s c k (faults at) = refuse c k code.parse (At at)

-- what a client has seen and wrote
abbrev pub session_of : Client → Session
session_of part = record { seen = part.seen; wrote = part.wrote }

-- a request on an index: refused where the index isn't online; else it begins, and its answer has to cover what it wants
abbrev pub first_on : ℕ → State → ℕ → ℕ → Ask → Live → Event
first_on n s c k ask index =
    if is_online index.state then start c k index.number (wanted_of ask.demand (session_of (s.client c)) (high_of n s.log))
    else refuse c k code.not_online Plain

-- a scan: refused where the name isn't live
abbrev pub first_of_scan : ℕ → State → ℕ → ℕ → List ℕ → Ask → Event
first_of_scan n s c k index ask = option_map_or (first_on n s c k ask) (named index s.live) (refuse c k code.unknown_index Plain)

-- the event of the first action of command k of client c, where `read` tells of each text what it is
abbrev pub first_of : (List ℕ → Read) → Script → State → ℕ → ℕ → Command → Event
first_of read script s c k (command.Upsert id doc) = mutate c k (next_mutation script.vbuckets s.log id (Some doc))
first_of read script s c k (command.Delete id) = mutate c k (next_mutation script.vbuckets s.log id None)
first_of read script s c k (command.Ddl text) = first_of_text script s c k (read text)
first_of read script s c k (command.Scan index spans ask) = first_of_scan script.vbuckets s c k index ask

-- that of a client's next command, where it has one
abbrev pub first_action : (List ℕ → Read) → Script → State → ℕ → Option Event
first_action read script s c =
    let k = (s.client c).next in
    option_map (first_of read script s c k) (command_at script c k)
