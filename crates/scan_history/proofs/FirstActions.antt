-- What the first action of a command can be.
use Rattle.std.proofs.Common.{◌≡◌, ℕ, ◌<◌, not, List, length, nat_le, Some, None, refl, arith, inl}
use Rattle.std.specs.Prelude.{⊤}
use Rattle.std.specs.List.{AllByRecursion, list_all}
use Rattle.std.specs.Str.{bytes_eq}
use Rattle.std.proofs.lemmas.Bool.{cond_both}
use Rattle.std.proofs.lemmas.Bool.Decides.{nat_tests}
use Rattle.n1ql_value.specs.declared.range.Range.{Range}
use Rattle.n1ql_value.specs.Limits.{max_indexes}
use Rattle.vb_store.specs.declared.mutation.Mutation.{Mutation}
use Rattle.vb_store.specs.Mutations.{IsNext, high_of, next_mutation}
use Rattle.n1ql_ast.specs.declared.create.Create.{Create}
use Rattle.n1ql_ast.specs.declared.ddl.Ddl.{Ddl}
use Rattle.n1ql_ast.specs.declared.ddl.Ddl.TheVariants as ddl
use Rattle.index_def.specs.declared.definition.IndexDef.{IndexDef}
use Rattle.index_def.specs.Definitions.{definition_of}
use Rattle.index_def.specs.Deferral.{is_build_deferred}
use Rattle.index_def.specs.LiveIndexes.{Live, AreNumbered, is_named, named, is_live, is_live_deferred, first_of_each, numbers_of}
use Rattle.index_def.specs.Reasons.{first_reason}
use Rattle.scan_coord.specs.Demands.{wanted_of}
use Rattle.scan_history.specs.declared.ask.Ask.{Ask}
use Rattle.scan_history.specs.declared.command.Command.{Command}
use Rattle.scan_history.specs.declared.command.Command.TheVariants as command
use Rattle.scan_history.specs.declared.script.Script.{Script}
use Rattle.scan_history.specs.declared.why.Why.{Why}
use Rattle.scan_history.specs.declared.why.Why.TheVariants.{Plain, At, Because}
use Rattle.scan_history.specs.Events.{Event, mutate, define, build, removed, start, refuse}
use Rattle.scan_history.specs.Fold.{nothing, State}
use Rattle.scan_history.specs.Readings.{Read, reads, faults}
use Rattle.scan_history.specs.First.{command_at, is_online, first_of_sound, first_of_create, first_of_build, first_of_drop, in_keyspace, first_of_statement, first_of_text, session_of, first_on, first_of, first_action}
use Rattle.scan_history.specs.Legal.{IsFirst, MayFollow}
use Rattle.scan_history.specs.Refusals as code
use Rattle.scan_history.proofs.Lists.{by_option, by_made}
use Rattle.scan_history.proofs.LiveLists.{found_made, numbers_made, each_first}

-- What holds of each event that a first action can be, holds of the first action.
module _
    (read : List ℕ → Read) (script : Script) (s : State) (c k : ℕ) (Holds : Command → Event → Type 0)
    (mutates : (asked : Command) (what : Mutation) → IsNext script.vbuckets s.log what → Holds asked (mutate c k what))
    (defines : (asked : Command) (text : List ℕ) (create : Create) → read text ≡ reads (ddl.Create create) → first_reason create ≡ None → length s.defs < max_indexes
    → Holds asked (define c k (length s.defs) (is_build_deferred create) (definition_of create)))
    (builds : (asked : Command) (names : List (List ℕ)) → Holds asked (build c k (first_of_each (numbers_of names s.live))))
    (removes : (asked : Command) (index : Live) → Holds asked (removed c k index.number))
    (starts : (name : List ℕ) (spans : List (List Range)) (ask : Ask) (index : Live) → named name s.live ≡ Some index
    → Holds (command.Scan name spans ask) (start c k index.number (wanted_of ask.demand (session_of (s.client c)) (high_of script.vbuckets s.log))))
    (refuses : (asked : Command) (number : ℕ) (why : Why) → Holds asked (refuse c k number why)) where
  module _ (asked : Command) (text : List ℕ) where
    abbrev Now : Event → Type 0
    Now e = Holds asked e

    by_sound : (create : Create) → read text ≡ reads (ddl.Create create) → first_reason create ≡ None → Now (first_of_sound s c k create)
    by_sound create is good =
        cond_both (is_live s.live create.name) (refuse c k code.exists Plain) _ Now (λ taken. refuses asked code.exists Plain)
        (λ free. cond_both (nat_le max_indexes (length s.defs)) (refuse c k code.too_many_indexes Plain) (define c k (length s.defs) (is_build_deferred create) (definition_of create)) Now
        (λ full. refuses asked code.too_many_indexes Plain)
        (λ room. defines asked text create is good (grind (arith, nat_tests, room))))

    by_create : (create : Create) → read text ≡ reads (ddl.Create create) → Now (first_of_create s c k create)
    by_create create is =
        by_option Now (λ reason. refuse c k code.bad_definition (Because reason)) (first_of_sound s c k create) (first_reason create)
        (λ reason bad. refuses asked code.bad_definition (Because reason)) (by_sound create is)

    by_build : (names : List (List ℕ)) → Now (first_of_build s c k names)
    by_build names =
        cond_both (not (list_all (is_live s.live) names)) (refuse c k code.unknown_index Plain) _ Now (λ unknown. refuses asked code.unknown_index Plain)
        (λ live. cond_both (not (list_all (is_live_deferred s.live) names)) (refuse c k code.not_deferred Plain) (build c k (first_of_each (numbers_of names s.live))) Now
        (λ other. refuses asked code.not_deferred Plain) (λ deferred. builds asked names))

    by_drop : (name : List ℕ) → Now (first_of_drop s c k name)
    by_drop name =
        by_option Now (λ (index : Live). removed c k index.number) (refuse c k code.unknown_index Plain) (named name s.live)
        (λ index is. removes asked index) (λ none. refuses asked code.unknown_index Plain)

    by_keyspace : (keyspace : List ℕ) (e : Event) → Now e → Now (in_keyspace script keyspace c k e)
    by_keyspace keyspace e holds =
        cond_both (bytes_eq keyspace script.keyspace) e (refuse c k code.keyspace Plain) Now (λ same. holds) (λ other. refuses asked code.keyspace Plain)

    by_statement : (statement : Ddl) → read text ≡ reads statement → Now (first_of_statement script s c k statement)
    by_statement (ddl.Create create) is = by_keyspace create.keyspace (first_of_create s c k create) (by_create create is)
    by_statement (ddl.Build keyspace names) is = by_keyspace keyspace (first_of_build s c k names) (by_build names)
    by_statement (ddl.Remove keyspace name) is = by_keyspace keyspace (first_of_drop s c k name) (by_drop name)

    by_text : (r : Read) → read text ≡ r → Now (first_of_text script s c k r)
    by_text (reads statement) is = by_statement statement is
    by_text (faults at) is = refuses asked code.parse (At at)

  by_on : (name : List ℕ) (spans : List (List Range)) (ask : Ask) (index : Live) → named name s.live ≡ Some index
      → Holds (command.Scan name spans ask) (first_on script.vbuckets s c k ask index)
  by_on name spans ask index is =
      cond_both (is_online index.state)
      (start c k index.number (wanted_of ask.demand (session_of (s.client c)) (high_of script.vbuckets s.log)))
      (refuse c k code.not_online Plain) (Holds (command.Scan name spans ask)) (λ online. starts name spans ask index is) (λ other. refuses (command.Scan name spans ask) code.not_online Plain)

  pub by_command : (asked : Command) → Holds asked (first_of read script s c k asked)
  by_command (command.Upsert id doc) = mutates (command.Upsert id doc) (next_mutation script.vbuckets s.log id (Some doc)) (record { bucket = refl; number = refl })
  by_command (command.Delete id) = mutates (command.Delete id) (next_mutation script.vbuckets s.log id None) (record { bucket = refl; number = refl })
  by_command (command.Ddl text) = by_text (command.Ddl text) text (read text) refl
  by_command (command.Scan name spans ask) =
      by_option (Holds (command.Scan name spans ask)) (first_on script.vbuckets s c k ask) (refuse c k code.unknown_index Plain) (named name s.live)
      (by_on name spans ask) (λ none. refuses (command.Scan name spans ask) code.unknown_index Plain)

-- the command is a request that wants this
abbrev pub AsksFor : Script → State → ℕ → Command → List ℕ → Type 0
AsksFor script s c (command.Scan index spans ask) demand = demand ≡ wanted_of ask.demand (session_of (s.client c)) (high_of script.vbuckets s.log)
AsksFor script s c _ demand = ⊥

-- a text is read as a statement that asks for this definition, and there is nothing against it
abbrev pub IsDefinedBy : (List ℕ → Read) → IndexDef → Type 0
IsDefinedBy read def = (text : List ℕ) × (create : Create) × (read text ≡ reads (ddl.Create create)) × (first_reason create ≡ None) × (definition_of create ≡ def)

-- what the state and the command say of a first action
abbrev pub Fits : (List ℕ → Read) → Script → State → ℕ → Command → Event → Type 0
Fits read script s c asked (mutate d k what) = IsNext script.vbuckets s.log what
Fits read script s c asked (define d k i deferred def) = (i ≡ length s.defs) × (length s.defs < max_indexes) × IsDefinedBy read def
Fits read script s c asked (build d k indexes) = AllByRecursion (λ i. i < length s.defs) indexes
Fits read script s c asked (start d k i demand) = (i < length s.defs) × AsksFor script s c asked demand
Fits read script s c asked _ = ⊤

-- it is the first action of a command that the client has, and fits it
abbrev pub IsFitting : (List ℕ → Read) → Script → State → ℕ → Event → Type 0
IsFitting read script s c e = (asked : Command) × (command_at script c (s.client c).next ≡ Some asked) × Fits read script s c asked e

-- the first action fits the state
pub first_fits : (read : List ℕ → Read) (script : Script) (s : State) → AreNumbered 0 (length s.defs) s.live
    → (c : ℕ) (e : Event) → first_action read script s c ≡ Some e → IsFitting read script s c e
first_fits read script s known c e is =
    let k = (s.client c).next in
    let fits : (asked : Command) → Fits read script s c asked (first_of read script s c k asked) =
    by_command read script s c k (Fits read script s c)
    (λ asked what next. next)
    (λ asked text create is good room. (refl, room, (text, create, is, good, refl)))
    (λ asked names. each_first (λ i. i < length s.defs) (numbers_of names s.live) (numbers_made (length s.defs) s.live names known))
    (λ asked index. tt)
    (λ name spans ask index is. (found_made (is_named name) 0 (length s.defs) s.live index known is, refl))
    (λ asked number why. tt) in
    by_made (IsFitting read script s c) (first_of read script s c k) (command_at script c k) e (λ asked there. (asked, there, fits asked)) is

-- the first action may follow
pub first_may_follow : (read : List ℕ → Read) (script : Script) (s : State) (c : ℕ) (e : Event)
    → (s.client c).opened ≡ nothing → first_action read script s c ≡ Some e → MayFollow read script s e
first_may_follow read script s c e idle is =
    let k = (s.client c).next in
    let Follows : Command → Event → Type 0 = λ asked e. IsFirst read script s c e → MayFollow read script s e in
    let follows : (asked : Command) → Follows asked (first_of read script s c k asked) =
    by_command read script s c k Follows
    (λ asked what next first. first) (λ asked text create is good room first. first) (λ asked names first. first)
    (λ asked index first. first) (λ name spans ask index is first. first) (λ asked number why first. inl first) in
    by_made (λ e. IsFirst read script s c e → MayFollow read script s e) (first_of read script s c k) (command_at script c k) e (λ asked there. follows asked) is (idle, is)
