-- What the first action of a command can be.
use Rattle.std.proofs.Common.{◌≡◌, ℕ, Bool, true, false, not, List, length, nat_le, Option, Some, None, refl, subst}
use Rattle.std.specs.List.{list_all}
use Rattle.std.specs.Option.{option_map, option_map_or}
use Rattle.std.specs.Str.{bytes_eq}
use Rattle.std.proofs.lemmas.Bool.{cond_both, true≢false}
use Rattle.n1ql_value.specs.Limits.{max_indexes}
use Rattle.vb_store.specs.declared.mutation.Mutation.{Mutation}
use Rattle.vb_store.specs.Mutations.{high_of, next_mutation}
use Rattle.n1ql_ast.specs.declared.create.Create.{Create}
use Rattle.n1ql_ast.specs.declared.ddl.Ddl.{Ddl}
use Rattle.n1ql_ast.specs.declared.ddl.Ddl.TheVariants as ddl
use Rattle.index_def.specs.declared.definition.IndexDef.{IndexDef}
use Rattle.index_def.specs.Definitions.{definition_of}
use Rattle.index_def.specs.Deferral.{is_build_deferred}
use Rattle.index_def.specs.LiveIndexes.{Live, named, is_live, is_live_deferred, first_of_each, numbers_of}
use Rattle.index_def.specs.Reasons.{first_reason}
use Rattle.scan_coord.specs.Demands.{wanted_of}
use Rattle.scan_history.specs.declared.ask.Ask.{Ask}
use Rattle.scan_history.specs.declared.command.Command.{Command}
use Rattle.scan_history.specs.declared.command.Command.TheVariants as command
use Rattle.scan_history.specs.declared.script.Script.{Script}
use Rattle.scan_history.specs.declared.why.Why.{Why}
use Rattle.scan_history.specs.declared.why.Why.TheVariants.{Plain, At, Because}
use Rattle.scan_history.specs.Events.{Event, mutate, define, build, removed, start, refuse}
use Rattle.scan_history.specs.Fold.{State}
use Rattle.scan_history.specs.Readings.{Read, reads, faults}
use Rattle.scan_history.specs.First.{is_online, first_of_sound, first_of_create, first_of_build, first_of_drop, in_keyspace, first_of_statement, first_of_text, session_of, first_on, first_of}
use Rattle.scan_history.specs.Refusals as code

-- what is made of something there, or is given where nothing is
pub by_option : {A B : Type 0} (P : B → Type 0) (f : A → B) (d : B) (o : Option A) → ((x : A) → o ≡ Some x → P (f x)) → (o ≡ None → P d) → P (option_map_or f o d)
by_option P f d None there absent = absent refl
by_option P f d (Some x) there absent = there x refl

-- what is made of something there
pub by_made : {A B : Type 0} (P : B → Type 0) (f : A → B) (o : Option A) (b : B) → ((x : A) → o ≡ Some x → P (f x)) → option_map f o ≡ Some b → P b
by_made P f None b there is = absurd cc
by_made P f (Some x) b there is = let it : f x ≡ b = cc in subst P it (there x refl)

so_unless_not : (b : Bool) → not b ≡ false → b ≡ true
so_unless_not true is = refl
so_unless_not false is = absurd (true≢false is)

-- What holds of each event that a first action can be, holds of the first action.
module _
    (read : List ℕ → Read) (script : Script) (s : State) (c k : ℕ) (Holds : Event → Type 0)
    (mutates : (what : Mutation) → Holds (mutate c k what))
    (defines : (i : ℕ) (deferred : Bool) (def : IndexDef) → Holds (define c k i deferred def))
    (builds : (names : List (List ℕ)) → list_all (is_live_deferred s.live) names ≡ true → Holds (build c k (first_of_each (numbers_of names s.live))))
    (removes : (name : List ℕ) (index : Live) → named name s.live ≡ Some index → Holds (removed c k index.number))
    (starts : (name : List ℕ) (index : Live) (demand : List ℕ) → named name s.live ≡ Some index → is_online index.state ≡ true → Holds (start c k index.number demand))
    (refuses : (number : ℕ) (why : Why) → Holds (refuse c k number why)) where
  by_sound : (create : Create) → Holds (first_of_sound s c k create)
  by_sound create =
      cond_both (is_live s.live create.name) (refuse c k code.exists Plain) _ Holds (λ taken. refuses code.exists Plain)
      (λ free. cond_both (nat_le max_indexes (length s.defs)) (refuse c k code.too_many_indexes Plain) (define c k (length s.defs) (is_build_deferred create) (definition_of create)) Holds
      (λ full. refuses code.too_many_indexes Plain) (λ room. defines (length s.defs) (is_build_deferred create) (definition_of create)))

  by_create : (create : Create) → Holds (first_of_create s c k create)
  by_create create =
      by_option Holds (λ reason. refuse c k code.bad_definition (Because reason)) (first_of_sound s c k create) (first_reason create)
      (λ reason bad. refuses code.bad_definition (Because reason)) (λ good. by_sound create)

  by_build : (names : List (List ℕ)) → Holds (first_of_build s c k names)
  by_build names =
      cond_both (not (list_all (is_live s.live) names)) (refuse c k code.unknown_index Plain) _ Holds (λ unknown. refuses code.unknown_index Plain)
      (λ live. cond_both (not (list_all (is_live_deferred s.live) names)) (refuse c k code.not_deferred Plain) (build c k (first_of_each (numbers_of names s.live))) Holds
      (λ other. refuses code.not_deferred Plain) (λ deferred. builds names (so_unless_not (list_all (is_live_deferred s.live) names) deferred)))

  by_drop : (name : List ℕ) → Holds (first_of_drop s c k name)
  by_drop name =
      by_option Holds (λ (index : Live). removed c k index.number) (refuse c k code.unknown_index Plain) (named name s.live)
      (λ index is. removes name index is) (λ none. refuses code.unknown_index Plain)

  by_keyspace : (keyspace : List ℕ) (e : Event) → Holds e → Holds (in_keyspace script keyspace c k e)
  by_keyspace keyspace e holds =
      cond_both (bytes_eq keyspace script.keyspace) e (refuse c k code.keyspace Plain) Holds (λ same. holds) (λ other. refuses code.keyspace Plain)

  by_statement : (statement : Ddl) → Holds (first_of_statement script s c k statement)
  by_statement (ddl.Create create) = by_keyspace create.keyspace (first_of_create s c k create) (by_create create)
  by_statement (ddl.Build keyspace names) = by_keyspace keyspace (first_of_build s c k names) (by_build names)
  by_statement (ddl.Remove keyspace name) = by_keyspace keyspace (first_of_drop s c k name) (by_drop name)

  by_text : (r : Read) → Holds (first_of_text script s c k r)
  by_text (reads statement) = by_statement statement
  by_text (faults at) = refuses code.parse (At at)

  by_on : (name : List ℕ) (ask : Ask) (index : Live) → named name s.live ≡ Some index → Holds (first_on script.vbuckets s c k ask index)
  by_on name ask index is =
      let demand = wanted_of ask.demand (session_of (s.client c)) (high_of script.vbuckets s.log) in
      cond_both (is_online index.state) (start c k index.number demand) (refuse c k code.not_online Plain) Holds
      (λ online. starts name index demand is online) (λ other. refuses code.not_online Plain)

  pub by_command : (asked : Command) → Holds (first_of read script s c k asked)
  by_command (command.Upsert id doc) = mutates (next_mutation script.vbuckets s.log id (Some doc))
  by_command (command.Delete id) = mutates (next_mutation script.vbuckets s.log id None)
  by_command (command.Ddl text) = by_text (read text)
  by_command (command.Scan name spans ask) =
      by_option Holds (first_on script.vbuckets s c k ask) (refuse c k code.unknown_index Plain) (named name s.live)
      (by_on name ask) (λ none. refuses code.unknown_index Plain)
