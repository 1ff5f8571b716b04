-- What a catalog holds, and what becomes of it.
use Rattle.std.specs.Prelude.{ℕ, ◌+◌, not, ◌==◌, ◌++◌, List, [], ◌∷◌, Option, Some, None, is_some, if◌then◌else◌}
use Rattle.std.specs.List.{list_all}
use Rattle.n1ql_value.specs.Limits.{max_indexes}
use Rattle.n1ql_value.specs.declared.state.State.{State}
use Rattle.index_def.specs.declared.definition.IndexDef.{IndexDef}
use Rattle.index_def.specs.LiveIndexes.{Live, named, is_live, is_live_deferred}
use Rattle.index_ddl.specs.declared.fault.DdlFault.{DdlFault}
use Rattle.index_ddl.specs.declared.fault.DdlFault.TheVariants.{Exists, Unknown, NotDeferred, TooMany}

-- the live indexes in order of creation, and how many were created, dropped ones among them
pub record Indexes : Type 0 where
  pub live : List Live
  pub made : ℕ

-- why no index of this name is created: a live one has it, or as many were created as there may be
abbrev pub creation_fault : List ℕ → Indexes → Option DdlFault
creation_fault name indexes =
    if is_some (named name indexes.live) then Some Exists
    else (if indexes.made == max_indexes then Some TooMany else None)

-- a new index goes last, and its number is the count of those before it
abbrev pub with_index : IndexDef → State → Indexes → Indexes
with_index def state indexes =
    record { live = indexes.live ++ record { number = indexes.made; def = def; state = state } ∷ []; made = indexes.made + 1 }

-- why the indexes of these names aren't built: a name isn't live, or all are and one isn't deferred
abbrev pub build_fault : List (List ℕ) → List Live → Option DdlFault
build_fault names live =
    if not (list_all (is_live live) names) then Some Unknown
    else (if not (list_all (is_live_deferred live) names) then Some NotDeferred else None)
