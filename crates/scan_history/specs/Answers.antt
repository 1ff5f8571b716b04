-- The answers of a history, and how its indexes ended.
use Rattle.std.specs.Option.{option_map_or}
use Rattle.std.specs.Prelude.{ℕ, List, [], ◌∷◌, ◌++◌, map, length, Option, Some, None, slice_get}
use Rattle.n1ql_value.specs.declared.range.Range.{Range}
use Rattle.n1ql_value.specs.declared.row.Row.{Row}
use Rattle.vb_store.specs.declared.mutation.Mutation.{Mutation}
use Rattle.vb_store.specs.Documents.{documents_at}
use Rattle.index_def.specs.declared.definition.IndexDef.{IndexDef}
use Rattle.n1ql_value.specs.Documents.{Documents}
use Rattle.index_def.specs.Index.{index_of, scan_of}
use Rattle.index_def.specs.LiveIndexes.{Live}
use Rattle.scan_history.specs.declared.command.Command.{Command}
use Rattle.scan_history.specs.declared.command.Command.TheVariants.{Scan}
use Rattle.scan_history.specs.declared.script.Script.{Script}
use Rattle.scan_history.specs.declared.done.Answered.{Answered}
use Rattle.scan_history.specs.declared.done.End.{End}
use Rattle.scan_history.specs.Events.{Event, answer}
use Rattle.scan_history.specs.Fold.{Opened, started, picked, State, first_state, step, state_after}
use Rattle.scan_history.specs.First.{command_at}
use Rattle.scan_history.specs.RowTexts.{rows_text}

-- the spans of a scan; another command has none
abbrev pub spans_of : Option Command → List (List Range)
spans_of (Some (Scan index spans ask)) = spans
spans_of _ = []

-- the definition of the index that a client's request began on, also after that index was dropped
abbrev pub definition_in : List IndexDef → Opened → Option IndexDef
definition_in defs (started i demand high) = slice_get defs i
definition_in defs (picked i at) = slice_get defs i
definition_in defs _ = None

abbrev pub started_definition : State → ℕ → Option IndexDef
started_definition s c = definition_in s.defs (s.client c).opened

-- the rows of a scan, none without an index
abbrev pub scan_under : Option IndexDef → List (List Range) → Documents → List Row
scan_under def spans docs = option_map_or (λ d. scan_of d spans docs) def []

-- The answer of an event in the state before it, where `log` are the mutations of the whole history: the rows of the index
-- that the spans hold, on the documents at the answer's vector.
abbrev pub answer_at : Script → List Mutation → State → Event → List Answered
answer_at script log s (answer c k at) =
    record { c = c; k = k; text = Some (rows_text (scan_under (started_definition s c) (spans_of (command_at script c k)) (documents_at log at))) } ∷ []
answer_at script log s _ = []

abbrev pub answers_from : Script → List Mutation → State → List Event → List Answered
answers_from script log s [] = []
answers_from script log s (e ∷ es) = answer_at script log s e ++ answers_from script log (step script.vbuckets s e) es

-- the answers of a history, in the order of their events
unfoldable pub answers_of : Script → List Event → List Answered
answers_of script events = answers_from script (state_after script.vbuckets events).log (first_state script.vbuckets) events

-- how an index ended: its name, its state, and the rows of its newest publication
abbrev pub end_of : State → Live → End
end_of s index =
    let at = s.published index.number in
    record { i = index.number; name = index.def.name; state = index.state; vector = at; rows = length (index_of index.def (documents_at s.log at)) }

-- how the live indexes of a history ended, in order of creation
unfoldable pub ends_of : Script → List Event → List End
ends_of script events = let s = state_after script.vbuckets events in map (end_of s) s.live
