-- The report of a history: a line for each event, and a line that ends it. Members stand in the byte order of their names.
use Rattle.std.specs.Prelude.{ℕ, ◌-◌, ◌==◌, List, [], ◌∷◌, ◌++◌, drop, length, map, codes, decimal, slice_index_or, Bool, Option, Some, None, unwrap_or, if◌then◌else◌}
use Rattle.json.specs.Print.{quoted}
use Rattle.n1ql_value.specs.declared.state.State.{State as Stage}
use Rattle.n1ql_value.specs.declared.state.State.TheVariants.{Deferred, Building, Online}
use Rattle.seq_vector.specs.Vectors.{entry, first_short}
use Rattle.vb_store.specs.Mutations.{high_of}
use Rattle.index_def.specs.declared.reason.Reason.{Reason}
use Rattle.index_def.specs.declared.reason.Reason.TheVariants.{TooManyKeys, TwoArrays, ConstantKey, MetaAlias, With}
use Rattle.index_def.specs.LiveIndexes.{state_at_creation}
use Rattle.scan_history.specs.declared.done.Answered.{Answered}
use Rattle.scan_history.specs.declared.done.End.{End}
use Rattle.scan_history.specs.declared.script.Script.{Script}
use Rattle.scan_history.specs.declared.why.Why.{Why}
use Rattle.scan_history.specs.declared.why.Why.TheVariants.{Plain, At, Because}
use Rattle.scan_history.specs.Answers.{answers_of, ends_of}
use Rattle.scan_history.specs.Events.{Event, mutate, define, build, online, publish, removed, start, answer, pick, fetch, not_yet, refuse}
use Rattle.scan_history.specs.Fold.{state_after}
use Rattle.script_text.specs.Lines.{word, array_of, object_of, line_of, vector_text}

-- the members of a line: each name with the text of its value
abbrev pub LineMembers : Type 0
LineMembers = List (List ℕ × List ℕ)

abbrev pub state_name : Stage → List ℕ
state_name Deferred = codes "deferred"
state_name Building = codes "building"
state_name Online = codes "online"

abbrev pub reason_name : Reason → List ℕ
reason_name TooManyKeys = codes "too_many_keys"
reason_name TwoArrays = codes "two_arrays"
reason_name ConstantKey = codes "constant_key"
reason_name MetaAlias = codes "meta_alias"
reason_name With = codes "with"

-- the names of the codes of refusals, from 1 on
abbrev pub refusal_names : List (List ℕ)
refusal_names =
    codes "parse" ∷ codes "keyspace" ∷ codes "bad_definition" ∷ codes "exists" ∷ codes "unknown_index" ∷ codes "not_deferred"
    ∷ codes "too_many_indexes" ∷ codes "not_online" ∷ codes "no_index" ∷ codes "dropped" ∷ codes "not_yet" ∷ codes "answer_too_large" ∷ []

abbrev pub refusal_name : ℕ → List ℕ
refusal_name code = slice_index_or refusal_names (code - 1) []

-- the place of a fault, and the reason against a definition
abbrev pub place_members : Why → LineMembers
place_members (At at) = (codes "at", decimal at) ∷ []
place_members _ = []

abbrev pub reason_members : Why → LineMembers
reason_members (Because reason) = (codes "reason", word (reason_name reason)) ∷ []
reason_members _ = []

-- what is told of an answer: its rows, or in their place that their text is too large
abbrev pub code_members : Option (List ℕ) → LineMembers
code_members None = (codes "code", decimal 12) ∷ []
code_members (Some rows) = []

abbrev pub row_members : Option (List ℕ) → LineMembers
row_members None = []
row_members (Some rows) = (codes "rows", rows) ∷ []

abbrev pub too_large_members : Option (List ℕ) → LineMembers
too_large_members None = (codes "what", word (codes "answer_too_large")) ∷ []
too_large_members (Some rows) = []

-- an answer, or a fetch, of rows with this text, or with one that is too large
abbrev pub answer_members : Option (List ℕ) → (c k : ℕ) → (at : List ℕ) → LineMembers
answer_members rows c k at =
    (codes "c", decimal c) ∷ code_members rows ++ (codes "e", word (codes "answer")) ∷ (codes "k", decimal k) ∷ row_members rows
    ++ (codes "v", vector_text at) ∷ too_large_members rows

abbrev pub fetch_members : Option (List ℕ) → (c k : ℕ) → (at fetched : List ℕ) → LineMembers
fetch_members rows c k at fetched =
    (codes "c", decimal c) ∷ code_members rows ++ (codes "e", word (codes "fetch")) ∷ (codes "f", vector_text fetched) ∷ (codes "k", decimal k) ∷ row_members rows
    ++ (codes "v", vector_text at) ∷ too_large_members rows

-- the least vBucket at which a vector is short of a demand
abbrev pub least_short : (demand have : List ℕ) → ℕ
least_short demand have = unwrap_or (first_short have demand) 0

-- a request that isn't answered yet
abbrev pub not_yet_members : (demand : List ℕ) → (c k : ℕ) → (have : List ℕ) → LineMembers
not_yet_members demand c k have =
    let vb = least_short demand have in
    (codes "c", decimal c) ∷ (codes "code", decimal 11) ∷ (codes "e", word (codes "not_yet")) ∷ (codes "have", decimal (entry have vb)) ∷ (codes "k", decimal k)
    ∷ (codes "v", vector_text have) ∷ (codes "vb", decimal vb) ∷ (codes "want", decimal (entry demand vb)) ∷ []

-- a refusal
abbrev pub refusal_members : (c k code : ℕ) → Why → LineMembers
refusal_members c k code why =
    place_members why ++ (codes "c", decimal c) ∷ (codes "code", decimal code) ∷ (codes "e", word (codes "refuse")) ∷ (codes "k", decimal k)
    ∷ reason_members why ++ (codes "what", word (refusal_name code)) ∷ []

-- What the line of an event tells beside the event: the text of its rows, where it is an answer whose text isn't too large; and what
-- a request that isn't answered yet has to cover.
pub record Beside : Type 0 where
  pub rows : Option (List ℕ)
  pub demand : List ℕ

abbrev pub event_members : Beside → Event → LineMembers
event_members b (mutate c k what) =
    (codes "c", decimal c) ∷ (codes "e", word (codes "mutate")) ∷ (codes "k", decimal k) ∷ (codes "seq", decimal what.seqno) ∷ (codes "vb", decimal what.vb) ∷ []
event_members b (define c k i deferred def) =
    (codes "c", decimal c) ∷ (codes "e", word (codes "define")) ∷ (codes "i", decimal i) ∷ (codes "k", decimal k) ∷ (codes "state", word (state_name (state_at_creation deferred))) ∷ []
event_members b (build c k indexes) =
    (codes "c", decimal c) ∷ (codes "e", word (codes "build")) ∷ (codes "indexes", array_of (map decimal indexes)) ∷ (codes "k", decimal k) ∷ []
event_members b (online c k indexes) =
    (codes "c", decimal c) ∷ (codes "e", word (codes "online")) ∷ (codes "indexes", array_of (map decimal indexes)) ∷ (codes "k", decimal k) ∷ []
event_members b (publish i at) =
    (codes "e", word (codes "publish")) ∷ (codes "i", decimal i) ∷ (codes "v", vector_text at) ∷ []
event_members b (removed c k i) =
    (codes "c", decimal c) ∷ (codes "e", word (codes "drop")) ∷ (codes "i", decimal i) ∷ (codes "k", decimal k) ∷ []
event_members b (start c k i demand) =
    (codes "c", decimal c) ∷ (codes "d", vector_text demand) ∷ (codes "e", word (codes "start")) ∷ (codes "i", decimal i) ∷ (codes "k", decimal k) ∷ []
event_members b (answer c k at) = answer_members b.rows c k at
event_members b (pick c k at) =
    (codes "c", decimal c) ∷ (codes "e", word (codes "pick")) ∷ (codes "k", decimal k) ∷ (codes "v", vector_text at) ∷ []
event_members b (fetch c k at fetched) = fetch_members b.rows c k at fetched
event_members b (not_yet c k have) = not_yet_members b.demand c k have
event_members b (refuse c k code why) = refusal_members c k code why

-- the text of the first answer; null where there is none
abbrev pub first_text : List Answered → Option (List ℕ)
first_text [] = Some (codes "null")
first_text (a ∷ answers) = a.text

-- each answer of a history takes one of the answers
abbrev pub answers_taken : Event → ℕ
answers_taken (answer c k at) = 1
answers_taken (fetch c k at fetched) = 1
answers_taken _ = 0

-- what each client's last request has to cover, after one more event; `demands` tells it before
abbrev pub demands_after : (ℕ → List ℕ) → Event → ℕ → List ℕ
demands_after demands (start c k i demand) d = if d == c then demand else demands d
demands_after demands _ d = demands d

-- what the request that isn't answered yet has to cover
abbrev pub demand_of : (ℕ → List ℕ) → Event → List ℕ
demand_of demands (not_yet c k have) = demands c
demand_of demands _ = []

abbrev pub beside : (ℕ → List ℕ) → List Answered → Event → Beside
beside demands answers e = record { rows = first_text answers; demand = demand_of demands e }

-- the lines of events, whose answers have these texts
abbrev pub event_lines : (ℕ → List ℕ) → List Event → List Answered → List ℕ
event_lines demands [] answers = []
event_lines demands (e ∷ events) answers =
    line_of (event_members (beside demands answers e) e) ++ event_lines (demands_after demands e) events (drop (answers_taken e) answers)

-- before the first request there is nothing to cover
abbrev pub no_demands : ℕ → List ℕ
no_demands c = []

-- how an index ended
abbrev pub end_text : End → List ℕ
end_text x =
    object_of ((codes "i", decimal x.i) ∷ (codes "name", quoted x.name) ∷ (codes "rows", decimal x.rows) ∷ (codes "state", word (state_name x.state)) ∷ (codes "v", vector_text x.vector) ∷ [])

-- the totals of a history: its events, the newest numbers, and the text of how its indexes ended
abbrev pub totals : (count : ℕ) → (high indexes : List ℕ) → LineMembers
totals count high indexes =
    (codes "e", word (codes "end")) ∷ (codes "events", decimal count) ∷ (codes "high", vector_text high) ∷ (codes "indexes", indexes) ∷ []

-- the line that ends a report of `count` events, where `high` are the newest numbers
abbrev pub end_line : ℕ → List ℕ → List End → List ℕ
end_line count high ends = line_of (totals count high (array_of (map end_text ends)))

-- the report of events, answers and ends, with n vBuckets
unfoldable pub report_text : ℕ → List Event → List Answered → List End → List ℕ
report_text n events answers ends =
    event_lines no_demands events answers ++ end_line (length events) (high_of n (state_after n events).log) ends

-- the report of a history
abbrev pub report_of : Script → List Event → List ℕ
report_of script events = report_text script.vbuckets events (answers_of script events) (ends_of script events)
