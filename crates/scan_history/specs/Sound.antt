-- What holds of every script that is read: it is within the limits.
use Rattle.std.specs.Prelude.{◌≡◌, ℕ, ◌+◌, ◌*◌, ◌≤◌, ◌<◌, List, length, Bool, true, false, ⊤}
use Rattle.std.specs.List.{AllByRecursion, filter, flat_map}
use Rattle.n1ql_value.specs.declared.range.Range.{Range}
use Rattle.n1ql_value.specs.Limits.{max_vbuckets, max_clients, max_workers, max_batch, max_lines, max_product, max_scans, max_id_bytes, max_keyspace_bytes, max_spans, max_ranges}
use Rattle.scan_coord.specs.Demands.{IsSized}
use Rattle.scan_history.specs.declared.command.Command.{Command}
use Rattle.scan_history.specs.declared.command.Command.TheVariants.{Upsert, Delete, Ddl, Scan}
use Rattle.scan_history.specs.declared.turn.Turn.{Turn}
use Rattle.scan_history.specs.declared.turn.Turn.TheVariants.{Client, Project, Deliver, Lose, Publish, Rewind}
use Rattle.scan_history.specs.declared.script.Script.{Script}

abbrev pub IsWithin : ℕ → ℕ → ℕ → Type 0
IsWithin least most n = (least ≤ n) × (n ≤ most)

-- an id isn't empty
abbrev pub IsId : List ℕ → Type 0
IsId id = IsWithin 1 max_id_bytes (length id)

-- a range tells which of its bounds are in
abbrev pub IsRange : Range → Type 0
IsRange range = range.incl ≤ 3

abbrev pub IsSpan : List Range → Type 0
IsSpan span = (length span ≤ max_ranges) × AllByRecursion IsRange span

abbrev pub AreSpans : List (List Range) → Type 0
AreSpans spans = (length spans ≤ max_spans) × AllByRecursion IsSpan spans

-- a command among n vBuckets
abbrev pub IsWithinBounds : ℕ → Command → Type 0
IsWithinBounds n (Upsert id doc) = IsId id
IsWithinBounds n (Delete id) = IsId id
IsWithinBounds n (Ddl text) = ⊤
IsWithinBounds n (Scan index spans ask) = AreSpans spans × IsSized n ask.demand

abbrev pub is_scan : Command → Bool
is_scan (Scan index spans ask) = true
is_scan _ = false

-- a line of the schedule among n vBuckets and so many clients
abbrev pub IsTurn : (n clients : ℕ) → Turn → Type 0
IsTurn n clients (Client c) = c < clients
IsTurn n clients (Project vb index) = vb < n
IsTurn n clients (Deliver index place) = ⊤
IsTurn n clients (Lose index place) = ⊤
IsTurn n clients (Publish index) = ⊤
IsTurn n clients (Rewind to index) = length to ≡ n

-- the commands of all clients
abbrev pub all_commands : Script → List Command
all_commands script = flat_map (λ commands. commands) script.commands

-- how many lines a script has without its header
abbrev pub line_count : Script → ℕ
line_count script = length (all_commands script) + length script.schedule

-- the bounds of the header, of each line, and of all lines together
pub record IsSound (script : Script) : Type 0 where
  pub vbuckets : IsWithin 1 max_vbuckets script.vbuckets
  pub clients : IsWithin 1 max_clients script.clients
  pub workers : script.workers ≤ max_workers
  pub batch : IsWithin 1 max_batch script.batch
  pub keyspace : IsWithin 1 max_keyspace_bytes (length script.keyspace)
  pub lists : length script.commands ≡ script.clients
  pub commands : AllByRecursion (IsWithinBounds script.vbuckets) (all_commands script)
  pub schedule : AllByRecursion (IsTurn script.vbuckets script.clients) script.schedule
  pub lines : line_count script ≤ max_lines
  pub product : script.vbuckets * line_count script ≤ max_product
  pub scans : length (filter is_scan (all_commands script)) ≤ max_scans
