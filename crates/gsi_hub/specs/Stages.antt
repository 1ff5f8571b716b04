-- What a client is at.
use Rattle.std.specs.Prelude.{ℕ, List, Bool, is_some, if◌then◌else◌}
use Rattle.scan_history.specs.Fold.{Opened, nothing, work, started, picked}
use Rattle.gsi_hub.specs.declared.stage.Stage.{Stage}
use Rattle.gsi_hub.specs.declared.stage.Stage.TheVariants as stage
use Rattle.gsi_hub.specs.Past.{Past, part_in, next_command}

-- by what is open for it, and by whether it has one more command
abbrev pub stage_of : Opened → (more : Bool) → Stage
stage_of nothing more = if more then stage.Idle else stage.Ended
stage_of (work indexes high) more = stage.Work
stage_of (started i demand high) more = stage.Started i
stage_of (picked i at) more = stage.Picked i

abbrev pub stage_in : Past → ℕ → Stage
stage_in p c = stage_of (part_in p c).opened (is_some (next_command p c))

-- what is open is a request on an index, which has to cover this
abbrev pub OnRequest : Opened → (ℕ → List ℕ → Type 0) → Type 0
OnRequest (started i demand high) Holds = Holds i demand
OnRequest _ Holds = ⊥

-- what is open is the building of indexes, since these were the newest numbers
abbrev pub OnWork : Opened → (List ℕ → List ℕ → Type 0) → Type 0
OnWork (work indexes high) Holds = Holds indexes high
OnWork _ Holds = ⊥
