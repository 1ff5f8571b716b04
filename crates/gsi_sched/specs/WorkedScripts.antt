-- Of replays that were worked by hand: how their scripts are written, and what their texts are read as.
use Rattle.std.specs.Prelude.{ℕ, Bool, false, List, [], ◌∷◌, codes, length, Option, None, if◌then◌else◌}
use Rattle.std.specs.Str.{bytes_eq}
use Rattle.n1ql_ast.specs.declared.create.Create.{Create}
use Rattle.n1ql_ast.specs.declared.expr.Expr.{Expr}
use Rattle.n1ql_ast.specs.declared.key.Key.{Key}
use Rattle.n1ql_ast.specs.declared.ddl.Ddl.TheVariants as ddl
use Rattle.scan_coord.specs.declared.demand.Demand.{Demand}
use Rattle.scan_history.specs.declared.command.Command.{Command}
use Rattle.scan_history.specs.declared.command.Command.TheVariants as command
use Rattle.scan_history.specs.declared.turn.Turn.{Turn}
use Rattle.scan_history.specs.declared.script.Script.{Script}
use Rattle.scan_history.specs.Readings.{Read, reads, faults}

-- what texts are read as: one of them as this, the others as they were
abbrev pub told_as : List ℕ → Read → (List ℕ → Read) → List ℕ → Read
told_as text is read other = if bytes_eq other text then is else read other

abbrev pub nothing_read : List ℕ → Read
nothing_read text = faults 0

-- a creation of ix on these keys, with this WHERE and these options
abbrev pub creation_of : List Key → Option Expr → Option Expr → Create
creation_of keys filter options = record { name = codes "ix"; keyspace = codes "ks"; keys = keys; filter = filter; options = options; primary = false }

-- with none of them
abbrev pub ix_creation : Create
ix_creation = creation_of [] None None

abbrev pub ix : List ℕ
ix = codes "ix"

-- one text is read as a creation of ix, and nothing else as a statement; or another as its drop as well
abbrev pub creates : Create → List ℕ → Read
creates create = told_as (codes "CREATE INDEX ix ON ks(x)") (reads (ddl.Create create)) nothing_read

abbrev pub creates_and_drops : Create → List ℕ → Read
creates_and_drops create = told_as (codes "DROP INDEX ix ON ks") (reads (ddl.Remove (codes "ks") ix)) (creates create)

-- a scan of all rows of ix
abbrev pub ask_ix : Demand → Bool → Command
ask_ix demand wait = command.Scan ix ([] ∷ []) (record { demand = demand; wait = wait })

-- a script of so many vBuckets, with pieces of at most so many mutations
abbrev pub worked : (vbuckets batch : ℕ) → List (List Command) → List Turn → Script
worked n batch commands schedule =
    record { vbuckets = n; clients = length commands; workers = 2; batch = batch; keyspace = codes "ks"; commands = commands; schedule = schedule }
