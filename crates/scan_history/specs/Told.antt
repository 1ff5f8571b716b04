-- The history that docs/histories.md tells, and its script.
use Rattle.std.specs.Prelude.{ℕ, List, [], ◌∷◌, codes, Some, pos, true, false}
use Rattle.n1ql_value.specs.declared.value.Value.{Value}
use Rattle.n1ql_value.specs.declared.value.Value.TheVariants.{Object}
use Rattle.n1ql_value.specs.declared.datum.Datum.TheVariants.{Int}
use Rattle.n1ql_ast.specs.declared.expr.Expr.TheVariants.{Doc, Field}
use Rattle.n1ql_ast.specs.declared.key.Key.TheVariants.{Plain}
use Rattle.index_def.specs.declared.definition.IndexDef.{IndexDef}
use Rattle.scan_coord.specs.declared.demand.Demand.TheVariants.{NotBounded, Mine}
use Rattle.scan_history.specs.declared.command.Command.{Command}
use Rattle.scan_history.specs.declared.command.Command.TheVariants.{Upsert, Ddl, Scan}
use Rattle.scan_history.specs.declared.script.Script.{Script}
use Rattle.scan_history.specs.declared.why.Why.TheVariants.{Plain}
use Rattle.scan_history.specs.Events.{Event, mutate, define, online, publish, removed, start, answer, not_yet, refuse}
use Rattle.scan_history.specs.Refusals as code

-- the index ix on the field x
abbrev pub told_definition : IndexDef
told_definition = record { name = codes "ix"; keys = Plain (Field Doc (codes "x")) ∷ []; filter = []; primary = false }

-- {"x":n}
abbrev pub told_doc : ℕ → Value
told_doc n = Object ((codes "x", Int (pos n)) ∷ [])

-- all rows of ix
abbrev pub told_scan : Command
told_scan = Scan (codes "ix") ([] ∷ []) (record { demand = NotBounded; wait = true })

abbrev pub told_script : Script
told_script = record {
  vbuckets = 1;
  clients = 2;
  workers = 2;
  batch = 64;
  keyspace = codes "ks";
  commands =
      (Upsert (codes "a") (told_doc 1) ∷ Ddl (codes "CREATE INDEX ix ON ks(x)") ∷ told_scan ∷ told_scan ∷ [])
      ∷ (Upsert (codes "b") (told_doc 2) ∷ Scan (codes "ix") ([] ∷ []) (record { demand = Mine; wait = false }) ∷ Ddl (codes "DROP INDEX ix ON ks") ∷ [])
      ∷ [];
  schedule = [];
}

-- the events, a line each
abbrev pub told_history : List Event
told_history =
    mutate 0 0 (record { vb = 0; seqno = 1; id = codes "a"; body = Some (told_doc 1) })
    ∷ define 0 1 0 false told_definition
    ∷ publish 0 (1 ∷ [])
    ∷ mutate 1 0 (record { vb = 0; seqno = 2; id = codes "b"; body = Some (told_doc 2) })
    ∷ online 0 1 (0 ∷ [])
    ∷ start 1 1 0 (2 ∷ [])
    ∷ not_yet 1 1 (1 ∷ [])
    ∷ start 0 2 0 (0 ∷ [])
    ∷ answer 0 2 (1 ∷ [])
    ∷ removed 1 2 0
    ∷ refuse 0 3 code.unknown_index Plain
    ∷ []
