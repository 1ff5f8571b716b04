-- How statements and documents are written that are worked by hand. Each expression and each value inside another is told by its top level,
-- so that its value can be computed level by level.
use Prim.Native.String.{String}
use Rattle.std.specs.Prelude.{◌≡◌, ℕ, ℤ, Bool, true, false, List, [], codes, Some, None}
use Rattle.n1ql_value.specs.declared.datum.Datum.{Datum, roll-Datum}
use Rattle.n1ql_value.specs.declared.datum.Datum.TheOpen.{Datum-F}
use Rattle.n1ql_value.specs.declared.fun.Fun.{Fun}
use Rattle.n1ql_value.specs.declared.op.Op.{Op}
use Rattle.n1ql_value.specs.declared.value.Value.{Value}
use Rattle.n1ql_value.specs.declared.value.Value.TheVariants.{Int, Text}
use Rattle.n1ql_value.specs.declared.value.Value.TheVariants as value
use Rattle.n1ql_ast.specs.declared.agg.Agg.{Agg}
use Rattle.n1ql_ast.specs.declared.agg.Agg.TheVariants.{CountAll}
use Rattle.n1ql_ast.specs.declared.expr.Expr.{Expr, roll-Expr}
use Rattle.n1ql_ast.specs.declared.expr.Expr.TheOpen.{Expr-F}
use Rattle.n1ql_ast.specs.declared.order.Order.{Order}
use Rattle.n1ql_ast.specs.declared.selection.Selection.{Selection}
use Rattle.n1ql_ast.specs.declared.term.Term.{Term}
use Rattle.n1ql_ast.specs.declared.term.Term.TheVariants.{One, Spread}
use Rattle.n1ql_ast.specs.declared.test.Test.{Test}
use Rattle.n1ql_ast.specs.declared.unnest.Unnest.{Unnest}
use Rattle.n1ql_meaning.specs.Meaning.{results_of}

-- ---- values inside others

abbrev pub null : Datum
null = roll-Datum Datum-F.Null

abbrev pub number : ℤ → Datum
number z = roll-Datum (Datum-F.Int z)

abbrev pub truth : Bool → Datum
truth b = roll-Datum (Datum-F.Bool b)

abbrev pub string : String → Datum
string s = roll-Datum (Datum-F.Text (codes s))

abbrev pub array : List Datum → Datum
array ds = roll-Datum (Datum-F.Array ds)

abbrev pub object : List (List ℕ × Datum) → Datum
object ps = roll-Datum (Datum-F.Object ps)

-- ---- expressions

abbrev pub constant : Value → Expr
constant v = roll-Expr (Expr-F.Const v)

abbrev pub int : ℤ → Expr
int z = constant (Int z)

abbrev pub text : String → Expr
text s = constant (Text (codes s))

abbrev pub document : Expr
document = roll-Expr Expr-F.Doc

abbrev pub meta : Expr
meta = roll-Expr (Expr-F.MetaOf true)

abbrev pub variable : String → Expr
variable s = roll-Expr (Expr-F.Var (codes s))

abbrev pub path : Expr → String → Expr
path x s = roll-Expr (Expr-F.Field x (codes s))

abbrev pub field : String → Expr
field s = path document s

abbrev pub negation : Expr → Expr
negation x = roll-Expr (Expr-F.Not x)

abbrev pub minus : Expr → Expr
minus x = roll-Expr (Expr-F.Neg x)

abbrev pub two : Op → Expr → Expr → Expr
two op x y = roll-Expr (Expr-F.Two op x y)

abbrev pub tested : Test → Expr → Expr
tested test x = roll-Expr (Expr-F.Is test x)

abbrev pub between : Expr → Expr → Expr → Expr
between x low high = roll-Expr (Expr-F.Between x low high)

abbrev pub call : Fun → List Expr → Expr
call fun xs = roll-Expr (Expr-F.Call fun xs)

abbrev pub elements : List Expr → Expr
elements xs = roll-Expr (Expr-F.List xs)

abbrev pub any : String → Expr → Expr → Expr
any s over test = roll-Expr (Expr-F.Any (codes s) over test)

abbrev pub each : String → Expr → Expr → Expr
each s item over = roll-Expr (Expr-F.Each (codes s) item over None)

abbrev pub aggregate : Agg → Expr → Expr
aggregate agg x = roll-Expr (Expr-F.Agg agg (Some x))

abbrev pub count_all : Expr
count_all = roll-Expr (Expr-F.Agg CountAll None)

-- ---- terms and keys of ORDER BY

-- a term to which the statement gives a name, one that has its own name, and one that has none
abbrev pub given : String → Expr → Term Expr
given s e = One e (Some (codes s)) true

abbrev pub own : String → Expr → Term Expr
own s e = One e (Some (codes s)) false

abbrev pub nameless : Expr → Term Expr
nameless e = One e None false

abbrev pub spread : String → Term Expr
spread s = Spread (codes s)

-- a key that is written as a single name, and another one
abbrev pub by_name : String → Bool → Order Expr
by_name s desc = record { key = field s; desc = desc; alone = Some (codes s) }

abbrev pub by_value : Expr → Bool → Order Expr
by_value e desc = record { key = e; desc = desc; alone = None }

abbrev pub unnest : Bool → Expr → String → Unnest Expr
unnest left over s = record { left = left; over = over; name = codes s }

-- ---- statements on the keyspace ks, and documents

-- SELECT .. FROM ks, and SELECT RAW .. FROM ks
abbrev pub select : List (Term Expr) → Selection Expr
select terms = record {
  distinct = false;
  raw = None;
  terms = terms;
  keyspace = codes "ks";
  alias = codes "ks";
  hint = None;
  unnests = [];
  filter = None;
  groups = [];
  having = None;
  orders = [];
  limit = None;
  offset = 0;
}

abbrev pub select_raw : Expr → Selection Expr
select_raw e = record (select []) { raw = Some e }

-- a pair of an object, and a document by its id
abbrev pub pair : String → Datum → List ℕ × Datum
pair s d = (codes s, d)

abbrev pub by_id : String → List (List ℕ × Datum) → List ℕ × Value
by_id s ps = (codes s, value.Object ps)

-- ---- what is worked

-- a statement, documents by their ids, and results
pub record Worked : Type 0 where
  pub statement : Selection Expr
  pub documents : List (List ℕ × Value)
  pub results : List Value

-- these are its results on these documents
abbrev pub IsRight : Worked → Type 0
IsRight w = results_of w.statement w.documents ≡ w.results
