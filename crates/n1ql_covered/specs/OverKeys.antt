-- A statement over the rows of an index: each of its expressions over the keys, and of WHERE what the filter leaves.
use Rattle.std.specs.Prelude.{List, [], ◌∷◌, map, Option, Some, None, option_map}
use Rattle.std.specs.List.{fold}
use Rattle.n1ql_value.specs.declared.op.Op.TheVariants.{And}
use Rattle.n1ql_ast.specs.declared.expr.Expr.{Expr}
use Rattle.n1ql_ast.specs.declared.expr.Expr.TheVariants as expr
use Rattle.n1ql_ast.specs.declared.order.Order.{Order}
use Rattle.n1ql_ast.specs.declared.selection.Selection.{Selection}
use Rattle.n1ql_ast.specs.declared.term.Term.{Term}
use Rattle.n1ql_ast.specs.declared.term.Term.TheVariants.{One}
use Rattle.n1ql_ast.specs.declared.unnest.Unnest.{Unnest}
use Rattle.n1ql_ast.specs.Conjunction.{conjuncts_in}
use Rattle.index_def.specs.declared.definition.IndexDef.{IndexDef}
use Rattle.n1ql_spans.specs.Covering.{over_keys, plain_keys, rest_of}

abbrev pub over_term : List Expr → Term Expr → Term Expr
over_term keys (One value name given) = One (over_keys keys value) name given
over_term keys t = t

abbrev pub over_unnest : List Expr → Unnest Expr → Unnest Expr
over_unnest keys u = record { left = u.left; over = over_keys keys u.over; name = u.name }

abbrev pub over_order : List Expr → Order Expr → Order Expr
over_order keys o = record { key = over_keys keys o.key; desc = o.desc; alone = o.alone }

-- one more condition
abbrev pub and_with : Option Expr → Expr → Option Expr
and_with None d = Some d
and_with (Some c) d = Some (expr.Two And c d)

-- several conditions joined by AND; none of none
abbrev pub joined : List Expr → Option Expr
joined = fold and_with None

-- what a filter leaves of some conjuncts, over the keys
abbrev pub left_over : List Expr → List Expr → List Expr → Option Expr
left_over keys filter conjuncts = joined (map (over_keys keys) (rest_of filter conjuncts))

-- a statement over these keys, with this WHERE
abbrev pub with_filter : List Expr → Selection Expr → Option Expr → Selection Expr
with_filter keys q filter = record {
  distinct = q.distinct;
  raw = option_map (over_keys keys) q.raw;
  terms = map (over_term keys) q.terms;
  keyspace = q.keyspace;
  alias = q.alias;
  hint = q.hint;
  unnests = map (over_unnest keys) q.unnests;
  filter = filter;
  groups = map (over_keys keys) q.groups;
  having = option_map (over_keys keys) q.having;
  orders = map (over_order keys) q.orders;
  limit = q.limit;
  offset = q.offset;
}

-- a statement over the keys of an index, without those conjuncts of its WHERE that the filter of the index has
abbrev pub over_index : Selection Expr → IndexDef → Selection Expr
over_index q def = let keys = plain_keys def.keys in with_filter keys q (left_over keys def.filter (conjuncts_in q.filter))
