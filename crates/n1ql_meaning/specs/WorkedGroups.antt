-- Statements with groups that were worked by hand, each with documents and its results on them.
use Rattle.std.specs.Prelude.{pos, true, [], ◌∷◌, codes, Some}
use Rattle.n1ql_value.specs.declared.fun.Fun.TheVariants.{IfMissing}
use Rattle.n1ql_value.specs.declared.op.Op.TheVariants as op
use Rattle.n1ql_value.specs.declared.value.Value.TheVariants.{Int, Array, Object}
use Rattle.n1ql_ast.specs.declared.agg.Agg.TheVariants.{Count, Sum, Min, Max, ArrayAgg}
use Rattle.n1ql_ast.specs.declared.test.Test.TheVariants as test
use Rattle.n1ql_meaning.specs.WorkedForms.{Worked, aggregate, array, by_id, by_name, call, count_all, each, elements, field, given, int, meta, negation, null, number, own, pair, path, select, select_raw, string, tested, text, two, variable}

-- SELECT cust, COUNT(*) AS n, SUM(total) AS t FROM shop WHERE kind = 'order' AND cust IS NOT MISSING GROUP BY cust ORDER BY t DESC
abbrev pub counts_and_sums : Worked
counts_and_sums = record {
  statement = record (select (own "cust" (field "cust") ∷ given "n" count_all ∷ given "t" (aggregate Sum (field "total")) ∷ [])) {
    keyspace = codes "shop";
    alias = codes "shop";
    filter = Some (two op.And (two op.Eq (field "kind") (text "order")) (negation (tested test.Missing (field "cust"))));
    groups = field "cust" ∷ [];
    orders = by_name "t" true ∷ [];
  };
  documents =
      by_id "c1" (pair "kind" (string "customer") ∷ []) ∷
      by_id "o1" (pair "cust" (string "ann") ∷ pair "kind" (string "order") ∷ pair "total" (number (pos 70)) ∷ []) ∷
      by_id "o2" (pair "cust" (string "bob") ∷ pair "kind" (string "order") ∷ pair "total" (number (pos 30)) ∷ []) ∷
      by_id "o3" (pair "cust" (string "ann") ∷ pair "kind" (string "order") ∷ pair "total" (number (pos 20)) ∷ []) ∷ [];
  results =
      Object (pair "cust" (string "ann") ∷ pair "n" (number (pos 2)) ∷ pair "t" (number (pos 90)) ∷ []) ∷
      Object (pair "cust" (string "bob") ∷ pair "n" (number (pos 1)) ∷ pair "t" (number (pos 30)) ∷ []) ∷ [];
}

-- SELECT g, COUNT(*) AS c, SUM(n) AS s FROM ks WHERE g >= 0 GROUP BY g
abbrev pub groups_by_their_keys : Worked
groups_by_their_keys = record {
  statement = record (select (own "g" (field "g") ∷ given "c" count_all ∷ given "s" (aggregate Sum (field "n")) ∷ [])) {
    filter = Some (two op.Ge (field "g") (int (pos 0)));
    groups = field "g" ∷ [];
  };
  documents =
      by_id "d1" (pair "g" (number (pos 1)) ∷ pair "n" (number (pos 1)) ∷ []) ∷
      by_id "d2" (pair "g" (number (pos 0)) ∷ pair "n" (number (pos 2)) ∷ []) ∷
      by_id "d3" (pair "g" (number (pos 1)) ∷ pair "n" (number (pos 3)) ∷ []) ∷ [];
  results =
      Object (pair "c" (number (pos 1)) ∷ pair "g" (number (pos 0)) ∷ pair "s" (number (pos 2)) ∷ []) ∷
      Object (pair "c" (number (pos 2)) ∷ pair "g" (number (pos 1)) ∷ pair "s" (number (pos 4)) ∷ []) ∷ [];
}

-- SELECT SUM(y) AS s FROM ks WHERE y > 0
abbrev pub a_sum_past_the_range : Worked
a_sum_past_the_range = record {
  statement = record (select (given "s" (aggregate Sum (field "y")) ∷ [])) { filter = Some (two op.Gt (field "y") (int (pos 0))) };
  documents =
      by_id "a" (pair "y" (number (pos 9223372036854775807)) ∷ []) ∷
      by_id "b" (pair "y" (number (pos 9223372036854775807)) ∷ []) ∷ [];
  results = Object (pair "s" null ∷ []) ∷ [];
}

-- SELECT COUNT(*) AS a, COUNT(x) AS b, SUM(x) AS c, MIN(x) AS d, ARRAY_AGG(x) AS e FROM ks
abbrev pub what_aggregates_pass_over : Worked
what_aggregates_pass_over = record {
  statement = select (given "a" count_all ∷ given "b" (aggregate Count (field "x")) ∷ given "c" (aggregate Sum (field "x")) ∷
      given "d" (aggregate Min (field "x")) ∷ given "e" (aggregate ArrayAgg (field "x")) ∷ []);
  documents =
      by_id "a" [] ∷
      by_id "b" (pair "x" null ∷ []) ∷
      by_id "c" (pair "x" (string "s") ∷ []) ∷
      by_id "d" (pair "x" (number (pos 3)) ∷ []) ∷ [];
  results =
      Object (pair "a" (number (pos 4)) ∷ pair "b" (number (pos 2)) ∷ pair "c" (number (pos 3)) ∷ pair "d" (number (pos 3)) ∷
      pair "e" (array (null ∷ string "s" ∷ number (pos 3) ∷ [])) ∷ []) ∷ [];
}

-- SELECT COUNT(*) AS n, MAX(x) AS m, IFMISSING(y, 0) AS g, META().id AS i FROM ks WHERE x > 1
abbrev pub a_group_without_rows : Worked
a_group_without_rows = record {
  statement = record (select (given "n" count_all ∷ given "m" (aggregate Max (field "x")) ∷ given "g" (call IfMissing (field "y" ∷
      int (pos 0) ∷ [])) ∷ given "i" (path meta "id") ∷ [])) {
        filter = Some (two op.Gt (field "x") (int (pos 1)));
      };
  documents = by_id "a" (pair "x" (number (pos 1)) ∷ pair "y" (number (pos 2)) ∷ []) ∷ [];
  results = Object (pair "g" (number (pos 0)) ∷ pair "m" null ∷ pair "n" (number (pos 0)) ∷ []) ∷ [];
}

-- SELECT RAW g FROM ks GROUP BY g HAVING COUNT(*) > 1
abbrev pub having_drops_groups : Worked
having_drops_groups = record {
  statement = record (select_raw (field "g")) { groups = field "g" ∷ []; having = Some (two op.Gt count_all (int (pos 1))) };
  documents =
      by_id "a" (pair "g" (number (pos 1)) ∷ []) ∷
      by_id "b" (pair "g" (number (pos 2)) ∷ []) ∷
      by_id "c" (pair "g" (number (pos 2)) ∷ []) ∷ [];
  results = Int (pos 2) ∷ [];
}

-- SELECT RAW ARRAY SUM(x * v) FOR v IN [1, 10] END FROM ks
abbrev pub an_aggregate_inside_a_frame : Worked
an_aggregate_inside_a_frame = record {
  statement = select_raw (each "v" (aggregate Sum (two op.Mul (field "x") (variable "v"))) (elements (int (pos 1) ∷ int (pos 10) ∷ [])));
  documents = by_id "a" (pair "x" (number (pos 1)) ∷ []) ∷ by_id "b" (pair "x" (number (pos 2)) ∷ []) ∷ [];
  results = Array (number (pos 3) ∷ number (pos 30) ∷ []) ∷ [];
}
