-- Statements without groups that were worked by hand, each with documents and its results on them.
use Rattle.std.specs.Prelude.{pos, negsuc, true, false, [], ◌∷◌, codes, Some}
use Rattle.n1ql_value.specs.declared.op.Op.TheVariants as op
use Rattle.n1ql_value.specs.declared.value.Value.TheVariants.{Int, Object}
use Rattle.n1ql_value.specs.declared.value.Value.TheVariants as value
use Rattle.n1ql_ast.specs.declared.term.Term.TheVariants.{All}
use Rattle.n1ql_ast.specs.declared.test.Test.TheVariants as test
use Rattle.n1ql_meaning.specs.WorkedForms.{Worked, any, array, between, by_id, by_name, by_value, constant, field, given, int, meta, minus, nameless, negation, null, number, object, own, pair, path, select, select_raw, spread, string, tested, text, truth, two, unnest, variable}

-- ---- WHERE, and the object of a result

-- SELECT x FROM ks WHERE x > 1 AND on_sale = TRUE
abbrev pub only_what_is_on_sale : Worked
only_what_is_on_sale = record {
  statement = record (select (own "x" (field "x") ∷ [])) {
    filter = Some (two op.And (two op.Gt (field "x") (int (pos 1))) (two op.Eq (field "on_sale") (constant (value.Bool true))));
  };
  documents =
      by_id "a" (pair "on_sale" (truth true) ∷ pair "x" (number (pos 5)) ∷ []) ∷
      by_id "b" (pair "on_sale" (truth false) ∷ pair "x" (number (pos 7)) ∷ []) ∷ [];
  results = Object (pair "x" (number (pos 5)) ∷ []) ∷ [];
}

-- SELECT x, y, x - 1 AS p, y + 1 AS q, x % 0 AS r FROM ks WHERE x IS NOT MISSING
abbrev pub numbers_past_their_range : Worked
numbers_past_their_range = record {
  statement = record (select (own "x" (field "x") ∷ own "y" (field "y") ∷ given "p" (two op.Sub (field "x") (int (pos 1))) ∷
      given "q" (two op.Add (field "y") (int (pos 1))) ∷ given "r" (two op.Mod (field "x") (int (pos 0))) ∷ [])) {
        filter = Some (negation (tested test.Missing (field "x")));
      };
  documents = by_id "a" (pair "x" (number (negsuc 9223372036854775807)) ∷ pair "y" (number (pos 9223372036854775807)) ∷ []) ∷ [];
  results =
      Object (pair "p" null ∷ pair "q" null ∷ pair "r" null ∷ pair "x" (number (negsuc 9223372036854775807)) ∷
      pair "y" (number (pos 9223372036854775807)) ∷ []) ∷ [];
}

-- SELECT y OR z AS p, y AND z AS q FROM ks WHERE x = 1
abbrev pub missing_adds_nothing : Worked
missing_adds_nothing = record {
  statement = record (select (given "p" (two op.Or (field "y") (field "z")) ∷ given "q" (two op.And (field "y") (field "z")) ∷ [])) {
    filter = Some (two op.Eq (field "x") (int (pos 1)));
  };
  documents = by_id "a" (pair "x" (number (pos 1)) ∷ pair "y" null ∷ []) ∷ [];
  results = Object (pair "p" null ∷ []) ∷ [];
}

-- SELECT 1 AS a, x AS a, y AS a, x + 1 FROM ks
abbrev pub a_later_name_replaces : Worked
a_later_name_replaces = record {
  statement = select (given "a" (int (pos 1)) ∷ given "a" (field "x") ∷ given "a" (field "y") ∷
      nameless (two op.Add (field "x") (int (pos 1))) ∷ []);
  documents = by_id "d" (pair "x" (number (pos 2)) ∷ []) ∷ [];
  results = Object (pair "$4" (number (pos 3)) ∷ pair "a" (number (pos 2)) ∷ []) ∷ [];
}

-- SELECT * FROM ks WHERE name = 'Ann'
abbrev pub the_whole_document : Worked
the_whole_document = record {
  statement = record (select (All ∷ [])) { filter = Some (two op.Eq (field "name") (text "Ann")) };
  documents =
      by_id "a" (pair "kind" (string "order") ∷ []) ∷
      by_id "c" (pair "kind" (string "customer") ∷ pair "name" (string "Ann") ∷ []) ∷ [];
  results = Object (pair "ks" (object (pair "kind" (string "customer") ∷ pair "name" (string "Ann") ∷ [])) ∷ []) ∷ [];
}

-- ---- UNNEST

-- SELECT META(o).id AS id, i.qty FROM shop AS o UNNEST o.items AS i WHERE ANY x IN o.items SATISFIES x.sku = 'ink' END AND i.sku =
-- 'ink' ORDER BY i.qty DESC
abbrev pub a_row_for_each_element : Worked
a_row_for_each_element = record {
  statement = record (select (given "id" (path meta "id") ∷ own "qty" (path (variable "i") "qty") ∷ [])) {
    keyspace = codes "shop";
    alias = codes "o";
    unnests = unnest false (field "items") "i" ∷ [];
    filter = Some (two op.And (any "x" (field "items") (two op.Eq (path (variable "x") "sku") (text "ink"))) (two op.Eq (path
        (variable "i") "sku") (text "ink")));
    orders = by_value (path (variable "i") "qty") true ∷ [];
  };
  documents =
      by_id "c1" (pair "name" (string "Ann") ∷ []) ∷
      by_id "o1" (pair "items" (array (object (pair "qty" (number (pos 2)) ∷ pair "sku" (string "pen") ∷ []) ∷
      object (pair "qty" (number (pos 1)) ∷ pair "sku" (string "ink") ∷ []) ∷ [])) ∷ []) ∷
      by_id "o2" (pair "items" (array (object (pair "qty" (number (pos 1)) ∷ pair "sku" (string "pen") ∷ []) ∷ [])) ∷ []) ∷
      by_id "o3" (pair "items" (array (object (pair "qty" (number (pos 4)) ∷ pair "sku" (string "ink") ∷ []) ∷ [])) ∷ []) ∷ [];
  results =
      Object (pair "id" (string "o3") ∷ pair "qty" (number (pos 4)) ∷ []) ∷
      Object (pair "id" (string "o1") ∷ pair "qty" (number (pos 1)) ∷ []) ∷ [];
}

-- SELECT META().id AS id, v FROM ks LEFT UNNEST ks.t AS v
abbrev pub left_keeps_a_row : Worked
left_keeps_a_row = record {
  statement = record (select (given "id" (path meta "id") ∷ own "v" (variable "v") ∷ [])) { unnests = unnest true (field "t") "v" ∷ [] };
  documents =
      by_id "a" (pair "t" (array (number (pos 7) ∷ number (pos 8) ∷ [])) ∷ []) ∷
      by_id "b" (pair "t" (array []) ∷ []) ∷
      by_id "c" [] ∷ [];
  results =
      Object (pair "id" (string "a") ∷ pair "v" (number (pos 7)) ∷ []) ∷
      Object (pair "id" (string "a") ∷ pair "v" (number (pos 8)) ∷ []) ∷
      Object (pair "id" (string "b") ∷ []) ∷
      Object (pair "id" (string "c") ∷ []) ∷ [];
}

-- SELECT RAW v FROM ks UNNEST ks.t AS v
abbrev pub a_row_without_elements_goes : Worked
a_row_without_elements_goes = record {
  statement = record (select_raw (variable "v")) { unnests = unnest false (field "t") "v" ∷ [] };
  documents =
      by_id "a" (pair "t" (array (number (pos 7) ∷ number (pos 8) ∷ [])) ∷ []) ∷
      by_id "b" (pair "t" (array []) ∷ []) ∷
      by_id "c" [] ∷ [];
  results = Int (pos 7) ∷ Int (pos 8) ∷ [];
}

-- SELECT *, v.* FROM ks UNNEST ks.t AS v
abbrev pub the_names_of_unnests_are_spread : Worked
the_names_of_unnests_are_spread = record {
  statement = record (select (All ∷ spread "v" ∷ [])) { unnests = unnest false (field "t") "v" ∷ [] };
  documents = by_id "a" (pair "t" (array (object (pair "n" (number (pos 1)) ∷ []) ∷ [])) ∷ []) ∷ [];
  results =
      Object (pair "ks" (object (pair "t" (array (object (pair "n" (number (pos 1)) ∷ []) ∷ [])) ∷ [])) ∷ pair "n" (number (pos 1)) ∷
      pair "v" (object (pair "n" (number (pos 1)) ∷ [])) ∷ []) ∷ [];
}

-- ---- DISTINCT, ORDER BY, OFFSET and LIMIT

-- SELECT DISTINCT RAW g FROM ks ORDER BY n DESC
abbrev pub distinct_keeps_the_first : Worked
distinct_keeps_the_first = record {
  statement = record (select_raw (field "g")) { distinct = true; orders = by_name "n" true ∷ [] };
  documents =
      by_id "a" (pair "g" (number (pos 1)) ∷ pair "n" (number (pos 1)) ∷ []) ∷
      by_id "b" (pair "g" (number (pos 2)) ∷ pair "n" (number (pos 2)) ∷ []) ∷
      by_id "c" (pair "g" (number (pos 1)) ∷ pair "n" (number (pos 3)) ∷ []) ∷ [];
  results = Int (pos 2) ∷ Int (pos 1) ∷ [];
}

-- SELECT -x AS x FROM ks ORDER BY x
abbrev pub order_by_a_given_name : Worked
order_by_a_given_name = record {
  statement = record (select (given "x" (minus (field "x")) ∷ [])) { orders = by_name "x" false ∷ [] };
  documents = by_id "a" (pair "x" (number (pos 1)) ∷ []) ∷ by_id "b" (pair "x" (number (pos 2)) ∷ []) ∷ [];
  results = Object (pair "x" (number (negsuc 1)) ∷ []) ∷ Object (pair "x" (number (negsuc 0)) ∷ []) ∷ [];
}

-- SELECT o.p.x FROM ks AS o ORDER BY x
abbrev pub a_term_s_own_name_is_no_given_one : Worked
a_term_s_own_name_is_no_given_one = record {
  statement = record (select (own "x" (path (field "p") "x") ∷ [])) { alias = codes "o"; orders = by_name "x" false ∷ [] };
  documents =
      by_id "a" (pair "p" (object (pair "x" (number (pos 1)) ∷ [])) ∷ pair "x" (number (pos 9)) ∷ []) ∷
      by_id "b" (pair "p" (object (pair "x" (number (pos 2)) ∷ [])) ∷ pair "x" (number (pos 8)) ∷ []) ∷ [];
  results = Object (pair "x" (number (pos 2)) ∷ []) ∷ Object (pair "x" (number (pos 1)) ∷ []) ∷ [];
}

-- SELECT RAW total FROM shop WHERE day BETWEEN 5 AND 5 LIMIT 1
abbrev pub the_first_by_id : Worked
the_first_by_id = record {
  statement = record (select_raw (field "total")) {
    keyspace = codes "shop";
    alias = codes "shop";
    filter = Some (between (field "day") (int (pos 5)) (int (pos 5)));
    limit = Some 1;
  };
  documents =
      by_id "o1" (pair "day" (number (pos 5)) ∷ pair "total" (number (pos 70)) ∷ []) ∷
      by_id "o2" (pair "day" (number (pos 5)) ∷ pair "total" (number (pos 30)) ∷ []) ∷
      by_id "o3" (pair "day" (number (pos 6)) ∷ pair "total" (number (pos 20)) ∷ []) ∷ [];
  results = Int (pos 70) ∷ [];
}

-- SELECT RAW x FROM ks LIMIT 1 OFFSET 1
abbrev pub the_second_of_three : Worked
the_second_of_three = record {
  statement = record (select_raw (field "x")) { limit = Some 1; offset = 1 };
  documents =
      by_id "a" (pair "x" (number (pos 1)) ∷ []) ∷
      by_id "b" (pair "x" (number (pos 2)) ∷ []) ∷
      by_id "c" (pair "x" (number (pos 3)) ∷ []) ∷ [];
  results = Int (pos 2) ∷ [];
}
