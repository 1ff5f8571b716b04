-- The parts of SELECT: its result, FROM, UNNEST, WHERE, GROUP BY, ORDER BY, LIMIT and OFFSET.
use Rattle.std.specs.Prelude.{◌≡◌, ℕ, zero, suc, ◌<◌, ◌≤◌, ◌^◌, Bool, true, false, if◌then◌else◌, nat_lt, List, [], ◌∷◌, ◌++◌, length, Option, Some, None, refl}
use Rattle.std.proofs.Common.{sym, ap, ◌∙◌, subst, append_assoc, append-nil, arith}
use Rattle.std.proofs.lemmas.Bool.{lt-ltb, ltb-true}
use Rattle.n1ql_ast.specs.declared.keyword.Keyword.{Keyword as AnyKeyword}
use Rattle.n1ql_ast.specs.declared.keyword.Keyword.TheVariants as keyword
use Rattle.n1ql_ast.specs.declared.order.Order.{Order}
use Rattle.n1ql_ast.specs.declared.term.Term.{Term}
use Rattle.n1ql_ast.specs.declared.token_class.TokenClass.{TokenClass}
use Rattle.n1ql_ast.specs.declared.token_class.TokenClass.TheVariants.{Keyword, Name, Str, Num, Other}
use Rattle.n1ql_ast.specs.declared.unnest.Unnest.{Unnest}
use Rattle.n1ql_ast.specs.declared.unresolved_expr.UnresolvedExpr.{UnresolvedExpr}
use Rattle.n1ql_ast.specs.Grammar.{IsExpr, IsExprs}
use Rattle.n1ql_ast.specs.Grammar as g
use Rattle.n1ql_ast.specs.Selections as q
use Rattle.n1ql_ast.specs.Selections.{IsResult, IsTerms, MayAs, MayUse, AreUnnests, MayFilter, MayHaving, MayGroup, MayDirection, IsOrder, IsOrders, MayOrder, MayLimit, MayOffset, name_alone, tokens_before}
use Rattle.n1ql_parse.specs.declared.expressions.precedence.Precedence.TheVariants as precedence
use Rattle.n1ql_parse.specs.declared.queries.grouping.Grouping.{Grouping}
use Rattle.n1ql_parse.specs.declared.queries.projection.Projection.{Projection}
use Rattle.n1ql_parse.specs.declared.queries.source.Source.{Source}
use Rattle.n1ql_parse.specs.inner.Parser.{at, enough, parsed, taken_if_some}
use Rattle.n1ql_parse.specs.inner.Queries.{parsed_after, parsed_exprs, raw, listed, projection, used, may_use, source_of, source, unnest, left_unnest, unnests_from, unnests, no_grouping, grouped, grouping, direction, order, orders_from, orders, ordered, may_order, count, may_limit, may_offset}
use Rattle.n1ql_parse.specs.inner.Steps.{got, stuck, Parser, and_then, eat, expect, fail, if_some, pure}
use Rattle.n1ql_parse.proofs.Reading.Prefixes.{Rel, next, Stops, Agrees, Within, Completes, Links, Seq, seq, Pure, none_taken, Next, meant, Either, one, other}
use Rattle.n1ql_parse.proofs.Reading.Combined.{ends, regrouped, required, if_seen, next_none, within_as, within_eq, within_less, within_seq, within_pure, within_required, links_pure, links_seq, completes_pure, completes_next, completes_seq}
use Rattle.n1ql_parse.proofs.Reading.Looks.{Then, behind, Worded, worded, within_eat, within_name, completes_then, completes_name, links_then}
use Rattle.n1ql_parse.proofs.Reading.Precedences.{up_to, tighter_stops}
use Rattle.n1ql_parse.proofs.Reading.Lookahead.{expr_head}
use Rattle.n1ql_parse.proofs.Reading.Zero.{completes_at}
use Rattle.n1ql_parse.proofs.Reading.Choices.{within_then, within_may}
use Rattle.n1ql_parse.proofs.Reading.Lists.{within_wholes}
use Rattle.n1ql_parse.proofs.Reading.Forms.{May, within_whole_after, stops_less}
use Rattle.n1ql_parse.proofs.Reading.Rounds.{nests, within_parsed}
use Rattle.n1ql_parse.proofs.Reading.Several.{Several, single, further, several_from, within_several}
use Rattle.n1ql_parse.proofs.Reading.Clauses.{UsingRel, and_got, apart, none_or_more, within_may_using, completes_using}
use Rattle.n1ql_parse.proofs.Reading.Fronts.{Marked, within_marked, completes_marked, stops_for, within_wider, within_flag}
use Rattle.n1ql_parse.proofs.Reading.Terms.{named, named_stops, within_may_as, completes_as, NamedAs, within_as_name, completes_named, links_named, within_terms, completes_terms}

-- The rules of expressions as parts of SELECT.

within_parsed_after : {n : ℕ} (agg : Bool) (m : AnyKeyword) (k : ℕ) → 7 ≤ k → up_to k (Keyword m) ≡ true → Within n (up_to k) (May agg m) (parsed_after agg m)
unfolding parsed_after
within_parsed_after agg m k h goes = record {
  agrees = λ ts l. (within_whole_after (at (enough ts)) agg (suc (length ts)) (nests (enough ts) (suc (length ts)) agg precedence.Or (omega arith)) m k h goes).agrees ts (omega arith);
}

within_parsed_exprs : {n : ℕ} → Within n (up_to 8) (IsExprs false) parsed_exprs
unfolding parsed_exprs
within_parsed_exprs = record {
  agrees = λ ts h. (within_wholes (at (enough ts)) false (suc (length ts)) (nests (enough ts) (suc (length ts)) false precedence.Or (omega arith))).agrees ts (omega arith);
}

completes_exprs : Completes (IsExprs false)
completes_exprs = let c = completes_at false precedence.Or in record { more = c.more; tree = c.tree ∷ []; reads = λ us. g.exprs (c.reads us) g.exprs_done }

-- The result.

abbrev one_raw : UnresolvedExpr → Projection
one_raw x = record { raw = Some x; terms = [] }

abbrev one_list : List (Term UnresolvedExpr) → Projection
one_list ts = record { raw = None; terms = ts }

abbrev pub AreResult : Rel Projection
AreResult ts p vs = IsResult ts p.raw p.terms vs

abbrev ResultRel : Rel Projection
ResultRel = Either (Then keyword.Raw (Seq (IsExpr true) (λ x. Pure (one_raw x)))) (Seq IsTerms (λ ts. Pure (one_list ts)))

result_to : (us vs : List TokenClass) (y : Projection) → ResultRel us y vs → AreResult us y vs
result_to _ vs y (one (behind (seq x ws p e))) = ends AreResult e (q.result_raw p)
result_to us vs y (other (seq ts ws p e)) = ends AreResult e (q.result_terms p)

result_from : (us vs : List TokenClass) (x : Option UnresolvedExpr) (ts : List (Term UnresolvedExpr)) → IsResult us x ts vs → ResultRel us (record { raw = x; terms = ts }) vs
result_from us vs x ts (q.result_raw p) = one (behind (seq _ _ p none_taken))
result_from us vs x ts (q.result_terms p) = other (seq _ _ p none_taken)

no_raw : (us vs : List TokenClass) (y : Projection) → Seq IsTerms (λ ts. Pure (one_list ts)) (Keyword keyword.Raw ∷ us) y vs → Stops (up_to 8) vs → ⊥
no_raw us vs y (seq ts ws (q.terms (q.term_one p m) k) e) st = let h : false ≡ true = expr_head p in cc

pub within_projection : (n : ℕ) → Within n (up_to 8) AreResult projection
unfolding projection raw listed
within_projection n = within_as {before = up_to 8}
    (within_may keyword.Raw
    (within_seq (within_parsed n true) (λ x. within_pure (one_raw x)) (λ x. links_pure (tighter_stops 7 8 (omega arith))) (λ x. completes_pure (one_raw x)))
    (within_seq (within_terms n) (λ ts. within_pure (one_list ts)) (λ ts. links_pure (λ t e. e)) (λ ts. completes_pure (one_list ts)))
    no_raw)
    result_to (λ us vs y r st. (result_from us vs y.raw y.terms r, st))

pub completes_result : Completes AreResult
completes_result = let c = completes_terms in record { more = c.more; tree = one_list c.tree; reads = λ us. q.result_terms (c.reads us) }

-- FROM.

abbrev UsedRel : Rel (Option (List ℕ))
UsedRel = Then keyword.Index (Then keyword.OpenParenthesis (Worded (λ w. Seq UsingRel (λ _. Then keyword.CloseParenthesis (Pure (Some w.text))))))

use_to : (us vs : List TokenClass) (y : Option (List ℕ)) → Either (Then keyword.Use UsedRel) (Pure None) us y vs → MayUse us y vs
use_to _ vs y (one (behind (behind (behind (worded (seq u _ p (behind e))))))) = ends MayUse e (q.use_some p)
use_to us vs y (other e) = ends MayUse e q.use_none

use_from : (us vs : List TokenClass) (y : Option (List ℕ)) → MayUse us y vs → Either (Then keyword.Use UsedRel) (Pure None) us y vs
use_from us vs y q.use_none = other none_taken
use_from us vs y (q.use_some p) = one (behind (behind (behind (worded (seq tt _ p (behind none_taken))))))

abbrev UsedEnd : List ℕ → Rel (Option (List ℕ))
UsedEnd text = Seq UsingRel (λ _. Then keyword.CloseParenthesis (Pure (Some text)))

completes_used_end : (text : List ℕ) → Completes (UsedEnd text)
completes_used_end text = completes_seq completes_using (λ _. completes_then keyword.CloseParenthesis (completes_pure (Some text)))

within_used : (n : ℕ) → Within n (up_to 8) UsedRel used
unfolding used
within_used n = within_then keyword.Index
    (within_then keyword.OpenParenthesis
    (within_less (omega arith) (within_name {n = n} {R = UsedEnd}
    (λ text. within_seq within_may_using (λ _. within_then keyword.CloseParenthesis (within_pure (Some text)) (completes_pure (Some text)))
    (λ _. links_then refl) (λ _. completes_then keyword.CloseParenthesis (completes_pure (Some text))))
    (completes_used_end [])))
    (completes_name (completes_used_end [])))
    (completes_then keyword.OpenParenthesis (completes_name (completes_used_end [])))

within_may_use : {n : ℕ} → Within n (up_to 8) MayUse may_use
unfolding may_use
within_may_use {n = n} = within_as {before = up_to 8}
    (within_may keyword.Use (within_used n) (within_pure None) (none_or_more (up_to 8) keyword.Use refl))
    use_to (λ us vs y r st. (use_from us vs y r, st))

completes_use : Completes MayUse
completes_use = record { more = []; tree = None; reads = λ us. q.use_none }

links_use : Links named (up_to 8) MayUse
links_use = record { stops = go }
  where
    go : (us vs : List TokenClass) (y : Option (List ℕ)) → MayUse us y vs → Stops (up_to 8) vs → Stops named us
    go us vs y q.use_none st = stops_for named_stops us st
    go us vs y (q.use_some p) st = refl

abbrev SourceEnd : List ℕ → Option (List ℕ) → Rel Source
SourceEnd keyspace second = Seq MayUse (λ hint. Pure (source_of keyspace second hint))

abbrev SourceOf : List ℕ → Rel Source
SourceOf keyspace = Seq MayAs (SourceEnd keyspace)

abbrev pub SourceRel : Rel Source
SourceRel = Then keyword.From (Worded (λ w. SourceOf w.text))

completes_source_end : (keyspace : List ℕ) (second : Option (List ℕ)) → Completes (SourceEnd keyspace second)
completes_source_end keyspace second = completes_seq completes_use (λ hint. completes_pure (source_of keyspace second hint))

completes_source_of : (keyspace : List ℕ) → Completes (SourceOf keyspace)
completes_source_of keyspace = completes_seq completes_as (completes_source_end keyspace)

pub completes_source : Completes SourceRel
completes_source = completes_then keyword.From (completes_name (completes_source_of []))

pub within_source : (n : ℕ) → Within n (up_to 8) SourceRel source
unfolding source
within_source n = within_then keyword.From
    (within_less (omega arith) (within_name {n = n} {R = SourceOf}
    (λ keyspace. within_seq within_may_as
    (λ second. within_seq within_may_use (λ hint. within_pure (source_of keyspace second hint)) (λ hint. links_pure (λ t e. e)) (λ hint. completes_pure (source_of keyspace second hint)))
    (λ second. links_seq {between = up_to 8} links_use (λ hint. links_pure (λ t e. e))) (completes_source_end keyspace))
    (completes_source_of [])))
    (completes_name (completes_source_of []))

-- UNNEST.

abbrev one_unnest : Bool → UnresolvedExpr → List ℕ → Unnest UnresolvedExpr
one_unnest left x text = record { left = left; over = x; name = text }

abbrev UnnestOf : Bool → Rel (Unnest UnresolvedExpr)
UnnestOf left = Seq (IsExpr false) (λ x. Seq NamedAs (λ text. Pure (one_unnest left x text)))

completes_unnest_name : (left : Bool) (x : UnresolvedExpr) → Completes (Seq NamedAs (λ text. Pure (one_unnest left x text)))
completes_unnest_name left x = completes_seq completes_named (λ text. completes_pure (one_unnest left x text))

completes_unnest : (left : Bool) → Completes (UnnestOf left)
completes_unnest left = completes_seq (completes_at false precedence.Or) (completes_unnest_name left)

within_unnest : (n : ℕ) (left : Bool) → Within n (up_to 8) (UnnestOf left) (unnest left)
unfolding unnest
within_unnest n left = within_seq (within_parsed n false)
    (λ x. within_seq {before = up_to 8} within_as_name (λ text. within_pure (one_unnest left x text)) (λ text. links_pure (λ t e. e)) (λ text. completes_pure (one_unnest left x text)))
    (λ x. links_seq {between = up_to 8} links_named (λ text. links_pure (λ t e. e))) (completes_unnest_name left)

-- UNNESTs behind those that were found
data FoundUnnests (found : List (Unnest UnresolvedExpr)) (ts : List TokenClass) (ys : List (Unnest UnresolvedExpr)) (vs : List TokenClass) : Type 0 where
  found_unnests : (us : List (Unnest UnresolvedExpr)) → ys ≡ found ++ us → AreUnnests ts us vs → FoundUnnests found ts ys vs

abbrev UnnestThenMore : List (Unnest UnresolvedExpr) → Bool → Rel (List (Unnest UnresolvedExpr))
UnnestThenMore found left = Seq (UnnestOf left) (λ u. FoundUnnests (found ++ u ∷ []))

abbrev FurtherUnnests : List (Unnest UnresolvedExpr) → Rel (List (Unnest UnresolvedExpr))
FurtherUnnests found = Either (Then keyword.Left (Then keyword.Unnest (UnnestThenMore found true))) (Either (Then keyword.Unnest (UnnestThenMore found false)) (Pure found))

found_more : {left : Bool} {us ws vs zs : List TokenClass} {x : UnresolvedExpr} {text : List ℕ} (found : List (Unnest UnresolvedExpr)) (ys : List (Unnest UnresolvedExpr)) →
    q.IsLeftOrNot us left ws → IsExpr false ws x zs → {bs : List TokenClass} → MayAs zs (Some text) bs → FoundUnnests (found ++ one_unnest left x text ∷ []) bs ys vs → FoundUnnests found us ys vs
found_more {left = left} {x = x} {text = text} found ys l p m (found_unnests more e k) =
    found_unnests (one_unnest left x text ∷ more) (e ∙ append_assoc found (one_unnest left x text ∷ []) more) (q.unnests_more (q.unnest l p m) k)

unnests_to : (found : List (Unnest UnresolvedExpr)) (us vs : List TokenClass) (ys : List (Unnest UnresolvedExpr)) → FurtherUnnests found us ys vs → FoundUnnests found us ys vs
unnests_to found _ vs ys (one (behind (behind (seq u ws (seq x zs p (seq text bs m none_taken)) k)))) = found_more found ys q.unnest_left p m k
unnests_to found _ vs ys (other (one (behind (seq u ws (seq x zs p (seq text bs m none_taken)) k)))) = found_more found ys q.unnest_inner p m k
unnests_to found us vs ys (other (other e)) = ends (FoundUnnests found) e (found_unnests [] (sym (append-nil found)) q.unnests_done)

unnests_back : (found : List (Unnest UnresolvedExpr)) (us vs : List TokenClass) (ys : List (Unnest UnresolvedExpr)) → FoundUnnests found us ys vs → FurtherUnnests found us ys vs
unnests_back found us _ ys (found_unnests _ e q.unnests_done) = other (other (subst (λ z. Pure found us z us) (sym (e ∙ append-nil found)) none_taken))
unnests_back found _ vs ys (found_unnests _ e (q.unnests_more {more = more} (q.unnest {x = x} {name = text} q.unnest_left p m) k)) =
    one (behind (behind (seq (one_unnest true x text) _ (seq x _ p (seq text _ m none_taken)) (found_unnests more (e ∙ sym (append_assoc found (one_unnest true x text ∷ []) more)) k))))
unnests_back found _ vs ys (found_unnests _ e (q.unnests_more {more = more} (q.unnest {x = x} {name = text} q.unnest_inner p m) k)) =
    other (one (behind (seq (one_unnest false x text) _ (seq x _ p (seq text _ m none_taken)) (found_unnests more (e ∙ sym (append_assoc found (one_unnest false x text ∷ []) more)) k))))

completes_found : (found : List (Unnest UnresolvedExpr)) → Completes (FoundUnnests found)
completes_found found = record { more = []; tree = found; reads = λ us. found_unnests [] (sym (append-nil found)) q.unnests_done }

links_found : (found : List (Unnest UnresolvedExpr)) → Links (up_to 8) (up_to 9) (FoundUnnests found)
links_found found = record { stops = go }
  where
    go : (us vs : List TokenClass) (ys : List (Unnest UnresolvedExpr)) → FoundUnnests found us ys vs → Stops (up_to 9) vs → Stops (up_to 8) us
    go us vs ys (found_unnests _ e q.unnests_done) st = stops_less 8 9 (omega arith) us st
    go us vs ys (found_unnests _ e (q.unnests_more (q.unnest q.unnest_inner p m) k)) st = refl
    go us vs ys (found_unnests _ e (q.unnests_more (q.unnest q.unnest_left p m) k)) st = refl

no_inner : (found : List (Unnest UnresolvedExpr)) (us vs : List TokenClass) (ys : List (Unnest UnresolvedExpr)) → Pure found (Keyword keyword.Unnest ∷ us) ys vs → Stops (up_to 9) vs → ⊥
no_inner found = none_or_more (up_to 9) keyword.Unnest refl

no_left : (found : List (Unnest UnresolvedExpr)) (us vs : List TokenClass) (ys : List (Unnest UnresolvedExpr)) → Either (Then keyword.Unnest (UnnestThenMore found false)) (Pure found) (Keyword keyword.Left ∷ us) ys vs →
    Stops (up_to 9) vs → ⊥
no_left found us vs ys (one r) st = let h : keyword.Unnest ≡ keyword.Left = apart keyword.Unnest keyword.Left r in cc
no_left found us vs ys (other e) st = none_or_more (up_to 9) keyword.Left refl us vs ys e st

-- one turn of the loop
unnest_turn : (n : ℕ) → ((found : List (Unnest UnresolvedExpr)) → Within (suc n) (up_to 9) (FoundUnnests found) (unnests_from n found)) → (found : List (Unnest UnresolvedExpr)) →
    Within (suc (suc n)) (up_to 9) (FoundUnnests found) (unnests_from (suc n) found)
unfolding unnests_from left_unnest
unnest_turn n on found = within_as {before = up_to 9}
    (within_eat keyword.Left in_left (within_eat keyword.Unnest (then_more false) (within_pure found) (no_inner found)) (no_left found))
    (unnests_to found) (λ us vs ys r st. (unnests_back found us vs ys r, st))
  where
    then_more : (left : Bool) → Within (suc n) (up_to 9) (UnnestThenMore found left) (λ ts. and_then (unnest left ts) (λ u. unnests_from n (found ++ u ∷ [])))
    then_more left = within_seq (within_unnest (suc n) left) (λ u. on (found ++ u ∷ [])) (λ u. links_found (found ++ u ∷ [])) (λ u. completes_found (found ++ u ∷ []))

    in_left : Within (suc n) (up_to 9) (Then keyword.Unnest (UnnestThenMore found true)) (λ ts. and_then (left_unnest ts) (λ u. unnests_from n (found ++ u ∷ [])))
    in_left = within_eq (within_then keyword.Unnest (then_more true) (completes_seq (completes_unnest true) (λ u. completes_found (found ++ u ∷ []))))
        (λ ts. regrouped (expect keyword.Unnest ts) (λ _. unnest true) (λ u. unnests_from n (found ++ u ∷ [])))

none_left : (found : List (Unnest UnresolvedExpr)) (vs : List TokenClass) (ys : List (Unnest UnresolvedExpr)) → FoundUnnests found [] ys vs → (ys ≡ found) × (vs ≡ [])
none_left found vs ys (found_unnests _ e q.unnests_done) = (e ∙ append-nil found, refl)
none_left found vs ys (found_unnests _ e (q.unnests_more (q.unnest l p m) k)) = elim l [ ]

within_unnests_from : (n : ℕ) (found : List (Unnest UnresolvedExpr)) → Within (suc n) (up_to 9) (FoundUnnests found) (unnests_from n found)
unfolding unnests_from
within_unnests_from zero found = record { agrees = go }
  where
    at_end : (vs : List TokenClass) → length vs < 1 → vs ≡ []
    at_end [] h = refl
    at_end (t ∷ vs) h = absurd (omega arith)

    go : (ts : List TokenClass) → length ts < 1 → Agrees (up_to 9) (FoundUnnests found) ts (got found ts)
    go ts h = record {
      front = [];
      is = refl;
      sound = λ us. found_unnests [] (sym (append-nil found)) q.unnests_done;
      only = λ us vs ys e r st.
          let eu = next_none (e ∙ ap next (at_end ts h)) in
          let p = none_left found vs ys (subst (λ k. FoundUnnests found k ys vs) eu r) in
          (p.0, p.1 ∙ sym eu);
    }
within_unnests_from (suc n) found = unnest_turn n (within_unnests_from n) found

found_none : (us vs : List TokenClass) (ys : List (Unnest UnresolvedExpr)) → FoundUnnests [] us ys vs → AreUnnests us ys vs
found_none us vs ys (found_unnests more e k) = subst (λ zs. AreUnnests us zs vs) (sym e) k

pub within_unnests : {n : ℕ} → Within n (up_to 9) AreUnnests unnests
unfolding unnests
within_unnests = within_as {before = up_to 9} {R = FoundUnnests []}
    (record { agrees = λ ts h. (within_unnests_from (length ts) []).agrees ts (omega arith) })
    found_none (λ us vs ys r st. (found_unnests ys refl r, st))

pub completes_unnests : Completes AreUnnests
completes_unnests = record { more = []; tree = []; reads = λ us. q.unnests_done }

pub links_unnests : Links (up_to 8) (up_to 9) AreUnnests
links_unnests = record { stops = λ us vs ys r st. (links_found []).stops us vs ys (found_unnests ys refl r) st }

-- WHERE and HAVING.

filter_to : (us vs : List TokenClass) (y : Option UnresolvedExpr) → May false keyword.Where us y vs → MayFilter us y vs
filter_to _ vs y (one (behind (seq x ws p e))) = ends MayFilter e (q.filter_some p)
filter_to us vs y (other e) = ends MayFilter e q.filter_none

filter_from : (us vs : List TokenClass) (y : Option UnresolvedExpr) → MayFilter us y vs → May false keyword.Where us y vs
filter_from us vs y q.filter_none = other none_taken
filter_from us vs y (q.filter_some p) = one (behind (seq _ _ p none_taken))

pub within_filter : {n : ℕ} → Within n (up_to 10) MayFilter (parsed_after false keyword.Where)
within_filter = within_as {before = up_to 10} (within_parsed_after false keyword.Where 10 (omega arith) refl) filter_to (λ us vs y r st. (filter_from us vs y r, st))

pub completes_filter : Completes MayFilter
completes_filter = record { more = []; tree = None; reads = λ us. q.filter_none }

pub links_filter : Links (up_to 9) (up_to 10) MayFilter
links_filter = record { stops = go }
  where
    go : (us vs : List TokenClass) (y : Option UnresolvedExpr) → MayFilter us y vs → Stops (up_to 10) vs → Stops (up_to 9) us
    go us vs y q.filter_none st = stops_less 9 10 (omega arith) us st
    go us vs y (q.filter_some p) st = refl

having_to : (us vs : List TokenClass) (y : Option UnresolvedExpr) → May true keyword.Having us y vs → MayHaving us y vs
having_to _ vs y (one (behind (seq x ws p e))) = ends MayHaving e (q.having_some p)
having_to us vs y (other e) = ends MayHaving e q.having_none

having_from : (us vs : List TokenClass) (y : Option UnresolvedExpr) → MayHaving us y vs → May true keyword.Having us y vs
having_from us vs y q.having_none = other none_taken
having_from us vs y (q.having_some p) = one (behind (seq _ _ p none_taken))

within_having : {n : ℕ} → Within n (up_to 11) MayHaving (parsed_after true keyword.Having)
within_having = within_as {before = up_to 11} (within_parsed_after true keyword.Having 11 (omega arith) refl) having_to (λ us vs y r st. (having_from us vs y r, st))

completes_having : Completes MayHaving
completes_having = record { more = []; tree = None; reads = λ us. q.having_none }

links_having : Links (up_to 8) (up_to 11) MayHaving
links_having = record { stops = go }
  where
    go : (us vs : List TokenClass) (y : Option UnresolvedExpr) → MayHaving us y vs → Stops (up_to 11) vs → Stops (up_to 8) us
    go us vs y q.having_none st = stops_less 8 11 (omega arith) us st
    go us vs y (q.having_some p) st = refl

-- GROUP BY.

abbrev one_grouping : List UnresolvedExpr → Option UnresolvedExpr → Grouping
one_grouping xs c = record { groups = xs; having = c }

abbrev pub AreGrouped : Rel Grouping
AreGrouped ts y vs = MayGroup ts y.groups y.having vs

abbrev HavingEnd : List UnresolvedExpr → Rel Grouping
HavingEnd xs = Seq MayHaving (λ c. Pure (one_grouping xs c))

abbrev GroupedRel : Rel Grouping
GroupedRel = Then keyword.By (Seq (IsExprs false) HavingEnd)

group_to : (us vs : List TokenClass) (y : Grouping) → Either (Then keyword.Group GroupedRel) (Pure no_grouping) us y vs → AreGrouped us y vs
group_to _ vs y (one (behind (behind (seq xs _ p (seq c _ m e))))) = ends AreGrouped e (q.group_some p m)
group_to us vs y (other e) = ends AreGrouped e q.group_none

group_from : (us vs : List TokenClass) (xs : List UnresolvedExpr) (c : Option UnresolvedExpr) → MayGroup us xs c vs → Either (Then keyword.Group GroupedRel) (Pure no_grouping) us (one_grouping xs c) vs
group_from us vs xs c q.group_none = other none_taken
group_from us vs xs c (q.group_some p m) = one (behind (behind (seq _ _ p (seq _ _ m none_taken))))

completes_having_end : (xs : List UnresolvedExpr) → Completes (HavingEnd xs)
completes_having_end xs = completes_seq completes_having (λ c. completes_pure (one_grouping xs c))

within_grouped : {n : ℕ} → Within n (up_to 11) GroupedRel grouped
unfolding grouped
within_grouped = within_then keyword.By
    (within_seq within_parsed_exprs
    (λ xs. within_seq within_having (λ c. within_pure (one_grouping xs c)) (λ c. links_pure (λ t e. e)) (λ c. completes_pure (one_grouping xs c)))
    (λ xs. links_seq {between = up_to 11} links_having (λ c. links_pure (λ t e. e))) completes_having_end)
    (completes_seq completes_exprs completes_having_end)

pub within_grouping : {n : ℕ} → Within n (up_to 11) AreGrouped grouping
unfolding grouping
within_grouping = within_as {before = up_to 11}
    (within_may keyword.Group within_grouped (within_pure no_grouping) (none_or_more (up_to 11) keyword.Group refl))
    group_to (λ us vs y r st. (group_from us vs y.groups y.having r, st))

pub completes_group : Completes AreGrouped
completes_group = record { more = []; tree = no_grouping; reads = λ us. q.group_none }

pub links_group : Links (up_to 10) (up_to 11) AreGrouped
links_group = record { stops = λ us vs y r st. go us vs y.groups y.having r st }
  where
    go : (us vs : List TokenClass) (xs : List UnresolvedExpr) (c : Option UnresolvedExpr) → MayGroup us xs c vs → Stops (up_to 11) vs → Stops (up_to 10) us
    go us vs xs c q.group_none st = stops_less 10 11 (omega arith) us st
    go us vs xs c (q.group_some p m) st = refl

-- ORDER BY.

-- what goes on with an expression, or tells its direction
abbrev directed : TokenClass → Bool
directed (Keyword keyword.Asc) = true
directed (Keyword keyword.Desc) = true
directed t = up_to 7 t

directed_stops : (t : TokenClass) → up_to 8 t ≡ false → directed t ≡ false
directed_stops (Keyword keyword.Asc) e = cc
directed_stops (Keyword keyword.Desc) e = cc
directed_stops (Keyword m) e = tighter_stops 7 8 (omega arith) (Keyword m) e
directed_stops (Name text quoted) e = refl
directed_stops (Str text) e = refl
directed_stops (Num n) e = refl
directed_stops Other e = refl

directed_less : (t : TokenClass) → directed t ≡ false → up_to 7 t ≡ false
directed_less (Keyword keyword.Asc) e = cc
directed_less (Keyword keyword.Desc) e = cc
directed_less (Keyword m) e = e
directed_less (Name text quoted) e = refl
directed_less (Str text) e = refl
directed_less (Num n) e = refl
directed_less Other e = refl

abbrev AscRel : Rel Bool
AscRel = Either (Then keyword.Asc (Pure false)) (Pure false)

direction_to : (us vs : List TokenClass) (y : Bool) → Either (Then keyword.Desc (Pure true)) AscRel us y vs → MayDirection us y vs
direction_to _ vs y (one (behind e)) = ends MayDirection e q.direction_desc
direction_to _ vs y (other (one (behind e))) = ends MayDirection e q.direction_asc
direction_to us vs y (other (other e)) = ends MayDirection e q.direction_none

direction_from : (us vs : List TokenClass) (y : Bool) → MayDirection us y vs → Either (Then keyword.Desc (Pure true)) AscRel us y vs
direction_from us vs y q.direction_desc = one (behind none_taken)
direction_from us vs y q.direction_asc = other (one (behind none_taken))
direction_from us vs y q.direction_none = other (other none_taken)

no_desc : (us vs : List TokenClass) (y : Bool) → AscRel (Keyword keyword.Desc ∷ us) y vs → Stops directed vs → ⊥
no_desc us vs y (one r) st = let h : keyword.Asc ≡ keyword.Desc = apart keyword.Asc keyword.Desc r in cc
no_desc us vs y (other e) st = none_or_more directed keyword.Desc refl us vs y e st

within_direction : {n : ℕ} → Within n directed MayDirection direction
unfolding direction
within_direction = within_as {before = directed}
    (within_may keyword.Desc (within_pure true)
    (within_flag keyword.Asc {R = λ _. Pure false} {f = λ _ us. got false us} (λ _. within_pure false) (none_or_more directed keyword.Asc refl)) no_desc)
    direction_to (λ us vs y r st. (direction_from us vs y r, st))

completes_direction : Completes MayDirection
completes_direction = record { more = []; tree = false; reads = λ us. q.direction_none }

links_direction : Links (up_to 7) directed MayDirection
links_direction = record { stops = go }
  where
    go : (us vs : List TokenClass) (y : Bool) → MayDirection us y vs → Stops directed vs → Stops (up_to 7) us
    go us vs y q.direction_none st = stops_for directed_less us st
    go us vs y q.direction_asc st = refl
    go us vs y q.direction_desc st = refl

abbrev one_order : UnresolvedExpr → Option (List ℕ) → Bool → Order UnresolvedExpr
one_order x alone desc = record { key = x; desc = desc; alone = alone }

abbrev OrderRel : Rel (Order UnresolvedExpr)
OrderRel = Seq (Marked name_alone (IsExpr true)) (λ p. Seq MayDirection (λ desc. Pure (one_order p.0 p.1 desc)))

order_to : (us vs : List TokenClass) (y : Order UnresolvedExpr) → OrderRel us y vs → IsOrder us y vs
order_to us vs y (seq p ws r (seq desc zs m e)) = ends IsOrder e (subst (λ alone. IsOrder us (one_order p.0 alone desc) zs) (sym r.1) (q.order r.0 m))

order_from : (us vs : List TokenClass) (y : Order UnresolvedExpr) → IsOrder us y vs → OrderRel us y vs
order_from us vs y (q.order {x = x} {us = ws} p m) = seq (x, name_alone (tokens_before us ws) x) ws (p, refl) (seq _ vs m none_taken)

abbrev marked_alone : Parser (UnresolvedExpr × Option (List ℕ))
marked_alone ts = and_then (parsed true ts) (λ x us. got (x, name_alone (tokens_before ts us) x) us)

within_order : (n : ℕ) → Within n directed IsOrder order
unfolding order
within_order n = within_as {before = directed}
    (within_eq
    (within_seq {p = marked_alone} (within_marked name_alone (within_parsed n true))
    (λ p. within_seq within_direction (λ desc. within_pure (one_order p.0 p.1 desc)) (λ desc. links_pure (λ t e. e)) (λ desc. completes_pure (one_order p.0 p.1 desc)))
    (λ p. links_seq {between = directed} links_direction (λ desc. links_pure (λ t e. e)))
    (λ p. completes_seq completes_direction (λ desc. completes_pure (one_order p.0 p.1 desc))))
    (λ ts. sym (regrouped (parsed true ts) (λ x us. got (x, name_alone (tokens_before ts us) x) us) (λ p us. and_then (direction us) (λ desc vs. got (one_order p.0 p.1 desc) vs)))))
    order_to (λ us vs y r st. (order_from us vs y r, st))

orders_to : (us vs : List TokenClass) (ys : List (Order UnresolvedExpr)) → Several IsOrder us ys vs → IsOrders us ys vs
orders_to us vs _ (single r) = q.orders r q.orders_done
orders_to us vs _ (further {xs = xs} {us = ws} r k) = q.orders r (q.orders_more (orders_to ws vs xs k))

orders_back : (us vs : List TokenClass) (ys : List (Order UnresolvedExpr)) → IsOrders us ys vs → Several IsOrder us ys vs
orders_back us vs _ (q.orders r q.orders_done) = single r
orders_back us vs _ (q.orders r (q.orders_more {more = more} {ts = ts} k)) = further r (orders_back ts vs more k)

orders_are : (n : ℕ) (found : List (Order UnresolvedExpr)) → orders_from n found ≡ several_from order n found
unfolding orders_from
orders_are zero found = refl
orders_are (suc n) found = λ i ts. and_then (order ts) (λ o us. and_then (eat keyword.Comma us)
    (λ more. if more then orders_are n (found ++ o ∷ []) i else (λ vs. got (found ++ o ∷ []) vs)))

no_order : (vs : List TokenClass) (y : Order UnresolvedExpr) → IsOrder [] y vs → ⊥
no_order vs y (q.order p m) = expr_head p

completes_order : Completes IsOrder
completes_order =
    let c = completes_seq (completes_marked name_alone (completes_at true precedence.Or)) (λ p. completes_seq completes_direction (λ desc. completes_pure (one_order p.0 p.1 desc))) in
    record { more = c.more; tree = c.tree; reads = λ us. order_to (c.more ++ us) us c.tree (c.reads us) }

within_orders : (n : ℕ) → Within n (up_to 8) IsOrders orders
unfolding orders
within_orders n = within_as {before = up_to 8} {R = Several IsOrder}
    (within_eq (within_several IsOrder order directed refl directed_stops completes_order no_order n (within_order n)) (λ ts. ap (λ (f : Parser (List (Order UnresolvedExpr))). f ts) (orders_are (length ts) [])))
    orders_to (λ us vs ys r st. (orders_back us vs ys r, st))

completes_orders : Completes IsOrders
completes_orders = let c = completes_order in record { more = c.more; tree = c.tree ∷ []; reads = λ us. q.orders (c.reads us) q.orders_done }

order_by_to : (us vs : List TokenClass) (ys : List (Order UnresolvedExpr)) → Either (Then keyword.Order (Then keyword.By IsOrders)) (Pure []) us ys vs → MayOrder us ys vs
order_by_to _ vs ys (one (behind (behind p))) = q.order_some p
order_by_to us vs ys (other e) = ends MayOrder e q.order_none

order_by_from : (us vs : List TokenClass) (ys : List (Order UnresolvedExpr)) → MayOrder us ys vs → Either (Then keyword.Order (Then keyword.By IsOrders)) (Pure []) us ys vs
order_by_from us vs ys q.order_none = other none_taken
order_by_from us vs ys (q.order_some p) = one (behind (behind p))

pub within_may_order : {n : ℕ} → Within n (up_to 12) MayOrder may_order
unfolding may_order ordered
within_may_order {n = n} = within_as {before = up_to 12}
    (within_may keyword.Order (within_then keyword.By (within_wider (tighter_stops 8 12 (omega arith)) (within_orders n)) completes_orders) (within_pure []) (none_or_more (up_to 12) keyword.Order refl))
    order_by_to (λ us vs ys r st. (order_by_from us vs ys r, st))

pub completes_may_order : Completes MayOrder
completes_may_order = record { more = []; tree = []; reads = λ us. q.order_none }

pub links_order : Links (up_to 11) (up_to 12) MayOrder
links_order = record { stops = go }
  where
    go : (us vs : List TokenClass) (ys : List (Order UnresolvedExpr)) → MayOrder us ys vs → Stops (up_to 12) vs → Stops (up_to 11) us
    go us vs ys q.order_none st = stops_less 11 12 (omega arith) us st
    go us vs ys (q.order_some p) st = refl

-- LIMIT and OFFSET.

abbrev count_seen : TokenClass → Option ℕ
count_seen (Num n) = if nat_lt n (2 ^ 63) then Some n else None
count_seen _ = None

count_is : (t : TokenClass) (n : ℕ) → count_seen t ≡ Some n → (t ≡ Num n) × (n < 2 ^ 63)
count_is (Num m) n e = by_test (nat_lt m (2 ^ 63)) refl e
  where
    by_test : (b : Bool) → nat_lt m (2 ^ 63) ≡ b → (if b then Some m else None) ≡ Some n → (Num m ≡ Num n) × (n < 2 ^ 63)
    by_test true h k = let same : m ≡ n = cc in (ap Num same, subst (λ j. j < 2 ^ 63) same (ltb-true m (2 ^ 63) h))
    by_test false h k = cc
count_is (Keyword m) n e = cc
count_is (Name text quoted) n e = cc
count_is (Str text) n e = cc
count_is Other n e = cc

is_count : (n : ℕ) → n < 2 ^ 63 → count_seen (Num n) ≡ Some n
is_count n h = ap (λ b. if b then Some n else None) (lt-ltb n (2 ^ 63) h)

counted : {A : Type 0} (f : ℕ → Parser A) (o : Option ℕ) (t : TokenClass) (ts : List TokenClass) →
    and_then (and_then (taken_if_some o (t ∷ ts)) (λ c. if_some c pure fail)) f ≡ if_seen o (λ n. f n ts) (stuck (length (t ∷ ts)))
counted f (Some n) t ts = refl
counted f None t ts = refl

count_required : {A : Type 0} (f : ℕ → Parser A) (ts : List TokenClass) → and_then (count ts) f ≡ required count_seen f ts
count_required f [] = refl
count_required f (Num n ∷ ts) = counted f (if nat_lt n (2 ^ 63) then Some n else None) (Num n) ts
count_required f (Keyword m ∷ ts) = refl
count_required f (Name text quoted ∷ ts) = refl
count_required f (Str text ∷ ts) = refl
count_required f (Other ∷ ts) = refl

within_count : {A : Type 0} {n : ℕ} {goes : TokenClass → Bool} (made : ℕ → A) → Within n goes (Next count_seen (λ m. Pure (made m))) (λ ts. and_then (count ts) (λ m us. got (made m) us))
within_count {n = n} made = within_less {n = suc n} (omega arith)
    (within_eq (within_required {n = n} {look = count_seen} {R = λ m. Pure (made m)} {f = λ m us. got (made m) us} (λ m. within_pure (made m)) (completes_next (Num 0) 0 (is_count 0 (omega arith)) (completes_pure (made 0))))
    (count_required (λ m us. got (made m) us)))

limit_at : {us vs : List TokenClass} {y : Option ℕ} → Next count_seen (λ m. Pure (Some m)) us y vs → MayLimit (Keyword keyword.Limit ∷ us) y vs
limit_at {vs = vs} {y = y} (meant t n ws is seen e) =
    let c = count_is t n seen in
    subst (λ ts. MayLimit (Keyword keyword.Limit ∷ ts) y vs) (sym (is ∙ ap (λ t. t ∷ ws) c.0)) (ends (λ ts y vs. MayLimit (Keyword keyword.Limit ∷ Num n ∷ ws) y vs) {us = ws} e (q.limit_some c.1))

limit_to : (us vs : List TokenClass) (y : Option ℕ) → Either (Then keyword.Limit (Next count_seen (λ m. Pure (Some m)))) (Pure None) us y vs → MayLimit us y vs
limit_to _ vs y (one (behind r)) = limit_at r
limit_to us vs y (other e) = ends MayLimit e q.limit_none

limit_from : (us vs : List TokenClass) (y : Option ℕ) → MayLimit us y vs → Either (Then keyword.Limit (Next count_seen (λ m. Pure (Some m)))) (Pure None) us y vs
limit_from us vs y q.limit_none = other none_taken
limit_from us vs y (q.limit_some {n = n} h) = one (behind (meant (Num n) n vs refl (is_count n h) none_taken))

pub within_may_limit : {n : ℕ} → Within n (up_to 13) MayLimit may_limit
unfolding may_limit
within_may_limit = within_as {before = up_to 13}
    (within_may keyword.Limit (within_count (λ m. Some m)) (within_pure None) (none_or_more (up_to 13) keyword.Limit refl))
    limit_to (λ us vs y r st. (limit_from us vs y r, st))

pub completes_limit : Completes MayLimit
completes_limit = record { more = []; tree = None; reads = λ us. q.limit_none }

pub links_limit : Links (up_to 12) (up_to 13) MayLimit
links_limit = record { stops = go }
  where
    go : (us vs : List TokenClass) (y : Option ℕ) → MayLimit us y vs → Stops (up_to 13) vs → Stops (up_to 12) us
    go us vs y q.limit_none st = stops_less 12 13 (omega arith) us st
    go us vs y (q.limit_some h) st = refl

offset_at : {us vs : List TokenClass} {y : ℕ} → Next count_seen Pure us y vs → MayOffset (Keyword keyword.Offset ∷ us) y vs
offset_at {vs = vs} {y = y} (meant t n ws is seen e) =
    let c = count_is t n seen in
    subst (λ ts. MayOffset (Keyword keyword.Offset ∷ ts) y vs) (sym (is ∙ ap (λ t. t ∷ ws) c.0)) (ends (λ ts y vs. MayOffset (Keyword keyword.Offset ∷ Num n ∷ ws) y vs) {us = ws} e (q.offset_some c.1))

offset_to : (us vs : List TokenClass) (y : ℕ) → Either (Then keyword.Offset (Next count_seen Pure)) (Pure 0) us y vs → MayOffset us y vs
offset_to _ vs y (one (behind r)) = offset_at r
offset_to us vs y (other e) = ends MayOffset e q.offset_none

offset_from : (us vs : List TokenClass) (y : ℕ) → MayOffset us y vs → Either (Then keyword.Offset (Next count_seen Pure)) (Pure 0) us y vs
offset_from us vs y q.offset_none = other none_taken
offset_from us vs y (q.offset_some {n = n} h) = one (behind (meant (Num n) n vs refl (is_count n h) none_taken))

pub within_may_offset : {n : ℕ} → Within n (up_to 14) MayOffset may_offset
unfolding may_offset
within_may_offset = within_as {before = up_to 14}
    (within_may keyword.Offset (within_eq (within_count (λ m. m)) (λ ts. sym (and_got (count ts)))) (within_pure 0) (none_or_more (up_to 14) keyword.Offset refl))
    offset_to (λ us vs y r st. (offset_from us vs y r, st))

pub completes_offset : Completes MayOffset
completes_offset = record { more = []; tree = 0; reads = λ us. q.offset_none }

pub links_offset : Links (up_to 13) (up_to 14) MayOffset
links_offset = record { stops = go }
  where
    go : (us vs : List TokenClass) (y : ℕ) → MayOffset us y vs → Stops (up_to 14) vs → Stops (up_to 13) us
    go us vs y q.offset_none st = stops_less 13 14 (omega arith) us st
    go us vs y (q.offset_some h) st = refl
