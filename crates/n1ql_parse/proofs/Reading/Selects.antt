-- SELECT, of its parts.
use Rattle.std.specs.Prelude.{◌≡◌, ℕ, suc, Bool, true, false, List, ◌∷◌, length, Option, refl}
use Rattle.std.proofs.Common.{arith}
use Rattle.n1ql_ast.specs.declared.keyword.Keyword.TheVariants as keyword
use Rattle.n1ql_ast.specs.declared.order.Order.{Order}
use Rattle.n1ql_ast.specs.declared.selection.Selection.{Selection}
use Rattle.n1ql_ast.specs.declared.token_class.TokenClass.{TokenClass}
use Rattle.n1ql_ast.specs.declared.token_class.TokenClass.TheVariants.{Keyword}
use Rattle.n1ql_ast.specs.declared.unnest.Unnest.{Unnest}
use Rattle.n1ql_ast.specs.declared.unresolved_expr.UnresolvedExpr.{UnresolvedExpr}
use Rattle.n1ql_ast.specs.Selections as q
use Rattle.n1ql_ast.specs.Selections.{AreUnnests, MayFilter, MayOrder, MayLimit, MayOffset, IsSelect}
use Rattle.n1ql_parse.specs.declared.queries.finish.Finish.{Finish}
use Rattle.n1ql_parse.specs.declared.queries.grouping.Grouping.{Grouping}
use Rattle.n1ql_parse.specs.declared.queries.head.Head.{Head}
use Rattle.n1ql_parse.specs.declared.queries.projection.Projection.{Projection}
use Rattle.n1ql_parse.specs.declared.queries.rows.Rows.{Rows}
use Rattle.n1ql_parse.specs.declared.queries.source.Source.{Source}
use Rattle.n1ql_parse.specs.declared.queries.tail.Tail.{Tail}
use Rattle.n1ql_parse.specs.inner.Queries.{projection, source, rows, finish, head, tail, select_of, select_parsed}
use Rattle.n1ql_parse.specs.inner.Steps.{got, and_then}
use Rattle.n1ql_parse.proofs.Reading.Prefixes.{Rel, Stops, Agrees, Within, Completes, Links, Seq, seq, Pure, none_taken, Either, one, other}
use Rattle.n1ql_parse.proofs.Reading.Combined.{ends, within_as, within_seq, within_pure, links_pure, links_seq, completes_pure, completes_other, completes_seq}
use Rattle.n1ql_parse.proofs.Reading.Looks.{Then, behind, worded, links_then}
use Rattle.n1ql_parse.proofs.Reading.Precedences.{up_to}
use Rattle.n1ql_parse.proofs.Reading.Lookahead.{expr_head}
use Rattle.n1ql_parse.proofs.Reading.Choices.{within_then}
use Rattle.n1ql_parse.proofs.Reading.Fronts.{within_flag}
use Rattle.n1ql_parse.proofs.Reading.QueryParts.{AreResult, within_projection, completes_result, SourceRel, within_source, completes_source, within_unnests, completes_unnests, links_unnests, within_filter, completes_filter, links_filter, AreGrouped, within_grouping, completes_group, links_group, within_may_order, completes_may_order, links_order, within_may_limit, completes_limit, links_limit, within_may_offset, completes_offset, links_offset}

-- Up to what FROM names.

abbrev one_head : Bool → Projection → Source → Head
one_head distinct p s = record { distinct = distinct; projection = p; source = s }

abbrev HeadEnd : Bool → Projection → Rel Head
HeadEnd distinct p = Seq SourceRel (λ s. Pure (one_head distinct p s))

abbrev HeadOf : Bool → Rel Head
HeadOf distinct = Seq AreResult (HeadEnd distinct)

abbrev HeadRel : Rel Head
HeadRel = Then keyword.Select (Either (Then keyword.Distinct (HeadOf true)) (HeadOf false))

completes_head_end : (distinct : Bool) (p : Projection) → Completes (HeadEnd distinct p)
completes_head_end distinct p = completes_seq completes_source (λ s. completes_pure (one_head distinct p s))

completes_head_of : (distinct : Bool) → Completes (HeadOf distinct)
completes_head_of distinct = completes_seq completes_result (completes_head_end distinct)

no_distinct : (us vs : List TokenClass) (y : Head) → HeadOf false (Keyword keyword.Distinct ∷ us) y vs → Stops (up_to 8) vs → ⊥
no_distinct us vs y (seq p ws (q.result_terms (q.terms (q.term_one e m) k)) r) st = let h : false ≡ true = expr_head e in cc

within_head_of : (n : ℕ) (distinct : Bool) → Within n (up_to 8) (HeadOf distinct) (λ ts. and_then (projection ts) (λ p us. and_then (source us) (λ s vs. got (one_head distinct p s) vs)))
within_head_of n distinct = within_seq (within_projection n)
    (λ p. within_seq (within_source n) (λ s. within_pure (one_head distinct p s)) (λ s. links_pure (λ t e. e)) (λ s. completes_pure (one_head distinct p s)))
    (λ p. links_seq {between = up_to 8} (links_then refl) (λ s. links_pure (λ t e. e))) (completes_head_end distinct)

within_head : (n : ℕ) → Within n (up_to 8) HeadRel head
unfolding head
within_head n = within_then keyword.Select (within_flag keyword.Distinct (within_head_of n) no_distinct) (completes_other (completes_head_of false))

-- Behind what FROM names.

abbrev one_rows : List (Unnest UnresolvedExpr) → Option UnresolvedExpr → Rows
one_rows us c = record { unnests = us; filter = c }

abbrev RowsEnd : List (Unnest UnresolvedExpr) → Rel Rows
RowsEnd us = Seq MayFilter (λ c. Pure (one_rows us c))

abbrev RowsRel : Rel Rows
RowsRel = Seq AreUnnests RowsEnd

completes_rows_end : (us : List (Unnest UnresolvedExpr)) → Completes (RowsEnd us)
completes_rows_end us = completes_seq completes_filter (λ c. completes_pure (one_rows us c))

completes_rows : Completes RowsRel
completes_rows = completes_seq completes_unnests completes_rows_end

links_rows_end : (us : List (Unnest UnresolvedExpr)) → Links (up_to 9) (up_to 10) (RowsEnd us)
links_rows_end us = links_seq {between = up_to 10} links_filter (λ c. links_pure (λ t e. e))

links_rows : Links (up_to 8) (up_to 10) RowsRel
links_rows = links_seq {between = up_to 9} links_unnests links_rows_end

within_rows : {n : ℕ} → Within n (up_to 10) RowsRel rows
unfolding rows
within_rows = within_seq within_unnests
    (λ us. within_seq within_filter (λ c. within_pure (one_rows us c)) (λ c. links_pure (λ t e. e)) (λ c. completes_pure (one_rows us c)))
    links_rows_end completes_rows_end

abbrev one_finish : List (Order UnresolvedExpr) → Option ℕ → ℕ → Finish
one_finish os n m = record { orders = os; limit = n; offset = m }

abbrev OffsetEnd : List (Order UnresolvedExpr) → Option ℕ → Rel Finish
OffsetEnd os n = Seq MayOffset (λ m. Pure (one_finish os n m))

abbrev LimitEnd : List (Order UnresolvedExpr) → Rel Finish
LimitEnd os = Seq MayLimit (OffsetEnd os)

abbrev FinishRel : Rel Finish
FinishRel = Seq MayOrder LimitEnd

completes_offset_end : (os : List (Order UnresolvedExpr)) (n : Option ℕ) → Completes (OffsetEnd os n)
completes_offset_end os n = completes_seq completes_offset (λ m. completes_pure (one_finish os n m))

completes_limit_end : (os : List (Order UnresolvedExpr)) → Completes (LimitEnd os)
completes_limit_end os = completes_seq completes_limit (completes_offset_end os)

completes_finish : Completes FinishRel
completes_finish = completes_seq completes_may_order completes_limit_end

links_offset_end : (os : List (Order UnresolvedExpr)) (n : Option ℕ) → Links (up_to 13) (up_to 14) (OffsetEnd os n)
links_offset_end os n = links_seq {between = up_to 14} links_offset (λ m. links_pure (λ t e. e))

links_limit_end : (os : List (Order UnresolvedExpr)) → Links (up_to 12) (up_to 14) (LimitEnd os)
links_limit_end os = links_seq {between = up_to 13} links_limit (links_offset_end os)

links_finish : Links (up_to 11) (up_to 14) FinishRel
links_finish = links_seq {between = up_to 12} links_order links_limit_end

within_finish : {n : ℕ} → Within n (up_to 14) FinishRel finish
unfolding finish
within_finish = within_seq within_may_order
    (λ os. within_seq within_may_limit
    (λ n. within_seq within_may_offset (λ m. within_pure (one_finish os n m)) (λ m. links_pure (λ t e. e)) (λ m. completes_pure (one_finish os n m)))
    (links_offset_end os) (completes_offset_end os))
    links_limit_end completes_limit_end

abbrev one_tail : Rows → Grouping → Finish → Tail
one_tail r g f = record { rows = r; grouping = g; finish = f }

abbrev FinishEnd : Rows → Grouping → Rel Tail
FinishEnd r g = Seq FinishRel (λ f. Pure (one_tail r g f))

abbrev GroupEnd : Rows → Rel Tail
GroupEnd r = Seq AreGrouped (FinishEnd r)

abbrev TailRel : Rel Tail
TailRel = Seq RowsRel GroupEnd

completes_finish_end : (r : Rows) (g : Grouping) → Completes (FinishEnd r g)
completes_finish_end r g = completes_seq completes_finish (λ f. completes_pure (one_tail r g f))

completes_group_end : (r : Rows) → Completes (GroupEnd r)
completes_group_end r = completes_seq completes_group (completes_finish_end r)

links_finish_end : (r : Rows) (g : Grouping) → Links (up_to 11) (up_to 14) (FinishEnd r g)
links_finish_end r g = links_seq {between = up_to 14} links_finish (λ f. links_pure (λ t e. e))

links_group_end : (r : Rows) → Links (up_to 10) (up_to 14) (GroupEnd r)
links_group_end r = links_seq {between = up_to 11} links_group (links_finish_end r)

links_tail : Links (up_to 8) (up_to 14) TailRel
links_tail = links_seq {between = up_to 10} links_rows links_group_end

completes_tail : Completes TailRel
completes_tail = completes_seq completes_rows completes_group_end

within_tail : {n : ℕ} → Within n (up_to 14) TailRel tail
unfolding tail
within_tail = within_seq within_rows
    (λ r. within_seq within_grouping
    (λ g. within_seq within_finish (λ f. within_pure (one_tail r g f)) (λ f. links_pure (λ t e. e)) (λ f. completes_pure (one_tail r g f)))
    (links_finish_end r) (completes_finish_end r))
    links_group_end completes_group_end

-- The whole.

abbrev SelectRel : Rel (Selection UnresolvedExpr)
SelectRel = Seq HeadRel (λ h. Seq TailRel (λ t. Pure (select_of h t)))

within_select_rel : (n : ℕ) → Within n (up_to 14) SelectRel select_parsed
unfolding select_parsed
within_select_rel n = within_seq (within_head n)
    (λ h. within_seq within_tail (λ t. within_pure (select_of h t)) (λ t. links_pure (λ t e. e)) (λ t. completes_pure (select_of h t)))
    (λ h. links_seq {between = up_to 14} links_tail (λ t. links_pure (λ t e. e)))
    (λ h. completes_seq completes_tail (λ t. completes_pure (select_of h t)))

select_to : (us vs : List TokenClass) (y : Selection UnresolvedExpr) → SelectRel us y vs → IsSelect us y vs
select_to _ vs y (seq h _ (behind (one (behind (seq p _ r (seq s _ (behind (worded (seq second _ a (seq hint _ u none_taken)))) none_taken)))))
    (seq t _ (seq w _ (seq us _ n (seq c _ f none_taken)) (seq g _ k (seq i _ (seq os _ o (seq l _ m (seq j _ z none_taken))) none_taken))) e)) =
    ends IsSelect e (q.select q.distinct_some r a u n f k o m z)
select_to _ vs y (seq h _ (behind (other (seq p _ r (seq s _ (behind (worded (seq second _ a (seq hint _ u none_taken)))) none_taken))))
    (seq t _ (seq w _ (seq us _ n (seq c _ f none_taken)) (seq g _ k (seq i _ (seq os _ o (seq l _ m (seq j _ z none_taken))) none_taken))) e)) =
    ends IsSelect e (q.select q.distinct_none r a u n f k o m z)

tail_from : {us vs t1 t2 t3 t4 t5 : List TokenClass} {unnests : List (Unnest UnresolvedExpr)} {filter having : Option UnresolvedExpr} {groups : List UnresolvedExpr}
    {orders : List (Order UnresolvedExpr)} {limit : Option ℕ} {offset : ℕ} →
    AreUnnests us unnests t1 → MayFilter t1 filter t2 → q.MayGroup t2 groups having t3 → MayOrder t3 orders t4 → MayLimit t4 limit t5 → MayOffset t5 offset vs →
    TailRel us (one_tail (one_rows unnests filter) (record { groups = groups; having = having }) (one_finish orders limit offset)) vs
tail_from n f k o m z = seq _ _ (seq _ _ n (seq _ _ f none_taken)) (seq _ _ k (seq _ _ (seq _ _ o (seq _ _ m (seq _ _ z none_taken))) none_taken))

select_from : (us vs : List TokenClass) (y : Selection UnresolvedExpr) → IsSelect us y vs → SelectRel us y vs
select_from _ vs y (q.select {raw = x} {terms = ts} q.distinct_some r a u n f k o m z) =
    seq _ _ (behind (one (behind (seq (record { raw = x; terms = ts }) _ r (seq _ _ (behind (worded (seq _ _ a (seq _ _ u none_taken)))) none_taken)))))
    (seq _ _ (tail_from n f k o m z) none_taken)
select_from _ vs y (q.select {raw = x} {terms = ts} q.distinct_none r a u n f k o m z) =
    seq _ _ (behind (other (seq (record { raw = x; terms = ts }) _ r (seq _ _ (behind (worded (seq _ _ a (seq _ _ u none_taken)))) none_taken))))
    (seq _ _ (tail_from n f k o m z) none_taken)

-- what is read at the front of any tokens
pub select-agrees : (ts : List TokenClass) → Agrees (up_to 14) IsSelect ts (select_parsed ts)
select-agrees ts =
    let w : Within (suc (length ts)) (up_to 14) IsSelect select_parsed
    = within_as {before = up_to 14} (within_select_rel (suc (length ts))) select_to (λ us vs y r st. (select_from us vs y r, st)) in
    w.agrees ts (omega arith)
