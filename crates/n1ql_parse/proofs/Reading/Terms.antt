-- The names behind parts of SELECT, and the terms of its result.
use Rattle.std.specs.Prelude.{◌≡◌, ℕ, zero, suc, Bool, true, false, ◌&&◌, if◌then◌else◌, List, [], ◌∷◌, ◌++◌, length, drop, Option, Some, None, refl}
use Rattle.std.proofs.Common.{sym, ap, ◌∙◌, subst, arith}
use Rattle.n1ql_ast.specs.declared.keyword.Keyword.{Keyword as AnyKeyword}
use Rattle.n1ql_ast.specs.declared.keyword.Keyword.TheVariants as keyword
use Rattle.n1ql_ast.specs.declared.term.Term.{Term}
use Rattle.n1ql_ast.specs.declared.term.Term.TheVariants as any_term
use Rattle.n1ql_ast.specs.declared.token_class.TokenClass.{TokenClass}
use Rattle.n1ql_ast.specs.declared.token_class.TokenClass.TheVariants.{Keyword, Name, Str, Num, Other}
use Rattle.n1ql_ast.specs.declared.unresolved_expr.UnresolvedExpr.{UnresolvedExpr}
use Rattle.n1ql_ast.specs.Grammar as g
use Rattle.n1ql_ast.specs.Grammar.{IsExpr, MoreOr, IsAnd, MoreAnd, IsNot, IsRel, MayTest, IsAdd, MoreAdd, IsMul, MoreMul, IsNeg, IsPost}
use Rattle.n1ql_ast.specs.Selections as q
use Rattle.n1ql_ast.specs.Selections.{MayAs, IsTerm, IsTerms, own_name, tokens_before}
use Rattle.n1ql_ast.specs.Statements as s
use Rattle.n1ql_ast.specs.Statements.{MayName}
use Rattle.n1ql_parse.specs.inner.Queries.{may_as, as_name, spreads_behind, spreads, spread, one_term, value_term, term, terms_from, terms}
use Rattle.n1ql_parse.specs.inner.Parser.{parsed}
use Rattle.n1ql_parse.specs.inner.Steps.{Outcome, got, stuck, Parser, and_then, sees, eat, expect, name}
use Rattle.n1ql_parse.proofs.Reading.Prefixes.{Rel, next, Stops, Agrees, Within, Completes, Links, Seq, seq, Pure, none_taken, Either, one, other}
use Rattle.n1ql_parse.proofs.Reading.Combined.{ends, regrouped, next_is, within_as, within_eq, within_less, within_seq, within_pure, links_pure, links_seq, completes_pure, completes_seq}
use Rattle.n1ql_parse.proofs.Reading.Looks.{Then, behind, Worded, worded, within_name, same_is, is_same}
use Rattle.n1ql_parse.proofs.Reading.Precedences.{up_to, tighter_stops}
use Rattle.n1ql_parse.proofs.Reading.Lookahead.{expr_head}
use Rattle.n1ql_parse.proofs.Reading.Choices.{within_may}
use Rattle.n1ql_parse.proofs.Reading.Rounds.{within_parsed}
use Rattle.n1ql_parse.proofs.Reading.Several.{Several, single, further, several_from, within_several}
use Rattle.n1ql_parse.proofs.Reading.Clauses.{OneName, is_name, within_one_name, within_may_name}
use Rattle.n1ql_parse.proofs.Reading.Fronts.{Marked, within_marked, stops_for, within_wider, within_flag}

-- Names behind an expression.

-- what goes on with an expression, or names it
abbrev pub named : TokenClass → Bool
named (Name text quoted) = true
named (Keyword keyword.As) = true
named t = up_to 7 t

pub named_stops : (t : TokenClass) → up_to 8 t ≡ false → named t ≡ false
named_stops (Name text quoted) e = cc
named_stops (Keyword keyword.As) e = cc
named_stops (Keyword m) e = tighter_stops 7 8 (omega arith) (Keyword m) e
named_stops (Str text) e = refl
named_stops (Num n) e = refl
named_stops Other e = refl

named_less : (t : TokenClass) → named t ≡ false → up_to 7 t ≡ false
named_less (Name text quoted) e = cc
named_less (Keyword keyword.As) e = cc
named_less (Keyword m) e = e
named_less (Str text) e = refl
named_less (Num n) e = refl
named_less Other e = refl

named_name : (t : TokenClass) → named t ≡ false → is_name t ≡ false
named_name (Name text quoted) e = cc
named_name (Keyword m) e = refl
named_name (Str text) e = refl
named_name (Num n) e = refl
named_name Other e = refl

as_to : (us vs : List TokenClass) (y : Option (List ℕ)) → Either (Then keyword.As (Worded (λ w. Pure (Some w.text)))) MayName us y vs → MayAs us y vs
as_to _ vs y (one (behind (worded e))) = ends MayAs e q.as_word
as_to us vs y (other s.name_none) = q.as_none
as_to us vs y (other s.name_some) = q.as_name

as_from : (us vs : List TokenClass) (y : Option (List ℕ)) → MayAs us y vs → Either (Then keyword.As (Worded (λ w. Pure (Some w.text)))) MayName us y vs
as_from us vs y q.as_none = other s.name_none
as_from us vs y q.as_name = other s.name_some
as_from us vs y q.as_word = one (behind (worded none_taken))

no_as_word : (us vs : List TokenClass) (y : Option (List ℕ)) → MayName (Keyword keyword.As ∷ us) y vs → Stops named vs → ⊥
no_as_word us vs y s.name_none st = let h : true ≡ false = st in cc

pub within_may_as : {n : ℕ} → Within n named MayAs may_as
unfolding may_as
within_may_as {n = n} = within_as {before = named}
    (within_may keyword.As
    (within_less (omega arith) (within_name {n = n} {R = λ text. Pure (Some text)} {f = λ text us. got (Some text) us} (λ text. within_pure (Some text)) (completes_pure (Some []))))
    (within_wider named_name within_may_name) no_as_word)
    as_to (λ us vs y r st. (as_from us vs y r, st))

pub completes_as : Completes MayAs
completes_as = record { more = []; tree = None; reads = λ us. q.as_none }

links_as : Links (up_to 7) named MayAs
links_as = record { stops = go }
  where
    go : (us vs : List TokenClass) (y : Option (List ℕ)) → MayAs us y vs → Stops named vs → Stops (up_to 7) us
    go us vs y q.as_none st = stops_for named_less us st
    go us vs y q.as_name st = refl
    go us vs y q.as_word st = refl

-- [AS] name
abbrev pub NamedAs : Rel (List ℕ)
NamedAs ts name vs = MayAs ts (Some name) vs

named_to : (us vs : List TokenClass) (y : List ℕ) → Either (Then keyword.As OneName) OneName us y vs → NamedAs us y vs
named_to _ vs y (one (behind (worded e))) = ends NamedAs e q.as_word
named_to _ vs y (other (worded e)) = ends NamedAs e q.as_name

named_from : (us vs : List TokenClass) (y : List ℕ) → NamedAs us y vs → Either (Then keyword.As OneName) OneName us y vs
named_from us vs y q.as_name = other (worded none_taken)
named_from us vs y q.as_word = one (behind (worded none_taken))

pub within_as_name : {n : ℕ} {goes : TokenClass → Bool} → Within n goes NamedAs as_name
unfolding as_name
within_as_name {goes = goes} = within_as {before = goes}
    (within_flag keyword.As {R = λ _. OneName} {f = λ _. name} (λ _. within_one_name) (λ us vs y r st. elim r [ ]))
    named_to (λ us vs y r st. (named_from us vs y r, st))

pub completes_named : Completes NamedAs
completes_named = record { more = Name [] true ∷ []; tree = []; reads = λ us. q.as_name }

pub links_named : {after : TokenClass → Bool} → Links (up_to 7) after NamedAs
links_named {after = after} = record { stops = go }
  where
    go : (us vs : List TokenClass) (y : List ℕ) → NamedAs us y vs → Stops after vs → Stops (up_to 7) us
    go us vs y q.as_name st = refl
    go us vs y q.as_word st = refl

-- No expression goes over a point with a star behind it.

abbrev Star : List TokenClass → List TokenClass
Star us = Keyword keyword.Dot ∷ Keyword keyword.Star ∷ us

post_stops : {agg quoted : Bool} {text : List ℕ} {us vs : List TokenClass} {x : UnresolvedExpr} → IsPost agg (Name text quoted ∷ Star us) x vs → vs ≡ Star us
post_stops (g.post g.prim_name g.post_done) = refl
post_stops (g.post (g.prim_object o) m) = elim o [ ]

neg_stops : {agg quoted : Bool} {text : List ℕ} {us vs : List TokenClass} {x : UnresolvedExpr} → IsNeg agg (Name text quoted ∷ Star us) x vs → vs ≡ Star us
neg_stops (g.neg_post p) = post_stops p

more_mul_stops : {agg : Bool} {us ws vs : List TokenClass} {x y : UnresolvedExpr} → ws ≡ Star us → MoreMul agg x ws y vs → vs ≡ Star us
more_mul_stops e g.mul_done = e
more_mul_stops e (g.mul_more o p m) = cc

mul_stops : {agg quoted : Bool} {text : List ℕ} {us vs : List TokenClass} {x : UnresolvedExpr} → IsMul agg (Name text quoted ∷ Star us) x vs → vs ≡ Star us
mul_stops (g.mul p m) = more_mul_stops (neg_stops p) m

more_add_stops : {agg : Bool} {us ws vs : List TokenClass} {x y : UnresolvedExpr} → ws ≡ Star us → MoreAdd agg x ws y vs → vs ≡ Star us
more_add_stops e g.add_done = e
more_add_stops e (g.add_more o p m) = cc

add_stops : {agg quoted : Bool} {text : List ℕ} {us vs : List TokenClass} {x : UnresolvedExpr} → IsAdd agg (Name text quoted ∷ Star us) x vs → vs ≡ Star us
add_stops (g.add p m) = more_add_stops (mul_stops p) m

test_stops : {agg : Bool} {us vs : List TokenClass} {x y : UnresolvedExpr} → MayTest agg x (Star us) y vs → vs ≡ Star us
test_stops g.test_none = refl
test_stops (g.test_compare e p) = cc
test_stops (g.test_range r) = elim r [ ]

rel_stops : {agg quoted : Bool} {text : List ℕ} {us vs : List TokenClass} {x : UnresolvedExpr} → IsRel agg (Name text quoted ∷ Star us) x vs → vs ≡ Star us
rel_stops {agg = agg} {vs = vs} {x = y} (g.rel {x = x} p m) = test_stops (subst (λ ws. MayTest agg x ws y vs) (add_stops p) m)

not_stops : {agg quoted : Bool} {text : List ℕ} {us vs : List TokenClass} {x : UnresolvedExpr} → IsNot agg (Name text quoted ∷ Star us) x vs → vs ≡ Star us
not_stops (g.not_rel p) = rel_stops p

more_and_stops : {agg : Bool} {us ws vs : List TokenClass} {x y : UnresolvedExpr} → ws ≡ Star us → MoreAnd agg x ws y vs → vs ≡ Star us
more_and_stops e g.and_done = e
more_and_stops e (g.and_more p m) = cc

and_stops : {agg quoted : Bool} {text : List ℕ} {us vs : List TokenClass} {x : UnresolvedExpr} → IsAnd agg (Name text quoted ∷ Star us) x vs → vs ≡ Star us
and_stops (g.and p m) = more_and_stops (not_stops p) m

more_or_stops : {agg : Bool} {us ws vs : List TokenClass} {x y : UnresolvedExpr} → ws ≡ Star us → MoreOr agg x ws y vs → vs ≡ Star us
more_or_stops e g.or_done = e
more_or_stops e (g.or_more p m) = cc

expr_stops : {agg quoted : Bool} {text : List ℕ} {us vs : List TokenClass} {x : UnresolvedExpr} → IsExpr agg (Name text quoted ∷ Star us) x vs → vs ≡ Star us
expr_stops (g.expr p m) = more_or_stops (and_stops p) m

-- A name, and a name with a field, as expressions.

path_expr : {agg : Bool} {ts us : List TokenClass} {x : UnresolvedExpr} → IsPost agg ts x us → IsExpr agg ts x us
path_expr p = g.expr (g.and (g.not_rel (g.rel (g.add (g.mul (g.neg_post p) g.mul_done) g.add_done) g.test_none)) g.and_done) g.or_done

-- Spreads.

abbrev SpreadRel : Rel (Term UnresolvedExpr)
SpreadRel = Worded (λ w. Then keyword.Dot (Then keyword.Star (Pure (any_term.Spread w.text))))

abbrev ValueRel : Rel (Term UnresolvedExpr)
ValueRel = Seq (Marked own_name (IsExpr true)) (λ p. Seq MayAs (λ given. Pure (one_term p.0 p.1 given)))

abbrev NamedRel : Rel (Term UnresolvedExpr)
NamedRel = Either SpreadRel ValueRel

left_of : (a b : Bool) → (a && b) ≡ true → a ≡ true
left_of true b e = refl
left_of false b e = cc

right_of : (a b : Bool) → (a && b) ≡ true → b ≡ true
right_of true b e = e
right_of false b e = cc

seen : (m : AnyKeyword) (ts : List TokenClass) → sees m ts ≡ true → (us : List TokenClass) × (ts ≡ Keyword m ∷ us)
seen m [] e = cc
seen m (Keyword n ∷ us) e = (us, ap (λ k. Keyword k ∷ us) (same_is n m e))
seen m (Name text quoted ∷ us) e = cc
seen m (Str text ∷ us) e = cc
seen m (Num n ∷ us) e = cc
seen m (Other ∷ us) e = cc

star_seen : (ts : List TokenClass) → spreads_behind ts ≡ true → (us : List TokenClass) × (ts ≡ Star us)
star_seen ts e =
    let dot = seen keyword.Dot ts (left_of (sees keyword.Dot ts) (sees keyword.Star (drop 1 ts)) e) in
    let star = seen keyword.Star (drop 1 ts) (right_of (sees keyword.Dot ts) (sees keyword.Star (drop 1 ts)) e) in
    (star.0, dot.1 ∙ ap (λ us. Keyword keyword.Dot ∷ us) (sym (ap (drop 1) dot.1) ∙ star.1))

star_spreads : (us : List TokenClass) → spreads_behind (Star us) ≡ true
star_spreads us = ap (λ b. b && sees keyword.Star (Keyword keyword.Star ∷ us)) (is_same keyword.Dot) ∙ is_same keyword.Star

expected : (m : AnyKeyword) (us : List TokenClass) → expect m (Keyword m ∷ us) ≡ got tt us
expected m us = ap (λ b. if b then got tt us else stuck (length (Keyword m ∷ us))) (is_same m)

spread_reads : (text : List ℕ) (quoted : Bool) (us : List TokenClass) → spread (Name text quoted ∷ Star us) ≡ got (any_term.Spread text) us
unfolding spread
spread_reads text quoted us =
    ap (λ o. and_then o (λ _ ws. and_then (expect keyword.Star ws) (λ _ vs. got (any_term.Spread text) vs))) (expected keyword.Dot (Keyword keyword.Star ∷ us))
    ∙ ap (λ o. and_then o (λ _ vs. got (any_term.Spread text) vs)) (expected keyword.Star us)

nothing_behind : {us vs : List TokenClass} {given : Option (List ℕ)} → MayAs (Star us) given vs → Stops named vs → ⊥
nothing_behind q.as_none st = let h : true ≡ false = st in cc

no_value : {text : List ℕ} {quoted : Bool} {us vs : List TokenClass} {y : Term UnresolvedExpr} → ValueRel (Name text quoted ∷ Star us) y vs → Stops named vs → ⊥
no_value (seq p ws r (seq given zs m none_taken)) st = nothing_behind (subst (λ ts. MayAs ts given zs) (expr_stops r.0) m) st

spread_only : {text : List ℕ} {quoted : Bool} {us vs : List TokenClass} {y : Term UnresolvedExpr} → NamedRel (Name text quoted ∷ Star us) y vs → Stops named vs →
    (y ≡ any_term.Spread text) × (vs ≡ us)
spread_only (one (worded (behind (behind none_taken)))) st = (refl, refl)
spread_only (other r) st = absurd (no_value r st)

spread_at : (text : List ℕ) (quoted : Bool) (us : List TokenClass) → Agrees named NamedRel (Name text quoted ∷ Star us) (got (any_term.Spread text) us)
spread_at text quoted us = record {
  front = Name text quoted ∷ Star [];
  is = refl;
  sound = λ ws. one (worded (behind (behind none_taken)));
  only = λ ws vs y e r st. spread_only r st;
}

spread_agrees : (ts : List TokenClass) → spreads ts ≡ true → Agrees named NamedRel ts (spread ts)
spread_agrees [] e = cc
spread_agrees (Name text quoted ∷ ts) e =
    let star = star_seen ts e in
    subst (λ us. Agrees named NamedRel (Name text quoted ∷ us) (spread (Name text quoted ∷ us))) (sym star.1)
    (subst (Agrees named NamedRel (Name text quoted ∷ Star star.0)) (sym (spread_reads text quoted star.0)) (spread_at text quoted star.0))
spread_agrees (Keyword m ∷ ts) e = cc
spread_agrees (Str text ∷ ts) e = cc
spread_agrees (Num n ∷ ts) e = cc
spread_agrees (Other ∷ ts) e = cc

-- Values.

-- whatever has the same next token as the rest, nothing of it is left out
abbrev TakesAll : List TokenClass → List TokenClass → Type 0
TakesAll front rest = (us : List TokenClass) (y : Term UnresolvedExpr) → next us ≡ next rest → ValueRel (front ++ us) y [] → us ≡ []

value_of : {x : UnresolvedExpr} (ts : List TokenClass) → IsPost true ts x [] → ValueRel ts (one_term x (own_name (tokens_before ts []) x) None) []
value_of {x = x} ts p = seq (x, own_name (tokens_before ts []) x) [] (path_expr p, refl) (seq None [] q.as_none none_taken)

no_spread : (front rest us vs : List TokenClass) (y : Term UnresolvedExpr) → spreads (front ++ rest) ≡ false → next us ≡ next rest → TakesAll front rest → SpreadRel (front ++ us) y vs → ⊥
no_spread [] rest _ vs y e same all (worded {text = text} {quoted = quoted} r) =
    let h : Name text quoted ∷ [] ≡ [] = all (Name text quoted ∷ []) _ same (value_of (Name text quoted ∷ []) (g.post g.prim_name g.post_done)) in cc
no_spread (_ ∷ []) rest _ vs y e same all (worded {text = text} {quoted = quoted} (behind r)) =
    let h : Keyword keyword.Dot ∷ Name [] true ∷ [] ≡ [] =
    all (Keyword keyword.Dot ∷ Name [] true ∷ []) _ same (value_of (Name text quoted ∷ Keyword keyword.Dot ∷ Name [] true ∷ []) (g.post g.prim_name (g.post_field g.post_done))) in cc
no_spread (_ ∷ _ ∷ []) rest _ vs y e same all (worded (behind (behind r))) =
    let p = next_is (sym same) in
    let h : true ≡ false = sym (star_spreads p.0) ∙ subst (λ ts. spreads_behind (Keyword keyword.Dot ∷ ts) ≡ false) p.1 e in cc
no_spread (_ ∷ _ ∷ _ ∷ front) rest us vs y e same all (worded (behind (behind r))) =
    let h : true ≡ false = sym (star_spreads (front ++ rest)) ∙ e in cc

value_agrees : (ts : List TokenClass) (o : Outcome (Term UnresolvedExpr)) → spreads ts ≡ false → Agrees named ValueRel ts o → Agrees named NamedRel ts o
value_agrees ts (got x rest) e r = record {
  front = r.front;
  is = r.is;
  sound = λ us. other (r.sound us);
  only = λ us vs y same k st. only us vs y same k st;
}
  where
    all : TakesAll r.front rest
    all us y same v = sym (r.only us [] y same v tt).1

    only : (us vs : List TokenClass) (y : Term UnresolvedExpr) → next us ≡ next rest → NamedRel (r.front ++ us) y vs → Stops named vs → (y ≡ x) × (vs ≡ us)
    only us vs y same (one k) st = absurd (no_spread r.front rest us vs y (subst (λ l. spreads l ≡ false) r.is e) same all k)
    only us vs y same (other k) st = r.only us vs y same k st
value_agrees ts (stuck n) e r = record {
  front = r.front;
  rest = r.rest;
  is = r.is;
  is_left = r.is_left;
  more = r.more;
  tree = r.tree;
  viable = λ us. other (r.viable us);
  dead = λ us vs y same k st. dead us vs y same k st;
}
  where
    all : TakesAll r.front r.rest
    all us y same v = absurd (r.dead us [] y same v tt)

    dead : (us vs : List TokenClass) (y : Term UnresolvedExpr) → next us ≡ next r.rest → NamedRel (r.front ++ us) y vs → Stops named vs → ⊥
    dead us vs y same (one k) st = no_spread r.front r.rest us vs y (subst (λ l. spreads l ≡ false) r.is e) same all k
    dead us vs y same (other k) st = r.dead us vs y same k st

abbrev marked_own : Parser (UnresolvedExpr × Option (List ℕ))
marked_own ts = and_then (parsed true ts) (λ x us. got (x, own_name (tokens_before ts us) x) us)

within_value : (n : ℕ) → Within n named ValueRel value_term
unfolding value_term
within_value n = within_eq
    (within_seq {p = marked_own} (within_marked own_name (within_parsed n true))
    (λ p. within_seq within_may_as (λ given. within_pure (one_term p.0 p.1 given)) (λ given. links_pure (λ t e. e)) (λ given. completes_pure (one_term p.0 p.1 given)))
    (λ p. links_seq {between = named} links_as (λ given. links_pure (λ t e. e)))
    (λ p. completes_seq completes_as (λ given. completes_pure (one_term p.0 p.1 given))))
    (λ ts. sym (regrouped (parsed true ts) (λ x us. got (x, own_name (tokens_before ts us) x) us) (λ p us. and_then (may_as us) (λ given vs. got (one_term p.0 p.1 given) vs))))

by_test : (ts : List TokenClass) (b : Bool) → spreads ts ≡ b → Agrees named NamedRel ts ((if b then spread else value_term) ts)
by_test ts true e = spread_agrees ts e
by_test ts false e = value_agrees ts (value_term ts) e ((within_value (suc (length ts))).agrees ts (omega arith))

within_named : (n : ℕ) → Within n named NamedRel (λ ts. if spreads ts then spread ts else value_term ts)
within_named n = within_eq {p = λ ts. (if spreads ts then spread else value_term) ts} (record { agrees = λ ts h. by_test ts (spreads ts) refl }) (λ ts. chosen (spreads ts) ts)
  where
    chosen : (b : Bool) (ts : List TokenClass) → (if b then spread ts else value_term ts) ≡ (if b then spread else value_term) ts
    chosen true ts = refl
    chosen false ts = refl

-- Terms.

abbrev TermRel : Rel (Term UnresolvedExpr)
TermRel = Either (Then keyword.Star (Pure any_term.All)) NamedRel

term_to : (us vs : List TokenClass) (y : Term UnresolvedExpr) → TermRel us y vs → IsTerm us y vs
term_to _ vs y (one (behind e)) = ends IsTerm e q.term_all
term_to _ vs y (other (one (worded (behind (behind e))))) = ends IsTerm e q.term_spread
term_to us vs y (other (other (seq p ws r (seq given zs m e)))) =
    ends IsTerm e (subst (λ own. IsTerm us (one_term p.0 own given) zs) (sym r.1) (q.term_one r.0 m))

term_from : (us vs : List TokenClass) (y : Term UnresolvedExpr) → IsTerm us y vs → TermRel us y vs
term_from us vs y q.term_all = one (behind none_taken)
term_from us vs y q.term_spread = other (one (worded (behind (behind none_taken))))
term_from us vs y (q.term_one {x = x} {given = given} {us = ws} p m) = other (other (seq (x, own_name (tokens_before us ws) x) ws (p, refl) (seq given vs m none_taken)))

no_star : (us vs : List TokenClass) (y : Term UnresolvedExpr) → NamedRel (Keyword keyword.Star ∷ us) y vs → Stops named vs → ⊥
no_star us vs y (one r) st = elim r [ ]
no_star us vs y (other (seq p ws r k)) st = let h : false ≡ true = expr_head r.0 in cc

within_term : (n : ℕ) → Within n named IsTerm term
unfolding term
within_term n = within_as {before = named} (within_may keyword.Star (within_pure any_term.All) (within_named n) no_star)
    term_to (λ us vs y r st. (term_from us vs y r, st))

pub terms_to : (us vs : List TokenClass) (ys : List (Term UnresolvedExpr)) → Several IsTerm us ys vs → IsTerms us ys vs
terms_to us vs _ (single r) = q.terms r q.terms_done
terms_to us vs _ (further {xs = xs} {us = ws} r k) = q.terms r (q.terms_more (terms_to ws vs xs k))

terms_back : (us vs : List TokenClass) (ys : List (Term UnresolvedExpr)) → IsTerms us ys vs → Several IsTerm us ys vs
terms_back us vs _ (q.terms r q.terms_done) = single r
terms_back us vs _ (q.terms r (q.terms_more {more = more} {ts = ts} k)) = further r (terms_back ts vs more k)

terms_are : (n : ℕ) (found : List (Term UnresolvedExpr)) → terms_from n found ≡ several_from term n found
unfolding terms_from
terms_are zero found = refl
terms_are (suc n) found = λ i ts. and_then (term ts) (λ t us. and_then (eat keyword.Comma us)
    (λ more. if more then terms_are n (found ++ t ∷ []) i else (λ vs. got (found ++ t ∷ []) vs)))

no_term : (vs : List TokenClass) (y : Term UnresolvedExpr) → IsTerm [] y vs → ⊥
no_term vs y (q.term_one p m) = expr_head p

completes_term : Completes IsTerm
completes_term = record { more = Keyword keyword.Star ∷ []; tree = any_term.All; reads = λ us. q.term_all }

pub within_terms : (n : ℕ) → Within n (up_to 8) IsTerms terms
unfolding terms
within_terms n = within_as {before = up_to 8} {R = Several IsTerm}
    (within_eq (within_several IsTerm term named refl named_stops completes_term no_term n (within_term n)) (λ ts. ap (λ (f : Parser (List (Term UnresolvedExpr))). f ts) (terms_are (length ts) [])))
    terms_to (λ us vs ys r st. (terms_back us vs ys r, st))

pub completes_terms : Completes IsTerms
completes_terms = record { more = Keyword keyword.Star ∷ []; tree = any_term.All ∷ []; reads = λ us. q.terms q.term_all q.terms_done }
