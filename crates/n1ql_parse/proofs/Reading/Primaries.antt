-- Primaries: a constant, a form by its first keyword, or a name.
use Rattle.std.specs.Prelude.{◌≡◌, ℕ, suc, ◌<◌, ◌^◌, Bool, true, false, nat_le, nat_lt, if◌then◌else◌, List, ◌∷◌, Some, None, pos, refl}
use Rattle.std.proofs.Common.{sym, ap, ◌∙◌, subst}
use Rattle.std.proofs.lemmas.Bool.{ltb-true, lt-ltb}
use Rattle.n1ql_value.specs.declared.value.Value.{Value}
use Rattle.n1ql_value.specs.declared.value.Value.TheVariants as value
use Rattle.n1ql_ast.specs.declared.token_class.TokenClass.{TokenClass}
use Rattle.n1ql_ast.specs.declared.token_class.TokenClass.TheVariants.{Keyword, Name, Str, Num, Other}
use Rattle.n1ql_ast.specs.declared.keyword.Keyword.TheVariants as keyword
use Rattle.n1ql_ast.specs.declared.unresolved_expr.UnresolvedExpr.{UnresolvedExpr}
use Rattle.n1ql_ast.specs.declared.unresolved_expr.UnresolvedExpr.TheVariants as unresolved
use Rattle.n1ql_ast.specs.Grammar as g
use Rattle.n1ql_ast.specs.Grammar.{IsExpr, IsPrim}
use Rattle.n1ql_parse.specs.declared.expressions.precedence.Precedence.{Precedence}
use Rattle.n1ql_parse.specs.declared.expressions.precedence.Precedence.TheVariants as precedence
use Rattle.n1ql_parse.specs.inner.Steps.{Parser}
use Rattle.n1ql_parse.specs.inner.Parser.{worded as worded_rule, enclosed, primary, named}
use Rattle.n1ql_parse.proofs.Reading.Prefixes.{Rel, Stops, Within, seq, Pure, none_taken, Next, meant, Either, one, other}
use Rattle.n1ql_parse.proofs.Reading.Combined.{ends, within_as, within_pure}
use Rattle.n1ql_parse.proofs.Reading.Looks.{Then, behind, Worded, worded}
use Rattle.n1ql_parse.proofs.Reading.Taken.{constant_seen, within_constant}
use Rattle.n1ql_parse.proofs.Reading.Precedences.{up_to}
use Rattle.n1ql_parse.proofs.Reading.Choices.{IsFrom, Choice, choice_eat}
use Rattle.n1ql_parse.proofs.Reading.Calls.{NamedBy, within_named}
use Rattle.n1ql_parse.proofs.Reading.Forms.{BracketRel, ListRel, ObjectRel, CaseRel, AnyRel, EveryRel, ArrayRel, FirstRel, within_parenthesized, within_list, within_object, within_case, within_any, within_every, within_array, within_first}

-- the order in which the forms are tried
abbrev turn : TokenClass → ℕ
turn (Num n) = 0
turn (Str text) = 0
turn (Keyword keyword.True) = 0
turn (Keyword keyword.False) = 0
turn (Keyword keyword.Null) = 0
turn (Keyword keyword.Missing) = 0
turn (Keyword keyword.OpenParenthesis) = 1
turn (Keyword keyword.OpenSquare) = 2
turn (Keyword keyword.OpenBrace) = 3
turn (Keyword keyword.Case) = 4
turn (Keyword keyword.Any) = 5
turn (Keyword keyword.Every) = 6
turn (Keyword keyword.Array) = 7
turn (Keyword keyword.First) = 8
turn _ = 9

constant_turn : (t : TokenClass) (v : Value) → constant_seen t ≡ Some v → turn t ≡ 0
constant_turn (Num n) v e = refl
constant_turn (Str text) v e = refl
constant_turn (Keyword keyword.True) v e = refl
constant_turn (Keyword keyword.False) v e = refl
constant_turn (Keyword keyword.Null) v e = refl
constant_turn (Keyword keyword.Missing) v e = refl
constant_turn (Keyword _) v e = cc
constant_turn (Name text quoted) v e = cc
constant_turn Other v e = cc

-- A constant.

abbrev ConstantRel : Rel UnresolvedExpr
ConstantRel = Next constant_seen (λ v. Pure (unresolved.Const v))

constant_at : (agg : Bool) (t : TokenClass) (v : Value) (us : List TokenClass) → constant_seen t ≡ Some v → IsPrim agg (t ∷ us) (unresolved.Const v) us
constant_at agg (Num n) v us e = by_test (nat_lt n (2 ^ 63)) refl e
  where
    some_is : {a b : Value} → Some a ≡ Some b → a ≡ b
    some_is h = cc

    by_test : (b : Bool) → nat_lt n (2 ^ 63) ≡ b → (if b then Some (value.Int (pos n)) else None) ≡ Some v → IsPrim agg (Num n ∷ us) (unresolved.Const v) us
    by_test true h k = subst (λ v. IsPrim agg (Num n ∷ us) (unresolved.Const v) us) (some_is k) (g.prim_number (ltb-true n (2 ^ 63) h))
    by_test false h k = cc
constant_at agg (Str text) v us e = subst (λ v. IsPrim agg (Str text ∷ us) (unresolved.Const v) us) (some_is e) g.prim_string
  where
    some_is : {a b : Value} → Some a ≡ Some b → a ≡ b
    some_is h = cc
constant_at agg (Keyword keyword.True) v us e = subst (λ v. IsPrim agg (Keyword keyword.True ∷ us) (unresolved.Const v) us) (some_is e) g.prim_true
  where
    some_is : {a b : Value} → Some a ≡ Some b → a ≡ b
    some_is h = cc
constant_at agg (Keyword keyword.False) v us e = subst (λ v. IsPrim agg (Keyword keyword.False ∷ us) (unresolved.Const v) us) (some_is e) g.prim_false
  where
    some_is : {a b : Value} → Some a ≡ Some b → a ≡ b
    some_is h = cc
constant_at agg (Keyword keyword.Null) v us e = subst (λ v. IsPrim agg (Keyword keyword.Null ∷ us) (unresolved.Const v) us) (some_is e) g.prim_null
  where
    some_is : {a b : Value} → Some a ≡ Some b → a ≡ b
    some_is h = cc
constant_at agg (Keyword keyword.Missing) v us e = subst (λ v. IsPrim agg (Keyword keyword.Missing ∷ us) (unresolved.Const v) us) (some_is e) g.prim_missing
  where
    some_is : {a b : Value} → Some a ≡ Some b → a ≡ b
    some_is h = cc
constant_at agg (Keyword _) v us e = cc
constant_at agg (Name text quoted) v us e = cc
constant_at agg Other v us e = cc

constant_to : (agg : Bool) (us vs : List TokenClass) (y : UnresolvedExpr) → ConstantRel us y vs → IsPrim agg us y vs
constant_to agg us vs y (meant t v ws at seen r) = ends (IsPrim agg) r (subst (λ l. IsPrim agg l (unresolved.Const v) ws) (sym at) (constant_at agg t v ws seen))

a_constant : (t : TokenClass) (v : Value) (us : List TokenClass) → constant_seen t ≡ Some v → ConstantRel (t ∷ us) (unresolved.Const v) us
a_constant t v us e = meant t v us refl e none_taken

number_seen : (n : ℕ) → n < 2 ^ 63 → constant_seen (Num n) ≡ Some (value.Int (pos n))
number_seen n h = ap (λ b. if b then Some (value.Int (pos n)) else None) (lt-ltb n (2 ^ 63) h)

-- All forms.

abbrev WordedRel : Bool → Rel UnresolvedExpr
WordedRel agg = Either (Then keyword.Case (CaseRel agg)) (Either (Then keyword.Any (AnyRel agg)) (Either (Then keyword.Every (EveryRel agg)) (Either (Then keyword.Array (ArrayRel agg)) (Either (Then keyword.First (FirstRel agg)) (Worded (NamedBy agg))))))

abbrev EnclosedRel : Bool → Rel UnresolvedExpr
EnclosedRel agg = Either (Then keyword.OpenParenthesis (BracketRel agg)) (Either (Then keyword.OpenSquare (ListRel agg)) (Either (Then keyword.OpenBrace (ObjectRel agg)) (WordedRel agg)))

abbrev PrimRel : Bool → Rel UnresolvedExpr
PrimRel agg = Either ConstantRel (EnclosedRel agg)

list_to : (agg : Bool) (us vs : List TokenClass) (y : UnresolvedExpr) → ListRel agg us y vs → IsPrim agg (Keyword keyword.OpenSquare ∷ us) y vs
list_to agg _ vs y (one (behind r)) = ends (λ us y vs. IsPrim agg (Keyword keyword.OpenSquare ∷ us) y vs) r g.prim_empty
list_to agg us vs y (other (seq xs _ p (behind r))) = ends (λ us y vs. IsPrim agg (Keyword keyword.OpenSquare ∷ us) y vs) r (g.prim_list p)

object_to : (agg : Bool) (us vs : List TokenClass) (y : UnresolvedExpr) → ObjectRel agg us y vs → IsPrim agg (Keyword keyword.OpenBrace ∷ us) y vs
object_to agg _ vs y (one (behind r)) = ends (λ us y vs. IsPrim agg (Keyword keyword.OpenBrace ∷ us) y vs) r (g.prim_object g.object_empty)
object_to agg us vs y (other (seq p _ q (behind r))) = ends (λ us y vs. IsPrim agg (Keyword keyword.OpenBrace ∷ us) y vs) r (g.prim_object (g.object_pairs q))

worded_to : (agg : Bool) (us vs : List TokenClass) (y : UnresolvedExpr) → WordedRel agg us y vs → IsPrim agg us y vs
worded_to agg _ vs y (one (behind (behind (seq a ms p (seq o _ q (behind r)))))) = ends (IsPrim agg) r (g.prim_case p q)
worded_to agg _ vs y (other (one (behind (seq q ws p r)))) = ends (IsPrim agg) r (g.prim_any p)
worded_to agg _ vs y (other (other (one (behind (seq q ws p r))))) = ends (IsPrim agg) r (g.prim_every p)
worded_to agg _ vs y (other (other (other (one (behind (seq q ws p r)))))) = ends (IsPrim agg) r (g.prim_array p)
worded_to agg _ vs y (other (other (other (other (one (behind (seq q ws p r))))))) = ends (IsPrim agg) r (g.prim_first p)
worded_to agg _ vs y (other (other (other (other (other (worded p)))))) = p

prim_to : (agg : Bool) (us vs : List TokenClass) (y : UnresolvedExpr) → PrimRel agg us y vs → IsPrim agg us y vs
prim_to agg us vs y (one r) = constant_to agg us vs y r
prim_to agg _ vs y (other (one (behind (seq x _ p (behind r))))) = ends (IsPrim agg) r (g.prim_parenthesis p)
prim_to agg _ vs y (other (other (one (behind r)))) = list_to agg _ vs y r
prim_to agg _ vs y (other (other (other (one (behind r))))) = object_to agg _ vs y r
prim_to agg us vs y (other (other (other (other r)))) = worded_to agg us vs y r

-- behind constants and brackets
lower : {agg : Bool} {us vs : List TokenClass} {y : UnresolvedExpr} → WordedRel agg us y vs → PrimRel agg us y vs
lower r = other (other (other (other r)))

-- a form that begins with a name
at_name : {agg quoted : Bool} {text : List ℕ} {us vs : List TokenClass} {y : UnresolvedExpr} → IsPrim agg (Name text quoted ∷ us) y vs → PrimRel agg (Name text quoted ∷ us) y vs
at_name p = lower (other (other (other (other (other (worded p))))))

prim_from : (agg : Bool) (us vs : List TokenClass) (y : UnresolvedExpr) → IsPrim agg us y vs → PrimRel agg us y vs
prim_from agg _ vs _ (g.prim_number {n = n} h) = one (a_constant (Num n) (value.Int (pos n)) vs (number_seen n h))
prim_from agg _ vs _ (g.prim_string {text = text}) = one (a_constant (Str text) (value.Text text) vs refl)
prim_from agg _ vs _ g.prim_true = one (a_constant (Keyword keyword.True) (value.Bool true) vs refl)
prim_from agg _ vs _ g.prim_false = one (a_constant (Keyword keyword.False) (value.Bool false) vs refl)
prim_from agg _ vs _ g.prim_null = one (a_constant (Keyword keyword.Null) value.Null vs refl)
prim_from agg _ vs _ g.prim_missing = one (a_constant (Keyword keyword.Missing) value.Missing vs refl)
prim_from agg _ vs _ g.prim_name = at_name g.prim_name
prim_from agg _ vs y (g.prim_parenthesis p) = other (one (behind (seq y _ p (behind none_taken))))
prim_from agg _ vs _ g.prim_empty = other (other (one (behind (one (behind none_taken)))))
prim_from agg _ vs _ (g.prim_list p) = other (other (one (behind (other (seq _ _ p (behind none_taken))))))
prim_from agg _ vs _ (g.prim_object g.object_empty) = other (other (other (one (behind (one (behind none_taken))))))
prim_from agg _ vs _ (g.prim_object (g.object_pairs {names = names} {xs = xs} p)) = other (other (other (one (behind (other (seq (record { names = names; values = xs }) _ p (behind none_taken)))))))
prim_from agg _ vs _ (g.prim_case {whens = whens} {thens = thens} {other = o} (g.arms p q r) k) =
    lower (one (behind (behind (seq (record { whens = whens; thens = thens }) _ (g.arms p q r) (seq o _ k (behind none_taken))))))
prim_from agg _ vs _ (g.prim_any {name = name} {over = over} {test = test} p) = lower (other (one (behind (seq (record { variable = name; over = over; test = test }) _ p none_taken))))
prim_from agg _ vs _ (g.prim_every {name = name} {over = over} {test = test} p) = lower (other (other (one (behind (seq (record { variable = name; over = over; test = test }) _ p none_taken)))))
prim_from agg _ vs _ (g.prim_array {name = name} {item = item} {over = over} {when = when} p) = lower (other (other (other (one (behind (seq (record { variable = name; item = item; over = over; when = when }) _ p none_taken))))))
prim_from agg _ vs _ (g.prim_first {name = name} {item = item} {over = over} {when = when} p) = lower (other (other (other (other (one (behind (seq (record { variable = name; item = item; over = over; when = when }) _ p none_taken)))))))
prim_from agg _ vs _ (g.prim_call e p t) = at_name (g.prim_call e p t)
prim_from agg _ vs _ (g.prim_meta e) = at_name (g.prim_meta e)
prim_from agg _ vs _ (g.prim_meta_of e) = at_name (g.prim_meta_of e)
prim_from agg _ vs _ (g.prim_count_all e) = at_name (g.prim_count_all e)
prim_from agg _ vs _ (g.prim_aggregate e p) = at_name (g.prim_aggregate e p)

module _ (inner : Bool → Precedence → Parser UnresolvedExpr) (agg : Bool) (n : ℕ) (w : Within n (up_to 7) (IsExpr agg) (inner agg precedence.Or)) (wf : Within n (up_to 7) (IsExpr false) (inner false precedence.Or)) where
  choice_named : Choice turn 9 (suc n) (up_to 1) (Worded (NamedBy agg)) (named inner agg)
  choice_named = record { within = within_named inner agg n w wf; begins = begins }
    where
      begins : (us vs : List TokenClass) (y : UnresolvedExpr) → Worded (NamedBy agg) us y vs → Stops (up_to 1) vs → IsFrom turn 9 us
      begins _ vs y (worded p) st = refl

  choice_worded : Choice turn 4 (suc n) (up_to 1) (WordedRel agg) (worded_rule inner agg)
  unfolding worded_rule
  choice_worded =
      choice_eat keyword.Case refl (within_case inner agg n w)
      (choice_eat keyword.Any refl (within_any inner agg n w)
      (choice_eat keyword.Every refl (within_every inner agg n w)
      (choice_eat keyword.Array refl (within_array inner agg n w)
      (choice_eat keyword.First refl (within_first inner agg n w) choice_named))))

  choice_enclosed : Choice turn 1 (suc n) (up_to 1) (EnclosedRel agg) (enclosed inner agg)
  unfolding enclosed
  choice_enclosed =
      choice_eat keyword.OpenParenthesis refl (within_parenthesized inner agg n w)
      (choice_eat keyword.OpenSquare refl (within_list inner agg n w)
      (choice_eat keyword.OpenBrace refl (within_object inner agg n w) choice_worded))

  pub within_primary : Within (suc n) (up_to 1) (IsPrim agg) (primary inner agg)
  unfolding primary
  within_primary = within_as {before = up_to 1}
      (within_constant (λ v. within_pure (unresolved.Const v)) choice_enclosed.within off)
      (prim_to agg) (λ us vs y q st. (prim_from agg us vs y q, st))
    where
      off : (t : TokenClass) (v : Value) (us vs : List TokenClass) (y : UnresolvedExpr) → constant_seen t ≡ Some v → EnclosedRel agg (t ∷ us) y vs → Stops (up_to 1) vs → ⊥
      off t v us vs y e r st = let h : false ≡ true = sym (ap (λ i. nat_le 1 i) (constant_turn t v e)) ∙ choice_enclosed.begins (t ∷ us) vs y r st in cc
