-- Rules that take a token where it means something: an operator, a constant, the number 2^63.
use Rattle.std.specs.Prelude.{◌≡◌, ℕ, suc, ◌^◌, ◌==◌, nat_lt, Bool, true, false, if◌then◌else◌, List, [], ◌∷◌, drop, Option, Some, None, pos, refl}
use Rattle.std.proofs.Common.{sym, ap, ◌∙◌, subst}
use Rattle.std.proofs.lemmas.Bool.{eqb-true}
use Rattle.n1ql_value.specs.declared.op.Op.{Op}
use Rattle.n1ql_value.specs.declared.value.Value.{Value}
use Rattle.n1ql_value.specs.declared.value.Value.TheVariants as value
use Rattle.n1ql_ast.specs.declared.token_class.TokenClass.{TokenClass}
use Rattle.n1ql_ast.specs.declared.token_class.TokenClass.TheVariants.{Keyword, Name, Str, Num, Other}
use Rattle.n1ql_ast.specs.declared.keyword.Keyword.{Keyword as AnyKeyword}
use Rattle.n1ql_ast.specs.declared.keyword.Keyword.TheVariants as keyword
use Rattle.n1ql_parse.specs.declared.expressions.precedence.Precedence.{Precedence}
use Rattle.n1ql_parse.specs.inner.Steps.{got, Parser, and_then, if_some}
use Rattle.n1ql_parse.specs.inner.Parser.{op_at, taken_if_some, operator, next_constant, constant, eat_least}
use Rattle.n1ql_parse.proofs.Reading.Prefixes.{Rel, Stops, Within, Next, meant, Either, one, other}
use Rattle.n1ql_parse.proofs.Reading.Combined.{within_as, within_eq, within_either, either, if_seen}

taken_either : {A C : Type 0} (o : Option C) (f : C → Parser A) (q : Parser A) (t : TokenClass) (ts : List TokenClass) →
    and_then (taken_if_some o (t ∷ ts)) (λ c. if_some c f q) ≡ if_seen o (λ c. f c ts) (q (t ∷ ts))
taken_either (Some c) f q t ts = refl
taken_either None f q t ts = refl

-- the operator of a level that a token is
abbrev pub op_seen : Precedence → TokenClass → Option Op
op_seen l (Keyword m) = op_at l m
op_seen l _ = None

operator_either : {A : Type 0} (l : Precedence) (f : Op → Parser A) (q : Parser A) (ts : List TokenClass) → and_then (operator l ts) (λ o. if_some o f q) ≡ either (op_seen l) f q ts
operator_either l f q [] = refl
operator_either l f q (Keyword m ∷ ts) = taken_either (op_at l m) f q (Keyword m) ts
operator_either l f q (Name text quoted ∷ ts) = refl
operator_either l f q (Str text ∷ ts) = refl
operator_either l f q (Num n ∷ ts) = refl
operator_either l f q (Other ∷ ts) = refl

-- an operator of a level, and what comes after it
pub data Operated {A : Type 0} (l : Precedence) (R : Op → Rel A) : (ts : List TokenClass) (y : A) (vs : List TokenClass) → Type 0 where
  operated : {us vs : List TokenClass} {y : A} {operator : AnyKeyword} {o : Op} → op_at l operator ≡ Some o → R o us y vs → Operated l R (Keyword operator ∷ us) y vs

operated_at : {A : Type 0} (l : Precedence) (R : Op → Rel A) (t : TokenClass) (o : Op) (us vs : List TokenClass) (y : A) → op_seen l t ≡ Some o → R o us y vs → Operated l R (t ∷ us) y vs
operated_at l R (Keyword m) o us vs y e r = operated e r
operated_at l R (Name text quoted) o us vs y e r = cc
operated_at l R (Str text) o us vs y e r = cc
operated_at l R (Num n) o us vs y e r = cc
operated_at l R Other o us vs y e r = cc

operated_of : {A : Type 0} (l : Precedence) (R : Op → Rel A) (ts vs : List TokenClass) (y : A) → Next (op_seen l) R ts y vs → Operated l R ts y vs
operated_of l R ts vs y (meant t c us at seen r) = subst (λ k. Operated l R k y vs) (sym at) (operated_at l R t c us vs y seen r)

of_operated : {A : Type 0} (l : Precedence) (R : Op → Rel A) (ts vs : List TokenClass) (y : A) → Operated l R ts y vs → Next (op_seen l) R ts y vs
of_operated l R _ vs y (operated {us = us} {operator = operator} {o = o} e r) = meant (Keyword operator) o us refl e r

pub within_operator : {A : Type 0} {n : ℕ} {goes : TokenClass → Bool} (l : Precedence) {R : Op → Rel A} {S : Rel A} {f : Op → Parser A} {q : Parser A} →
    ((o : Op) → Within n goes (R o) (f o)) → Within (suc n) goes S q →
    ((m : AnyKeyword) (o : Op) (us vs : List TokenClass) (y : A) → op_at l m ≡ Some o → S (Keyword m ∷ us) y vs → Stops goes vs → ⊥) →
    Within (suc n) goes (Either (Operated l R) S) (λ ts. and_then (operator l ts) (λ o. if_some o f q))
within_operator {A = A} {goes = goes} l {R = R} {S = S} {f = f} {q = q} w z off =
    within_eq (within_as {before = goes} (within_either {look = op_seen l} {R = R} {f = f} w z apart) to from) (operator_either l f q)
  where
    apart : (t : TokenClass) (o : Op) (us vs : List TokenClass) (y : A) → op_seen l t ≡ Some o → S (t ∷ us) y vs → Stops goes vs → ⊥
    apart (Keyword m) o us vs y e r st = off m o us vs y e r st
    apart (Name text quoted) o us vs y e r st = cc
    apart (Str text) o us vs y e r st = cc
    apart (Num n) o us vs y e r st = cc
    apart Other o us vs y e r st = cc

    to : (us vs : List TokenClass) (y : A) → Either (Next (op_seen l) R) S us y vs → Either (Operated l R) S us y vs
    to us vs y (one r) = one (operated_of l R us vs y r)
    to us vs y (other r) = other r

    from : (us vs : List TokenClass) (y : A) → Either (Operated l R) S us y vs → Stops goes vs → Either (Next (op_seen l) R) S us y vs × Stops goes vs
    from us vs y (one r) st = (one (of_operated l R us vs y r), st)
    from us vs y (other r) st = (other r, st)

-- the constant that a token is
abbrev pub constant_seen : TokenClass → Option Value
constant_seen (Num n) = if nat_lt n (2 ^ 63) then Some (value.Int (pos n)) else None
constant_seen (Str text) = Some (value.Text text)
constant_seen (Keyword keyword.True) = Some (value.Bool true)
constant_seen (Keyword keyword.False) = Some (value.Bool false)
constant_seen (Keyword keyword.Null) = Some value.Null
constant_seen (Keyword keyword.Missing) = Some value.Missing
constant_seen _ = None

next_is_seen : (t : TokenClass) (ts : List TokenClass) → next_constant (t ∷ ts) ≡ constant_seen t
next_is_seen (Num n) ts = refl
next_is_seen (Str text) ts = refl
next_is_seen (Keyword keyword.True) ts = refl
next_is_seen (Keyword _) ts = refl
next_is_seen (Name text quoted) ts = refl
next_is_seen Other ts = refl

constant_either : {A : Type 0} (f : Value → Parser A) (q : Parser A) (ts : List TokenClass) → and_then (constant ts) (λ o. if_some o f q) ≡ either constant_seen f q ts
constant_either f q [] = refl
constant_either f q (t ∷ ts) =
    ap (λ o. and_then (taken_if_some o (t ∷ ts)) (λ c. if_some c f q)) (next_is_seen t ts) ∙ taken_either (constant_seen t) f q t ts

pub within_constant : {A : Type 0} {n : ℕ} {goes : TokenClass → Bool} {R : Value → Rel A} {S : Rel A} {f : Value → Parser A} {q : Parser A} →
    ((v : Value) → Within n goes (R v) (f v)) → Within (suc n) goes S q →
    ((t : TokenClass) (v : Value) (us vs : List TokenClass) (y : A) → constant_seen t ≡ Some v → S (t ∷ us) y vs → Stops goes vs → ⊥) →
    Within (suc n) goes (Either (Next constant_seen R) S) (λ ts. and_then (constant ts) (λ o. if_some o f q))
within_constant {R = R} {f = f} {q = q} w z off = within_eq (within_either {look = constant_seen} {R = R} {f = f} w z off) (constant_either f q)

-- whether a token is the number 2^63
abbrev pub seen_if : Bool → Option (Unit {0})
seen_if true = Some tt
seen_if false = None

abbrev pub least_seen : TokenClass → Option (Unit {0})
least_seen (Num n) = seen_if (n == 9223372036854775808)
least_seen _ = None

least_either : {A : Type 0} (p q : Parser A) (ts : List TokenClass) → and_then (eat_least ts) (λ found. if found then p else q) ≡ either least_seen (λ _. p) q ts
least_either p q [] = refl
least_either {A = A} p q (Num n ∷ ts) = by_test (n == 9223372036854775808)
  where
    by_test : (b : Bool) → and_then (if b then got true (drop 1 (Num n ∷ ts)) else got false (Num n ∷ ts)) (λ found. if found then p else q) ≡ if_seen (seen_if b) (λ _. p ts) (q (Num n ∷ ts))
    by_test true = refl
    by_test false = refl
least_either p q (Keyword m ∷ ts) = refl
least_either p q (Name text quoted ∷ ts) = refl
least_either p q (Str text ∷ ts) = refl
least_either p q (Other ∷ ts) = refl

-- the number 2^63, and what comes after it
pub data Least {A : Type 0} (R : Rel A) : (ts : List TokenClass) (y : A) (vs : List TokenClass) → Type 0 where
  behind_least : {us vs : List TokenClass} {y : A} → R us y vs → Least R (Num 9223372036854775808 ∷ us) y vs

least_is : (t : TokenClass) (c : Unit {0}) → least_seen t ≡ Some c → t ≡ Num 9223372036854775808
least_is (Num n) c e = ap Num (eqb-true n 9223372036854775808 (seen (n == 9223372036854775808) e))
  where
    seen : (b : Bool) → seen_if b ≡ Some c → b ≡ true
    seen true h = refl
    seen false h = cc
least_is (Keyword m) c e = cc
least_is (Name text quoted) c e = cc
least_is (Str text) c e = cc
least_is Other c e = cc

pub within_least : {A : Type 0} {n : ℕ} {goes : TokenClass → Bool} {R S : Rel A} {p q : Parser A} → Within n goes R p → Within (suc n) goes S q →
    ((us vs : List TokenClass) (y : A) → S (Num 9223372036854775808 ∷ us) y vs → Stops goes vs → ⊥) →
    Within (suc n) goes (Either (Least R) S) (λ ts. and_then (eat_least ts) (λ found. if found then p else q))
within_least {A = A} {goes = goes} {R = R} {S = S} {p = p} {q = q} w z off =
    within_eq
    (within_as {before = goes} (within_either {look = least_seen} {R = λ _. R} {f = λ _. p} (λ c. w) z
    (λ t c us vs y e r st. off us vs y (subst (λ k. S (k ∷ us) y vs) (least_is t c e) r) st)) to from)
    (least_either p q)
  where
    at_least : (us vs : List TokenClass) (y : A) → Next least_seen (λ _. R) us y vs → Least R us y vs
    at_least us vs y (meant t c rest at seen r) = subst (λ l. Least R l y vs) (sym (at ∙ ap (λ k. k ∷ rest) (least_is t c seen))) (behind_least r)

    of_least : (us vs : List TokenClass) (y : A) → Least R us y vs → Next least_seen (λ _. R) us y vs
    of_least _ vs y (behind_least {us = us} r) = meant (Num 9223372036854775808) tt us refl refl r

    to : (us vs : List TokenClass) (y : A) → Either (Next least_seen (λ _. R)) S us y vs → Either (Least R) S us y vs
    to us vs y (one r) = one (at_least us vs y r)
    to us vs y (other r) = other r

    from : (us vs : List TokenClass) (y : A) → Either (Least R) S us y vs → Stops goes vs → Either (Next least_seen (λ _. R)) S us y vs × Stops goes vs
    from us vs y (one r) st = (one (of_least us vs y r), st)
    from us vs y (other r) st = (other r, st)
