-- Rules that begin with a look at the next token.
use Rattle.std.specs.Prelude.{◌≡◌, ℕ, suc, Bool, true, false, if◌then◌else◌, List, [], ◌∷◌, length, drop, Option, Some, None, refl}
use Rattle.std.proofs.Common.{sym, ap, ◌∙◌, subst}
use denote.Enum.Bare.{same_true, true_same}
use Rattle.n1ql_ast.specs.contracts.keyword.Keyword.{the_type}
use Rattle.n1ql_ast.specs.declared.token_class.TokenClass.{TokenClass}
use Rattle.n1ql_ast.specs.declared.token_class.TokenClass.TheVariants.{Keyword, Name, Str, Num, Other}
use Rattle.n1ql_ast.specs.declared.keyword.Keyword.{Keyword as AnyKeyword}
use Rattle.n1ql_parse.specs.declared.tokens.word.Word.{Word}
use Rattle.n1ql_parse.specs.inner.Steps.{got, stuck, Parser, and_then, same_keyword, eat, expect, word, name, string}
use Rattle.n1ql_parse.proofs.Reading.Prefixes.{Rel, Stops, Within, Completes, Links, Next, meant, Either, one, other}
use Rattle.n1ql_parse.proofs.Reading.Combined.{within_as, within_eq, within_required, within_either, required, either, if_seen}

pub same_is : (m n : AnyKeyword) → same_keyword m n ≡ true → m ≡ n
unfolding same_keyword
same_is m n h = same_true the_type tt m n h

pub is_same : (m : AnyKeyword) → same_keyword m m ≡ true
unfolding same_keyword
is_same m = true_same the_type m m refl

-- A keyword.

abbrev pub if_keyword : Bool → Option (Unit {0})
if_keyword true = Some tt
if_keyword false = None

abbrev pub is : AnyKeyword → TokenClass → Option (Unit {0})
is m (Keyword n) = if_keyword (same_keyword n m)
is m _ = None

-- this keyword, and then what the relation reads
pub data Then {A : Type 0} (m : AnyKeyword) (R : Rel A) : (ts : List TokenClass) (y : A) (vs : List TokenClass) → Type 0 where
  behind : {us vs : List TokenClass} {y : A} → R us y vs → Then m R (Keyword m ∷ us) y vs

is_itself : (m : AnyKeyword) → is m (Keyword m) ≡ Some tt
is_itself m = ap if_keyword (is_same m)

keyword_of : (m : AnyKeyword) (t : TokenClass) (c : Unit {0}) → is m t ≡ Some c → t ≡ Keyword m
keyword_of m (Keyword n) c e = ap Keyword (same_is n m (seen (same_keyword n m) e))
  where
    seen : (b : Bool) → if_keyword b ≡ Some c → b ≡ true
    seen true h = refl
    seen false h = cc
keyword_of m (Name text quoted) c e = cc
keyword_of m (Str text) c e = cc
keyword_of m (Num n) c e = cc
keyword_of m Other c e = cc

then_of : {A : Type 0} (m : AnyKeyword) (R : Rel A) (ts vs : List TokenClass) (y : A) → Next (is m) (λ _. R) ts y vs → Then m R ts y vs
then_of m R ts vs y (meant t c us at seen r) = subst (λ l. Then m R l y vs) (sym (at ∙ ap (λ k. k ∷ us) (keyword_of m t c seen))) (behind r)

next_of : {A : Type 0} (m : AnyKeyword) (R : Rel A) (ts vs : List TokenClass) (y : A) → Then m R ts y vs → Next (is m) (λ _. R) ts y vs
next_of m R _ vs y (behind {us = us} r) = meant (Keyword m) tt us refl (is_itself m) r

expect_required : {A : Type 0} (m : AnyKeyword) (f : Unit {0} → Parser A) (ts : List TokenClass) → and_then (expect m ts) f ≡ required (is m) f ts
expect_required m f [] = refl
expect_required {A = A} m f (Keyword n ∷ ts) = by_test (same_keyword n m)
  where
    by_test : (b : Bool) → and_then (if b then got tt (drop 1 (Keyword n ∷ ts)) else stuck (length (Keyword n ∷ ts))) f ≡ if_seen (if_keyword b) (λ c. f c ts) (stuck (length (Keyword n ∷ ts)))
    by_test true = refl
    by_test false = refl
expect_required m f (Name text quoted ∷ ts) = refl
expect_required m f (Str text ∷ ts) = refl
expect_required m f (Num n ∷ ts) = refl
expect_required m f (Other ∷ ts) = refl

eat_either : {A : Type 0} (m : AnyKeyword) (p q : Parser A) (ts : List TokenClass) → and_then (eat m ts) (λ found. if found then p else q) ≡ either (is m) (λ _. p) q ts
eat_either m p q [] = refl
eat_either {A = A} m p q (Keyword n ∷ ts) = by_test (same_keyword n m)
  where
    by_test : (b : Bool) → and_then (if b then got true (drop 1 (Keyword n ∷ ts)) else got false (Keyword n ∷ ts)) (λ found. if found then p else q) ≡ if_seen (if_keyword b) (λ _. p ts) (q (Keyword n ∷ ts))
    by_test true = refl
    by_test false = refl
eat_either m p q (Name text quoted ∷ ts) = refl
eat_either m p q (Str text ∷ ts) = refl
eat_either m p q (Num n ∷ ts) = refl
eat_either m p q (Other ∷ ts) = refl

pub completes_then : {A : Type 0} (m : AnyKeyword) {R : Rel A} → Completes R → Completes (Then m R)
completes_then m k = record { more = Keyword m ∷ k.more; tree = k.tree; reads = λ us. behind (k.reads us) }

pub links_then : {A : Type 0} {before after : TokenClass → Bool} {m : AnyKeyword} {R : Rel A} → before (Keyword m) ≡ false → Links before after (Then m R)
links_then {A = A} {before = before} {after = after} {m = m} {R = R} apart = record { stops = go }
  where
    go : (us vs : List TokenClass) (y : A) → Then m R us y vs → Stops after vs → Stops before us
    go _ vs y (behind r) st = apart

pub within_expect : {A : Type 0} {n : ℕ} {goes : TokenClass → Bool} (m : AnyKeyword) {R : Rel A} {f : Unit {0} → Parser A} → Within n goes R (f tt) → Completes R →
    Within (suc n) goes (Then m R) (λ ts. and_then (expect m ts) f)
within_expect {A = A} {goes = goes} m {R = R} {f = f} w k =
    within_eq
    (within_as {before = goes} (within_required {look = is m} {R = λ _. R} {f = f} (λ c. w) (record { more = Keyword m ∷ k.more; tree = k.tree; reads = λ us. next_of m R _ us k.tree (behind (k.reads us)) }))
    (then_of m R) (λ us vs y q st. (next_of m R us vs y q, st)))
    (expect_required m f)

pub within_eat : {A : Type 0} {n : ℕ} {goes : TokenClass → Bool} (m : AnyKeyword) {R S : Rel A} {p q : Parser A} → Within n goes R p → Within (suc n) goes S q →
    ((us vs : List TokenClass) (y : A) → S (Keyword m ∷ us) y vs → Stops goes vs → ⊥) →
    Within (suc n) goes (Either (Then m R) S) (λ ts. and_then (eat m ts) (λ found. if found then p else q))
within_eat {A = A} {goes = goes} m {R = R} {S = S} {p = p} {q = q} w z off =
    within_eq
    (within_as {before = goes} (within_either {look = is m} {R = λ _. R} {f = λ _. p} (λ c. w) z
    (λ t c us vs y e r st. off us vs y (subst (λ k. S (k ∷ us) y vs) (keyword_of m t c e) r) st)) to from)
    (eat_either m p q)
  where
    to : (us vs : List TokenClass) (y : A) → Either (Next (is m) (λ _. R)) S us y vs → Either (Then m R) S us y vs
    to us vs y (one r) = one (then_of m R us vs y r)
    to us vs y (other r) = other r

    from : (us vs : List TokenClass) (y : A) → Either (Then m R) S us y vs → Stops goes vs → Either (Next (is m) (λ _. R)) S us y vs × Stops goes vs
    from us vs y (one r) st = (one (next_of m R us vs y r), st)
    from us vs y (other r) st = (other r, st)

-- A name.

abbrev pub word_seen : TokenClass → Option Word
word_seen (Name text quoted) = Some (record { text = text; quoted = quoted })
word_seen _ = None

pub data Worded {A : Type 0} (R : Word → Rel A) : (ts : List TokenClass) (y : A) (vs : List TokenClass) → Type 0 where
  worded : {us vs : List TokenClass} {y : A} {text : List ℕ} {quoted : Bool} → R (record { text = text; quoted = quoted }) us y vs → Worded R (Name text quoted ∷ us) y vs

worded_at : {A : Type 0} (R : Word → Rel A) (t : TokenClass) (w : Word) (us vs : List TokenClass) (y : A) → word_seen t ≡ Some w → R w us y vs → Worded R (t ∷ us) y vs
worded_at R (Name text quoted) w us vs y e r = worded (subst (λ v. R v us y vs) (sym (is_that _ w e)) r)
  where
    is_that : (a b : Word) → Some a ≡ Some b → a ≡ b
    is_that a b h = cc
worded_at R (Keyword m) w us vs y e r = cc
worded_at R (Str text) w us vs y e r = cc
worded_at R (Num n) w us vs y e r = cc
worded_at R Other w us vs y e r = cc

worded_of : {A : Type 0} (R : Word → Rel A) (ts vs : List TokenClass) (y : A) → Next word_seen R ts y vs → Worded R ts y vs
worded_of R ts vs y (meant t c us at seen r) = subst (λ l. Worded R l y vs) (sym at) (worded_at R t c us vs y seen r)

of_worded : {A : Type 0} (R : Word → Rel A) (ts vs : List TokenClass) (y : A) → Worded R ts y vs → Next word_seen R ts y vs
of_worded R _ vs y (worded {us = us} {text = text} {quoted = quoted} r) = meant (Name text quoted) _ us refl refl r

word_required : {A : Type 0} (f : Word → Parser A) (ts : List TokenClass) → and_then (word ts) f ≡ required word_seen f ts
word_required f [] = refl
word_required f (Keyword n ∷ ts) = refl
word_required f (Name text quoted ∷ ts) = refl
word_required f (Str text ∷ ts) = refl
word_required f (Num n ∷ ts) = refl
word_required f (Other ∷ ts) = refl

pub within_word : {A : Type 0} {n : ℕ} {goes : TokenClass → Bool} {R : Word → Rel A} {f : Word → Parser A} → ((w : Word) → Within n goes (R w) (f w)) →
    Completes (R (record { text = []; quoted = true })) → Within (suc n) goes (Worded R) (λ ts. and_then (word ts) f)
within_word {A = A} {goes = goes} {R = R} {f = f} w k =
    within_eq
    (within_as {before = goes} (within_required {look = word_seen} {R = R} {f = f} w (record { more = Name [] true ∷ k.more; tree = k.tree; reads = λ us. of_worded R _ us k.tree (worded (k.reads us)) }))
    (worded_of R) (λ us vs y q st. (of_worded R us vs y q, st)))
    (word_required f)

name_required : {A : Type 0} (f : List ℕ → Parser A) (ts : List TokenClass) → and_then (name ts) f ≡ and_then (word ts) (λ w. f w.text)
name_required f [] = refl
name_required f (Keyword n ∷ ts) = refl
name_required f (Name text quoted ∷ ts) = refl
name_required f (Str text ∷ ts) = refl
name_required f (Num n ∷ ts) = refl
name_required f (Other ∷ ts) = refl

pub within_name : {A : Type 0} {n : ℕ} {goes : TokenClass → Bool} {R : List ℕ → Rel A} {f : List ℕ → Parser A} → ((text : List ℕ) → Within n goes (R text) (f text)) →
    Completes (R []) → Within (suc n) goes (Worded (λ w. R w.text)) (λ ts. and_then (name ts) f)
within_name {R = R} {f = f} w k = within_eq (within_word {R = λ w. R w.text} {f = λ w. f w.text} (λ c. w c.text) k) (name_required f)

pub completes_name : {A : Type 0} {R : Word → Rel A} → Completes (R (record { text = []; quoted = true })) → Completes (Worded R)
completes_name k = record { more = Name [] true ∷ k.more; tree = k.tree; reads = λ us. worded (k.reads us) }

-- A string.

abbrev pub string_seen : TokenClass → Option (List ℕ)
string_seen (Str text) = Some text
string_seen _ = None

pub data Quoted {A : Type 0} (R : List ℕ → Rel A) : (ts : List TokenClass) (y : A) (vs : List TokenClass) → Type 0 where
  quoted_by : {us vs : List TokenClass} {y : A} {text : List ℕ} → R text us y vs → Quoted R (Str text ∷ us) y vs

quoted_at : {A : Type 0} (R : List ℕ → Rel A) (t : TokenClass) (w : List ℕ) (us vs : List TokenClass) (y : A) → string_seen t ≡ Some w → R w us y vs → Quoted R (t ∷ us) y vs
quoted_at R (Str text) w us vs y e r = quoted_by (subst (λ v. R v us y vs) (sym (is_that text w e)) r)
  where
    is_that : (a b : List ℕ) → Some a ≡ Some b → a ≡ b
    is_that a b h = cc
quoted_at R (Keyword m) w us vs y e r = cc
quoted_at R (Name text quoted) w us vs y e r = cc
quoted_at R (Num n) w us vs y e r = cc
quoted_at R Other w us vs y e r = cc

quoted_of : {A : Type 0} (R : List ℕ → Rel A) (ts vs : List TokenClass) (y : A) → Next string_seen R ts y vs → Quoted R ts y vs
quoted_of R ts vs y (meant t c us at seen r) = subst (λ l. Quoted R l y vs) (sym at) (quoted_at R t c us vs y seen r)

of_quoted : {A : Type 0} (R : List ℕ → Rel A) (ts vs : List TokenClass) (y : A) → Quoted R ts y vs → Next string_seen R ts y vs
of_quoted R _ vs y (quoted_by {us = us} {text = text} r) = meant (Str text) _ us refl refl r

string_required : {A : Type 0} (f : List ℕ → Parser A) (ts : List TokenClass) → and_then (string ts) f ≡ required string_seen f ts
string_required f [] = refl
string_required f (Keyword n ∷ ts) = refl
string_required f (Name text quoted ∷ ts) = refl
string_required f (Str text ∷ ts) = refl
string_required f (Num n ∷ ts) = refl
string_required f (Other ∷ ts) = refl

pub within_string : {A : Type 0} {n : ℕ} {goes : TokenClass → Bool} {R : List ℕ → Rel A} {f : List ℕ → Parser A} → ((text : List ℕ) → Within n goes (R text) (f text)) →
    Completes (R []) → Within (suc n) goes (Quoted R) (λ ts. and_then (string ts) f)
within_string {A = A} {goes = goes} {R = R} {f = f} w k =
    within_eq
    (within_as {before = goes} (within_required {look = string_seen} {R = R} {f = f} w (record { more = Str [] ∷ k.more; tree = k.tree; reads = λ us. of_quoted R _ us k.tree (quoted_by (k.reads us)) }))
    (quoted_of R) (λ us vs y q st. (of_quoted R us vs y q, st)))
    (string_required f)

pub completes_string : {A : Type 0} {R : List ℕ → Rel A} → Completes (R []) → Completes (Quoted R)
completes_string k = record { more = Str [] ∷ k.more; tree = k.tree; reads = λ us. quoted_by (k.reads us) }
