-- One tree and one fault of a text in a language, and never both.
use Rattle.std.proofs.Common.{◌≡◌, ℕ, ◌+◌, ◌<◌, ◌≤◌, List, [], ◌∷◌, length, take, drop, refl, sym, ap, subst, ◌∙◌, ◌⊎◌, inl, inr, ⊎_elim, arith}
use Rattle.std.proofs.lemmas.Bool.{cases_lt}
use Rattle.std.proofs.lemmas.List.{take-append-drop}
use Rattle.n1ql_ast.specs.declared.token_class.TokenClass.{TokenClass}
use Rattle.n1ql_ast.specs.Faults.{Begins, FollowsExpr, Leaves}
use Rattle.n1ql_ast.specs.Names.{outermost, resolved}
use Rattle.n1ql_ast.specs.ResolvedSelections.{resolved_select}
use Rattle.n1ql_ast.specs.Selections.{FollowsSelect}
use Rattle.n1ql_ast.specs.Statements.{FollowsDdl, IsStatement}
use Rattle.n1ql_lex.specs.declared.token.Token.{Token}
use Rattle.n1ql_lex.specs.Tokens.{IsFault, IsTokens}
use Rattle.n1ql_parse.specs.Faults.{IsFaultIn, IsTokenFault, no_token, too_many, not_few_tokens, no_text_goes_on, place_of}
use Rattle.n1ql_parse.specs.Input.{classes_of}
use Rattle.n1ql_parse.specs.Readings.{IsMeant, IsMeantExpr, IsMeantSelect, IsTextOf, most_tokens}
use Rattle.n1ql_parse.specs.inner.Steps.{Outcome, got, stuck, Parser}
use Rattle.n1ql_parse.proofs.Texts.{Exact, exact-expr, exact-select, exact-statement}

-- what the tokens of a text obey
abbrev pub OneTokenList : Type 0
OneTokenList = (text : List ℕ) (tokens others : List Token) → IsTokens text tokens → IsTokens text others → tokens ≡ others

abbrev pub OneFault : Type 0
OneFault = (text : List ℕ) (at other : ℕ) → IsFault text at → IsFault text other → at ≡ other

abbrev pub NeverBoth : Type 0
NeverBoth = (text : List ℕ) (tokens : List Token) (at : ℕ) → IsTokens text tokens → IsFault text at → ⊥

abbrev pub EitherOne : Type 0
EitherOne = (text : List ℕ) → ((tokens : List Token) × IsTokens text tokens) ⊎ ((at : ℕ) × IsFault text at)

-- a list that follows a language has no place at which it leaves it
follows-begins : (Follows : List TokenClass → Type 0) (ts : List TokenClass) (n : ℕ) → Follows ts → Begins Follows (take n ts)
follows-begins Follows ts n h = (drop n ts, subst Follows (sym (take-append-drop n ts)) h)

follows-never-leaves : (Follows : List TokenClass → Type 0) (ts : List TokenClass) (n : ℕ) → Follows ts → Leaves Follows ts n → ⊥
follows-never-leaves Follows ts n h l =
    ⊎_elim
    (λ below. l.here below (follows-begins Follows ts (n + 1) h))
    (λ above. let past : n ≡ length ts = omega (arith, above, l.within) in l.past past h)
    (cases_lt n (length ts))

leaves-once : (Follows : List TokenClass → Type 0) (ts : List TokenClass) (n m : ℕ) → Leaves Follows ts n → Leaves Follows ts m → n < m → ⊥
leaves-once Follows ts n m l k below =
    let within : n < length ts = omega (arith, k.within) in
    l.here within (k.before (n + 1) (omega arith))

leaves-same : (Follows : List TokenClass → Type 0) (ts : List TokenClass) (n m : ℕ) → Leaves Follows ts n → Leaves Follows ts m → n ≡ m
leaves-same Follows ts n m l k =
    ⊎_elim
    (λ below. absurd (leaves-once Follows ts n m l k below))
    (λ above.
    ⊎_elim
    (λ more. absurd (leaves-once Follows ts m n k l more))
    (λ less. omega (arith, above, less))
    (cases_lt m n))
    (cases_lt n m)

-- the same tokens are not both too many and few
many-or-few : OneTokenList → (text : List ℕ) (ts us : List Token) → IsTokens text ts → IsTokens text us → most_tokens < length ts →
    length us ≤ most_tokens → ⊥
many-or-few one text ts us p q many few =
    let len : length ts ≡ length us = ap length (one text ts us p q) in omega (arith, len, many, few)

-- a text with few tokens has no fault in them
few-never-fault : OneTokenList → NeverBoth → (text : List ℕ) (tokens : List Token) (at : ℕ) → IsTokens text tokens → length tokens ≤ most_tokens → IsTokenFault text at → ⊥
few-never-fault one never text tokens at cut few (no_token f) = never text tokens at cut f
few-never-fault one never text tokens at cut few (too_many {tokens = us} more many place) = many-or-few one text us tokens more cut many few

token-fault-same : OneTokenList → OneFault → NeverBoth → (text : List ℕ) (at other : ℕ) → IsTokenFault text at → IsTokenFault text other → at ≡ other
token-fault-same one fault never text at other (no_token f) (no_token g) = fault text at other f g
token-fault-same one fault never text at other (no_token f) (too_many {tokens = us} cut many place) = absurd (never text us at cut f)
token-fault-same one fault never text at other (too_many {tokens = ts} cut many place) (no_token g) = absurd (never text ts other cut g)
token-fault-same one fault never text at other (too_many {tokens = ts} cut many place) (too_many {tokens = us} cut2 many2 place2) =
    place ∙ (ap (λ ts. place_of text ts most_tokens) (one text ts us cut cut2) ∙ sym place2)

pub fault-same : OneTokenList → OneFault → NeverBoth → (Follows : List TokenClass → Type 0) (text : List ℕ) (at other : ℕ) →
    IsFaultIn Follows text at → IsFaultIn Follows text other → at ≡ other
fault-same one fault never Follows text at other (not_few_tokens f) (not_few_tokens g) = token-fault-same one fault never text at other f g
fault-same one fault never Follows text at other (not_few_tokens f) (no_text_goes_on {tokens = us} n cut few leaves place) =
    absurd (few-never-fault one never text us at cut few f)
fault-same one fault never Follows text at other (no_text_goes_on {tokens = ts} n cut few leaves place) (not_few_tokens g) =
    absurd (few-never-fault one never text ts other cut few g)
fault-same one fault never Follows text at other (no_text_goes_on {tokens = ts} n cut few leaves place) (no_text_goes_on {tokens = us} m cut2 few2 leaves2 place2) =
    let same : ts ≡ us = one text ts us cut cut2 in
    let l : Leaves Follows (classes_of us) n = subst (λ vs. Leaves Follows (classes_of vs) n) same leaves in
    let count : n ≡ m = leaves-same Follows (classes_of us) n m l leaves2 in
    place ∙ (ap (λ vs. place_of text vs n) same ∙ (ap (λ k. place_of text us k) count ∙ sym place2))

-- What the trees of a language obey.
pub record Language {A : Type 0} (Is : List TokenClass → A → Type 0) (Follows : List TokenClass → Type 0) : Type 0 where
  pub same : (ts : List TokenClass) (x y : A) → Is ts x → Is ts y → x ≡ y
  pub follows : (ts : List TokenClass) (x : A) → Is ts x → Follows ts
  pub either : (ts : List TokenClass) → ((x : A) × Is ts x) ⊎ ((n : ℕ) × Leaves Follows ts n)

pub text-same : {A : Type 0} {Is : List TokenClass → A → Type 0} {Follows : List TokenClass → Type 0} → Language Is Follows → OneTokenList →
    (text : List ℕ) (x y : A) → IsTextOf Is text x → IsTextOf Is text y → x ≡ y
text-same {A} {Is} {Follows} language one text x y r s =
    let tokens : r.tokens ≡ s.tokens = one text r.tokens s.tokens r.cut s.cut in
    language.same (classes_of s.tokens) x y (subst (λ ts. Is (classes_of ts) x) tokens r.whole) s.whole

pub text-never-fault : {A : Type 0} {Is : List TokenClass → A → Type 0} {Follows : List TokenClass → Type 0} → Language Is Follows → OneTokenList → NeverBoth →
    (text : List ℕ) (x : A) (at : ℕ) → IsTextOf Is text x → IsFaultIn Follows text at → ⊥
text-never-fault language one never text x at r (not_few_tokens f) = few-never-fault one never text r.tokens at r.cut r.few f
text-never-fault {A} {Is} {Follows} language one never text x at r (no_text_goes_on {tokens = ts} n cut few leaves place) =
    let same : r.tokens ≡ ts = one text r.tokens ts r.cut cut in
    follows-never-leaves Follows (classes_of ts) n (language.follows (classes_of ts) x (subst (λ us. Is (classes_of us) x) same r.whole)) leaves

-- a text has a tree, or a fault
abbrev pub Answer : {A : Type 0} → (List TokenClass → A → Type 0) → (List TokenClass → Type 0) → List ℕ → Type 0
Answer {A} Is Follows text = ((x : A) × IsTextOf Is text x) ⊎ ((at : ℕ) × IsFaultIn Follows text at)

few-answer : {A : Type 0} {Is : List TokenClass → A → Type 0} {Follows : List TokenClass → Type 0} → Language Is Follows → (text : List ℕ) (ts : List Token) →
    IsTokens text ts → length ts ≤ most_tokens → Answer Is Follows text
few-answer language text ts cut few =
    ⊎_elim
    (λ h. inl (h.0, record { tokens = ts; cut = cut; few = few; whole = h.1 }))
    (λ h. inr (place_of text ts h.0, no_text_goes_on h.0 cut few h.1 refl))
    (language.either (classes_of ts))

tokens-answer : {A : Type 0} {Is : List TokenClass → A → Type 0} {Follows : List TokenClass → Type 0} → Language Is Follows → (text : List ℕ) (ts : List Token) →
    IsTokens text ts → Answer Is Follows text
tokens-answer language text ts cut =
    ⊎_elim
    (λ many. inr (place_of text ts most_tokens, not_few_tokens (too_many cut many refl)))
    (λ few. few-answer language text ts cut few)
    (cases_lt most_tokens (length ts))

pub text-or-fault : {A : Type 0} {Is : List TokenClass → A → Type 0} {Follows : List TokenClass → Type 0} → Language Is Follows → EitherOne → (text : List ℕ) → Answer Is Follows text
text-or-fault language either text =
    ⊎_elim
    (λ h. tokens-answer language text h.0 h.1)
    (λ h. inr (h.0, not_few_tokens (no_token h.1)))
    (either text)

-- a rule that is exact makes its language one of these
same-outcome : {A : Type 0} (o : Outcome A) (x y : A) → o ≡ got x [] → o ≡ got y [] → x ≡ y
same-outcome o x y e f = cc

exact-either : {A : Type 0} {p : Parser A} {Is : List TokenClass → A → Type 0} → Exact p Is → (ts : List TokenClass) (o : Outcome A) → p ts ≡ o →
    ((x : A) × Is ts x) ⊎ ((n : ℕ) × Leaves (λ us. (y : A) × Is us y) ts n)
exact-either exact ts (got x []) e = inl (x, exact.reads ts x e)
exact-either exact ts (got x (t ∷ rest)) e = inr (_, (exact.has_more ts x t rest e).1)
exact-either exact ts (stuck left) e = inr (_, (exact.is_stuck ts left e).1)

exact-language : {A : Type 0} {p : Parser A} {Is : List TokenClass → A → Type 0} → Exact p Is → Language Is (λ us. (y : A) × Is us y)
exact-language {A} {p} {Is} exact = record {
  same = λ ts x y h k. same-outcome (p ts) x y (exact.back ts x h) (exact.back ts y k);
  follows = λ ts x h. (x, h);
  either = λ ts. exact-either exact ts (p ts) refl;
}

pub statements : Language IsStatement FollowsDdl
statements = exact-language exact-statement

-- the trees that unresolved ones mean
meant : {U A : Type 0} {Is : List TokenClass → U → Type 0} {Follows : List TokenClass → Type 0} → Language Is Follows → (meaning_of : U → A) → Language (IsMeant Is meaning_of) Follows
meant language meaning_of = record {
  same = λ ts e other r s. r.meaning ∙ (ap meaning_of (language.same ts r.unresolved s.unresolved r.whole s.whole) ∙ sym s.meaning);
  follows = λ ts e r. language.follows ts r.unresolved r.whole;
  either = λ ts.
      ⊎_elim
      (λ h. inl (meaning_of h.0, record { unresolved = h.0; whole = h.1; meaning = refl }))
      (λ h. inr h)
      (language.either ts);
}

pub expressions : (alias : List ℕ) → Language (IsMeantExpr alias) FollowsExpr
expressions alias = meant (exact-language exact-expr) (λ x. resolved x (outermost alias))

pub selects : Language IsMeantSelect FollowsSelect
selects = meant (exact-language exact-select) resolved_select
