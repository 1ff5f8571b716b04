-- From what the rules of a language read to the trees and faults of a text.
use Rattle.std.proofs.Common.{◌≡◌, ℕ, ◌-◌, ◌≤◌, Bool, false, List, [], ◌∷◌, length, refl, subst}
use Rattle.std.specs.Prelude.{Result, Ok, Err, IfOk, IfErr}
use Rattle.std.proofs.lemmas.List.{length-map}
use Rattle.n1ql_ast.specs.declared.ddl.Ddl.{Ddl}
use Rattle.n1ql_ast.specs.declared.selection.Selection.{Selection}
use Rattle.n1ql_ast.specs.declared.token_class.TokenClass.{TokenClass}
use Rattle.n1ql_ast.specs.declared.unresolved_expr.UnresolvedExpr.{UnresolvedExpr}
use Rattle.n1ql_ast.specs.Faults.{FollowsExpr, Leaves}
use Rattle.n1ql_ast.specs.Grammar.{IsExpr, IsWhole}
use Rattle.n1ql_ast.specs.Selections.{FollowsSelect, IsSelect, IsWholeSelect}
use Rattle.n1ql_ast.specs.Statements.{FollowsDdl, IsDdl, IsStatement}
use Rattle.n1ql_lex.specs.declared.token.Token.{Token}
use Rattle.n1ql_lex.specs.Tokens.{IsTokens}
use Rattle.n1ql_parse.specs.declared.parse_fault.ParseFault.{ParseFault}
use Rattle.n1ql_parse.specs.declared.parse_fault.ParseFault.TheVariants as fault
use Rattle.n1ql_parse.specs.declared.tokens.parse_stop.ParseStop.{ParseStop}
use Rattle.n1ql_parse.specs.declared.tokens.parse_stop.ParseStop.TheVariants.{Fault, Memory}
use Rattle.n1ql_parse.specs.Faults.{IsFaultIn, IsTokenFault, OnPlace, not_few_tokens, no_text_goes_on}
use Rattle.n1ql_parse.specs.inner.Stops.{LeftOf, StopsIn, fault_at}
use Rattle.n1ql_parse.specs.Input.{class_of, classes_of}
use Rattle.n1ql_parse.specs.inner.Parser.{parsed, parsed_whole}
use Rattle.n1ql_parse.specs.Readings.{most_tokens}
use Rattle.n1ql_parse.specs.inner.Queries.{select_parsed, whole_select}
use Rattle.n1ql_parse.specs.inner.Statements.{statement_parsed, whole_statement}
use Rattle.n1ql_parse.specs.inner.Steps.{Outcome, got, stuck, Parser, Gives, and_then, end_of}
use Rattle.n1ql_parse.proofs.Reading.Precedences.{up_to}
use Rattle.n1ql_parse.proofs.Reading.Prefixes.{Rel, Agrees}
use Rattle.n1ql_parse.proofs.Reading.Rounds.{whole-parsed}
use Rattle.n1ql_parse.proofs.Reading.Selects.{select-agrees}
use Rattle.n1ql_parse.proofs.Reading.Statements.{statement-agrees}
use Rattle.n1ql_parse.proofs.Reading.Wholes.{whole_read, whole_back, whole_stuck, whole_left}

-- A rule reads a whole list exactly where the language gives it the tree, and stops where the list leaves the language.
pub record Exact {A : Type 0} (p : Parser A) (Is : List TokenClass → A → Type 0) : Type 0 where
  pub reads : (ts : List TokenClass) (x : A) → p ts ≡ got x [] → Is ts x
  pub back : (ts : List TokenClass) (x : A) → Is ts x → p ts ≡ got x []
  pub is_stuck : (ts : List TokenClass) (left : ℕ) → p ts ≡ stuck left → (left ≤ length ts) × Leaves (λ us. (y : A) × Is us y) ts (length ts - left)
  pub has_more : (ts : List TokenClass) (x : A) (t : TokenClass) (rest : List TokenClass) → p ts ≡ got x (t ∷ rest) →
      (length (t ∷ rest) ≤ length ts) × Leaves (λ us. (y : A) × Is us y) ts (length ts - length (t ∷ rest))

-- a rule that agrees with a relation on any tokens is exact
exact-of : {A : Type 0} (goes : TokenClass → Bool) (R : Rel A) (p : Parser A) → ((ts : List TokenClass) → Agrees goes R ts (p ts)) → Exact p (λ ts x. R ts x [])
exact-of goes R p agrees = record {
  reads = whole_read goes R p agrees;
  back = whole_back goes R p agrees;
  is_stuck = whole_stuck goes R p agrees;
  has_more = whole_left goes R p agrees;
}

pub exact-expr : Exact (parsed false) IsWhole
exact-expr = exact-of (up_to 7) (IsExpr false) (parsed false) (whole-parsed false)

pub exact-statement : Exact statement_parsed IsStatement
exact-statement = exact-of (up_to 12) IsDdl statement_parsed statement-agrees

pub exact-select : Exact select_parsed IsWholeSelect
exact-select = exact-of (up_to 14) IsSelect select_parsed select-agrees

-- the outcome of a rule with the end behind it
abbrev ended : {A : Type 0} → Outcome A → Outcome A
ended o = and_then o (λ x rest. and_then (end_of rest) (λ _ us. got x us))

read-ended : {A : Type 0} {p : Parser A} {Is : List TokenClass → A → Type 0} → Exact p Is → (ts : List TokenClass) (o : Outcome A) (x : A) → p ts ≡ o → ended o ≡ got x [] → Is ts x
read-ended {A} {p} {Is} exact ts (got y []) x e h = let same : y ≡ x = cc in subst (λ z. Is ts z) same (exact.reads ts y e)
read-ended exact ts (got y (t ∷ rest)) x e h = cc
read-ended exact ts (stuck left) x e h = cc

stuck-ended : {A : Type 0} {p : Parser A} {Is : List TokenClass → A → Type 0} → Exact p Is → (ts : List TokenClass) (o : Outcome A) (left : ℕ) → p ts ≡ o → ended o ≡ stuck left →
    (left ≤ length ts) × Leaves (λ us. (y : A) × Is us y) ts (length ts - left)
stuck-ended exact ts (got y []) left e h = cc
stuck-ended {A} {p} {Is} exact ts (got y (t ∷ rest)) left e h =
    let same : length (t ∷ rest) ≡ left = cc in
    subst (λ n. (n ≤ length ts) × Leaves (λ us. (y : A) × Is us y) ts (length ts - n)) same (exact.has_more ts y t rest e)
stuck-ended {A} {p} {Is} exact ts (stuck n) left e h =
    let same : n ≡ left = cc in
    subst (λ n. (n ≤ length ts) × Leaves (λ us. (y : A) × Is us y) ts (length ts - n)) same (exact.is_stuck ts n e)

-- what a whole list gives: its tree, or where reading stops
given : {A : Type 0} {p : Parser A} {Is : List TokenClass → A → Type 0} → Exact p Is → (ts classes : List TokenClass) (r : Result A ParseStop) → ts ≡ classes →
    Gives (ended (p ts)) r [] → IfOk r (Is classes) × IfErr r (StopsIn (λ us. (y : A) × Is us y) classes)
given {A} {p} {Is} exact ts classes (Ok x) same h = (subst (λ us. Is us x) same (read-ended exact ts (p ts) x refl h), tt)
given {A} {p} {Is} exact ts classes (Err (Fault left)) same h = (tt, subst (λ us. StopsIn (λ ws. (y : A) × Is ws y) us (Fault left)) same (stuck-ended exact ts (p ts) left refl h))
given exact ts classes (Err Memory) same h = (tt, tt)

pub expr-given : (ts classes : List TokenClass) (r : Result UnresolvedExpr ParseStop) → ts ≡ classes → Gives (parsed_whole ts) r [] →
    IfOk r (IsWhole classes) × IfErr r (StopsIn FollowsExpr classes)
unfolding parsed_whole
expr-given ts classes r same h = given exact-expr ts classes r same h

pub statement-given : (ts classes : List TokenClass) (r : Result Ddl ParseStop) → ts ≡ classes → Gives (whole_statement ts) r [] →
    IfOk r (IsStatement classes) × IfErr r (StopsIn FollowsDdl classes)
unfolding whole_statement
statement-given ts classes r same h = given exact-statement ts classes r same h

pub select-given : (ts classes : List TokenClass) (r : Result (Selection UnresolvedExpr) ParseStop) → ts ≡ classes → Gives (whole_select ts) r [] →
    IfOk r (IsWholeSelect classes) × IfErr r (StopsIn FollowsSelect classes)
unfolding whole_select
select-given ts classes r same h = given exact-select ts classes r same h

-- reading stops among the tokens of the text
pub left-of : (Follows : List TokenClass → Type 0) (tokens : List Token) (stop : ParseStop) → StopsIn Follows (classes_of tokens) stop → LeftOf (length tokens) stop
left-of Follows tokens (Fault left) h = subst (λ n. left ≤ n) (length-map tokens (λ (token : Token). class_of token.kind)) h.0
left-of Follows tokens Memory h = tt

-- and the fault of the text is there
pub fault-of : (Follows : List TokenClass → Type 0) (text : List ℕ) (tokens : List Token) (stop : ParseStop) → IsTokens text tokens → length tokens ≤ most_tokens →
    StopsIn Follows (classes_of tokens) stop → OnPlace (IsFaultIn Follows text) (fault_at text tokens stop)
fault-of Follows text tokens (Fault left) cut few h =
    no_text_goes_on (length tokens - left) cut few
    (subst (λ n. Leaves Follows (classes_of tokens) (n - left)) (length-map tokens (λ (token : Token). class_of token.kind)) h.1)
    refl
fault-of Follows text tokens Memory cut few h = tt

-- a text without few tokens has its fault there
pub token-fault : (Follows : List TokenClass → Type 0) (text : List ℕ) (at : ParseFault) → OnPlace (IsTokenFault text) at → OnPlace (IsFaultIn Follows text) at
token-fault Follows text (fault.Fault at) h = not_few_tokens h
token-fault Follows text fault.Memory h = tt
