-- The place of the fault of a text that has no tree.
use Rattle.std.specs.Prelude.{◌≡◌, ℕ, ◌≤◌, ◌<◌, List, [], ◌∷◌, length, drop, ⊤}
use Rattle.n1ql_lex.specs.declared.token.Token.{Token}
use Rattle.n1ql_lex.specs.Tokens.{IsFault, IsTokens}
use Rattle.n1ql_ast.specs.declared.token_class.TokenClass.{TokenClass}
use Rattle.n1ql_ast.specs.Faults.{FollowsExpr, Leaves}
use Rattle.n1ql_ast.specs.Selections.{FollowsSelect}
use Rattle.n1ql_ast.specs.Statements.{FollowsDdl}
use Rattle.n1ql_parse.specs.declared.parse_fault.ParseFault.{ParseFault}
use Rattle.n1ql_parse.specs.declared.parse_fault.ParseFault.TheVariants.{Fault, Memory}
use Rattle.n1ql_parse.specs.Input.{classes_of}
use Rattle.n1ql_parse.specs.Readings.{most_tokens}

-- the place of the first token, or the end of the text where there is none
abbrev pub start_of : List ℕ → List Token → ℕ
start_of text [] = length text
start_of text (token ∷ tokens) = token.start

-- the place of the token behind n others
abbrev pub place_of : List ℕ → List Token → ℕ → ℕ
place_of text tokens n = start_of text (drop n tokens)

-- What keeps a text from having few tokens: what is no token, or the first token of too many.
pub data IsTokenFault (text : List ℕ) (at : ℕ) : Type 0 where
  no_token : IsFault text at → IsTokenFault text at
  too_many : {tokens : List Token} →
      IsTokens text tokens → most_tokens < length tokens → at ≡ place_of text tokens most_tokens → IsTokenFault text at

-- Such a fault, or else the place where the few tokens leave a language, which is given by the lists that follow it.
pub data IsFaultIn (Follows : List TokenClass → Type 0) (text : List ℕ) (at : ℕ) : Type 0 where
  not_few_tokens : IsTokenFault text at → IsFaultIn Follows text at
  no_text_goes_on : {tokens : List Token} (n : ℕ) →
      IsTokens text tokens → length tokens ≤ most_tokens → Leaves Follows (classes_of tokens) n → at ≡ place_of text tokens n →
      IsFaultIn Follows text at

-- the place of the fault of a text that is no expression
abbrev pub IsFaultAt : List ℕ → ℕ → Type 0
IsFaultAt text at = IsFaultIn FollowsExpr text at

-- the place of the fault of a text that is no statement on indexes
abbrev pub IsDdlFaultAt : List ℕ → ℕ → Type 0
IsDdlFaultAt text at = IsFaultIn FollowsDdl text at

-- the place of the fault of a text that is no SELECT
abbrev pub IsSelectFaultAt : List ℕ → ℕ → Type 0
IsSelectFaultAt text at = IsFaultIn FollowsSelect text at

-- what holds of the place of a fault; want of memory may come at any text
abbrev pub OnPlace : (ℕ → Type 0) → ParseFault → Type 0
OnPlace Is (Fault at) = Is at
OnPlace Is Memory = ⊤

-- a fault stands where the text has one
abbrev pub IsFaultOf : List ℕ → ParseFault → Type 0
IsFaultOf text fault = OnPlace (IsFaultAt text) fault

abbrev pub IsDdlFaultOf : List ℕ → ParseFault → Type 0
IsDdlFaultOf text fault = OnPlace (IsDdlFaultAt text) fault

abbrev pub IsSelectFaultOf : List ℕ → ParseFault → Type 0
IsSelectFaultOf text fault = OnPlace (IsSelectFaultAt text) fault
