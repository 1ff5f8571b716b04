-- Where reading stopped, for private clauses.
use Rattle.std.specs.Prelude.{ℕ, ◌-◌, ◌≤◌, List, length, ⊤}
use Rattle.n1ql_lex.specs.declared.token.Token.{Token}
use Rattle.n1ql_ast.specs.declared.token_class.TokenClass.{TokenClass}
use Rattle.n1ql_ast.specs.Faults.{Leaves}
use Rattle.n1ql_parse.specs.declared.parse_fault.ParseFault.{ParseFault}
use Rattle.n1ql_parse.specs.declared.parse_fault.ParseFault.TheVariants.{Fault, Memory}
use Rattle.n1ql_parse.specs.declared.tokens.parse_stop.ParseStop.{ParseStop}
use Rattle.n1ql_parse.specs.declared.tokens.parse_stop.ParseStop.TheVariants as stop
use Rattle.n1ql_parse.specs.Faults.{place_of}

-- no more tokens are left than there are, and the tokens leave the language where so many are left
abbrev pub LeftOf : ℕ → ParseStop → Type 0
LeftOf n (stop.Fault left) = left ≤ n
LeftOf n stop.Memory = ⊤

abbrev pub StopsIn : (List TokenClass → Type 0) → List TokenClass → ParseStop → Type 0
StopsIn Follows ts (stop.Fault left) = (left ≤ length ts) × Leaves Follows ts (length ts - left)
StopsIn Follows ts stop.Memory = ⊤

-- the fault of a text of these tokens at which reading stopped
abbrev pub fault_at : List ℕ → List Token → ParseStop → ParseFault
fault_at text tokens (stop.Fault left) = Fault (place_of text tokens (length tokens - left))
fault_at text tokens stop.Memory = Memory
