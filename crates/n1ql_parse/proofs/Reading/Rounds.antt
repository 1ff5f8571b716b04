-- The rules with the number that bounds how deep they nest.
use Rattle.std.specs.Prelude.{ℕ, zero, suc, ◌+◌, ◌*◌, ◌≤◌, Bool, false, List, length}
use Rattle.std.proofs.Common.{arith}
use Rattle.n1ql_ast.specs.declared.token_class.TokenClass.{TokenClass}
use Rattle.n1ql_ast.specs.Grammar.{IsExpr}
use Rattle.n1ql_parse.specs.declared.expressions.precedence.Precedence.{Precedence}
use Rattle.n1ql_parse.specs.declared.expressions.precedence.Precedence.TheVariants as precedence
use Rattle.n1ql_parse.specs.inner.Parser.{at, enough, parsed}
use Rattle.n1ql_parse.proofs.Reading.Prefixes.{Agrees, Within}
use Rattle.n1ql_parse.proofs.Reading.Precedences.{up_to, tightness, depth, IsAt}
use Rattle.n1ql_parse.proofs.Reading.Binary.{within_or, within_and, within_add, within_mul}
use Rattle.n1ql_parse.proofs.Reading.Unary.{within_not_form, within_negation}
use Rattle.n1ql_parse.proofs.Reading.Relations.{within_relation}
use Rattle.n1ql_parse.proofs.Reading.Paths.{within_path}
use Rattle.n1ql_parse.proofs.Reading.Primaries.{within_primary}

some_depth : (l : Precedence) → 1 ≤ depth l
some_depth precedence.Or = omega arith
some_depth precedence.And = omega arith
some_depth precedence.Not = omega arith
some_depth precedence.Test = omega arith
some_depth precedence.Add = omega arith
some_depth precedence.Mul = omega arith
some_depth precedence.Neg = omega arith
some_depth precedence.Post = omega arith

-- each level reads what the grammar says, of tokens that are few enough for the number
pub nests : (fuel n : ℕ) (agg : Bool) (l : Precedence) → 8 * n + depth l ≤ fuel + 8 → Within n (up_to (tightness l)) (IsAt agg l) (at fuel agg l)
unfolding at
nests fuel zero agg l h = record { agrees = λ ts k. absurd (omega arith) }
nests zero (suc n) agg l h = let k = some_depth l in absurd (omega arith)
nests (suc fuel) (suc n) agg precedence.Or h = within_or (at fuel) agg (suc n) (nests fuel (suc n) agg precedence.And (omega arith))
nests (suc fuel) (suc n) agg precedence.And h = within_and (at fuel) agg (suc n) (nests fuel (suc n) agg precedence.Not (omega arith))
nests (suc fuel) (suc n) agg precedence.Not h = within_not_form (at fuel) agg n (nests fuel n agg precedence.Not (omega arith)) (nests fuel (suc n) agg precedence.Test (omega arith))
nests (suc fuel) (suc n) agg precedence.Test h = within_relation (at fuel) agg n (nests fuel (suc n) agg precedence.Add (omega arith))
nests (suc fuel) (suc n) agg precedence.Add h = within_add (at fuel) agg (suc n) (nests fuel (suc n) agg precedence.Mul (omega arith))
nests (suc fuel) (suc n) agg precedence.Mul h = within_mul (at fuel) agg (suc n) (nests fuel (suc n) agg precedence.Neg (omega arith))
nests (suc fuel) (suc n) agg precedence.Neg h = within_negation (at fuel) agg n (nests fuel n agg precedence.Neg (omega arith)) (nests fuel (suc n) agg precedence.Post (omega arith))
nests (suc fuel) (suc n) agg precedence.Post h = within_path (at fuel) agg n (nests fuel n agg precedence.Or (omega arith))
    (within_primary (at fuel) agg n (nests fuel n agg precedence.Or (omega arith)) (nests fuel n false precedence.Or (omega arith)))

-- a whole expression at the front
pub whole-parsed : (agg : Bool) (ts : List TokenClass) → Agrees (up_to 7) (IsExpr agg) ts (parsed agg ts)
unfolding parsed
whole-parsed agg ts = (nests (enough ts) (suc (length ts)) agg precedence.Or (omega arith)).agrees ts (omega arith)

pub within_parsed : (n : ℕ) (agg : Bool) → Within n (up_to 7) (IsExpr agg) (parsed agg)
within_parsed n agg = record { agrees = λ ts h. whole-parsed agg ts }
