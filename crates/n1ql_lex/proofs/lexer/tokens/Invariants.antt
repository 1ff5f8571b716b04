use Rattle.std.proofs.Common.{length}
use denote.Text.{Utf8}
use denote.Shadow.{shadow}
use Rattle.n1ql_lex.proofs.LexedSoFar.{LexedSoFar}
use Rattle.n1ql_lex.proofs.lexer.tokens.Given as goal

abbrev pub invariant-scan : goal.invariant-scan
invariant-scan l = shadow (Utf8 l.rest) × LexedSoFar l.text l.tokens l.rest

abbrev pub decreases-scan : goal.decreases-scan
decreases-scan l = length l.rest
