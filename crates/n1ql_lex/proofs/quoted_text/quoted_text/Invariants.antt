use Rattle.std.proofs.Common.{length}
use denote.Text.{Utf8}
use denote.Shadow.{shadow}
use Rattle.std.specs.String.{string_bytes}
use Rattle.n1ql_lex.proofs.ReadSoFar.{ReadSoFar}
use Rattle.n1ql_lex.proofs.quoted_text.quoted_text.Given as goal

abbrev pub invariant-loop-text : goal.invariant-loop-text
invariant-loop-text l = shadow (Utf8 l.rest) × ReadSoFar l.quote l.body (string_bytes l.text) l.rest

abbrev pub decreases-loop-text : goal.decreases-loop-text
decreases-loop-text l = length l.rest
