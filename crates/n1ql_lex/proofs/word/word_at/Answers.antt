use Rattle.std.proofs.Common.{◌≡◌, ℕ, ◌<◌, true, sym, ap, ◌∙◌, subst, arith}
use Rattle.std.specs.List.{prefix_len}
use Rattle.std.specs.Str.{IsCharBoundary}
use Rattle.std.proofs.lemmas.Bool.Decides.{nat_tests}
use Rattle.n1ql_lex.specs.Bytes.{is_word_byte}
use Rattle.n1ql_lex.proofs.Cuts.{prefix-boundary}
use Rattle.n1ql_lex.proofs.word.word_at.Goals as goal

is_word_byte-ascii : (b : ℕ) → is_word_byte b ≡ true → b < 128
is_word_byte-ascii b h = grind (arith, nat_tests)

-- a word is ASCII, so the text may be cut behind it
pub range-requires-clause-end_boundary : goal.range-requires-clause-end_boundary
range-requires-clause-end_boundary c =
    let text = c.args.text.now in
    let len : c.word_len-len.result ≡ prefix_len is_word_byte text = c.word_len-len.ensures ∙ ap (prefix_len is_word_byte) c.as_bytes.ensures.value in
    subst (IsCharBoundary text) (sym len) (prefix-boundary is_word_byte is_word_byte-ascii text c.utf8.text)
