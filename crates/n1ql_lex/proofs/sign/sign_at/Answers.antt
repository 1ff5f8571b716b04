use Rattle.std.proofs.Common.{◌≡◌, ◌<◌, length, take, sym, ap, ◌∙◌, subst, arith}
use Rattle.std.specs.Str.{IsCharBoundary}
use Rattle.n1ql_lex.specs.declared.token_kind.TokenKind.TheVariants.{Sign}
use Rattle.n1ql_lex.specs.Signs.{sign_of}
use Rattle.n1ql_lex.proofs.Cuts.{EndsInAscii-boundary}
use Rattle.n1ql_lex.proofs.SignLemmas.{sign_of-fits, sign-stands}
use Rattle.n1ql_lex.proofs.sign.sign_at.Goals as goal

pub range-requires-clause-end_boundary : goal.range-requires-clause-end_boundary
range-requires-clause-end_boundary c =
    let text = c.args.text.now in
    let len : c.sign_len-len.result ≡ length (sign_of text) = c.sign_len-len.ensures ∙ ap (λ t. length (sign_of t)) c.as_bytes.ensures.value in
    let some : 0 < length (sign_of text) = omega arith in
    subst (IsCharBoundary text) (sym len) (EndsInAscii-boundary text _ (sign-stands (sign_of-fits text) some).1 c.utf8.text)

pub returns : goal.returns
returns c =
    let text = c.args.text.now in
    let len : c.sign_len-len.result ≡ length (sign_of text) = c.sign_len-len.ensures ∙ ap (λ t. length (sign_of t)) c.as_bytes.ensures.value in
    let some : 0 < length (sign_of text) = omega arith in
    let cut : c.range.result.now ≡ take c.sign_len-len.result text = c.range.ensures.value ∙ grind arith in
    let sign : c.in_ok-of.field-0 ≡ sign_of text =
    c.in_ok-of.ensures ∙ cut ∙ ap (λ n. take n text) len ∙ sym (sign-stands (sign_of-fits text) some).0 in
    (λ empty. let none = ap length empty in absurd (omega arith), ap Sign sign, len)
