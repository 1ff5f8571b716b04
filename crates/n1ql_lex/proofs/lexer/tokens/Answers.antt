use Rattle.std.proofs.Common.{◌≡◌, ℕ, ◌+◌, ◌-◌, ◌<◌, true, [], ◌∷◌, ◌++◌, length, get_or, sym, ap, ◌∙◌, subst, arith}
use Rattle.std.proofs.lemmas.Bool.Decides.{nat_tests}
use Rattle.std.proofs.lemmas.Str.{IsCharBoundary-after_ascii}
use Rattle.n1ql_lex.specs.Bytes.{is_blank}
use Rattle.n1ql_lex.specs.Tokens.{IsToken}
use Rattle.n1ql_lex.proofs.Cuts.{EndsInAscii-boundary}
use Rattle.n1ql_lex.proofs.LexedSoFar.{LexedSoFar, lexed-start, lexed-blank, lexed-token}
use Rattle.n1ql_lex.proofs.TokenLemmas.{token-ends}
use Rattle.n1ql_lex.proofs.lexer.tokens.Goals as goal

blank-ascii : (b : ℕ) → is_blank b ≡ true → b < 128
blank-ascii b h = grind (arith, nat_tests)

pub scan-init : goal.scan-init
scan-init c = (c.utf8.text, subst (λ ts. LexedSoFar c.args.text.now ts c.args.text.now) (sym c.new-tokens.ensures) (lexed-start c.args.text.now))

-- a blank is ASCII
pub range_from-rest-requires : goal.range_from-rest-requires
range_from-rest-requires c =
    let rest = c.scan.rest.now in
    let first : c.in-Some.first.now ≡ get_or rest 0 0 = c.in-Some.ensures.item.4 (omega arith) 0 ∙ ap (λ bytes. get_or bytes 0 0) c.as_bytes.ensures.value in
    let some : 0 < length rest = omega (arith, c.in-Some.ensures.item.3.0, ap length c.as_bytes.ensures.value) in
    let low : get_or rest 0 0 < 128 = blank-ascii (get_or rest 0 0) (ap is_blank (sym first) ∙ sym c.if-is_blank.ensures) in
    λ _. IsCharBoundary-after_ascii rest 0 c.scan.invariant.0 some low

pub scan-preserved-then-is_blank : goal.scan-preserved-then-is_blank
scan-preserved-then-is_blank c =
    let rest = c.scan.rest.now in
    let first : c.in-Some.first.now ≡ get_or rest 0 0 = c.in-Some.ensures.item.4 (omega arith) 0 ∙ ap (λ bytes. get_or bytes 0 0) c.as_bytes.ensures.value in
    let some : 0 < length rest = omega (arith, c.in-Some.ensures.item.3.0, ap length c.as_bytes.ensures.value) in (
      c.range_from-rest.utf8,
      subst (λ bytes. LexedSoFar c.args.text.now c.scan.tokens bytes) (sym c.range_from-rest.ensures.value)
          (lexed-blank c.scan.invariant.1 some (ap is_blank (sym first) ∙ sym c.if-is_blank.ensures)),
    )

pub range_from-rest-requires-in-Some : goal.range_from-rest-requires-in-Some
range_from-rest-requires-in-Some c =
    let rest = c.scan.rest.now in
    let t : IsToken rest c.in-Some-2.found.kind c.in-Some-2.found.len = rw c.in-Some-2.is at c.in_ok-found.ensures in
    λ _. EndsInAscii-boundary rest c.in-Some-2.found.len (token-ends t) c.scan.invariant.0

pub scan-smaller : goal.scan-smaller
scan-smaller c =
    let rest = c.scan.rest.now in
    let t : IsToken rest c.in-Some-2.found.kind c.in-Some-2.found.len = rw c.in-Some-2.is at c.in_ok-found.ensures in
    let some = (token-ends t).some in
    let left : length c.range_from-rest-in-Some.result.now + c.in-Some-2.found.len ≡ length rest = c.range_from-rest-in-Some.ensures.len in
    omega arith

pub scan-preserved : goal.scan-preserved
scan-preserved c =
    let text = c.args.text.now in
    let rest = c.scan.rest.now in
    let len = c.in-Some-2.found.len in
    let t : IsToken rest c.in-Some-2.found.kind len = rw c.in-Some-2.is at c.in_ok-found.ensures in
    let place = length text - length rest in
    let tokens = c.scan.tokens ++ record { kind = c.in-Some-2.found.kind; start = place; end = place + len } ∷ [] in
    let pushed : c.push.new.self ≡ tokens = c.in_ok-push.ensures.ok in (
      c.range_from-rest-in-Some.utf8,
      subst (λ ts. LexedSoFar text ts c.range_from-rest-in-Some.result.now) (sym pushed)
          (subst (λ bytes. LexedSoFar text tokens bytes) (sym c.range_from-rest-in-Some.ensures.value) (lexed-token c.scan.invariant.1 t)),
    )
