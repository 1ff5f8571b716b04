use Rattle.std.proofs.Common.{◌≡◌, [], drop, get_or, sym, ◌∙◌, subst}
use Rattle.std.proofs.lemmas.Bool.{eqb-true}
use Rattle.std.proofs.lemmas.List.{nil_from_length}
use Rattle.std.proofs.lemmas.Str.{IsCharBoundary-after_ascii}
use Rattle.n1ql_lex.specs.Quoted.{IsQuoted}
use Rattle.n1ql_lex.proofs.QuotedLemmas.{quoted-same}
use Rattle.n1ql_lex.proofs.quoted_text.name_at.Goals as goal

-- the quote is ASCII
pub range_from-requires : goal.range_from-requires
range_from-requires c = λ _. IsCharBoundary-after_ascii c.args.text.now 0 c.utf8.text c.requires.some c.requires.quote

-- the name that was read is the only one, and it is empty
pub returns-then-is_empty : goal.returns-then-is_empty
returns-then-is_empty c = λ kind len name.
    let text = c.args.text.now in
    let read = rw c.in-Some.is at c.in_ok-quoted.ensures.quoted in
    let whole : IsQuoted (get_or text 0 0) (drop 1 text) c.in-Some.quoted.text c.in-Some.quoted.len =
    subst (λ body. IsQuoted (get_or text 0 0) body c.in-Some.quoted.text c.in-Some.quoted.len) c.range_from.ensures.value
    (subst (λ bytes. IsQuoted (get_or bytes 0 0) c.range_from.result.now c.in-Some.quoted.text c.in-Some.quoted.len) c.as_bytes.ensures.value read) in
    let empty : c.in-Some.quoted.text ≡ [] = sym c.as_str.ensures ∙ nil_from_length _ (eqb-true _ 0 (sym c.if-is_empty.ensures)) in
    name.3 (sym (quoted-same whole name.2).0 ∙ empty)
