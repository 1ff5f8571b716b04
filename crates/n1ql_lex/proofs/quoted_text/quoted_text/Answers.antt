use Rattle.std.proofs.Common.{◌≡◌, ◌+◌, ◌-◌, ◌<◌, ◌++◌, length, take, drop, sym, refl, ap, ◌∙◌, subst, arith, length-drop}
use Rattle.std.specs.Char.{encode_utf8}
use Rattle.std.specs.Str.{IsUtf8, IsCharBoundary}
use Rattle.std.specs.String.{string_bytes}
use Rattle.std.proofs.lemmas.Str.{IsUtf8-drop}
use Rattle.n1ql_lex.specs.declared.quoted_part.QuotedPart.TheVariants.{End, Plain, Stands}
use Rattle.n1ql_lex.specs.Quoted.{part_at, IsQuoted}
use Rattle.n1ql_lex.proofs.Cuts.{EndsInAscii-boundary}
use Rattle.n1ql_lex.proofs.QuotedLemmas.{PartFits, part_at-fits, end-fits, stands-fits, run_len, run_len-some, run-boundary}
use Rattle.n1ql_lex.proofs.ReadSoFar.{ReadSoFar, read-run, read-stands, read-end}
use Rattle.n1ql_lex.proofs.quoted_text.quoted_text.Goals as goal

-- the closing quote is within the text
pub returns-in-End-clause-within : goal.returns-in-End-clause-within
returns-in-End-clause-within c =
    let rest = c.loop-text.rest.now in
    let part : part_at c.args.quote rest ≡ End = ap (part_at c.args.quote) (sym c.as_bytes.ensures.value) ∙ sym c.in-End.ensures in
    let fits = end-fits (subst (PartFits c.args.quote rest) part (part_at-fits c.args.quote rest c.requires)) in
    let shorter = c.loop-text.invariant.1.shorter in
    let some = fits.0 in
    omega arith

pub returns-in-End-clause-quoted : goal.returns-in-End-clause-quoted
returns-in-End-clause-quoted c =
    let rest = c.loop-text.rest.now in
    let len = length c.args.body.now - length rest + 1 in
    let part : part_at c.args.quote rest ≡ End = ap (part_at c.args.quote) (sym c.as_bytes.ensures.value) ∙ sym c.in-End.ensures in
    let text : c.in_ok-text-in-End.text ≡ string_bytes c.loop-text.text = c.in_ok-text-in-End.ensures ∙ c.as_str.ensures.value in
    subst (λ t. IsQuoted c.args.quote c.args.body.now t len) (sym text) (read-end c.loop-text.invariant.1 len part refl)

pub split_at-requires : goal.split_at-requires
split_at-requires c =
    let rest = c.loop-text.rest.now in
    let len : c.plain_len.result ≡ run_len c.args.quote rest = c.plain_len.ensures ∙ ap (run_len c.args.quote) c.as_bytes-in-Plain.ensures.value in
    subst (IsCharBoundary rest) (sym len) (run-boundary c.args.quote rest c.requires)

-- a run has at least the byte that was seen
pub loop-text-smaller-in-Plain : goal.loop-text-smaller-in-Plain
loop-text-smaller-in-Plain c =
    let rest = c.loop-text.rest.now in
    let part : part_at c.args.quote rest ≡ Plain = ap (part_at c.args.quote) (sym c.as_bytes.ensures.value) ∙ sym c.in-Plain.ensures in
    let len : c.plain_len.result ≡ run_len c.args.quote rest = c.plain_len.ensures ∙ ap (run_len c.args.quote) c.as_bytes-in-Plain.ensures.value in
    let some : 0 < run_len c.args.quote rest = run_len-some c.args.quote rest c.requires part in
    let left : length c.split_at.result.1.now + c.plain_len.result ≡ length rest = c.split_at.ensures.back_len in
    omega arith

pub loop-text-preserved-in-Plain : goal.loop-text-preserved-in-Plain
loop-text-preserved-in-Plain c =
    let quote = c.args.quote in
    let rest = c.loop-text.rest.now in
    let text = string_bytes c.loop-text.text in
    let cut = run-boundary quote rest c.requires in
    let len : c.plain_len.result ≡ run_len quote rest = c.plain_len.ensures ∙ ap (run_len quote) c.as_bytes-in-Plain.ensures.value in
    let left : c.split_at.result.1.now ≡ drop (run_len quote rest) rest = c.split_at.ensures.back ∙ ap (λ n. drop n rest) len in
    let front : c.split_at.result.0.now ≡ take (run_len quote rest) rest = c.split_at.ensures.front ∙ ap (λ n. take n rest) len in
    let bytes : string_bytes c.push_str.new.self ≡ text ++ take (run_len quote rest) rest = c.in_ok-push_str-in-Plain.ensures.bytes ∙ ap (λ t. text ++ t) front in (
      subst IsUtf8 (sym left) (IsUtf8-drop rest (run_len quote rest) c.loop-text.invariant.0 cut),
      subst (λ t. ReadSoFar quote c.args.body.now t c.split_at.result.1.now) (sym bytes)
          (subst (λ r. ReadSoFar quote c.args.body.now (text ++ take (run_len quote rest) rest) r) (sym left) (read-run c.loop-text.invariant.1 cut.0)),
    )

pub range_from-rest-requires : goal.range_from-rest-requires
range_from-rest-requires c =
    let rest = c.loop-text.rest.now in
    let n = c.in-Stands.len in
    let part : part_at c.args.quote rest ≡ Stands c.in-Stands.character n = ap (part_at c.args.quote) (sym c.as_bytes.ensures.value) ∙ sym c.in-Stands.ensures in
    let fits = stands-fits (subst (PartFits c.args.quote rest) part (part_at-fits c.args.quote rest c.requires)) in
    λ _. EndsInAscii-boundary rest n fits c.loop-text.invariant.0

pub loop-text-smaller : goal.loop-text-smaller
loop-text-smaller c =
    let rest = c.loop-text.rest.now in
    let n = c.in-Stands.len in
    let part : part_at c.args.quote rest ≡ Stands c.in-Stands.character n = ap (part_at c.args.quote) (sym c.as_bytes.ensures.value) ∙ sym c.in-Stands.ensures in
    let fits = stands-fits (subst (PartFits c.args.quote rest) part (part_at-fits c.args.quote rest c.requires)) in
    let some = fits.some in
    let within = fits.within in
    let left : length c.range_from-rest.result.now ≡ length rest - n = ap length c.range_from-rest.ensures.value ∙ length-drop n rest in
    omega arith

pub loop-text-preserved : goal.loop-text-preserved
loop-text-preserved c =
    let quote = c.args.quote in
    let rest = c.loop-text.rest.now in
    let n = c.in-Stands.len in
    let text = string_bytes c.loop-text.text in
    let left : c.range_from-rest.result.now ≡ drop n rest = c.range_from-rest.ensures.value in
    let bytes : string_bytes c.push.new.self ≡ text ++ encode_utf8 c.in-Stands.character = c.in_ok-push-in-Stands.ensures.bytes in
    let part : part_at quote rest ≡ Stands c.in-Stands.character n = ap (part_at quote) (sym c.as_bytes.ensures.value) ∙ sym c.in-Stands.ensures in
    let fits = stands-fits (subst (PartFits quote rest) part (part_at-fits quote rest c.requires)) in (
      subst IsUtf8 (sym left) (IsUtf8-drop rest n c.loop-text.invariant.0 (EndsInAscii-boundary rest n fits c.loop-text.invariant.0)),
      subst (λ t. ReadSoFar quote c.args.body.now t c.range_from-rest.result.now) (sym bytes)
          (subst (λ r. ReadSoFar quote c.args.body.now (text ++ encode_utf8 c.in-Stands.character) r) (sym left) (read-stands c.loop-text.invariant.1 part fits.within)),
    )
