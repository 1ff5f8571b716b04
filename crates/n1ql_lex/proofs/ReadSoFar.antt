-- The invariant of the loop in `quoted_text`, and what each of its steps keeps.
use Rattle.std.proofs.Common.{◌≡◌, ℕ, ◌+◌, ◌-◌, ◌≤◌, List, [], ◌++◌, length, take, drop, sym, subst, append_assoc, append-nil, arith, length-drop}
use Rattle.std.specs.Char.{encode_utf8}
use Rattle.n1ql_lex.specs.declared.quoted_part.QuotedPart.TheVariants.{End, Stands}
use Rattle.n1ql_lex.specs.Quoted.{part_at, IsQuoted, ends, stands}
use Rattle.n1ql_lex.proofs.QuotedLemmas.{run_len, quoted-after_run, quoted-past_run, quoted-at_stands}

-- Whatever the rest stands for goes on the text so far, and nothing else does.
pub record ReadSoFar (quote : ℕ) (body text rest : List ℕ) : Type 0 where
  pub shorter : length rest ≤ length body
  pub goes_on : (more : List ℕ) (len done : ℕ) → done + length rest ≡ length body → IsQuoted quote rest more len → IsQuoted quote body (text ++ more) (done + len)
  pub only : (whole : List ℕ) (len : ℕ) → IsQuoted quote body whole len → (more : List ℕ) × (n : ℕ) × IsQuoted quote rest more n

pub read-start : (quote : ℕ) (body : List ℕ) → ReadSoFar quote body [] body
read-start quote body = record {
  shorter = omega arith;
  goes_on = λ more len done all r. subst (λ n. IsQuoted quote body more n) (omega arith) r;
  only = λ whole len r. (whole, len, r);
}

module _ {quote : ℕ} {body text rest : List ℕ} (so_far : ReadSoFar quote body text rest) where
  -- n more bytes are read, and stand for some text
  read-more : (n : ℕ) (meant : List ℕ) → n ≤ length rest →
      ((more : List ℕ) (len : ℕ) → IsQuoted quote (drop n rest) more len → IsQuoted quote rest (meant ++ more) (n + len)) →
      ((more : List ℕ) (len : ℕ) → IsQuoted quote rest more len → (next : List ℕ) × (k : ℕ) × IsQuoted quote (drop n rest) next k) →
      ReadSoFar quote body (text ++ meant) (drop n rest)
  read-more n meant within onward past =
      let shorter = so_far.shorter in
      let left = length-drop n rest in
      record {
        shorter = omega arith;
        goes_on = λ more len done all r.
            let before : done - n + length rest ≡ length body = omega arith in
            let places : done - n + (n + len) ≡ done + len = omega arith in
            subst (λ m. IsQuoted quote body ((text ++ meant) ++ more) m) places
            (subst (λ t. IsQuoted quote body t (done - n + (n + len))) (sym (append_assoc text meant more))
            (so_far.goes_on (meant ++ more) (n + len) (done - n) before (onward more len r)));
        only = λ whole len r. let left_over = so_far.only whole len r in past left_over.0 left_over.1 left_over.2;
      }

  pub read-run : run_len quote rest ≤ length rest → ReadSoFar quote body (text ++ take (run_len quote rest) rest) (drop (run_len quote rest) rest)
  read-run within = read-more (run_len quote rest) (take (run_len quote rest) rest) within (quoted-after_run quote rest) (quoted-past_run quote rest)

  pub read-stands : {character n : ℕ} → part_at quote rest ≡ Stands character n → n ≤ length rest → ReadSoFar quote body (text ++ encode_utf8 character) (drop n rest)
  read-stands {character} {n} p within =
      read-more n (encode_utf8 character) within (λ more len r. stands p r)
      (λ more len r. let at = quoted-at_stands p r in (at.rest_text, at.rest_len, at.rest))

  pub read-end : (len : ℕ) → part_at quote rest ≡ End → len ≡ length body - length rest + 1 → IsQuoted quote body text len
  read-end len p is =
      let shorter = so_far.shorter in
      subst (λ n. IsQuoted quote body text n) (sym is)
      (subst (λ t. IsQuoted quote body t (length body - length rest + 1)) (append-nil text)
      (so_far.goes_on [] 1 (length body - length rest) (omega arith) (ends p)))
