-- What the statement on a field reads as.
use Rattle.std.proofs.Common.{◌≡◌, ℕ, ◌≤◌, Bool, true, false, List, [], ◌∷◌, Option, Some, None, refl, sym, ap, ◌∙◌, subst, arith}
use Rattle.std.specs.Prelude.{◌&&◌, ◌||◌, ◌==◌, not, nat_le, slice_index, is_none, if◌then◌else◌}
use Rattle.std.specs.List.{list_all, range_with_len}
use Rattle.std.specs.Str.{bytes_eq}
use Rattle.std.specs.Char.{is_ascii_digit}
use Rattle.std.proofs.lemmas.Bool.{and_parts, leb-true}
use Rattle.std.proofs.lemmas.Slice.Eq.{bytes_eq-Decides}
use Rattle.n1ql_lex.specs.declared.opening.Opening.{Opening}
use Rattle.n1ql_lex.specs.declared.opening.Opening.TheVariants as opening
use Rattle.n1ql_lex.specs.Bytes.{opening_of, is_blank, is_letter}
use Rattle.n1ql_lex.specs.Words.{reserved_word_of}
use Rattle.n1ql_ast.specs.declared.ddl.Ddl.TheVariants as ddl
use Rattle.n1ql_ast.specs.Statements.{IsStatement}
use Rattle.n1ql_parse.specs.Readings.{IsReadingDdl}
use Rattle.scan_history.proofs.StatementForm.{statement_on, defined_field}
use Rattle.scan_history.proofs.StatementTokens.{tokens_on, tokens_of_statement, each_of}
use Rattle.scan_history.proofs.StatementReading.{create_on, classes, statement}

-- a letter begins a word, and is no reserved word
abbrev is_name : ℕ → Bool
is_name b = (not (is_blank b) && is_letter b) && is_none (reserved_word_of (b ∷ []))

letters : list_all is_name (range_with_len 97 26) ≡ true
unfolding reserved_word_of
letters = refl

denied : (b : Bool) → not b ≡ true → b ≡ false
denied true h = absurd (cc)
denied false h = refl

nothing : {A : Type 0} (o : Option A) → is_none o ≡ true → o ≡ None
nothing None h = refl
nothing (Some x) h = absurd (cc)

-- what begins with a byte that begins neither a blank nor a word
abbrev other : ℕ → Opening
other b = if is_ascii_digit b then opening.Number else (if b == 34 || b == 39 then opening.String else (if b == 96 then opening.Name else opening.Sign))

opens : (b : ℕ) → is_blank b ≡ false → is_letter b ≡ true → opening_of b ≡ opening.Word
unfolding opening_of
opens b blank letter =
    ap (λ x. if x then opening.Blank else (if is_letter b then opening.Word else other b)) blank
    ∙ ap (λ x. if x then opening.Word else other b) letter

-- what is told of a thing that is told only where a test holds
chosen : (test : Bool) (n letter : ℕ) → (if test then Some n else None) ≡ Some letter → (test ≡ true) × (n ≡ letter)
chosen true n letter is = (refl, cc)
chosen false n letter is = absurd (cc)

-- the letter of a text of the form, and the text
form : (text : List ℕ) (letter : ℕ) → defined_field text ≡ Some letter → (97 ≤ letter) × (letter ≤ 122) × (text ≡ statement_on letter)
form text letter is =
    let n : ℕ = slice_index text 22 in
    let c = chosen (nat_le 97 n && nat_le n 122 && bytes_eq text (statement_on n)) n letter is in
    let p = and_parts (nat_le 97 n && nat_le n 122) (bytes_eq text (statement_on n)) c.0 in
    let q = and_parts (nat_le 97 n) (nat_le n 122) p.0 in
    subst (λ l. (97 ≤ l) × (l ≤ 122) × (text ≡ statement_on l)) c.1
    (leb-true 97 n q.0, leb-true n 122 q.1, (bytes_eq-Decides text (statement_on n)).0 p.1)

pub reads_as : (text : List ℕ) (letter : ℕ) → defined_field text ≡ Some letter → IsReadingDdl text (ddl.Create (create_on letter))
reads_as text letter is =
    let f = form text letter is in
    let known = and_parts (not (is_blank letter) && is_letter letter) (is_none (reserved_word_of (letter ∷ []))) (each_of is_name 97 26 letters letter f.0 (omega arith)) in
    let first = and_parts (not (is_blank letter)) (is_letter letter) known.0 in
    subst (λ (t : List ℕ). IsReadingDdl t (ddl.Create (create_on letter))) (sym f.2) (record {
      tokens = tokens_on letter;
      cut = tokens_of_statement letter (opens letter (denied (is_blank letter) first.0) first.1)
          (ap (λ x. x || is_ascii_digit letter || letter == 36) first.1) (nothing (reserved_word_of (letter ∷ [])) known.1);
      few = omega arith;
      whole = subst (λ ks. IsStatement ks (ddl.Create (create_on letter))) (sym (classes letter)) (statement letter);
    })
