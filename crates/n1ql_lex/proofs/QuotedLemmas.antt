-- What the definitions of quoted text give.
use Rattle.std.proofs.Common.{◌≡◌, ℕ, suc, zero, ◌+◌, ◌<◌, ◌≤◌, true, false, cond, List, [], ◌∷◌, ◌++◌, length, get_or, take, drop, Option, Some, None, sym, refl, ap, ◌∙◌, subst, ⊎_elim, arith, nat_lt, eqb, get_or-drop, length-drop}
use Rattle.std.specs.Char.{digit_value, encode_utf8}
use Rattle.std.specs.Char.Utf16.{is_high_surrogate, is_low_surrogate}
use Rattle.std.specs.List.{prefix_len}
use Rattle.std.specs.Str.{IsCharBoundary}
use Rattle.std.proofs.lemmas.List.Sums.{prefix_len_passes, prefix_len_stops, prefix_len-le-length, prefix_len-drop_yes}
use Rattle.std.proofs.lemmas.Bool.{cond_both, cond-false, not-true, not_from_false, eqb-true, leb-true, and_parts, and_from, cases_lt}
use Rattle.std.proofs.lemmas.Bool.Decides.{nat_tests}
use Rattle.n1ql_lex.proofs.Cuts.{EndsInAscii, ends_later}
use Rattle.n1ql_lex.specs.declared.quoted_part.QuotedPart.{QuotedPart}
use Rattle.n1ql_lex.specs.declared.quoted_part.QuotedPart.TheVariants.{End, Plain, Stands, Broken}
use Rattle.n1ql_lex.specs.Quoted.{escaped_char, begins_with_hex4, hex4_value, hex4, begins_with_u, pair_of, pair_at, unit_of, escape_of, escape_at, quote_at, is_escape, is_plain, part_at, IsQuoted, ends, plain, stands}

-- a hexadecimal digit is ASCII
is_hex-ascii : (b : ℕ) → nat_lt (digit_value b) 16 ≡ true → b < 128
is_hex-ascii b h = grind (arith, nat_tests)

-- four hexadecimal digits are within the bytes, and the last is ASCII
data HexFits (bytes : List ℕ) : Option ℕ → Type 0 where
  no_hex : HexFits bytes None
  some_hex : {unit : ℕ} → 4 ≤ length bytes → get_or bytes 3 0 < 128 → HexFits bytes (Some unit)

hex4-fits : (bytes : List ℕ) → HexFits bytes (hex4 bytes)
unfolding hex4
hex4-fits bytes =
    cond_both (begins_with_hex4 bytes) (Some (hex4_value bytes)) None (HexFits bytes)
    (λ h.
    let last = and_parts _ _ h in
    let three = and_parts _ _ last.0 in
    let two = and_parts _ _ three.0 in
    let one = and_parts _ _ two.0 in
    some_hex (leb-true 4 (length bytes) one.0) (is_hex-ascii (get_or bytes 3 0) last.1))
    (λ _. no_hex)

-- what an escape can be: no end and no plain byte
data EscapeFits (bytes : List ℕ) : QuotedPart → Type 0 where
  stands_cut : {character n : ℕ} → EndsInAscii bytes n → EscapeFits bytes (Stands character n)
  broken : EscapeFits bytes Broken

-- a pair behind a backslash, `u` and four digits
pair_of-fits : (high b u : ℕ) (bytes : List ℕ) (low : Option ℕ) → 2 ≤ length (drop 4 bytes) →
    HexFits (drop 2 (drop 4 bytes)) low → EscapeFits (b ∷ u ∷ bytes) (pair_of high low)
pair_of-fits high b u bytes None two h = broken
pair_of-fits high b u bytes (Some low) two (some_hex four ascii) =
    cond_both _ _ _ (EscapeFits (b ∷ u ∷ bytes))
    (λ _. stands_cut (record {
      some = omega arith;
      within = omega (arith, length-drop 2 (drop 4 bytes), length-drop 4 bytes);
      ascii =
          let at : get_or (drop 2 (drop 4 bytes)) 3 0 ≡ get_or bytes 9 0 = get_or-drop 2 (drop 4 bytes) 3 0 ∙ get_or-drop 4 bytes 5 0 in
          subst (λ last. last < 128) at ascii;
    }))
    (λ _. broken)

pair_at-fits : (high b u : ℕ) (bytes : List ℕ) → EscapeFits (b ∷ u ∷ bytes) (pair_at high (drop 4 bytes))
unfolding pair_at
pair_at-fits high b u bytes =
    cond_both (begins_with_u (drop 4 bytes)) (pair_of high (hex4 (drop 2 (drop 4 bytes)))) Broken (EscapeFits (b ∷ u ∷ bytes))
    (λ h. pair_of-fits high b u bytes (hex4 (drop 2 (drop 4 bytes))) (leb-true 2 (length (drop 4 bytes)) (and_parts _ _ (and_parts _ _ h).0).0) (hex4-fits (drop 2 (drop 4 bytes))))
    (λ _. broken)

unit_of-fits : (b u : ℕ) (bytes : List ℕ) (unit : Option ℕ) → HexFits bytes unit → EscapeFits (b ∷ u ∷ bytes) (unit_of unit (drop 4 bytes))
unit_of-fits b u bytes None h = broken
unit_of-fits b u bytes (Some unit) (some_hex four ascii) =
    cond_both (is_high_surrogate unit) (pair_at unit (drop 4 bytes)) (cond (is_low_surrogate unit) Broken (Stands unit 6)) (EscapeFits (b ∷ u ∷ bytes))
    (λ _. pair_at-fits unit b u bytes)
    (λ _. cond_both (is_low_surrogate unit) Broken (Stands unit 6) (EscapeFits (b ∷ u ∷ bytes)) (λ _. broken) (λ _. stands_cut {n = 6} (record { some = omega arith; within = omega arith; ascii = ascii })))

escaped_char-none : (letter : ℕ) → 128 ≤ letter → escaped_char letter ≡ None
escaped_char-none letter high = grind (arith, nat_tests)

escape_of-fits : (b letter : ℕ) (bytes : List ℕ) (character : Option ℕ) → letter < 128 → EscapeFits (b ∷ letter ∷ bytes) (escape_of character)
escape_of-fits b letter bytes None low = broken
escape_of-fits b letter bytes (Some character) low = stands_cut (record { some = omega arith; within = omega arith; ascii = low })

letter-fits : (b letter : ℕ) (bytes : List ℕ) → EscapeFits (b ∷ letter ∷ bytes) (escape_of (escaped_char letter))
letter-fits b letter bytes =
    ⊎_elim
    (λ low. escape_of-fits b letter bytes (escaped_char letter) low)
    (λ high. subst (λ character. EscapeFits (b ∷ letter ∷ bytes) (escape_of character)) (sym (escaped_char-none letter high)) broken)
    (cases_lt letter 128)

escape_at-fits : (b : ℕ) (bytes : List ℕ) → EscapeFits (b ∷ bytes) (escape_at bytes)
unfolding escape_at
escape_at-fits b [] = broken
escape_at-fits b (letter ∷ bytes) =
    cond_both (eqb letter 117) (unit_of (hex4 bytes) (drop 4 bytes)) (escape_of (escaped_char letter)) (EscapeFits (b ∷ letter ∷ bytes))
    (λ _. unit_of-fits b letter bytes (hex4 bytes) (hex4-fits bytes))
    (λ _. letter-fits b letter bytes)

-- what a part says of the bytes
pub data PartFits (quote : ℕ) (bytes : List ℕ) : QuotedPart → Type 0 where
  end_fits : 0 < length bytes → get_or bytes 0 0 ≡ quote → PartFits quote bytes End
  plain_fits : 0 < length bytes → is_plain quote (get_or bytes 0 0) ≡ true → PartFits quote bytes Plain
  stands_fits : {character n : ℕ} → EndsInAscii bytes n → PartFits quote bytes (Stands character n)
  broken_fits : PartFits quote bytes Broken

escape-part : {quote : ℕ} {bytes : List ℕ} {part : QuotedPart} → EscapeFits bytes part → PartFits quote bytes part
escape-part (stands_cut h) = stands_fits h
escape-part broken = broken_fits

quote_at-fits : (quote b : ℕ) (bytes : List ℕ) → quote < 128 → b ≡ quote → PartFits quote (b ∷ bytes) (quote_at quote bytes)
quote_at-fits quote b [] low same = end_fits (omega arith) same
quote_at-fits quote b (next ∷ bytes) low same =
    cond_both (eqb next quote) (Stands quote 2) End (PartFits quote (b ∷ next ∷ bytes))
    (λ h. stands_fits (record { some = omega arith; within = omega arith; ascii = omega (arith, eqb-true next quote h) }))
    (λ _. end_fits (omega arith) same)

pub part_at-fits : (quote : ℕ) (bytes : List ℕ) → quote < 128 → PartFits quote bytes (part_at quote bytes)
unfolding part_at
part_at-fits quote [] low = broken_fits
part_at-fits quote (b ∷ bytes) low =
    cond_both (eqb b quote) (quote_at quote bytes) (cond (is_escape quote b) (escape_at bytes) Plain) (PartFits quote (b ∷ bytes))
    (λ h. quote_at-fits quote b bytes low (eqb-true b quote h))
    (λ other. cond_both (is_escape quote b) (escape_at bytes) Plain (PartFits quote (b ∷ bytes))
    (λ _. escape-part (escape_at-fits b bytes))
    (λ no_escape. plain_fits (omega arith) (and_from _ _ (not_from_false _ other) (not_from_false _ no_escape))))

-- a plain byte stands for itself
pub part_at-plain : (quote b : ℕ) (bytes : List ℕ) → is_plain quote b ≡ true → part_at quote (b ∷ bytes) ≡ Plain
unfolding part_at
part_at-plain quote b bytes h =
    let two = and_parts _ _ h in
    cond-false _ _ _ (not-true _ two.0) ∙ cond-false _ _ _ (not-true _ two.1)

-- two readings of the same part
stands-same : {c d m n : ℕ} → Stands c m ≡ Stands d n → (c ≡ d) × (m ≡ n)
stands-same e = (cc, cc)

-- what is left behind a plain byte
pub record AfterPlain (quote b : ℕ) (bytes text : List ℕ) (len : ℕ) : Type 0 where
  pub rest_text : List ℕ
  pub rest_len : ℕ
  pub rest : IsQuoted quote bytes rest_text rest_len
  pub text_is : text ≡ b ∷ rest_text
  pub len_is : len ≡ 1 + rest_len

-- what is left behind a character that some bytes stand for
pub record AfterStands (quote : ℕ) (bytes : List ℕ) (character n : ℕ) (text : List ℕ) (len : ℕ) : Type 0 where
  pub rest_text : List ℕ
  pub rest_len : ℕ
  pub rest : IsQuoted quote (drop n bytes) rest_text rest_len
  pub text_is : text ≡ encode_utf8 character ++ rest_text
  pub len_is : len ≡ n + rest_len

module _ {quote : ℕ} where
  pub quoted-at_end : {bytes text : List ℕ} {len : ℕ} → part_at quote bytes ≡ End → IsQuoted quote bytes text len → (text ≡ []) × (len ≡ 1)
  quoted-at_end e (ends _) = (refl, refl)
  quoted-at_end e (plain p _) = cc
  quoted-at_end e (stands p _) = cc

  pub quoted-at_broken : {bytes text : List ℕ} {len : ℕ} → part_at quote bytes ≡ Broken → IsQuoted quote bytes text len → ⊥
  quoted-at_broken e (ends p) = cc
  quoted-at_broken e (plain p _) = cc
  quoted-at_broken e (stands p _) = cc

  pub quoted-at_plain : {b : ℕ} {bytes text : List ℕ} {len : ℕ} → part_at quote (b ∷ bytes) ≡ Plain → IsQuoted quote (b ∷ bytes) text len → AfterPlain quote b bytes text len
  quoted-at_plain e (ends p) = absurd cc
  quoted-at_plain e (plain p r) = record { rest_text = _; rest_len = _; rest = r; text_is = refl; len_is = refl }
  quoted-at_plain e (stands p _) = absurd cc

  pub quoted-at_stands : {bytes text : List ℕ} {character n len : ℕ} → part_at quote bytes ≡ Stands character n → IsQuoted quote bytes text len → AfterStands quote bytes character n text len
  quoted-at_stands e (ends p) = absurd cc
  quoted-at_stands e (plain p _) = absurd cc
  quoted-at_stands {bytes} e (stands {text = rest} {len = more} p r) =
      let same = stands-same (sym p ∙ e) in
      record {
        rest_text = rest;
        rest_len = more;
        rest = subst (λ m. IsQuoted quote (drop m bytes) rest more) same.1 r;
        text_is = ap (λ c. encode_utf8 c ++ rest) same.0;
        len_is = ap (λ m. m + more) same.1;
      }

-- quoted text stands for one text, and has one length
pub quoted-same : {quote : ℕ} {bytes text other : List ℕ} {len more : ℕ} → IsQuoted quote bytes text len → IsQuoted quote bytes other more → (text ≡ other) × (len ≡ more)
quoted-same (ends p) other = let at = quoted-at_end p other in (sym at.0, sym at.1)
quoted-same (plain {b = b} p r) other =
    let at = quoted-at_plain p other in
    let same = quoted-same r at.rest in
    (ap (λ t. b ∷ t) same.0 ∙ sym at.text_is, ap (λ n. 1 + n) same.1 ∙ sym at.len_is)
quoted-same (stands {character = c} {n = n} p r) other =
    let at = quoted-at_stands p other in
    let same = quoted-same r at.rest in
    (ap (λ t. encode_utf8 c ++ t) same.0 ∙ sym at.text_is, ap (λ m. n + m) same.1 ∙ sym at.len_is)

pub end-fits : {quote : ℕ} {bytes : List ℕ} → PartFits quote bytes End → (0 < length bytes) × (get_or bytes 0 0 ≡ quote)
end-fits (end_fits inside same) = (inside, same)

plain-fits : {quote : ℕ} {bytes : List ℕ} → PartFits quote bytes Plain → (0 < length bytes) × (is_plain quote (get_or bytes 0 0) ≡ true)
plain-fits (plain_fits inside h) = (inside, h)

not_plain-ascii : (quote b : ℕ) → quote < 128 → is_plain quote b ≡ false → b < 128
not_plain-ascii quote b low h = grind (arith, nat_tests)

pub stands-fits : {quote : ℕ} {bytes : List ℕ} {character n : ℕ} → PartFits quote bytes (Stands character n) → EndsInAscii bytes n
stands-fits (stands_fits h) = h

-- quoted text ends with its quote
pub quoted-ends : {quote : ℕ} {bytes text : List ℕ} {len : ℕ} → quote < 128 → IsQuoted quote bytes text len → EndsInAscii bytes len
quoted-ends {quote} {bytes} low (ends p) =
    let fits = end-fits (subst (PartFits quote bytes) p (part_at-fits quote bytes low)) in
    record { some = omega arith; within = omega (arith, fits.0); ascii = omega (arith, fits.1) }
quoted-ends low (plain {b = b} {bytes = bytes} {len = len} p r) = ends_later (b ∷ bytes) 1 len (quoted-ends low r)
quoted-ends low (stands {bytes = bytes} {len = len} {n = n} p r) = ends_later bytes n len (quoted-ends low r)

-- plain bytes stand for themselves
quoted-after_plain : (quote n : ℕ) (bytes text : List ℕ) (len : ℕ) → ((k : ℕ) → k < n → is_plain quote (get_or bytes k 0) ≡ true) →
    n ≤ length bytes → IsQuoted quote (drop n bytes) text len → IsQuoted quote bytes (take n bytes ++ text) (n + len)
quoted-after_plain quote zero bytes text len each inside r = subst (λ m. IsQuoted quote bytes text m) (omega arith) r
quoted-after_plain quote (suc n) [] text len each inside r = absurd (omega arith)
quoted-after_plain quote (suc n) (b ∷ bytes) text len each inside r =
    let later = quoted-after_plain quote n bytes text len (λ k below. each (suc k) (omega arith)) (omega arith) r in
    subst (λ m. IsQuoted quote (b ∷ bytes) (b ∷ (take n bytes ++ text)) m) (omega arith)
    (plain (part_at-plain quote b bytes (each 0 (omega arith))) later)

-- quoted text goes on behind plain bytes
quoted-past_plain : (quote n : ℕ) (bytes text : List ℕ) (len : ℕ) → ((k : ℕ) → k < n → is_plain quote (get_or bytes k 0) ≡ true) →
    n ≤ length bytes → IsQuoted quote bytes text len → (rest : List ℕ) × (more : ℕ) × IsQuoted quote (drop n bytes) rest more
quoted-past_plain quote zero bytes text len each inside r = (text, len, r)
quoted-past_plain quote (suc n) [] text len each inside r = absurd (omega arith)
quoted-past_plain quote (suc n) (b ∷ bytes) text len each inside r =
    let at = quoted-at_plain (part_at-plain quote b bytes (each 0 (omega arith))) r in
    quoted-past_plain quote n bytes at.rest_text at.rest_len (λ k below. each (suc k) (omega arith)) (omega arith) at.rest

module _ (quote : ℕ) (bytes : List ℕ) where
  -- the number of plain bytes at the front
  abbrev pub run_len : ℕ
  run_len = prefix_len (is_plain quote) bytes

  pub quoted-after_run : (text : List ℕ) (len : ℕ) → IsQuoted quote (drop run_len bytes) text len → IsQuoted quote bytes (take run_len bytes ++ text) (run_len + len)
  quoted-after_run text len r =
      quoted-after_plain quote run_len bytes text len (λ k below. prefix_len_passes (is_plain quote) bytes k 0 below) (prefix_len-le-length (is_plain quote) bytes) r

  pub quoted-past_run : (text : List ℕ) (len : ℕ) → IsQuoted quote bytes text len → (rest : List ℕ) × (more : ℕ) × IsQuoted quote (drop run_len bytes) rest more
  quoted-past_run text len r =
      quoted-past_plain quote run_len bytes text len (λ k below. prefix_len_passes (is_plain quote) bytes k 0 below) (prefix_len-le-length (is_plain quote) bytes) r

  -- a plain byte begins a run
  pub run_len-some : quote < 128 → part_at quote bytes ≡ Plain → 0 < run_len
  run_len-some low p =
      let fits = plain-fits (subst (PartFits quote bytes) p (part_at-fits quote bytes low)) in
      omega (arith, prefix_len-drop_yes (is_plain quote) bytes 0 0 fits.0 fits.1)

  -- the byte behind the run is ASCII, so the text may be cut there
  pub run-boundary : quote < 128 → IsCharBoundary bytes run_len
  run-boundary low = (
    prefix_len-le-length (is_plain quote) bytes,
    λ inside high. absurd (omega (arith, not_plain-ascii quote (get_or bytes run_len 0) low (prefix_len_stops (is_plain quote) bytes 0 inside))),
  )
