-- Where a text may be cut.
use Rattle.std.proofs.Common.{◌≡◌, ℕ, ◌+◌, ◌-◌, ◌<◌, ◌≤◌, Bool, true, List, length, get_or, drop, ap, ◌∙◌, subst, ⊎_elim, arith, get_or-drop, length-drop}
use Rattle.std.specs.List.{prefix_len}
use Rattle.std.specs.Str.{IsUtf8, IsCharBoundary}
use Rattle.std.proofs.lemmas.Bool.{cases_lt}
use Rattle.std.proofs.lemmas.List.Sums.{prefix_len_passes, prefix_len-le-length}
use Rattle.std.proofs.lemmas.Str.{IsCharBoundary-after_ascii, IsCharBoundary-start}

-- n bytes at the front, the last of which is ASCII, so that a text may be cut behind them
pub record EndsInAscii (bytes : List ℕ) (n : ℕ) : Type 0 where
  pub some : 0 < n
  pub within : n ≤ length bytes
  pub ascii : get_or bytes (n - 1) 0 < 128

-- a text may be cut there
pub EndsInAscii-boundary : (bytes : List ℕ) (n : ℕ) → EndsInAscii bytes n → IsUtf8 bytes → IsCharBoundary bytes n
EndsInAscii-boundary bytes n h utf8 =
    let some = h.some in
    let within = h.within in
    let place : n - 1 + 1 ≡ n = omega arith in
    subst (IsCharBoundary bytes) place (IsCharBoundary-after_ascii bytes (n - 1) utf8 (omega arith) h.ascii)

-- behind some bytes, more that end in an ASCII byte
pub ends_later : (bytes : List ℕ) (n len : ℕ) → EndsInAscii (drop n bytes) len → EndsInAscii bytes (n + len)
ends_later bytes n len h = record {
  some = omega (arith, h.some);
  within = omega (arith, h.some, h.within, length-drop n bytes);
  ascii =
      let some = h.some in
      let place : n + (len - 1) ≡ n + len - 1 = omega arith in
      let at : get_or (drop n bytes) (len - 1) 0 ≡ get_or bytes (n + len - 1) 0 = get_or-drop n bytes (len - 1) 0 ∙ ap (λ i. get_or bytes i 0) place in
      subst (λ last. last < 128) at h.ascii;
}

-- behind its longest front of ASCII bytes of some kind
pub prefix-boundary : (passes : ℕ → Bool) → ((b : ℕ) → passes b ≡ true → b < 128) → (bytes : List ℕ) → IsUtf8 bytes → IsCharBoundary bytes (prefix_len passes bytes)
prefix-boundary passes ascii bytes utf8 =
    let n = prefix_len passes bytes in
    let within = prefix_len-le-length passes bytes in
    ⊎_elim
    (λ some. EndsInAscii-boundary bytes n (record { some = some; within = within; ascii = ascii _ (prefix_len_passes passes bytes (n - 1) 0 (omega arith)) }) utf8)
    (λ none. let at : 0 ≡ n = omega arith in subst (IsCharBoundary bytes) at (IsCharBoundary-start bytes utf8))
    (cases_lt 0 n)
