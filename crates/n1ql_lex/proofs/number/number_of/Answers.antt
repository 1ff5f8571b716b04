use Rattle.std.proofs.Common.{◌≡◌, true, length, get_or, sym, ◌∙◌, subst, arith, length-take-le, get_or-take}
use Rattle.std.specs.Char.{is_ascii_digit}
use Rattle.std.specs.List.{prefix_len}
use Rattle.std.proofs.lemmas.List.Sums.{prefix_len_passes, prefix_len-le-length}
use Rattle.n1ql_lex.proofs.number.number_of.Goals as goal

-- the digits at the front are digits
pub value_of-requires : goal.value_of-requires
value_of-requires c = λ k d below.
    let bytes = c.args.bytes.now in
    let len : c.args.len ≡ prefix_len is_ascii_digit bytes = c.requires ∙ length-take-le (prefix_len is_ascii_digit bytes) bytes (prefix_len-le-length is_ascii_digit bytes) in
    let front_len : length c.split_at.result.0.now ≡ c.args.len = c.split_at.ensures.front_len in
    subst (λ digits. is_ascii_digit (get_or digits k d) ≡ true) (sym c.split_at.ensures.front)
    (subst (λ b. is_ascii_digit b ≡ true) (sym (get_or-take c.args.len bytes k d (omega arith))) (prefix_len_passes is_ascii_digit bytes k d (omega arith)))
