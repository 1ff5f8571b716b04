use Rattle.std.proofs.Common.{sym, arith}
use Rattle.std.proofs.lemmas.List.Sums.{prefix_len_is}
use Rattle.n1ql_lex.specs.Quoted.{is_plain}
use Rattle.n1ql_lex.proofs.quoted_text.plain_len.Goals as goal

-- each byte is plain
pub returns-after-loop-len : goal.returns-after-loop-len
returns-after-loop-len c =
    let inv = c.loop-len.invariant in
    sym (prefix_len_is (is_plain c.args.quote) c.args.bytes.now c.loop-len.len 0 inv.0 inv.1 (λ inside. absurd (omega arith)))
