use Rattle.std.proofs.Common.{get_or, refl}
use Rattle.script_text.proofs.Digits.{number_of_digits-none, number_of_digits-more}
use Rattle.script_text.proofs.reader.values.sparse_vector.is_number_below.Goals as goal

pub loop-digit-init : goal.loop-digit-init
loop-digit-init c = number_of_digits-none c.args.end

pub loop-digit-preserved : goal.loop-digit-preserved
loop-digit-preserved c =
    let digits = c.args.digits.now in
    let i = c.loop-digit.digit-index in
    let step = number_of_digits-more digits i c.args.end c.loop-digit.number (get_or digits i 0) c.loop-digit-test.true c.loop-digit.invariant refl in
    cc
