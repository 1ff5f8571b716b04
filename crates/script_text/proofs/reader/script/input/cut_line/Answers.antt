use Rattle.std.proofs.Common.{◌+◌, ◌-◌, ◌∷◌, ap, ◌∙◌, sym, length, take, drop, arith, length-drop, take_all}
use Rattle.script_text.specs.Input.{lines_of}
use Rattle.script_text.proofs.Input.{lines_of-at, lines_of-last}
use Rattle.script_text.proofs.reader.script.input.cut_line.Goals as goal

pub returns-in-Some-clause-lines : goal.returns-in-Some-clause-lines
returns-in-Some-clause-lines c =
    let bytes = c.args.bytes.now in
    let n = c.in-Some.end in
    lines_of-at bytes n (sym c.in-Some.ensures)
    ∙ ap (λ rest. take n bytes ∷ lines_of rest) (sym (take_all (length bytes - (n + 1)) (drop (n + 1) bytes) (omega (arith, length-drop (n + 1) bytes))))

pub returns-in-None-clause-lines : goal.returns-in-None-clause-lines
returns-in-None-clause-lines c = lines_of-last c.args.bytes.now c.requires (sym c.in-None.ensures)
