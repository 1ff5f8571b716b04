use Rattle.script_text.proofs.Limits.{passed-lines, not_passed-lines}
use Rattle.script_text.proofs.reader.script.reading.read_item_lines.Goals as goal

pub returns-in_ok-check_lines-in-Some : goal.returns-in_ok-check_lines-in-Some
returns-in_ok-check_lines-in-Some c =
    passed-lines c.args.header c.args.lines c.len.result c.in-Some.passed c.len.ensures c.in-Some.ensures c.in_ok-check_lines-in-Some.ensures

pub returns-in_ok-items-in-None : goal.returns-in_ok-items-in-None
returns-in_ok-items-in-None c =
    not_passed-lines c.args.header c.args.lines c.len.result c.in_ok-items-in-None.items c.within_scans.result c.len.ensures c.in-None.ensures
    c.in_ok-items-in-None.ensures c.within_scans.ensures
