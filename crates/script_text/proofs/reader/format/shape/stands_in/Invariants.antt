use Rattle.std.proofs.Common.{◌≡◌, drop}
use Rattle.script_text.specs.Rows.{stands_in}
use Rattle.script_text.proofs.reader.format.shape.stands_in.Given as goal

-- no member of the row so far has the name
abbrev pub invariant-loop-member : goal.invariant-loop-member
invariant-loop-member l = stands_in l.row l.name l.value ≡ stands_in (drop l.member-index l.row) l.name l.value
