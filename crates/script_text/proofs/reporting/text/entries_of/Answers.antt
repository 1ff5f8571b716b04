use Rattle.std.proofs.Common.{arith, ap, ◌∙◌, ℕ, cond, eqb}
use Rattle.std.specs.Prelude.{decimal}
use Rattle.serde_json.specs.Data.{number, unsigned, put}
use Rattle.serde_json.specs.View.{members_view}
use Rattle.serde_json.specs.Data.{no_members}
use Rattle.script_text.specs.Lines.{with_entries}
use Rattle.script_text.proofs.LineLemmas.{entry_more}
use Rattle.script_text.proofs.reporting.text.entries_of.Goals as goal

pub loop-vb-preserved : goal.loop-vb-preserved
loop-vb-preserved c =
    let v = c.args.vector.now in
    let old = members_view c.loop-vb.found.entries in
    entry_more v c.loop-vb.vb old (members_view c.put_entry.new.found.entries) (with_entries 0 v no_members) (omega (arith, c.loop-vb-test.true, c.len-vb-end.ensures.count))
    (c.in_ok-put_entry.ensures ∙ ap (λ (n : ℕ). cond (eqb n 0) old (put (decimal c.loop-vb.vb) (number (unsigned n)) old)) c.get.ensures) c.loop-vb.invariant
