use Rattle.std.proofs.Common.{◌∷◌, [], ◌++◌, ◌∙◌, ap, ℕ, List, map}
use Rattle.script_text.specs.Lines.{joined, member_text}
use Rattle.script_text.specs.inner.ReportMembers.{named_texts}
use Rattle.script_text.proofs.LineLemmas.{two_parts, written_texts, end_of_object}
use Rattle.script_text.proofs.reporting.line.put_object.Goals as goal

pub returns : goal.returns
returns c =
    let o = c.args.out.now.items in
    let begun = two_parts o c.put.new.out.items c.put_members.new.out.items (123 ∷ []) (joined (map member_text (named_texts c.args.members.now))) c.in_ok-put.ensures
    (c.in_ok-put_members.ensures ∙ ap (λ (ts : List (List ℕ)). c.put.new.out.items ++ joined ts) (written_texts c.args.members.now)) in
    end_of_object o c.put_members.new.out.items c.put-2.new.out.items (named_texts c.args.members.now) begun c.in_ok-put-2.ensures
