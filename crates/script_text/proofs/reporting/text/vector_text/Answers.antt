use Rattle.std.proofs.Common.{ap, ◌∙◌, refl}
use Rattle.serde_json.specs.Data.{object, no_members}
use Rattle.serde_json.specs.Written.{has_float, compact_text}
use Rattle.serde_json.proofs.Views.{view-Object}
use Rattle.script_text.specs.Lines.{vector_text}
use Rattle.script_text.proofs.LineLemmas.{entries_free}
use Rattle.script_text.proofs.reporting.text.vector_text.Goals as goal

pub returns : goal.returns
unfolding vector_text
returns c =
    let seen = view-Object c.in_ok-entries.entries ∙ ap object c.in_ok-entries.ensures in
    let free = ap has_float seen ∙ entries_free 0 c.args.vector.now no_members refl in
    c.in_ok-to_vec.ensures.text free ∙ ap compact_text seen
