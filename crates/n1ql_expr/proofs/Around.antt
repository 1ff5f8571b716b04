-- The names that are bound inside one more frame, and the innermost of a name among frames and base.
use Rattle.std.proofs.Common.{◌≡◌, ℕ, List, ◌∷◌, Bor, sym, ap, ◌∙◌}
use Rattle.n1ql_value.specs.declared.value.Value.{Value}
use Rattle.n1ql_expr.specs.declared.binding.Binding.{Binding}
use Rattle.n1ql_expr.specs.declared.frames.Frames.{Frames}
use Rattle.n1ql_expr.specs.declared.frames.Frames.TheOpen.{Frames-F}
use Rattle.n1ql_expr.specs.declared.frames.Frames.TheViews.{Inside, rolls-Inside}
use Rattle.n1ql_expr.specs.declared.frames.Frames.TheFolds.{fold-roll-Frames}
use Rattle.n1ql_expr.specs.Scopes.{locals_of, locals_step, named}

pub around : (f : Bor Frames) (b : Binding) → locals_of (Inside f b) ≡ named b ∷ locals_of f.now
around f b = ap locals_of (sym (rolls-Inside f b)) ∙ fold-roll-Frames (List (List ℕ × Value)) locals_step (Frames-F.Inside f b)
