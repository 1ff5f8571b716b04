use Rattle.std.proofs.Common.{sym, ap, ◌∙◌}
use Rattle.std.specs.Option.{option_copied}
use Rattle.n1ql_expr.specs.Scopes.{innermost_first, locals_of}
use Rattle.n1ql_expr.proofs.Bindings.{bound_in_frame, bound_outside}
use Rattle.n1ql_expr.proofs.scope.Scope.bound_to.Goals as goal

pub returns-in-Some : goal.returns-in-Some
returns-in-Some c =
    let here = ap option_copied (sym c.in-Some.is) ∙ c.bound_to.ensures in
    sym (bound_in_frame c.args.name.now (locals_of c.args.self.now.frames) (innermost_first c.args.self.now.base.now.bound.now) c.in-Some.value.now (sym here))

pub returns-in-None : goal.returns-in-None
returns-in-None c =
    let none = ap option_copied (sym c.in-None.is) ∙ c.bound_to.ensures in
    c.bound_to-in-None.ensures
    ∙ sym (bound_outside c.args.name.now (locals_of c.args.self.now.frames) (innermost_first c.args.self.now.base.now.bound.now) (sym none))
