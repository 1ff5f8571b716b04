-- The environment that a scope stands for, and the value of an operand.
use Rattle.std.specs.Prelude.{ℕ, List, [], ◌∷◌, ◌++◌, None, map, reverse}
use Rattle.std.specs.Option.{option_copied}
use Rattle.n1ql_value.specs.declared.datum.Datum.{Datum}
use Rattle.n1ql_value.specs.declared.value.Value.{Value}
use Rattle.n1ql_ast.specs.Evaluation.{Environment}
use Rattle.n1ql_expr.specs.declared.binding.Binding.{Binding}
use Rattle.n1ql_expr.specs.declared.env.Env.{Env}
use Rattle.n1ql_expr.specs.declared.frames.Frames.{Frames, fold-Frames}
use Rattle.n1ql_expr.specs.declared.frames.Frames.TheOpen.{Frames-F}
use Rattle.n1ql_expr.specs.declared.scope.Scope.{Scope}
use Rattle.n1ql_expr.specs.declared.operand.Operand.{Operand}
use Rattle.n1ql_expr.specs.declared.operand.Operand.TheVariants.{Held, Made}

abbrev pub operand_value : Operand → Value
operand_value (Held v) = v.now
operand_value (Made v) = v

-- a bound name and its value
abbrev pub named : Binding → List ℕ × Value
named b = (b.name.now, b.value.now)

-- the names of bindings of which the innermost is the last
abbrev pub innermost_first : List Binding → List (List ℕ × Value)
innermost_first bindings = reverse (map named bindings)

-- a value that is no document, with no name bound
abbrev pub off_document : Value → List Datum → Environment
off_document doc keys = record { id = None; doc = doc; keys = keys; bound = [] }

-- the environment of a base: the names that are bound are those of the row
abbrev pub environment_on : Env → Environment
environment_on env = record { id = option_copied env.id; doc = env.doc.now; keys = env.keys.now; bound = innermost_first env.bound.now }

abbrev pub locals_step : Frames-F (List (List ℕ × Value)) → List (List ℕ × Value)
locals_step Frames-F.Outermost = []
locals_step (Frames-F.Inside outer local) = named local ∷ outer.now

-- the names that frames bind, the innermost first
abbrev pub locals_of : Frames → List (List ℕ × Value)
locals_of = fold-Frames (List (List ℕ × Value)) locals_step

-- an environment inside the frames of names
abbrev pub with_locals : List (List ℕ × Value) → Environment → Environment
with_locals locals env = record { id = env.id; doc = env.doc; keys = env.keys; bound = locals ++ env.bound }

-- the environment that an expression in a scope is evaluated on: the base, inside the frames
abbrev pub environment_of : Scope → Environment
environment_of scope = with_locals (locals_of scope.frames) (environment_on scope.base.now)
