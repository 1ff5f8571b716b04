-- What contracts see of a tree.
use Rattle.std.specs.Prelude.{ℕ, List}
use Rattle.n1ql_value.specs.declared.row.Row.{Row}

-- the rows in their order, and how many more go in without memory
pub record TreeRows : Type 0 where
  pub rows : List Row
  pub room : ℕ
