-- What stands above all others.
use Rattle.std.specs.Prelude.{◌≡◌, false, List}
use Rattle.std.specs.List.{All, Contains}
use Rattle.std.specs.Ordering.{is_gt}
use Rattle.std.specs.declared.cmp.Ordering.{Ordering}
use Rattle.n1ql_value.specs.declared.datum.Datum.{Datum}

-- it is one of the values, and no value stands above it
pub record IsTopmost (R : Datum → Datum → Ordering) (ds : List Datum) (top : Datum) : Type 0 where
  pub among : Contains ds top
  pub above : All (λ d. is_gt (R d top) ≡ false) ds
