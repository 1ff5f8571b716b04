-- What each client's last request has to cover, as the code keeps it: a list by client, with places of clients that made none.
use Rattle.std.specs.Prelude.{ℕ, List, [], Option, option_and_then, slice_get}
use Rattle.std.specs.Option.{option_map_or}

abbrev pub demand_in : List (Option (List ℕ)) → ℕ → List ℕ
demand_in demands c = option_map_or (λ demand. demand) (option_and_then (λ demand. demand) (slice_get demands c)) []
