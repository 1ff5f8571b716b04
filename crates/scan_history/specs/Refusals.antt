-- The codes of refusals, in the order in which they are tested.
use Rattle.std.specs.Prelude.{ℕ}

-- the text is no statement
abbrev pub parse : ℕ
parse = 1

-- the statement is on another keyspace
abbrev pub keyspace : ℕ
keyspace = 2

-- there is a reason against the definition
abbrev pub bad_definition : ℕ
bad_definition = 3

-- a live index has the name
abbrev pub exists : ℕ
exists = 4

-- no live index has the name
abbrev pub unknown_index : ℕ
unknown_index = 5

-- the index isn't deferred
abbrev pub not_deferred : ℕ
not_deferred = 6

-- as many indexes were created as there may be
abbrev pub too_many_indexes : ℕ
too_many_indexes = 7

-- the index isn't online
abbrev pub not_online : ℕ
not_online = 8

-- what the command began on was dropped
abbrev pub dropped : ℕ
dropped = 10
