-- The parts of clients, as the code holds them.
use Rattle.std.specs.Prelude.{List, map}
use Rattle.scan_history.specs.Fold.{Opened, nothing, work, started, Client}
use Rattle.gsi_hub.specs.declared.part.Open.{Open}
use Rattle.gsi_hub.specs.declared.part.Open.TheVariants as open_as
use Rattle.gsi_hub.specs.declared.part.Part.{Part}

abbrev pub opened_of : Open → Opened
opened_of open_as.Nothing = nothing
opened_of (open_as.Work w) = work w.indexes w.high
opened_of (open_as.Started i demand high) = started i demand high

abbrev pub part_of : Part → Client
part_of p = record { opened = opened_of p.opened; next = p.next; seen = p.session.seen; wrote = p.session.wrote }

abbrev pub parts_of : List Part → List Client
parts_of parts = map part_of parts
