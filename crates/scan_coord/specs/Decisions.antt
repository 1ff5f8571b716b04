-- Whether a publication covers what is wanted.
use Rattle.std.specs.Prelude.{ℕ, List, Option, Some, None}
use Rattle.seq_vector.specs.Vectors.{entry, first_short}
use Rattle.scan_coord.specs.declared.decision.Decision.{Decision}
use Rattle.scan_coord.specs.declared.decision.Decision.TheVariants.{Covered, NotYet}

-- the decision at a vBucket that is short, or where there is none
abbrev pub decision_at : List ℕ → List ℕ → Option ℕ → Decision
decision_at wanted newest None = Covered
decision_at wanted newest (Some vb) = NotYet vb (entry wanted vb) (entry newest vb)

-- covered where the newest vector reaches what is wanted everywhere, else the least vBucket where it doesn't
abbrev pub decision_of : List ℕ → List ℕ → Decision
decision_of wanted newest = decision_at wanted newest (first_short newest wanted)
