use Rattle.script_text.proofs.LineLaws.{entry-named, entry-unnamed}
use Rattle.script_text.proofs.Vectors.{vector_of-length}
use Rattle.script_text.proofs.line_laws.vectors_have_what_is_named.Goals as goal

pub returns-clause-size : goal.returns-clause-size
returns-clause-size c n entries = vector_of-length n entries

pub returns-clause-named : goal.returns-clause-named
returns-clause-named c n vb x entries h e = entry-named n vb x entries h e

pub returns-clause-unnamed : goal.returns-clause-unnamed
returns-clause-unnamed c n vb entries h e = entry-unnamed n vb entries h e
