-- The index of documents, computed afresh, and a scan of it.
use Rattle.std.specs.Prelude.{List}
use Rattle.std.specs.List.{filter}
use Rattle.n1ql_value.specs.declared.range.Range.{Range}
use Rattle.n1ql_value.specs.declared.row.Row.{Row}
use Rattle.n1ql_value.specs.Documents.{Documents, index_by}
use Rattle.n1ql_value.specs.Ranges.{some_span_holds}
use Rattle.index_def.specs.declared.definition.IndexDef.{IndexDef}
use Rattle.index_def.specs.Keys.{keys_of}

-- the rows of all documents, in order, repeats kept
abbrev pub index_of : IndexDef → Documents → List Row
index_of def docs = index_by (keys_of def) docs

-- the rows of the index that some span holds, each as often as it stands there, in the same order
abbrev pub scan_of : IndexDef → List (List Range) → Documents → List Row
scan_of def spans docs = filter (λ row. some_span_holds spans row.keys) (index_of def docs)
