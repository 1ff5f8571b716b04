-- The limits of the service: for each what a script, a statement or an answer may have at most.
use Rattle.std.specs.Prelude.{ℕ}

-- the greatest number of bytes of an input
abbrev pub max_input_bytes : ℕ
max_input_bytes = 4194304

-- the greatest number of lines of a script, without its header and blank ones
abbrev pub max_lines : ℕ
max_lines = 65536

-- the greatest product of a script's vBuckets and those lines
abbrev pub max_product : ℕ
max_product = 4194304

-- the greatest number of scans and queries of a script
abbrev pub max_scans : ℕ
max_scans = 1024

-- the greatest number of vBuckets
abbrev pub max_vbuckets : ℕ
max_vbuckets = 1024

-- the greatest number of clients
abbrev pub max_clients : ℕ
max_clients = 64

-- the greatest number of indexing threads
abbrev pub max_workers : ℕ
max_workers = 16

-- the greatest size of a batch of mutations
abbrev pub max_batch : ℕ
max_batch = 4096

-- the greatest number of indexes that the statements of a script may create
abbrev pub max_indexes : ℕ
max_indexes = 16

-- the greatest number of keys of an index
abbrev pub max_keys : ℕ
max_keys = 16

-- the greatest number of bytes of a document's id
abbrev pub max_id_bytes : ℕ
max_id_bytes = 250

-- the greatest number of bytes of a keyspace's name
abbrev pub max_keyspace_bytes : ℕ
max_keyspace_bytes = 100

-- the greatest number of tokens of a statement
abbrev pub max_tokens : ℕ
max_tokens = 512

-- the greatest number of spans of a scan
abbrev pub max_spans : ℕ
max_spans = 64

-- the greatest number of ranges of a span
abbrev pub max_ranges : ℕ
max_ranges = 16

-- the greatest number of bytes of the text of one answer
abbrev pub max_answer_bytes : ℕ
max_answer_bytes = 1048576
