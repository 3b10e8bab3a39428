-- The data of bytes.
use Rattle.std.specs.Prelude.{ℕ, cond, List, Option, Some, None, option_and_then}
use Rattle.std.specs.Str.{is_utf8}
use Rattle.json.specs.Json as json
use Rattle.json.specs.Lex.{tokens}
use Rattle.serde_json.specs.Data.{Data}
use Rattle.serde_json.specs.Read.{max_depth, read}
use Rattle.json_read.specs.Meant.{is_within}

-- bytes that are UTF-8 and JSON of at most 127 levels, each number of which is within the range of a float; of equal keys in one object
-- the last counts
abbrev pub document_of : List ℕ → Option Data
document_of bytes = cond (is_utf8 bytes) (read bytes) None

-- the tree of a text of at most 127 levels
abbrev pub tree_of : List ℕ → Option json.Json
tree_of text = option_and_then (λ p. json.if_last p.0 p.1) (json.value max_depth (tokens text))

-- a tree is kept where each number is within range
abbrev pub kept : Option json.Json → Option json.Json
kept None = None
kept (Some j) = cond (is_within j) (Some j) None
