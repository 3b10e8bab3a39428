-- The default category combination and its one option combination, which are in every metadata file.
use Rattle.std.specs.Prelude.{ℕ, List, Bool, ◌||◌, bytes_eq}
use lib.Chars.{codes}

unfoldable pub default_combo : List ℕ
default_combo = codes "bjDvmb4bfuf"

unfoldable pub default_option_combo : List ℕ
default_option_combo = codes "HllvX50cXC0"

-- objects of a file with one of these identifiers are passed over
unfoldable pub is_built_in : List ℕ → Bool
is_built_in id = bytes_eq id default_combo || bytes_eq id default_option_combo
