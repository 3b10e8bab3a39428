-- The grammar of the command line: `query USER QUERY`, `session META`, `generate N`, `serve META ADDR WORKERS CONNECTIONS`, `--help` and
-- `--version`.
use Rattle.std.specs.Prelude.{◌≡◌, ◌≤◌, ◌<◌, ⊤, ℕ, ◌+◌, min, Bool, true, false, cond, not, ◌&&◌, List, [], ◌∷◌, length, nat_eq, nat_le, nat_lt, codes, Option}
use Rattle.std.specs.Prelude.{None, Some}
use Rattle.std.specs.List.{list_all}
use Rattle.std.specs.Char.{is_ascii_digit}
use Rattle.std.specs.Cmp.Lexicographic.{pointwise}
use Rattle.std.specs.Str.Parse.{digits_value}
use Rattle.dhis_main.specs.declared.words.Command.{Command}
use Rattle.dhis_main.specs.declared.words.Command.TheVariants as command

abbrev pub is_word : List ℕ → List ℕ → Bool
is_word word expected = pointwise nat_eq word expected

abbrev pub is_last : List (List ℕ) → Bool
is_last [] = true
is_last (word ∷ words) = false

-- the text of a query has at most 16384 bytes
abbrev pub fits_query : List ℕ → Bool
fits_query query = nat_le (length query) 16384

-- the words after `query`; a bad word is told by its place, and so are one that is missing and one too many
abbrev pub query_words : List (List ℕ) → Command
query_words [] = command.Bad 2
query_words (user ∷ []) = command.Bad 3
query_words (user ∷ query ∷ []) = cond (fits_query query) command.Query (command.Bad 3)
query_words (user ∷ query ∷ other ∷ rest) = cond (fits_query query) (command.Bad 4) (command.Bad 3)

-- the words after `session`
abbrev pub session_words : List (List ℕ) → Command
session_words [] = command.Bad 2
session_words (meta ∷ []) = command.Session
session_words (meta ∷ other ∷ rest) = command.Bad 3

-- 1 to 7 digits, the first of them not 0
abbrev pub begins_with_zero : List ℕ → Bool
begins_with_zero [] = false
begins_with_zero (first ∷ rest) = nat_eq first 48

unfoldable pub is_plain_number : List ℕ → Bool
is_plain_number word = nat_lt 0 (length word) && (nat_le (length word) 7 && (list_all is_ascii_digit word && not (begins_with_zero word)))

-- the most values that are generated, workers that serve, and connections that are served
abbrev pub most_values : ℕ
most_values = 200000

abbrev pub most_workers : ℕ
most_workers = 16

abbrev pub most_connections : ℕ
most_connections = 1000000

abbrev pub count_within : ℕ → ℕ → Option ℕ
count_within most count = cond (nat_lt 0 count && nat_le count most) (Some count) None

-- a number from 1 to the most
unfoldable pub count_of : ℕ → List ℕ → Option ℕ
count_of most word = cond (is_plain_number word) (count_within most (digits_value 10 word)) None

abbrev pub counted : Option ℕ → Command
counted (Some count) = command.Generate count
counted None = command.Bad 2

abbrev pub one_too_many : Option ℕ → Command
one_too_many (Some count) = command.Bad 3
one_too_many None = command.Bad 2

-- the words after `generate`
abbrev pub generate_words : List (List ℕ) → Command
generate_words [] = command.Bad 2
generate_words (count ∷ []) = counted (count_of most_values count)
generate_words (count ∷ other ∷ rest) = one_too_many (count_of most_values count)

-- the words after `serve`: the file and the address are what they are, and then come two numbers
abbrev pub after_connections : ℕ → Option ℕ → List (List ℕ) → Command
after_connections workers None rest = command.Bad 5
after_connections workers (Some connections) [] = command.Serve workers connections
after_connections workers (Some connections) (other ∷ rest) = command.Bad 6

abbrev pub after_workers : Option ℕ → List (List ℕ) → Command
after_workers None rest = command.Bad 4
after_workers (Some workers) [] = command.Bad 5
after_workers (Some workers) (connections ∷ rest) = after_connections workers (count_of most_connections connections) rest

abbrev pub serve_words : List (List ℕ) → Command
serve_words [] = command.Bad 2
serve_words (meta ∷ []) = command.Bad 3
serve_words (meta ∷ address ∷ []) = command.Bad 4
serve_words (meta ∷ address ∷ workers ∷ rest) = after_workers (count_of most_workers workers) rest

-- a word that stands alone
abbrev pub flag_of : List ℕ → List (List ℕ) → Command
flag_of first rest =
    cond (is_word first (codes "--help") && is_last rest) command.Help
    (cond (is_word first (codes "--version") && is_last rest) command.Version (command.Bad 1))

-- the words after the first
abbrev pub command_behind : List ℕ → List (List ℕ) → Command
command_behind first rest =
    cond (is_word first (codes "query")) (query_words rest)
    (cond (is_word first (codes "session")) (session_words rest)
    (cond (is_word first (codes "generate")) (generate_words rest)
    (cond (is_word first (codes "serve")) (serve_words rest) (flag_of first rest))))

unfoldable pub command_of : List (List ℕ) → Command
command_of [] = command.Bad 1
command_of (first ∷ rest) = command_behind first rest

-- how many workers and connections a server is asked for, if one is
abbrev pub serving_of : Command → Option (ℕ × ℕ)
serving_of (command.Serve workers connections) = Some (workers, connections)
serving_of command.Help = None
serving_of command.Version = None
serving_of command.Query = None
serving_of command.Session = None
serving_of (command.Generate count) = None
serving_of (command.Bad place) = None

-- what a command needs of its words, by how many they are: a word for each name, a number within the most, and a worker
abbrev pub IsFit : Command → ℕ → Type 0
IsFit command.Help words = ⊤
IsFit command.Version words = ⊤
IsFit command.Query words = words ≡ 3
IsFit command.Session words = words ≡ 2
IsFit (command.Generate count) words = count ≤ most_values
IsFit (command.Serve workers connections) words = (words ≡ 5) × (0 < workers)
IsFit (command.Bad place) words = ⊤

-- the place of the first word that doesn't fit, where the word after so many isn't UTF-8 and fits nowhere
abbrev pub bad_place : Command → ℕ → ℕ
bad_place (command.Bad place) words = min place (words + 1)
bad_place command.Help words = words + 1
bad_place command.Version words = words + 1
bad_place command.Query words = words + 1
bad_place command.Session words = words + 1
bad_place (command.Generate count) words = words + 1
bad_place (command.Serve workers connections) words = words + 1
