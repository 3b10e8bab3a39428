-- Paths of requests: `/api/`, a version of one to three digits and `/` if there is one, and the rest. Bytes are compared
-- as they came, without percent decoding.
use Rattle.std.specs.Prelude.{ℕ, Bool, nat_le, nat_lt, not, ◌&&◌, ◌==◌, if◌then◌else◌, List, length, take, drop, slice_index, bytes_eq, codes, Option, Some}
use Rattle.std.specs.Prelude.{None}
use Rattle.std.specs.List.{list_all, list_any}
use Rattle.std.specs.Char.{is_ascii_digit}

-- so many digits stand at the front, and a slash after them
unfoldable pub has_version : ℕ → List ℕ → Bool
has_version digits text = nat_lt digits (length text) && (slice_index text digits == 47 && list_all is_ascii_digit (take digits text))

-- what stands after the version, all of the text where there is none
unfoldable pub without_version : List ℕ → List ℕ
without_version text =
    if has_version 1 text then drop 2 text
    else (if has_version 2 text then drop 3 text
    else (if has_version 3 text then drop 4 text
    else text))

-- the rest of a path
unfoldable pub rest_of : List ℕ → Option (List ℕ)
rest_of path =
    if nat_le 5 (length path) && bytes_eq (take 5 path) (codes "/api/") then Some (without_version (drop 5 path)) else None

abbrev pub is_slash : ℕ → Bool
is_slash b = b == 47

-- one or more bytes without a slash
unfoldable pub is_id : List ℕ → Bool
is_id text = nat_lt 0 (length text) && not (list_any is_slash text)

-- a prefix, and an identifier after it
unfoldable pub is_front_and_id : List ℕ → List ℕ → Bool
is_front_and_id front text =
    nat_le (length front) (length text) && (bytes_eq (take (length front) text) front && is_id (drop (length front) text))
