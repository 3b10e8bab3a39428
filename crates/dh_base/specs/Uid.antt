-- Identifiers as DHIS2 makes them.
use Rattle.std.specs.Prelude.{ℕ, Bool, List, ◌∷◌, [], ◌&&◌, Option, Some, None, nat_eq, length, slice_index, if◌then◌else◌}
use Rattle.std.specs.List.{list_all}
use Rattle.std.specs.Char.{is_ascii_alphabetic, is_ascii_alphanumeric}
use Rattle.std.specs.Cmp.Lexicographic.{pointwise, bytes_decides}
use Rattle.std.specs.Hash.{HashWrites, Alike, same_Alike}

-- the text has 11 ASCII letters and digits, the first of them a letter
abbrev pub is_uid : List ℕ → Bool
is_uid text =
    nat_eq (length text) 11 && is_ascii_alphabetic (slice_index text 0) && list_all is_ascii_alphanumeric text

-- the identifier that a text is
abbrev pub uid_of : List ℕ → Option (List ℕ)
uid_of text = if is_uid text then Some text else None

-- what a hasher is fed of an identifier: its text, at once
abbrev pub uid_fed : List ℕ → HashWrites
uid_fed id = id ∷ []

-- identifiers that are equal are fed alike
pub same_uids : Alike (pointwise nat_eq) uid_fed
same_uids = same_Alike uid_fed bytes_decides
