-- Access strings, as DHIS2 writes them in sharing objects.
use Rattle.std.specs.Prelude.{ℕ, Bool, ◌==◌, ◌&&◌, ◌||◌, List, length, slice_index, Option, Some, None, if◌then◌else◌}
use Rattle.dh_sharing.specs.declared.access.Access.{Access}
use Rattle.dh_sharing.specs.declared.access.Right.{Right}
use Rattle.dh_sharing.specs.declared.access.Right.TheVariants.{Read, Write, DataRead, DataWrite}

-- a place of an access string holds its letter, or `-`
abbrev pub is_letter_or_dash : ℕ → ℕ → Bool
is_letter_or_dash letter c = (c == letter) || (c == 45)

-- eight characters: `r` and `w` for the metadata, `r` and `w` for the data, each of them or `-`, and four times `-`
abbrev pub is_access : List ℕ → Bool
is_access text =
    (length text == 8)
    && is_letter_or_dash 114 (slice_index text 0) && is_letter_or_dash 119 (slice_index text 1)
    && is_letter_or_dash 114 (slice_index text 2) && is_letter_or_dash 119 (slice_index text 3)
    && (slice_index text 4 == 45) && (slice_index text 5 == 45) && (slice_index text 6 == 45) && (slice_index text 7 == 45)

-- the rights that an access string gives
abbrev pub access_of : List ℕ → Option Access
access_of text =
    if is_access text
    then Some record {
      read = slice_index text 0 == 114;
      write = slice_index text 1 == 119;
      data_read = slice_index text 2 == 114;
      data_write = slice_index text 3 == 119;
    }
    else None

-- whether the access has the right
abbrev pub has : Access → Right → Bool
has access Read = access.read
has access Write = access.write
has access DataRead = access.data_read
has access DataWrite = access.data_write
