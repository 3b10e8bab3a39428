-- When a text can't begin with so much of a word.
use Rattle.std.specs.Prelude.{ℕ, ◌-◌, Bool, ◌&&◌, List, length, slice_index, nat_lt, nat_le, not}
use Rattle.expr_lang.specs.Token.{fits_of}

-- whether the last of so many bytes isn't one of the word's
unfoldable pub falls_short_of : ℕ → List ℕ → List ℕ → Bool
falls_short_of len word bytes =
    nat_lt 0 len && nat_le len (length word) && nat_le len (length bytes)
    && not (fits_of (slice_index word (len - 1)) (slice_index bytes (len - 1)))
