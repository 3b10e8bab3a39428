-- The next word of a text.
use Rattle.std.specs.Prelude.{ℕ, zero, suc, ◌+◌, ◌-◌, ◌*◌, ◌^◌, Bool, true, false, ◌||◌, ◌&&◌, List, [], ◌∷◌, Some, None, Result, Ok, Err, length}
use Rattle.std.specs.Prelude.{take, drop, slice_index, nat_eq, nat_lt, nat_le, not, if◌then◌else◌}
use Rattle.std.specs.Char.{is_ascii_alphabetic, is_ascii_alphanumeric, is_ascii_digit}
use Rattle.std.specs.Str.Parse.{digits_value}
use Rattle.expr_lang.specs.declared.tree.Binary.{Binary}
use Rattle.expr_lang.specs.declared.tree.Binary.TheVariants as binary
use Rattle.expr_lang.specs.declared.words.Symbol.{Symbol}
use Rattle.expr_lang.specs.declared.words.Symbol.TheVariants as symbol
use Rattle.expr_lang.specs.declared.token.Allowed.{Allowed}
use Rattle.expr_lang.specs.declared.token.Front.{Front}
use Rattle.expr_lang.specs.Words.{text_of}

abbrev pub is_comparison_of : Binary → Bool
is_comparison_of binary.Equal = true
is_comparison_of binary.NotEqual = true
is_comparison_of binary.Less = true
is_comparison_of binary.AtMost = true
is_comparison_of binary.Greater = true
is_comparison_of binary.AtLeast = true
is_comparison_of _ = false

abbrev pub is_allowed_of : Allowed → Symbol → Bool
is_allowed_of allowed symbol.Caret = allowed.caret
is_allowed_of allowed symbol.Close = allowed.close
is_allowed_of allowed symbol.Comma = allowed.comma
is_allowed_of allowed symbol.Quote = allowed.quote
is_allowed_of allowed (symbol.Operator operator) = allowed.comparison || not (is_comparison_of operator)
is_allowed_of allowed _ = true

-- whether a byte may stand where a word has this letter
abbrev pub fits_of : ℕ → ℕ → Bool
fits_of letter byte =
    if nat_eq letter 64 then is_ascii_alphabetic byte
    else if nat_eq letter 36 then is_ascii_alphanumeric byte else nat_eq letter byte

-- how many bytes of a text begin a word
abbrev pub front_of : List ℕ → List ℕ → ℕ
front_of [] bytes = 0
front_of (c ∷ cs) [] = 0
front_of (c ∷ cs) (b ∷ bs) = if fits_of c b then suc (front_of cs bs) else 0

-- the longer of a prefix and that of a word; at the same length a whole word
abbrev pub better_of : Front → Symbol → List ℕ → Front
better_of best word bytes =
    let len = front_of (text_of word) bytes in
    let whole = nat_eq len (length (text_of word)) in
    if nat_lt best.len len || (nat_eq best.len len && whole)
    then record { len = len; symbol = if whole then Some word else None } else best

abbrev pub longest_from : Front → Allowed → List Symbol → List ℕ → Front
longest_from best allowed [] bytes = best
longest_from best allowed (word ∷ words) bytes =
    longest_from (if is_allowed_of allowed word then better_of best word bytes else best) allowed words bytes

abbrev pub no_front : Front
no_front = record { len = 0; symbol = None }

-- the longest front of the allowed words with which a text begins, and the word that it is, if it is one
unfoldable pub longest_of : Allowed → List Symbol → List ℕ → Front
longest_of allowed words bytes = longest_from no_front allowed words bytes

-- how many digits stand at the front, counting at most so many
abbrev pub digit_count : ℕ → List ℕ → ℕ
digit_count zero bytes = 0
digit_count (suc most) [] = 0
digit_count (suc most) (b ∷ bs) = if is_ascii_digit b then suc (digit_count most bs) else 0

-- the number that the digits at the front write
abbrev pub digits_of_front : ℕ → List ℕ → ℕ
digits_of_front most bytes = digits_value 10 (take (digit_count most bytes) bytes)

-- a number of 1 to 12 digits, in millionths, with 1 to 6 decimals after a point if a point stands there; and its
-- length. Else how many bytes may begin one.
unfoldable pub number_of : List ℕ → Result (ℕ × ℕ) ℕ
number_of bytes =
    let whole = digit_count 12 bytes in
    let rest = drop (whole + 1) bytes in
    let decimals = digit_count 6 rest in
    if nat_eq whole 0 then Err 0
    else if nat_eq (slice_index bytes whole) 46
    then (if nat_eq decimals 0 then Err (whole + 1)
    else Ok (digits_of_front 12 bytes * 1000000 + digits_of_front 6 rest * 10 ^ (6 - decimals), whole + 1 + decimals))
    else Ok (digits_of_front 12 bytes * 1000000, whole)

-- an exponent of 0 to 64 in one or two digits, as many as there are, and its length
unfoldable pub exponent_of : List ℕ → Result (ℕ × ℕ) ℕ
exponent_of bytes =
    let len = digit_count 2 bytes in
    if nat_eq len 0 then Err 0
    else if nat_le (digits_of_front 2 bytes) 64 then Ok (digits_of_front 2 bytes, len) else Ok (slice_index bytes 0 - 48, 1)
