-- The text of numbers. A value is a whole number of millionths; its text is an optional minus, 1 to 12 digits, and optionally a point with 1
-- to 6 digits.
use Rattle.std.specs.Prelude.{ℕ, zero, suc, ◌+◌, ◌-◌, ◌*◌, ◌/◌, ◌%◌, ◌^◌, Bool, ◌&&◌, if◌then◌else◌, nat_eq, nat_lt, nat_le, ℤ, pos, neg_ℤ, unsigned_abs}
use Rattle.std.specs.Prelude.{int_lt, List, [], ◌∷◌, ◌++◌, length, take, drop, slice_index, Option, Some, None, option_map, position}
use Rattle.std.specs.List.{list_all}
use Rattle.std.specs.Char.{is_ascii_digit}
use Rattle.std.specs.Str.Parse.{digits_value}
use Rattle.std.specs.Fmt.{decimal}
use Rattle.dh_base.specs.Fractions.{Fraction}

-- ---- reading

-- the number that 1 to `most` digits write
unfoldable pub digits_of : ℕ → List ℕ → Option ℕ
digits_of most text =
    if nat_lt 0 (length text) && nat_le (length text) most && list_all is_ascii_digit text then Some (digits_value 10 text) else None

-- the millionths that 1 to 6 digits after a point write
abbrev pub decimals_of : List ℕ → Option ℕ
decimals_of text = option_map (λ n. n * 10 ^ (6 - length text)) (digits_of 6 text)

abbrev pub is_point : ℕ → Bool
is_point byte = nat_eq byte 46

abbrev pub both : Option ℕ → Option ℕ → Option ℕ
both (Some whole) (Some millionths) = Some (whole * 1000000 + millionths)
both (Some whole) None = None
both None other = None

-- the millionths of a text whose first point stands at a place, or that has none
abbrev pub split_at : Option ℕ → List ℕ → Option ℕ
split_at None text = option_map (λ whole. whole * 1000000) (digits_of 12 text)
split_at (Some place) text = both (digits_of 12 (take place text)) (decimals_of (drop (place + 1) text))

-- the millionths that a text without a sign writes
unfoldable pub size_of : List ℕ → Option ℕ
size_of text = split_at (position is_point text) text

abbrev pub has_minus : List ℕ → Bool
has_minus text = nat_lt 0 (length text) && nat_eq (slice_index text 0) 45

-- the millionths that a text writes
unfoldable pub decimal_of : List ℕ → Option ℤ
decimal_of text = if has_minus text then option_map (λ n. neg_ℤ (pos n)) (size_of (drop 1 text)) else option_map pos (size_of text)

-- ---- printing

-- size / den times 10 ^ places, rounded to a whole number, a half away from zero
abbrev pub rounded : ℕ → ℕ → ℕ → ℕ
rounded size den places = (2 * size * 10 ^ places + den) / (2 * den)

-- the digits of n / 10 ^ places after the point, up to the last that isn't 0
unfoldable pub decimals : ℕ → ℕ → List ℕ
decimals zero n = []
decimals (suc places) n = if nat_eq n 0 then [] else (48 + n / 10 ^ places) ∷ decimals places (n % 10 ^ places)

abbrev pub with_point : List ℕ → List ℕ
with_point [] = []
with_point (digit ∷ digits) = 46 ∷ digit ∷ digits

-- n / 10 ^ places as a text, without trailing zeros and without a bare point
unfoldable pub text_of : ℕ → ℕ → List ℕ
text_of n places = decimal (n / 10 ^ places) ++ with_point (decimals places (n % 10 ^ places))

abbrev pub sign_of : ℤ → ℕ → List ℕ
sign_of num n = if int_lt num (pos 0) && nat_lt 0 n then 45 ∷ [] else []

-- the number rounded to that many decimals
unfoldable pub printed : Fraction → ℕ → List ℕ
printed f places = let n = rounded (unsigned_abs f.num) f.den places in sign_of f.num n ++ text_of n places
