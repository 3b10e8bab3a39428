-- The line before a chunk: 1 to 16 hexadecimal digits, spaces and tabs, an extension after a semicolon, a carriage
-- return and a line feed (RFC 9112, section 7.1.1).
use Rattle.std.specs.Prelude.{ℕ, ◌+◌, ◌*◌, ◌^◌, ◌<◌, ◌||◌, cond, nat_eq, nat_lt, ⊤}
use Rattle.std.specs.Char.{is_ascii_hexdigit, digit_value}
use Rattle.http_wire.specs.declared.size.SizePlace.{SizePlace}
use Rattle.http_wire.specs.declared.size.SizePlace.TheVariants.{Digits, Pad, Extension, End}
use Rattle.http_wire.specs.declared.size.SizeStep.{SizeStep}
use Rattle.http_wire.specs.declared.size.SizeStep.TheVariants.{Goes, Gives, Fails}

-- a byte after the digits
abbrev pub behind_digits : ℕ → ℕ → SizeStep
behind_digits size byte =
    cond (nat_eq byte 32 || nat_eq byte 9) (Goes (Pad size)) (cond (nat_eq byte 59) (Goes (Extension size)) (cond (nat_eq byte 13) (Goes (End size)) Fails))

-- one more byte of the line
abbrev pub size_step : SizePlace → ℕ → SizeStep
size_step (Digits count size) byte =
    cond (is_ascii_hexdigit byte) (cond (nat_lt count 16) (Goes (Digits (count + 1) (size * 16 + digit_value byte))) Fails)
    (cond (nat_eq count 0) Fails (behind_digits size byte))
size_step (Pad size) byte = behind_digits size byte
size_step (Extension size) byte = cond (nat_eq byte 13) (Goes (End size)) (cond (nat_eq byte 10) Fails (Goes (Extension size)))
size_step (End size) byte = cond (nat_eq byte 10) (Gives size) Fails

-- the size is one of so many digits
abbrev pub IsSized : SizePlace → Type 0
IsSized (Digits count size) = size < 16 ^ count
IsSized (Pad size) = ⊤
IsSized (Extension size) = ⊤
IsSized (End size) = ⊤

-- the same of the place that a step goes to
abbrev pub GoesSized : SizeStep → Type 0
GoesSized (Goes place) = IsSized place
GoesSized (Gives size) = ⊤
GoesSized Fails = ⊤
