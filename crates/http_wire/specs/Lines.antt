-- Empty lines, and where the head of a request ends (RFC 9112, sections 2.1 and 2.2).
use Rattle.std.specs.Prelude.{ℕ, ◌+◌, ◌-◌, ◌≡◌, ◌&&◌, List, [], ◌∷◌, Option, None, Some, cond, option_map, length, take, drop, nat_eq, nat_le, nat_lt}
use Rattle.std.specs.List.{count_by}
use Rattle.http_wire.specs.declared.lines.Opening.{Opening}
use Rattle.http_wire.specs.declared.lines.Opening.TheVariants.{Nothing, Unfinished, TooLong, Whole}

-- how many bytes the empty line at the front has: 1 for a line feed, 2 for a carriage return and a line feed, 0 where
-- there is none
abbrev pub empty_line : List ℕ → ℕ
empty_line [] = 0
empty_line (b ∷ []) = cond (nat_eq b 10) 1 0
empty_line (b ∷ c ∷ bytes) = cond (nat_eq b 10) 1 (cond (nat_eq b 13 && nat_eq c 10) 2 0)

-- how many bytes the empty lines at the front have
abbrev pub blank_length : List ℕ → ℕ
blank_length [] = 0
blank_length (b ∷ []) = cond (nat_eq b 10) 1 0
blank_length (b ∷ c ∷ bytes) =
    cond (nat_eq b 10) (1 + blank_length (c ∷ bytes)) (cond (nat_eq b 13 && nat_eq c 10) (2 + blank_length bytes) 0)

-- a place further on
abbrev pub shifted : ℕ → Option ℕ → Option ℕ
shifted n found = option_map (λ place. n + place) found

-- how many bytes there are up to and with the first line feed that an empty line follows, and that line
abbrev pub head_length : List ℕ → Option ℕ
head_length [] = None
head_length (b ∷ bytes) = cond (nat_eq b 10 && nat_lt 0 (empty_line bytes)) (Some (1 + empty_line bytes)) (shifted 1 (head_length bytes))

-- how many bytes a head may have
unfoldable pub head_limit : ℕ
head_limit = 16384

-- what stands at the front of bytes that begin with no empty line
abbrev pub opening_by : Option ℕ → ℕ → Opening
opening_by (Some end) count = Whole end
opening_by None count = cond (nat_le head_limit count) TooLong (cond (nat_eq count 0) Nothing Unfinished)

abbrev pub opening_of : List ℕ → Opening
opening_of bytes = opening_by (head_length (take head_limit bytes)) (length bytes)

-- no head ends that begins before this place
unfoldable pub IsPassed : List ℕ → ℕ → Type 0
IsPassed bytes from = head_length (take head_limit bytes) ≡ shifted from (head_length (drop from (take head_limit bytes)))

-- how many lines stand between the first line of a head and the empty one
abbrev pub field_lines : List ℕ → ℕ
field_lines head = count_by (λ b. nat_eq b 10) head - 2
