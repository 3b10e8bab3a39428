-- The first bracket of a text that stands inside 64 others.
use Rattle.std.specs.Prelude.{ℕ, ◌+◌, ◌-◌, ◌&&◌, List, [], ◌∷◌, Option, Some, None, nat_eq, nat_le, if◌then◌else◌}

-- how many brackets are open after a byte: 40 is `(`, and 41 is `)`
abbrev pub depth_after : ℕ → ℕ → ℕ
depth_after depth byte = if nat_eq byte 40 then depth + 1 else (if nat_eq byte 41 then depth - 1 else depth)

-- the place of the first `(` inside 64 others, where the bytes stand at a place with so many brackets open before them
abbrev pub crowded_from : ℕ → ℕ → List ℕ → Option ℕ
crowded_from at depth [] = None
crowded_from at depth (b ∷ bs) = if nat_eq b 40 && nat_le 64 depth then Some at else crowded_from (at + 1) (depth_after depth b) bs

abbrev pub crowded_bracket : List ℕ → Option ℕ
crowded_bracket text = crowded_from 0 0 text
