-- The text of a fault.
use Rattle.std.specs.Prelude.{ℕ, List, [], ◌∷◌, ◌++◌}

-- a text with a space and a detail after it; an empty detail and its space are left out
abbrev pub with_detail : List ℕ → List ℕ → List ℕ
with_detail text [] = text
with_detail text (byte ∷ detail) = text ++ 32 ∷ byte ∷ detail

-- the name of a fault and its details
abbrev pub fault_text : List ℕ → List ℕ → List ℕ → List ℕ
fault_text name first second = with_detail (with_detail name first) second
