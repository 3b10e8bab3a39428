-- The bytes of a text that stands inside of its owner or apart.
use Rattle.std.specs.Prelude.{◌≤◌, ℕ, List, take, ⊤}
use Rattle.dh_changes.specs.declared.text.Kept.{Kept}
use Rattle.dh_changes.specs.declared.text.Kept.TheVariants as kept

-- of those inside the first, as many as the length says
abbrev pub bytes_of : Kept → List ℕ
bytes_of (kept.Inside len bytes) = take len bytes
bytes_of (kept.Apart text) = text.value

-- there are so many
abbrev pub Fits : Kept → Type 0
Fits (kept.Inside len bytes) = len ≤ 14
Fits (kept.Apart text) = ⊤
