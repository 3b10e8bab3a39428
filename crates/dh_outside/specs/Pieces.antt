-- What reading piece by piece does to the bytes held and to those left in the source.
use Rattle.std.specs.Prelude.{◌≡◌, ◌+◌, ◌^◌, ◌⊎◌, ◌++◌, ℕ, List, [], ◌∷◌, Option, length}
use Rattle.std.specs.Io.KnownBytes.{Consumes, IsAtEnd}
use Rattle.dh_outside.specs.Talk.{Talk, Hears}

-- the bytes taken from the source, in one piece, stand after those held, and are counted
pub record Gains (left left' : Option (List ℕ)) (talk talk' : Option Talk) (held held' : List ℕ) (read read' : ℕ) : Type 0 where
  pub taken : List ℕ
  pub consumed : Consumes left left' taken
  pub hears : Hears talk talk' (taken ∷ [])
  pub beyond : held' ≡ held ++ taken
  pub counted : read' ≡ read + length taken

-- the source gives no more: it has ended, or as many bytes were read as are taken of one
abbrev pub IsSpent : Option (List ℕ) → ℕ → Type 0
IsSpent left read = IsAtEnd left ⊎ (read ≡ 2 ^ 63)
