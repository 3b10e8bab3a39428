-- Parts of years, and the places that they are put into.
use Rattle.std.specs.Prelude.{◌<◌, ◌∷◌, [], ℤ, pos, List, length, get_or, Option, IfSome, Result, IfOk, Vec, ⊤}
use Rattle.std.specs.List.{All}
use Rattle.std.specs.declared.alloc.Global.{Global}
use Rattle.dh_base.specs.declared.memory.Memory.{Memory}
use Rattle.shared_engine.specs.declared.work.Built.{Built}

-- a part stands beside the place of its year
pub record IsBuilt {P : Type 0} (is_part : ℤ → P → Type 0) (years : List ℤ) (built : Built P) : Type 0 where
  pub there : built.place < length years
  pub part : is_part (get_or years built.place (pos 0)) built.part

-- what a worker built, unless it found no memory
abbrev pub IsWork : {P : Type 0} → (ℤ → P → Type 0) → List ℤ → Result (Vec (Built P) Global) Memory → Type 0
IsWork is_part years work = IfOk work (λ found. All (IsBuilt is_part years) found.items)

-- one place for each year, in their order, with the part of its year or none
abbrev pub ArePlaces : {P : Type 0} → (ℤ → P → Type 0) → List ℤ → List (Option P) → Type 0
ArePlaces is_part [] [] = ⊤
ArePlaces is_part [] (place ∷ places) = ⊥
ArePlaces is_part (year ∷ years) [] = ⊥
ArePlaces is_part (year ∷ years) (place ∷ places) = IfSome place (is_part year) × ArePlaces is_part years places
