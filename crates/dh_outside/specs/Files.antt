-- What a set of files holds under a name.
use Rattle.std.specs.Prelude.{ℕ, Bool, true, false, List, [], ◌∷◌, Option, None, Some, Result, Ok, Err, Vec, map, cond, nat_eq}
use Rattle.std.specs.Cmp.Lexicographic.{pointwise}
use Rattle.std.specs.declared.alloc.Global.{Global}
use Rattle.dh_outside.specs.declared.files.FileFault.{FileFault}
use Rattle.dh_outside.specs.declared.files.FileFault.TheVariants as fault

-- names and bytes as plain lists
abbrev pub pairs_of : List (Vec ℕ Global × Vec ℕ Global) → List (List ℕ × List ℕ)
pairs_of files = map (λ file. (file.0.items, file.1.items)) files

-- the bytes of the first file of that name
abbrev pub file_named : List (List ℕ × List ℕ) → List ℕ → Option (List ℕ)
file_named [] name = None
file_named (file ∷ files) name = cond (pointwise nat_eq file.0 name) (Some file.1) (file_named files name)

-- the answer is the fault of the outside
abbrev pub is_failed : {T : Type 0} → Result T FileFault → Bool
is_failed (Ok v) = false
is_failed (Err fault.Failed) = true
is_failed (Err fault.TooLong) = false
is_failed (Err fault.Memory) = false
