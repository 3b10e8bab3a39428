-- What a reader answers.
use Rattle.std.specs.Prelude.{◌≡◌, ℕ, List, Option, None, Some, Result, Ok, Err, ⊤}
use Rattle.change_log.specs.declared.fault.ReadFault.{ReadFault}
use Rattle.change_log.specs.declared.fault.ReadFault.TheVariants as fault

-- what is read, as it is seen, with the bytes after it; that nothing is; or that memory ran out
abbrev pub GivesAs : {A X : Type 0} → (X → A) → Option (A × List ℕ) → Result X ReadFault → List ℕ → Type 0
GivesAs view read (Ok x) rest = read ≡ Some (view x, rest)
GivesAs view read (Err fault.Bad) rest = read ≡ None
GivesAs view read (Err fault.Memory) rest = ⊤

abbrev pub Gives : {A : Type 0} → Option (A × List ℕ) → Result A ReadFault → List ℕ → Type 0
Gives read result rest = GivesAs (λ x. x) read result rest
