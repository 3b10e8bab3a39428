-- The one answer without a cause is that memory ran out: how a call's answer stands to the one that is meant.
use Rattle.std.specs.Prelude.{◌≡◌, Option, None, Some, Result, Ok, Err, ⊤}
use Rattle.dh_base.specs.declared.memory.Memory.{Memory}

-- the one value of a call that found no memory
abbrev pub out_of_memory : Memory
out_of_memory = record {}

-- the fault that is meant has this cause; running out of memory has none
abbrev pub IsCause : {A E : Type 0} → Result A E → Option E → Type 0
IsCause meant None = ⊤
IsCause meant (Some cause) = meant ≡ Err cause

-- the value or the fault that is meant, or that memory ran out
abbrev pub Answers : {A E F : Type 0} → (F → Option E) → Result A E → Result A F → Type 0
Answers cause_of meant (Ok value) = meant ≡ Ok value
Answers cause_of meant (Err fault) = IsCause meant (cause_of fault)

-- the first fault that is met has this cause; running out of memory has none
abbrev pub IsFirst : {E : Type 0} → Option E → Option E → Type 0
IsFirst met None = ⊤
IsFirst met (Some cause) = met ≡ Some cause

-- the first fault that is met; without one, a value of which so much holds; or that memory ran out
abbrev pub Finds : {A E F : Type 0} → (F → Option E) → Option E → (A → Type 0) → Result A F → Type 0
Finds cause_of met Is (Ok value) = (met ≡ None) × Is value
Finds cause_of met Is (Err fault) = IsFirst met (cause_of fault)
