-- How an update ends, and what a step of the engine does.
use Rattle.std.specs.Prelude.{◌≡◌, ◌≤◌, ℕ, true, Result, Ok, Err}
use Rattle.dh_base.specs.declared.memory.Memory.{Memory}
use Rattle.engine.specs.declared.machine.Cut.{Cut}
use Rattle.engine.specs.declared.machine.Staged.{Staged}
use Rattle.engine.specs.declared.machine.CutFault.{CutFault}
use Rattle.engine.specs.declared.machine.CutFault.TheVariants as cut
use Rattle.engine.specs.Machine.{Act, Step, lacks_memory}
use Rattle.engine.specs.Machine.Act.{swapped, dropped}
use Rattle.engine.specs.Seen.{Seen}
use Rattle.shared_engine.specs.Entries.{IsFault}

-- the update that a cut begins
abbrev pub staged_in : Cut → Staged
staged_in cut = record { ticket = cut.ticket; number = cut.number }

-- an update is swapped in, or out of memory dropped
abbrev pub end_act : ℕ → Result ℕ Memory → Act
end_act ticket (Ok number) = swapped ticket (Ok number)
end_act ticket (Err memory) = dropped ticket

-- the number that is told after it
abbrev pub told_after : ℕ → Result ℕ Memory → ℕ
told_after told (Ok number) = number
told_after told (Err memory) = told

-- what an update answers by its end
abbrev pub answer_of : Result ℕ Memory → Result ℕ CutFault
answer_of (Ok number) = Ok number
answer_of (Err memory) = Err cut.Memory

-- a step of the machine that keeps metadata and limits; the count of faults doesn't fall, and stays if memory ran out
pub record Goes (old : Seen) (act : Act) (new : Seen) : Type 0 where
  pub step : Step old.meta old.limits old.state act new.state
  pub meta : new.meta ≡ old.meta
  pub limits : new.limits ≡ old.limits
  pub count : old.faults ≤ new.faults
  pub fault : IsFault act old.faults new.faults
  pub still : lacks_memory act ≡ true → new.faults ≡ old.faults
