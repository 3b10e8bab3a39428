-- What a keeper in memory shows of itself.
use Rattle.std.specs.Prelude.{ℕ, Bool, true, false, List, Result, Ok, Err}
use Rattle.dh_outside.specs.declared.keeper.KeepFault.{KeepFault}
use Rattle.dh_outside.specs.declared.keeper.KeepFault.TheVariants as fault

-- the bytes kept, the calls that fail, counted from 1, the calls made, and those that failed
pub record KeeperSeen : Type 0 where
  pub kept : List ℕ
  pub failing : List ℕ
  pub calls : ℕ
  pub faults : ℕ

-- the answer is the fault of the outside
abbrev pub is_keep_failed : {T : Type 0} → Result T KeepFault → Bool
is_keep_failed (Ok v) = false
is_keep_failed (Err fault.Failed) = true
is_keep_failed (Err fault.TooLong) = false
is_keep_failed (Err fault.Memory) = false
