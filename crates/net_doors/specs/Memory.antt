-- What a listener in memory shows of itself.
use Rattle.std.specs.Prelude.{◌+◌, ℕ, Bool, List, Some, length}
use Rattle.dh_outside.specs.Memory.{LinkSeen}
use Rattle.net_doors.specs.Doors.{Shown, IsUntouched}

-- the links that wait to be accepted, how many were accepted and not yet given back, those given back, whether it told that it is
-- closed, the calls that fail, counted from 1, the calls made, and those that failed
pub record DoorSeen : Type 0 where
  pub waiting : List LinkSeen
  pub out : ℕ
  pub back : List LinkSeen
  pub closed : Bool
  pub failing : List ℕ
  pub calls : ℕ
  pub faults : ℕ

abbrev pub shown_of : DoorSeen → Shown LinkSeen
shown_of door = record {
  accepted = length door.back + door.out;
  closed = door.closed;
  back = Some door.back;
  faults = door.faults;
}

-- a link in memory of which nothing was read, and to which nothing was written
abbrev pub IsFresh : LinkSeen → Type 0
IsFresh link = IsUntouched (Some link.talk) link.faults
