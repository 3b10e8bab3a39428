-- What the system's listener shows of itself.
use Rattle.std.specs.Prelude.{ℕ, Bool, None}
use Rattle.net_doors.specs.Doors.{Shown}

-- how many links it has accepted, whether it has told that it is closed, and how many of its calls have failed
pub record SocketSeen : Type 0 where
  pub accepted : ℕ
  pub closed : Bool
  pub faults : ℕ

-- of the links given back it tells nothing
abbrev pub shown_by : SocketSeen → Shown ℕ
shown_by door = record { accepted = door.accepted; closed = door.closed; back = None; faults = door.faults }
