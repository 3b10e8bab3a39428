-- What feeding bytes to an open body answers.
use Rattle.std.specs.Prelude.{◌≡◌, Bool, true, false, Result, Ok, Err, ⊤}
use Rattle.http_wire.specs.declared.chunks.Chunks.{Chunks}
use Rattle.http_wire.specs.declared.chunks.Fed.{Fed}
use Rattle.http_wire.specs.declared.chunks.Fed.TheVariants.{More, Whole, Refused}
use Rattle.http_wire.specs.Chunks.{Outcome, open_at, refused, whole}
use Rattle.http_wire.specs.declared.fault.WireFault.{WireFault}
use Rattle.http_wire.specs.declared.fault.WireFault.TheVariants as fault

-- the bytes come to this outcome, where the body is afterwards as it is shown
abbrev pub FedTo : Outcome → Chunks → Fed → Type 0
FedTo outcome chunks More = outcome ≡ open_at chunks
FedTo outcome chunks Whole = outcome ≡ whole chunks.content chunks.seen
FedTo outcome chunks (Refused code) = outcome ≡ refused code

-- the same, or memory ran out
abbrev pub Comes : {E : Type 0} → Outcome → Chunks → Result Fed E → Type 0
Comes outcome chunks (Ok fed) = FedTo outcome chunks fed
Comes outcome chunks (Err e) = ⊤

-- the same, said by whether the body is whole, or by its fault
abbrev pub ComesTo : Outcome → Chunks → Result Bool WireFault → Type 0
ComesTo outcome chunks (Ok true) = outcome ≡ whole chunks.content chunks.seen
ComesTo outcome chunks (Ok false) = outcome ≡ open_at chunks
ComesTo outcome chunks (Err (fault.Refused code)) = outcome ≡ refused code
ComesTo outcome chunks (Err fault.Truncated) = ⊥
ComesTo outcome chunks (Err fault.ReadFault) = ⊥
ComesTo outcome chunks (Err fault.Memory) = ⊤
