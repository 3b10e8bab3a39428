-- The fault of a request whose head is at fault.
use Rattle.http_wire.specs.declared.head.HeadFault.{HeadFault}
use Rattle.http_wire.specs.declared.head.HeadFault.TheVariants as head
use Rattle.http_wire.specs.declared.fault.WireFault.{WireFault}
use Rattle.http_wire.specs.declared.fault.WireFault.TheVariants.{Refused, Memory}

abbrev pub comes_from : HeadFault → WireFault
comes_from (head.Refused code) = Refused code
comes_from head.Memory = Memory
