-- Faults of the steps as those of the file.
use Rattle.std.specs.Prelude.{ℕ, List, Option, None, Some}
use Rattle.dh_metadata.specs.declared.ids.fault.IdsFault.{IdsFault}
use Rattle.dh_metadata.specs.declared.ids.fault.IdsFault.TheVariants as ids
use Rattle.meta_links.specs.declared.fault.LinkFault.{LinkFault}
use Rattle.meta_links.specs.declared.fault.LinkFault.TheVariants as link
use Rattle.meta_reader.specs.declared.fault.MetaFault.{MetaFault}
use Rattle.meta_reader.specs.declared.fault.MetaFault.TheVariants as fault

abbrev pub twice_told : IdsFault → MetaFault
twice_told (ids.Twice uid) = fault.Twice uid
twice_told ids.Memory = fault.Memory

abbrev pub unknown_uid : LinkFault → Option (List ℕ)
unknown_uid (link.Unknown uid path) = Some uid
unknown_uid link.Memory = None

abbrev pub unknown_told : List ℕ → LinkFault → MetaFault
unknown_told uid (link.Unknown other path) = fault.Unknown uid path
unknown_told uid link.Memory = fault.Memory
