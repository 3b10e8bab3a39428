use Rattle.std.proofs.Common.{◌≡◌, drop}
use Rattle.std.specs.List.{list_all}
use Rattle.dh_sharing.specs.declared.access.Right.TheVariants.{DataWrite}
use Rattle.dh_metadata.specs.declared.kind.Kind.TheVariants.{CategoryOption}
use Rattle.dh_changes.specs.World.{facts}
use Rattle.dh_records.specs.Access.{access}
use Rattle.value_import.proofs.rights.may_write.Given as goal

abbrev pub invariant-loop-option : goal.invariant-loop-option
invariant-loop-option l =
    list_all (λ option. access (facts l.world) l.meta l.user DataWrite CategoryOption option) l.options
    ≡ list_all (λ option. access (facts l.world) l.meta l.user DataWrite CategoryOption option) (drop l.option-index l.options)
