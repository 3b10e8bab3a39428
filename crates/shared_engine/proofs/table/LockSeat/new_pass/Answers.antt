use Rattle.std.proofs.Common.{ap, sym, ◌∙◌, arith}
use Rattle.shared_engine.proofs.Moves.{meets, adds}
use Rattle.shared_engine.proofs.table.LockSeat.new_pass.Goals as goal

pub load-requires : goal.load-requires
load-requires g c =
    let two = c.table.invariant in (
      ap (λ v. v.table) c.self.view_is ∙ c.requires.table ∙ sym c.table.view_is,
      omega (arith, two),
      meets g.E.Recorded.caller g.E.Recorded.named _ _ _ c.self.invariant.0,
    )

pub split_seat-seat-requires : goal.split_seat-seat-requires
split_seat-seat-requires g c =
    let two = c.table.invariant in
    let met = c.load.ensures.2.0 in (
      c.load.ensures.0 ∙ ap (λ v. v.table) c.self.view_is ∙ c.requires.table ∙ sym c.table.view_is,
      omega (arith, two),
      adds g.E.Recorded.caller g.E.Recorded.named _ _ (c.load.ensures.1 ∙ c.self.invariant.0)
          (ap (λ m. m.0.role) met ∙ c.self.invariant.2) (ap (λ m. m.0.old) met)
          (ap (λ m. m.0.taken) met ∙ ap (λ v. v.taken) c.self.view_is ∙ c.requires.first),
    )
