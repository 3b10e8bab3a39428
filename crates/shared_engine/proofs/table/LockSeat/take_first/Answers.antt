use Rattle.std.proofs.Common.{ap, sym, ◌∙◌, arith}
use Rattle.shared_engine.proofs.Moves.{takes, meets}
use Rattle.shared_engine.proofs.table.LockSeat.take_first.Goals as goal

pub join_seat-requires : goal.join_seat-requires
join_seat-requires g c =
    let table = sym c.table.view_is in
    let two = c.table.invariant in (
      ap (λ v. v.table) c.self.view_is ∙ c.requires.table.0 ∙ table,
      ap (λ v. v.table) c.first.view_is ∙ c.requires.table.1 ∙ table,
      c.first.invariant.0,
      omega (arith, two),
      takes g.E.Recorded.caller g.E.Recorded.named _ _ _ _ c.self.invariant.0 c.self.invariant.2 (ap (λ v. v.taken) c.self.view_is ∙ c.requires.nobody)
          c.first.invariant.1,
    )

pub load-requires : goal.load-requires
load-requires g c =
    let two = c.table.invariant in (
      c.join_seat.ensures.0 ∙ ap (λ v. v.table) c.self.view_is ∙ c.requires.table.0 ∙ sym c.table.view_is,
      omega (arith, two),
      meets g.E.Recorded.caller g.E.Recorded.named _ _ _ (c.join_seat.ensures.1 ∙ c.self.invariant.0),
    )
