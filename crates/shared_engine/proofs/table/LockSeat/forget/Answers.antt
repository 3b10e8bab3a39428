use Rattle.std.proofs.Common.{ap, sym, ◌∙◌, arith}
use Rattle.shared_engine.proofs.Moves.{forgets}
use Rattle.shared_engine.proofs.table.LockSeat.forget.Goals as goal

pub join_seat-requires : goal.join_seat-requires
join_seat-requires g c =
    let table = sym c.table.view_is in
    let two = c.table.invariant in (
      ap (λ v. v.table) c.self.view_is ∙ c.requires.table.0 ∙ table,
      ap (λ v. v.table) c.token.view_is ∙ c.requires.table.1 ∙ table,
      c.token.invariant.0,
      omega (arith, two),
      forgets g.E.Recorded.caller g.E.Recorded.named _ _ _ _ c.self.invariant.0 c.self.invariant.2 c.self.invariant.3
          (ap (λ v. v.taken) c.self.view_is ∙ c.requires.first) c.token.invariant.1,
    )
