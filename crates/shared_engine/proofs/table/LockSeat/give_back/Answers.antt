use Rattle.std.proofs.Common.{Option, IsSome, ap, sym, ◌∙◌, subst, arith}
use Rattle.shared_engine.proofs.Moves.{returns_some}
use Rattle.shared_engine.proofs.table.LockSeat.give_back.Goals as goal

pub split_seat-seat-requires : goal.split_seat-seat-requires
split_seat-seat-requires g c =
    let two = c.table.invariant in (
      ap (λ v. v.table) c.self.view_is ∙ c.requires.table ∙ sym c.table.view_is,
      omega (arith, two),
      returns_some g.E.Recorded.caller g.E.Recorded.named _ _ c.self.invariant.0 c.self.invariant.2 c.self.invariant.3
          (subst (λ (o : Option _). IsSome o) (sym (ap (λ v. v.taken) c.self.view_is)) c.requires.taken),
    )
