use Rattle.std.proofs.Common.{ap, sym, ◌∙◌, subst, arith, Option}
use Rattle.shared_engine.specs.Views.{IsOneOf}
use Rattle.shared_engine.proofs.Moves.{stamps}
use Rattle.shared_engine.proofs.table.LockSeat.stamp.Goals as goal

pub fetch_add-requires : goal.fetch_add-requires
fetch_add-requires g c =
    let two = c.table.invariant in
    let one = subst (λ (o : Option _). IsOneOf g.E.Recorded.caller o g.N.EntryName.added) (sym (ap (λ v. v.taken) c.self.view_is)) c.requires.entry in (
      ap (λ v. v.table) c.self.view_is ∙ c.requires.table ∙ sym c.table.view_is,
      omega (arith, two),
      stamps g.E.Recorded.caller g.E.Recorded.named _ _ _ _ c.self.invariant.0 c.self.invariant.3 one,
    )
