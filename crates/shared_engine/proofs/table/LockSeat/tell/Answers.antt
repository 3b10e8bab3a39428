use Rattle.std.proofs.Common.{◌≤◌, ap, sym, ◌∙◌, subst, arith, List}
use Rattle.shared_engine.specs.Rule.{Names}
use Rattle.shared_engine.proofs.Moves.{tells}
use Rattle.shared_engine.proofs.table.LockSeat.tell.Goals as goal

pub fetch_max-requires : goal.fetch_max-requires
fetch_max-requires g c =
    let two = c.table.invariant in
    let list = sym (ap (λ v. v.list) c.self.view_is) in
    let told = sym (ap (λ v. v.told) c.self.view_is) in (
      ap (λ v. v.table) c.self.view_is ∙ c.requires.table ∙ sym c.table.view_is,
      omega (arith, two),
      tells g.E.Recorded.caller g.E.Recorded.named _ _ _ c.args.published c.self.invariant.0 c.self.invariant.3
          (subst (λ (l : List _). Names g.E.Recorded.caller g.E.Recorded.named l c.args.published) list c.requires.named)
          (subst (λ n. n ≤ c.args.published) told c.requires.rises),
    )
