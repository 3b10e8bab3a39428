use Rattle.std.proofs.Common.{ap, sym, ◌∙◌, arith}
use Rattle.shared_engine.proofs.Moves.{asks}
use Rattle.shared_engine.proofs.table.HistoryTable.published.Goals as goal

pub load-requires : goal.load-requires
load-requires g c =
    let two = c.self.invariant in (
      ap (λ v. v.table) c.token.view_is ∙ c.requires ∙ sym c.self.view_is,
      omega (arith, two),
      asks g.E.Recorded.caller g.E.Recorded.named _ _ _ c.token.invariant.1,
    )
