use Rattle.std.proofs.Common.{◌∙◌, length, sym}
use Rattle.engine.specs.Seen.{staged_latest}
use Rattle.engine.proofs.StandLemmas.{is-full, is-latest, not-full, number-full, number-latest}
use Rattle.engine.proofs.swaps.swap.Goals as goal

pub swap_full-requires-clause-begun : goal.swap_full-requires-clause-begun
swap_full-requires-clause-begun c = is-full c.args.ticket c.args.shown.now.full (sym c.kind_of.ensures ∙ c.in-Full.is)

pub swap_full-requires-clause-within : goal.swap_full-requires-clause-within
swap_full-requires-clause-within c =
    number-full c.args.ticket c.args.shown.now.full (staged_latest c.args.shown.now.latest) c.args.shown.now.published (length c.args.changes.now)
    (sym c.kind_of.ensures ∙ c.in-Full.is) c.requires.there

pub swap_latest-requires-clause-begun : goal.swap_latest-requires-clause-begun
swap_latest-requires-clause-begun c =
    is-latest c.args.ticket c.args.shown.now.full (staged_latest c.args.shown.now.latest) (sym c.kind_of.ensures ∙ c.in-Latest.is) c.requires.begun

pub swap_latest-requires-clause-other : goal.swap_latest-requires-clause-other
swap_latest-requires-clause-other c = not-full c.args.ticket c.args.shown.now.full (sym c.kind_of.ensures ∙ c.in-Latest.is)

pub swap_latest-requires-clause-within : goal.swap_latest-requires-clause-within
swap_latest-requires-clause-within c =
    number-latest c.args.ticket c.args.shown.now.full (staged_latest c.args.shown.now.latest) c.args.shown.now.published (length c.args.changes.now)
    (sym c.kind_of.ensures ∙ c.in-Latest.is) c.requires.there
