use Rattle.std.proofs.Common.{◌∙◌, ◌≤◌, length, map, sym, ap, subst}
use Rattle.std.specs.Prelude.{option_map}
use Rattle.std.specs.Arc.{arc_value}
use Rattle.engine.specs.Machine.{number_in}
use Rattle.engine.specs.Seen.{part_in}
use Rattle.engine.specs.Stands.{GoesTo}
use Rattle.engine.proofs.StandLemmas.{latest-there}
use Rattle.engine.proofs.swaps.swap_latest.Goals as goal

pub tables_after_latest-requires-clause-within : goal.tables_after_latest-requires-clause-within
tables_after_latest-requires-clause-within c =
    subst (λ n. n ≤ length c.args.changes.now) (sym (c.number_in-number.ensures ∙ ap number_in c.staged_of.ensures)) c.requires.within

pub tables_after_latest-requires-clause-over : goal.tables_after_latest-requires-clause-over
tables_after_latest-requires-clause-over c =
    let log = map arc_value c.args.changes.now in
    let shown = c.args.shown.now in
    subst (λ n. GoesTo c.args.meta.now log shown.base_cut n (option_map part_in shown.latest))
    (sym (c.number_in-number.ensures ∙ ap number_in c.staged_of.ensures))
    (latest-there c.args.meta.now log c.args.ticket shown.base_cut shown.latest c.requires.begun c.requires.shows.latest)
