use Rattle.std.proofs.Common.{◌≡◌, ◌∙◌, Some, sym, ap, rules}
use Rattle.std.specs.Prelude.{option_map}
use Rattle.std.specs.Option.{option_to_list}
use Rattle.dh_base.specs.Fractions.{fraction_of}
use Rattle.program_cells.specs.Tally.{taken_at}
use Rattle.program_cells.proofs.TallyLemmas.{tallied_is}
use Rattle.program_cells.proofs.tally.value_by_tally.Goals as goal

pub returns : goal.returns
returns c =
    let sum : c.of.result ≡ fraction_of c.in_ok-tally.tally.sum.number 1 = search rules in
    tallied_is c.args.by (taken_at (option_map option_to_list) c.args.samples.now c.args.places.now) c.of.result c.in_ok-tally.tally.count
    c.tallied.result (c.in_ok-tally.ensures.sum ∙ ap Some (sym sum)) c.in_ok-tally.ensures.count c.tallied.ensures
