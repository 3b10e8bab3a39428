use Rattle.std.proofs.Common.{◌≡◌, ◌∙◌, Some, length, sym, ap, rules}
use Rattle.dh_base.specs.Fractions.{of_micros}
use Rattle.program_cells.specs.Tally.{micro_sample, taken_at}
use Rattle.program_cells.proofs.TallyLemmas.{tallied_is}
use Rattle.program_cells.proofs.micros.value_by_sum.Goals as goal

pub returns : goal.returns
returns c =
    let sum : c.of.result ≡ of_micros c.in_ok-sum.sum.number = search rules in
    tallied_is c.args.by (taken_at micro_sample c.args.list.now c.args.places.now) c.of.result (length c.args.places.now)
    c.tallied.result (c.in_ok-sum.ensures.sum ∙ ap Some (sym sum)) c.in_ok-sum.ensures.count c.tallied.ensures
