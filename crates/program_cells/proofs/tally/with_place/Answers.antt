use Rattle.std.proofs.Common.{◌≡◌, sym, subst}
use Rattle.std.specs.Prelude.{IfSome, option_map}
use Rattle.std.specs.Option.{option_to_list}
use Rattle.program_cells.specs.Tally.{taken_at, summed, numbered}
use Rattle.program_cells.proofs.TallyLemmas.{taken_more}
use Rattle.program_cells.proofs.tally.with_place.Goals as goal

pub returns-then-place-samples-clause-sum : goal.returns-then-place-samples-clause-sum
returns-then-place-samples-clause-sum c = λ rest.
    subst (λ list. IfSome c.with_sample.result
    (λ next. summed 1 c.args.tally.now.sum.number list ≡ summed 1 next.sum.number (taken_at (option_map option_to_list) c.args.samples.now rest)))
    (sym (taken_more (option_map option_to_list) c.args.samples.now c.args.place c.index-samples-place.result rest c.if-place-samples.true
    c.index-samples-place.is))
    (c.with_sample.ensures.sum (taken_at (option_map option_to_list) c.args.samples.now rest))

pub returns-then-place-samples-clause-count : goal.returns-then-place-samples-clause-count
returns-then-place-samples-clause-count c = λ rest.
    subst (λ list. IfSome c.with_sample.result (λ next. numbered c.args.tally.now.count list
    ≡ numbered next.count (taken_at (option_map option_to_list) c.args.samples.now rest)))
    (sym (taken_more (option_map option_to_list) c.args.samples.now c.args.place c.index-samples-place.result rest c.if-place-samples.true
    c.index-samples-place.is))
    (c.with_sample.ensures.count (taken_at (option_map option_to_list) c.args.samples.now rest))
