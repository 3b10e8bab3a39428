use Rattle.std.proofs.Common.{subst, ap, length, ◌∙◌}
use Rattle.meta_rules.proofs.BothLemmas.{AllRead, all_read}
use Rattle.meta_rules.proofs.all.read_all.Goals as goal

pub returns-in-Ok-both : goal.returns-in-Ok-both
returns-in-Ok-both g c =
    let first = rw c.as_slice.ensures at (rw c.in-Ok.ensures at c.indicators-indicators.ensures) in
    let second = rw c.as_slice-2.ensures at (rw c.in-Ok.ensures at c.rules-rules.ensures) in
    let third = rw c.as_slice-3.ensures at (rw c.in-Ok.ensures at c.program_indicators-program_indicators.ensures) in
    let all = all_read g.reading.answer c.args.ids.now c.args.parts.now c.args.links c.indicators-indicators.result c.rules-rules.result
    c.program_indicators-program_indicators.result c.both-later.result c.both.result first second third c.both-later.ensures c.both.ensures in
    let told = subst (AllRead g.reading.answer c.args.ids.now c.args.parts.now c.args.links) c.in-Ok-both.is all in
    (told.0, c.together.ensures ∙ λ i. record { indicators = told.1.0 i; validation_rules = told.1.1.0 i; program_indicators = told.1.1.1 i })

pub returns-in-Err-both : goal.returns-in-Err-both
returns-in-Err-both g c =
    let first = rw c.as_slice.ensures at (rw c.in-Ok.ensures at c.indicators-indicators.ensures) in
    let second = rw c.as_slice-2.ensures at (rw c.in-Ok.ensures at c.rules-rules.ensures) in
    let third = rw c.as_slice-3.ensures at (rw c.in-Ok.ensures at c.program_indicators-program_indicators.ensures) in
    let all = all_read g.reading.answer c.args.ids.now c.args.parts.now c.args.links c.indicators-indicators.result c.rules-rules.result
    c.program_indicators-program_indicators.result c.both-later.result c.both.result first second third c.both-later.ensures c.both.ensures in
    subst (AllRead g.reading.answer c.args.ids.now c.args.parts.now c.args.links) c.in-Err-both.is all

pub indicators-indicators-requires : goal.indicators-indicators-requires
indicators-indicators-requires g c = ap length c.as_slice.ensures ∙ c.requires.0

pub rules-rules-requires : goal.rules-rules-requires
rules-rules-requires g c = ap length c.as_slice-2.ensures ∙ c.requires.1.0

pub program_indicators-program_indicators-requires : goal.program_indicators-program_indicators-requires
program_indicators-program_indicators-requires g c = ap length c.as_slice-3.ensures ∙ c.requires.1.1
