use Rattle.std.proofs.Common.{◌≡◌, ◌∙◌, cond, Some, None, sym, ap, to_z-of_z, FitsSigned, rules}
use Rattle.std.specs.Int.{w128}
use Rattle.table_rows.specs.Samples.{numbered, total, weighted}
use Rattle.table_rows.specs.Values.{mean}
use Rattle.table_rows.proofs.TotalLemmas.{any-numbered}
use Rattle.table_rows.proofs.kinds.over_days.Goals as goal

pub returns-then-any_number : goal.returns-then-any_number
returns-then-any_number c =
    let samples = c.args.samples.now in
    let value = mean (total weighted (numbered samples)) c.args.days in
    let fits : FitsSigned w128 c.weighted_sum.result = search rules in
    let is : c.mean.result ≡ value =
    c.mean.ensures ∙ ap (λ m. mean m c.from.result) (to_z-of_z fits ∙ c.weighted_sum.ensures.sum)
    ∙ ap (mean (total weighted (numbered samples))) c.from.ensures in
    ap Some is ∙ sym (any-numbered samples value ∙ ap (λ b. cond b (Some value) None) (sym c.any_number.ensures ∙ c.if-any_number.true))

pub returns-else-any_number : goal.returns-else-any_number
returns-else-any_number c =
    let samples = c.args.samples.now in
    let value = mean (total weighted (numbered samples)) c.args.days in
    sym (any-numbered samples value ∙ ap (λ b. cond b (Some value) None) (sym c.any_number.ensures ∙ c.if-any_number.false))
