use Rattle.std.proofs.Common.{◌≡◌, ◌∙◌, true, false, get_or, subst, sym, ap, arith}
use Rattle.table_rows.specs.declared.row.RowKey.{RowKey}
use Rattle.table_sums.specs.declared.search.Bound.TheVariants as bound
use Rattle.table_sums.specs.Bounds.{is_before, IsCut, IsSpan}
use Rattle.table_sums.specs.Parts.{bound_of, key_at}
use Rattle.table_sums.proofs.PartLemmas.{before-both}
use Rattle.table_sums.proofs.WidthLemmas.{ended-in}
use Rattle.table_sums.proofs.range.run_of.Goals as goal

pub place_in-low-requires-clause-span : goal.place_in-low-requires-clause-span
place_in-low-requires-clause-span g c =
    subst (λ (k : RowKey). IsSpan k.group c.args.rows.now c.span_of-span.result.low c.span_of-span.result.high) (sym c.key_at.ensures)
    c.span_of-span.ensures

pub end_of-end-requires : goal.end_of-end-requires
end_of-end-requires g c = c.place_in-low.ensures.to

pub place_between-high-requires-clause-upto : goal.place_between-high-requires-clause-upto
place_between-high-requires-clause-upto g c = omega (arith, c.end_of-end.ensures)

pub place_between-high-requires-clause-within : goal.place_between-high-requires-clause-within
place_between-high-requires-clause-within g c =
    let within = c.span_of-span.ensures.within in
    omega (arith, c.end_of-end.ensures, within, c.place_in-low.ensures.to)

pub place_between-high-requires-clause-before : goal.place_between-high-requires-clause-before
place_between-high-requires-clause-before g c k d first =
    let cut : IsCut (is_before (bound_of c.args.part.now c.args.position c.args.part.now.from)) c.args.rows.now c.place_in-low.result =
    subst (λ (k : RowKey). IsCut (is_before (bound.Key k)) c.args.rows.now c.place_in-low.result) c.key_at.ensures c.place_in-low.ensures.cut in
    subst (λ (key : RowKey). is_before (bound.Key key) (get_or c.args.rows.now k d) ≡ true)
    (sym (c.key_at-last.ensures ∙ ap (key_at c.args.part.now c.args.position) c.max.ensures))
    (before-both c.args.part.now c.args.position (get_or c.args.rows.now k d) (cut.before k d first))

pub place_between-high-requires-clause-same : goal.place_between-high-requires-clause-same
place_between-high-requires-clause-same g c k d from to =
    let first = c.place_in-low.ensures.from in
    c.span_of-span.ensures.same k d (omega (arith, first, from)) (omega (arith, c.end_of-end.ensures, to, c.place_in-low.ensures.to))
    ∙ ap (λ (key : RowKey). key.group) (sym (c.key_at-last.ensures ∙ ap (key_at c.args.part.now c.args.position) c.max.ensures))

pub place_between-high-requires-clause-after : goal.place_between-high-requires-clause-after
place_between-high-requires-clause-after g c k d over within =
    let cut : IsCut (is_before (bound_of c.args.part.now c.args.position c.args.part.now.from)) c.args.rows.now c.place_in-low.result =
    subst (λ (k : RowKey). IsCut (is_before (bound.Key k)) c.args.rows.now c.place_in-low.result) c.key_at.ensures c.place_in-low.ensures.cut in
    subst (λ (key : RowKey). is_before (bound.Key key) (get_or c.args.rows.now k d) ≡ false)
    (sym (c.key_at-last.ensures ∙ ap (key_at c.args.part.now c.args.position) c.max.ensures))
    (ended-in c.args.part.now c.args.position c.args.rows.now c.span_of-span.result.low c.span_of-span.result.high c.place_in-low.result
    c.end_of-end.result c.requires c.span_of-span.ensures cut c.place_in-low.ensures.to c.end_of-end.ensures k d over within)

pub returns-clause-low : goal.returns-clause-low
returns-clause-low g c =
    subst (λ (k : RowKey). IsCut (is_before (bound.Key k)) c.args.rows.now c.place_in-low.result) c.key_at.ensures c.place_in-low.ensures.cut

pub returns-clause-high : goal.returns-clause-high
returns-clause-high g c =
    subst (λ (k : RowKey). IsCut (is_before (bound.Key k)) c.args.rows.now c.place_between-high.result)
    (c.key_at-last.ensures ∙ ap (key_at c.args.part.now c.args.position) c.max.ensures)
    c.place_between-high.ensures.cut

pub returns-clause-cost : goal.returns-clause-cost
returns-clause-cost g c = λ d few.
    let within = c.span_of-span.ensures.within in
    let first = c.place_in-low.ensures.cost d few in
    let second = c.place_between-high.ensures.cost d (omega (arith, c.end_of-end.ensures, within, c.place_in-low.ensures.to, few)) in
    omega (arith, first, second)
