use Rattle.std.proofs.Common.{◌∙◌, get_or, ◌++◌, append-nil, map, sym, ap, ℕ, List}
use Rattle.std.proofs.lemmas.List.{drop_all, get_or_default, map-append}
use Rattle.table_rows.specs.RowSamples.{sample_of}
use Rattle.cell_values.specs.Parts.{range_rows, ranged_rows}
use Rattle.cell_values.proofs.PlanLemmas.{taken-more}
use Rattle.cell_values.proofs.gathered.add_group.Goals as goal

pub loop-range-preserved : goal.loop-range-preserved
loop-range-preserved g c =
    let rows = g.S.RowStore.rows c.args.store.now in
    let need = c.args.need in
    let group = c.args.group.now in
    let ranges = c.args.ranges.now in
    let at = c.loop-range.range-index in
    let found = c.loop-range.samples.items in
    let range : ℕ × ℕ = get_or ranges at (0, 0) in
    taken-more (λ (left : List (ℕ × ℕ)). map sample_of (ranged_rows rows need left group))
    (λ (r : ℕ × ℕ). map sample_of (range_rows rows need group r))
    (λ r more. map-append sample_of (range_rows rows need group r) (ranged_rows rows need more group))
    ranges at range found c.add_samples.new.samples.items (c.args.samples.now.items ++ map sample_of (ranged_rows rows need ranges group))
    c.loop-range-test.true (get_or_default ranges at (0, 0) range c.loop-range-test.true) c.loop-range.invariant
    (c.in_ok-add_samples.ensures ∙ ap (λ l. found ++ map sample_of l) (c.as_slice.ensures ∙ c.in_ok-rows.ensures))

pub returns : goal.returns
returns g c =
    sym (append-nil c.loop-range.samples.items)
    ∙ ap (λ (ranges : List (ℕ × ℕ)). c.loop-range.samples.items ++ map sample_of (ranged_rows (g.S.RowStore.rows c.args.store.now) c.args.need ranges c.args.group.now))
    (sym (drop_all c.loop-range.range-index c.args.ranges.now c.loop-range-test.false))
    ∙ c.loop-range.invariant
