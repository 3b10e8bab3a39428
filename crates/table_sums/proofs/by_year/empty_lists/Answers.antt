use Rattle.std.proofs.Common.{◌∙◌, [], List, ℤ, map, ap}
use Rattle.std.proofs.lemmas.List.{take_all}
use Rattle.table_sums.proofs.ByYearLemmas.{empty-more}
use Rattle.table_sums.proofs.by_year.empty_lists.Goals as goal

pub loop-year-preserved : goal.loop-year-preserved
loop-year-preserved g c =
    empty-more c.args.years.now c.loop-year._year-index c.loop-year.lists.items c.push.new.self.items c.new.result c.loop-year-test.true c.new.ensures
    c.in_ok-push.ensures.items c.loop-year.invariant

pub loop-year-init : goal.loop-year-init
loop-year-init g c = c.new-lists.ensures.items

pub returns : goal.returns
returns g c =
    c.loop-year.invariant ∙ ap (λ (years : List ℤ). map (λ (year : ℤ). []) years) (take_all c.loop-year._year-index c.args.years.now c.loop-year-test.false)
