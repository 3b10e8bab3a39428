use Rattle.std.proofs.Common.{◌≡◌, ◌∙◌, List, subst}
use Rattle.std.specs.Prelude.{OnOk}
use Rattle.table_sums.proofs.ByYearLemmas.{put-none, put-some}
use Rattle.table_sums.proofs.by_year.put.Goals as goal

pub returns-in-Some : goal.returns-in-Some
returns-in-Some g c = λ before known.
    subst (λ (lists : List (List _)). OnOk c.add.result (c.add.new.lists.items ≡ lists))
    (put-some g.T.Dated.is_in c.args.years.now c.args.lists.now.items before c.args.member c.in-Some.at c.requires.years c.in-Some.ensures.found
    c.in-Some.ensures.year known) c.add.ensures

pub returns-in-None : goal.returns-in-None
returns-in-None g c = λ before known. known ∙ put-none g.T.Dated.is_in c.args.years.now before c.args.member c.in-None.ensures.none
