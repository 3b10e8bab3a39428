use Rattle.std.proofs.Common.{ℕ, List, refl, subst}
use Rattle.std.proofs.lemmas.List.{take_all}
use Rattle.dh_metadata.specs.Members.{IsPutAt}
use Rattle.dh_metadata.proofs.HolderLemmas.{put_more, put_begun}
use Rattle.dh_metadata.proofs.holders.put_at.Goals as goal

pub loop-number-init : goal.loop-number-init
loop-number-init c = put_begun c.args.place c.args.numbers.now c.args.all.now.items

pub loop-number-preserved : goal.loop-number-preserved
loop-number-preserved c =
    put_more c.args.place c.loop-number.number-index _ c.args.numbers.now c.args.all.now.items c.loop-number.all.items c.put_one.new.all.items
    c.requires c.loop-number-test.true refl c.loop-number.invariant c.in_ok-put_one.ensures

pub returns : goal.returns
returns c =
    subst (λ (numbers : List ℕ). IsPutAt c.args.place numbers c.args.all.now.items c.loop-number.all.items)
    (take_all c.loop-number.number-index c.args.numbers.now c.loop-number-test.false) c.loop-number.invariant
