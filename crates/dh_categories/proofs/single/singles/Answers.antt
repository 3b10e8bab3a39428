use Rattle.std.proofs.Common.{◌≡◌, ◌<◌, ◌+◌, ℕ, [], length, get_or, set, sym, ap, ◌∙◌, subst, arith}
use Rattle.std.proofs.lemmas.List.{get_or_default}
use Rattle.dh_categories.specs.Single.{AreSingles, one_more}
use Rattle.dh_categories.specs.declared.single.Single.{Single}
use Rattle.dh_categories.specs.declared.single.Single.TheVariants.{Absent}
use Rattle.dh_categories.proofs.ComboLemmas.{AreSingles-more}
use Rattle.dh_categories.proofs.single.singles.Goals as goal

pub loop-place-preserved : goal.loop-place-preserved
loop-place-preserved c =
    let ocs = c.args.option_combos.now in
    let singles = c.loop-place.singles.items in
    let place = c.loop-place.place in
    let combo = c.combo_at-combo.result in
    let at : combo ≡ (get_or ocs place (0, [])).0 = c.combo_at-combo.ensures in
    let inside : combo < c.args.count = subst (λ (v : ℕ). v < c.args.count) (sym at) (c.requires.in_range.below place c.loop-place-test.true) in
    let in_list : combo < length singles = let e = c.loop-place.invariant.same_length in omega arith in
    let more : c.with_one_more.result ≡ one_more (get_or singles combo Absent) place =
    c.with_one_more.ensures ∙ ap (λ (s : Single). one_more s place) (c.index.ensures ∙ get_or_default singles combo c.index.result.now Absent in_list) in
    subst (λ (s : Single). AreSingles ocs c.args.count (place + 1) (set singles combo s)) (sym more)
    (AreSingles-more ocs c.args.count place combo singles c.loop-place-test.true at inside c.loop-place.invariant)
