use Rattle.std.proofs.Common.{◌≡◌, ℕ, List, [], true, get_or, sym, ◌∙◌, subst, arith}
use Rattle.std.proofs.lemmas.List.{get_or_default}
use Rattle.dh_categories.specs.Combos.{is_bad, shown_combos}
use Rattle.dh_categories.proofs.ComboLemmas.{position_found, position_none}
use Rattle.dh_categories.proofs.combos.first_bad.Goals as goal

pub returns-then-is_wrong : goal.returns-then-is_wrong
returns-then-is_wrong c =
    let combos = shown_combos c.args.combos.now in
    let ocs = c.args.option_combos.now in
    let place = c.loop-place.place in
    let read : c.index-option_combos-place.result ≡ get_or ocs place (0, []) =
    c.index-option_combos-place.is ∙ get_or_default ocs place c.index-option_combos-place.result (0, []) c.loop-place-test.true in
    sym (position_found (is_bad combos) ocs place (0, []) c.loop-place-test.true c.loop-place.invariant
    (subst (λ (v : ℕ × List ℕ). is_bad combos v ≡ true) read (sym c.is_wrong.ensures ∙ c.if-is_wrong.true)))

pub returns : goal.returns
returns c =
    sym (position_none (is_bad (shown_combos c.args.combos.now)) c.args.option_combos.now (0, []) (λ k h. c.loop-place.invariant k (omega arith)))
