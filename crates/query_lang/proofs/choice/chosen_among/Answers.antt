use Rattle.std.proofs.Common.{◌≡◌, ◌∙◌, ℕ, Bool, List, [], ◌∷◌, ◌++◌, length, cond, filter, sym, ap, arith}
use Rattle.query_lang.specs.Walk.{first_units, walk_of}
use Rattle.query_lang.specs.Choice.{is_chosen}
use Rattle.query_lang.proofs.WalkLemmas.{filtered-more}
use Rattle.query_lang.proofs.choice.chosen_among.Goals as goal

pub loop-order-preserved : goal.loop-order-preserved
loop-order-preserved c =
    let test : ℕ → Bool = is_chosen c.args.tree.now c.args.narrowing.now.bounds.now c.args.narrowing.now.levels.now
    c.args.narrowing.now.grouped c.args.narrowing.now.members.now in
    let unit : ℕ = c.unit_at-unit.result in
    c.in_ok-push_if.ensures
    ∙ ap (λ b. c.loop-order.found.items ++ cond b (unit ∷ []) []) c.is_chosen-passes.ensures
    ∙ ap (λ (xs : List ℕ). xs ++ filter test (unit ∷ [])) c.loop-order.invariant
    ∙ sym (filtered-more c.args.tree.now test unit c.loop-order.order c.count-order-end.ensures.tree c.unit_at-unit.ensures.in_range
    c.unit_at-unit.ensures.unit)

pub is_chosen-passes-requires-clause-unit : goal.is_chosen-passes-requires-clause-unit
is_chosen-passes-requires-clause-unit c = c.unit_at-unit.ensures.in_range

pub is_chosen-passes-requires-clause-seen : goal.is_chosen-passes-requires-clause-seen
is_chosen-passes-requires-clause-seen c = c.in_ok-seen.ensures

pub returns : goal.returns
unfolding walk_of
returns c =
    let test : ℕ → Bool = is_chosen c.args.tree.now c.args.narrowing.now.bounds.now c.args.narrowing.now.levels.now
    c.args.narrowing.now.grouped c.args.narrowing.now.members.now in
    let all : c.loop-order.order ≡ length c.args.tree.now = omega arith in
    c.loop-order.invariant ∙ ap (λ n. filter test (first_units c.args.tree.now n)) all
