use Rattle.std.proofs.Common.{◌≡◌, ◌∙◌, ℕ, Bool, List, [], ◌∷◌, ◌++◌, length, cond, filter, sym, ap, append_assoc, arith}
use Rattle.query_lang.specs.Walk.{first_units, walk_of}
use Rattle.query_lang.specs.Parts.{is_kin, kin_of}
use Rattle.query_lang.proofs.WalkLemmas.{filtered-more}
use Rattle.query_lang.proofs.kin.push_kin.Goals as goal

pub loop-order-preserved : goal.loop-order-preserved
loop-order-preserved c =
    let test : ℕ → Bool = is_kin c.args.tree.now c.args.views.now c.args.degree in
    let unit : ℕ = c.unit_at-unit.result in
    let before : List ℕ = filter test (first_units c.args.tree.now c.loop-order.order) in
    c.in_ok-push_if.ensures
    ∙ ap (λ b. c.loop-order.units.items ++ cond b (unit ∷ []) []) c.is_kin-passes.ensures
    ∙ ap (λ (xs : List ℕ). xs ++ filter test (unit ∷ [])) c.loop-order.invariant
    ∙ append_assoc c.args.units.now.items before (filter test (unit ∷ []))
    ∙ ap (λ (xs : List ℕ). c.args.units.now.items ++ xs)
    (sym (filtered-more c.args.tree.now test unit c.loop-order.order c.count-order-end.ensures.tree c.unit_at-unit.ensures.in_range
    c.unit_at-unit.ensures.unit))

pub is_kin-passes-requires-clause-unit : goal.is_kin-passes-requires-clause-unit
is_kin-passes-requires-clause-unit c = c.unit_at-unit.ensures.in_range

pub returns : goal.returns
unfolding kin_of walk_of
returns c =
    let test : ℕ → Bool = is_kin c.args.tree.now c.args.views.now c.args.degree in
    let all : c.loop-order.order ≡ length c.args.tree.now = omega arith in
    c.loop-order.invariant ∙ ap (λ n. c.args.units.now.items ++ filter test (first_units c.args.tree.now n)) all
