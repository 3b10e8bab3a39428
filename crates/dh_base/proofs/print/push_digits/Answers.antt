use Rattle.std.proofs.Common.{◌≡◌, ◌∙◌, ◌≢◌, ◌<◌, ◌+◌, ◌-◌, ◌/◌, ◌%◌, ◌^◌, ◌++◌, ◌∷◌, [], List, append_assoc, sym, ap, subst, arith, ℕ}
use Rattle.std.proofs.lemmas.List.{append-nil}
use Rattle.dh_base.specs.Decimals.{decimals}
use Rattle.dh_base.proofs.DecimalLemmas.{decimals_none, decimals_step, digit_below, rest_below, some_places, power_positive}
use Rattle.dh_base.proofs.print.push_digits.Goals as goal

weight_positive : (w p : ℕ) → w ≡ 10 ^ p → 0 < w
weight_positive w p e = subst (λ k. 0 < k) (sym e) (power_positive p)

digit_small : (w left beyond : ℕ) → w ≡ 10 ^ (beyond - 1) → left < 10 ^ beyond → 0 < left → left / w < 10
digit_small w left beyond e below some = subst (λ k. left / k < 10) (sym e) (digit_below beyond left (some_places beyond left below some) below)

some_left : (n : ℕ) → n ≢ 0 → 0 < n
some_left n h = omega (arith, h)

pub nonzero_div-left : goal.nonzero_div-left
nonzero_div-left c = weight_positive _ _ c.power_of_ten-weight.ensures

pub nonzero_rem-left : goal.nonzero_rem-left
nonzero_rem-left c = weight_positive _ _ c.power_of_ten-weight.ensures

pub overflow_cast-left : goal.overflow_cast-left
overflow_cast-left c =
    record { fits = omega (arith, digit_small _ _ _ c.power_of_ten-weight.ensures c.loop-left.invariant.below (some_left _ c.loop-left-test.true)) }

pub overflow_add-left : goal.overflow_add-left
overflow_add-left c =
    record { fits = omega (arith, digit_small _ _ _ c.power_of_ten-weight.ensures c.loop-left.invariant.below (some_left _ c.loop-left-test.true)) }

pub loop-left-smaller : goal.loop-left-smaller
loop-left-smaller c = omega (arith, some_places c.loop-left.beyond c.loop-left.left c.loop-left.invariant.below (some_left _ c.loop-left-test.true))

pushed : (before after whole : List ℕ) (w left beyond : ℕ) → w ≡ 10 ^ (beyond - 1) → left < 10 ^ beyond → 0 < left → after ≡ before ++ (48 + left / w) ∷ []
    → before ++ decimals beyond left ≡ whole
    → after ++ decimals (beyond - 1) (left % w) ≡ whole
pushed before after whole w left beyond e below some push written =
    ap (λ t. t ++ decimals (beyond - 1) (left % w)) push ∙ append_assoc before ((48 + left / w) ∷ []) (decimals (beyond - 1) (left % w))
    ∙ ap (λ k. before ++ (48 + left / k) ∷ decimals (beyond - 1) (left % k)) e
    ∙ ap (λ t. before ++ t) (sym (decimals_step beyond left (some_places beyond left below some) some)) ∙ written

pub loop-left-preserved : goal.loop-left-preserved
loop-left-preserved c =
    record {
      written =
          pushed c.loop-left.text.items c.push.new.self.items _ c.power_of_ten-weight.result c.loop-left.left c.loop-left.beyond c.power_of_ten-weight.ensures
          c.loop-left.invariant.below (some_left _ c.loop-left-test.true) c.in_ok-push.ensures.items c.loop-left.invariant.written;
      below =
          subst (λ k. c.loop-left.left % k < 10 ^ (c.loop-left.beyond - 1)) (sym c.power_of_ten-weight.ensures)
          (rest_below (c.loop-left.beyond - 1) c.loop-left.left);
      few = omega (arith, c.loop-left.invariant.few);
    }

pub returns : goal.returns
returns c =
    sym (append-nil c.loop-left.text.items)
    ∙ ap (λ t. c.loop-left.text.items ++ t) (sym (decimals_none c.loop-left.beyond) ∙ ap (decimals c.loop-left.beyond) (sym c.loop-left-test.false))
    ∙ c.loop-left.invariant.written
