use Rattle.std.proofs.Common.{ℕ, ◌-◌, ◌%◌, ◌^◌, ◌<◌, List, [], ◌∷◌, ◌++◌, ap, subst, ◌∙◌, sym, arith}
use Rattle.expr_lang.specs.Print.{decimals_text}
use Rattle.expr_lang.proofs.Decimals.{digits_on, part_below}
use Rattle.expr_lang.proofs.printing.put_decimals.Goals as goal

pub loop-places-preserved : goal.loop-places-preserved
loop-places-preserved c = (
  ap (λ (o : List ℕ). o ++ decimals_text (c.loop-places.places - 1) (c.loop-places.left % c.unit-one.result)) (c.in_ok-put.ensures
      ∙ ap (λ (d : ℕ). c.loop-places.out.items ++ d ∷ []) c.digit.ensures)
      ∙ digits_on c.loop-places.out.items _ c.loop-places.places c.loop-places.left c.unit-one.result (omega arith) (omega arith) c.unit-one.ensures
      c.loop-places.invariant.0,
  subst (λ (d : ℕ). c.loop-places.left % d < 10 ^ (c.loop-places.places - 1)) (sym c.unit-one.ensures)
      (part_below (c.loop-places.places - 1) c.loop-places.left),
  omega arith,
)
