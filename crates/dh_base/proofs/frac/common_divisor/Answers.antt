use Rattle.std.proofs.Common.{◌≡◌, ◌∙◌, sym, ap, subst, ◌<◌, ◌≤◌}
use Rattle.dh_base.specs.Fractions.{gcd}
use Rattle.dh_base.proofs.GcdLemmas.{gcd_zero, gcd_step, gcd-positive, gcd-le}
use Rattle.dh_base.proofs.frac.common_divisor.Goals as goal

pub loop-y-preserved : goal.loop-y-preserved
loop-y-preserved c = gcd_step c.loop-y.x c.loop-y.y ∙ c.loop-y.invariant

value : (c : goal.After-loop-y) → c.loop-y.x ≡ gcd c.args.a c.args.b
value c = sym (gcd_zero c.loop-y.x) ∙ ap (gcd c.loop-y.x) (sym c.loop-y-test.false) ∙ c.loop-y.invariant

pub returns : goal.returns
returns c = record {
  value = value c;
  some = λ h. subst (λ g. 0 < g) (sym (value c)) (gcd-positive c.args.a c.args.b h);
  least = λ h. subst (λ g. g ≤ c.args.b) (sym (value c)) (gcd-le c.args.a c.args.b h);
}
