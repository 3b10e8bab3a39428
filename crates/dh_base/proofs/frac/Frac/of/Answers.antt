use Rattle.std.proofs.Common.{◌≡◌, ◌∙◌, sym, subst, rules}
use Rattle.std.specs.Prelude.{◌<◌, unsigned_abs}
use Rattle.std.proofs.Common.{arith}
use Rattle.std.proofs.lemmas.Int.{ints}
use Rattle.dh_base.specs.Fractions.{fraction_of, HasValue}
use Rattle.dh_base.proofs.FractionLemmas.{fraction_of-HasValue, fraction_of-unique}
use Rattle.dh_base.proofs.frac.Frac.of.Goals as goal

value : (c : goal.After-lowest) → c.lowest.result ≡ fraction_of c.args.num (unsigned_abs c.args.den)
value c = search rules

positive : (c : goal.After-lowest) → 0 < unsigned_abs c.args.den
positive c = omega (arith, ints)

pub returns-clause-same : goal.returns-clause-same
returns-clause-same c =
    subst (λ f. HasValue f c.args.num (unsigned_abs c.args.den)) (sym (value c)) (fraction_of-HasValue c.args.num (unsigned_abs c.args.den) (positive c))

pub returns-clause-only : goal.returns-clause-only
returns-clause-only c f reduced same = fraction_of-unique f c.args.num (unsigned_abs c.args.den) (positive c) reduced same ∙ sym (value c)
