use Rattle.std.proofs.Common.{length, List, Option, ℕ, subst, sym, ap, ◌∙◌, arith}
use Rattle.org_tree.specs.Count.{first_below}
use Rattle.org_tree.specs.Levels.{StaysInside, IsTwice, leads_on}
use Rattle.org_tree.proofs.LevelLemmas.{StaysInside-from_Climbs, Climbs-twice, endless-from_Climbs}
use Rattle.org_tree.proofs.levels.first_endless.Goals as goal

pub twice-requires-clause-inside : goal.twice-requires-clause-inside
twice-requires-clause-inside c =
    subst (λ (v : List (Option ℕ)). StaysInside v) (sym c.deref.ensures.value)
    (StaysInside-from_Climbs c.args.units.now c.requires.parents c.loop-steps.steps c.loop-steps.jumps.items c.loop-steps.invariant.climbs)

pub loop-steps-preserved : goal.loop-steps-preserved
loop-steps-preserved c = record {
  climbs = Climbs-twice c.args.units.now c.requires.parents c.loop-steps.steps c.loop-steps.jumps.items c.in_ok-jumps-2.jumps.items
      c.loop-steps.invariant.climbs
      (subst (λ (v : List (Option ℕ)). IsTwice v c.in_ok-jumps-2.jumps.items) c.deref.ensures.value c.in_ok-jumps-2.ensures);
  positive = omega (arith, c.loop-steps.invariant.positive);
}

pub returns : goal.returns
returns c =
    c.first_leading_on.ensures
    ∙ ap (λ (v : List (Option ℕ)). first_below (leads_on v) (length v)) c.deref-2.ensures.value
    ∙ endless-from_Climbs c.args.units.now c.requires.parents c.loop-steps.steps c.loop-steps.jumps.items c.loop-steps.invariant.climbs c.loop-steps-test.false
