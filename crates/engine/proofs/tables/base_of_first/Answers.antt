use Rattle.std.proofs.Common.{◌∙◌, ◌≤◌, ◌≡◌, subst, sym, ap, map, take, length, true}
use Rattle.std.specs.Arc.{arc_value}
use Rattle.std.specs.List.{list_all}
use Rattle.table_sums.specs.YearParts.{YearParts, together, years_in}
use Rattle.table_build.specs.Log.{is_of_days}
use Rattle.table_build.specs.Listed.{listed_in}
use Rattle.table_build.specs.Slots.{AreSlots}
use Rattle.engine.specs.Seen.{FitSlots}
use Rattle.engine.proofs.Days.{all-of-days}
use Rattle.engine.proofs.Steps.{first-few, first-fits}
use Rattle.engine.proofs.StandLemmas.{first-words, tables-first, years-first}
use Rattle.engine.proofs.tables.base_of_first.Goals as goal

pub build-requires : goal.build-requires
build-requires c =
    let e = sym (first-words arc_value c.args.number c.args.changes.now) in
    record {
      few = subst (λ x. length x ≤ 4194304) e (first-few c.args.number _ c.requires.few);
      days = subst (λ x. list_all is_of_days x ≡ true) e (all-of-days _ (first-fits c.args.number _ c.requires.fits));
    }

pub build_with-requires : goal.build_with-requires
build_with-requires c =
    let e = sym (first-words arc_value c.args.number c.args.changes.now) in
    record {
      few = subst (λ x. length x ≤ 4194304) e (first-few c.args.number _ c.requires.few);
      days = subst (λ x. list_all is_of_days x ≡ true) e (all-of-days _ (first-fits c.args.number _ c.requires.fits));
      slots = subst (λ x. AreSlots (listed_in c.args.meta.now x) c.in-Some.slots.items) e
          (subst (FitSlots c.args.meta.now (take c.args.number (map arc_value c.args.changes.now))) c.in-Some.is c.requires.slots);
    }

pub returns-in_ok-new-in-Some-clause-parts : goal.returns-in_ok-new-in-Some-clause-parts
returns-in_ok-new-in-Some-clause-parts c =
    ap (λ (t : YearParts). together t.parts) c.in_ok-new-in-Some.ensures.ok ∙ c.in_ok-build_with-in-Some.ensures.contents
    ∙ tables-first arc_value c.args.meta.now c.args.number c.args.changes.now

pub returns-in_ok-new-in-Some-clause-years : goal.returns-in_ok-new-in-Some-clause-years
returns-in_ok-new-in-Some-clause-years c =
    ap (λ (t : YearParts). years_in t.parts) c.in_ok-new-in-Some.ensures.ok ∙ c.in_ok-build_with-in-Some.ensures.years
    ∙ years-first arc_value c.args.meta.now c.args.number c.args.changes.now

pub returns-in_ok-new-in-None-clause-parts : goal.returns-in_ok-new-in-None-clause-parts
returns-in_ok-new-in-None-clause-parts c =
    ap (λ (t : YearParts). together t.parts) c.in_ok-new-in-None.ensures.ok ∙ c.in_ok-build-in-None.ensures.contents
    ∙ tables-first arc_value c.args.meta.now c.args.number c.args.changes.now

pub returns-in_ok-new-in-None-clause-years : goal.returns-in_ok-new-in-None-clause-years
returns-in_ok-new-in-None-clause-years c =
    ap (λ (t : YearParts). years_in t.parts) c.in_ok-new-in-None.ensures.ok ∙ c.in_ok-build-in-None.ensures.years
    ∙ years-first arc_value c.args.meta.now c.args.number c.args.changes.now
