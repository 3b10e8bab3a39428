use Rattle.std.proofs.Common.{◌∙◌}
use Rattle.dh_periods.specs.declared.kind.Shape.TheVariants.{Day, Week, Months}
use Rattle.std.proofs.Common.{refl}
use Rattle.dh_periods.proofs.PlaceLemmas.{place-as}
use Rattle.dh_periods.proofs.places.place_with.Goals as goal

pub returns-in-Day-clause-value : goal.returns-in-Day-clause-value
returns-in-Day-clause-value c = place-as Day c.args.kind c.args.place _ c.in-Day.ensures.value refl

pub returns-in-Week-clause-value : goal.returns-in-Week-clause-value
returns-in-Week-clause-value c = place-as Week c.args.kind c.args.place _ c.in-Week.ensures.value refl

pub returns-in-Months-clause-value : goal.returns-in-Months-clause-value
returns-in-Months-clause-value c =
    place-as (Months c.in-Months.count c.in-Months.opening) c.args.kind c.args.place _ c.in-Months.ensures.value (c.from.ensures ∙ c.months_with.ensures.value)
