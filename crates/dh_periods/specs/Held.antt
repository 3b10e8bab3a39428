-- What a period holds: its days beside its name.
use Rattle.std.specs.Prelude.{◌≡◌, IsTrue, refl}
use Rattle.dh_periods.specs.declared.name.PeriodName.{PeriodName}
use Rattle.dh_periods.specs.declared.period.Period.TheInside.{Inside}
use Rattle.dh_periods.specs.Days.{is_listed, first_day, last_day}

-- there is such a period, and these are its days
abbrev pub IsHeld : Inside → Type 0
IsHeld a = IsTrue (is_listed a.name) × (a.first ≡ first_day a.name) × (a.last ≡ last_day a.name)

-- a name gives the days back
abbrev pub fields : PeriodName → Inside
fields p = record { last = last_day p; first = first_day p; name = p }

pub fields-view : (a : Inside) → IsHeld a → fields a.name ≡ a
fields-view a h = rw (← h.1, ← h.2) refl
