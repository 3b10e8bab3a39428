-- What it means that there is a period of a name.
use Rattle.std.proofs.Common.{◌≡◌, ◌≤◌, true, ◌&&◌, nat_le}
use Rattle.std.proofs.lemmas.Bool.{and_parts, and_from, le-leb, leb-true}
use Rattle.dh_periods.specs.declared.name.PeriodName.{PeriodName}
use Rattle.dh_periods.specs.Types.{shape_of}
use Rattle.dh_periods.specs.Days.{is_in_year_as, is_listed}

pub listed-parts : (p : PeriodName) → is_listed p ≡ true → (1900 ≤ p.year) × (p.year ≤ 2100) × (is_in_year_as (shape_of p.kind) p ≡ true)
unfolding is_listed
listed-parts p h =
    let a = and_parts (nat_le 1900 p.year) (nat_le p.year 2100 && is_in_year_as (shape_of p.kind) p) h in
    let b = and_parts (nat_le p.year 2100) (is_in_year_as (shape_of p.kind) p) a.1 in
    (leb-true 1900 p.year a.0, leb-true p.year 2100 b.0, b.1)

pub listed-from : (p : PeriodName) → 1900 ≤ p.year → p.year ≤ 2100 → is_in_year_as (shape_of p.kind) p ≡ true → is_listed p ≡ true
unfolding is_listed
listed-from p low high h = and_from _ _ (le-leb _ _ low) (and_from _ _ (le-leb _ _ high) h)
