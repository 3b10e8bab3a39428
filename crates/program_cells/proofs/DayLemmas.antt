-- The days from the first of some periods to the last.
use Rattle.std.proofs.Common.{◌≡◌, ◌∙◌, ℤ, ◌≤ℤ◌, Bool, true, false, ◌||◌, List, [], ◌∷◌, ◌++◌, refl, sym, arith}
use Rattle.std.specs.Prelude.{int_le}
use Rattle.std.proofs.lemmas.Bool.{and_parts}
use Rattle.std.proofs.lemmas.Int.{ints}
use Rattle.std.proofs.lemmas.List.Folds.{list_any-append}
use Rattle.dh_periods.specs.declared.name.PeriodName.{PeriodName}
use Rattle.dh_periods.specs.Days.{first_day, last_day, is_day_in}
use Rattle.dh_periods.proofs.HeldLemmas.{int_le-yes}
use Rattle.program_cells.specs.Cells.{is_on_some}
use Rattle.program_cells.specs.Days.{IsAmong, Cover}
use Rattle.program_cells.specs.declared.days.Days.{Days}

pub cover_none : (days : Days) → Cover [] days
cover_none days = record { each = λ day is. absurd (cc) }

-- a period more, and days that are those before it and its own
pub cover_more : (ps : List PeriodName) (p : PeriodName) (old new : Days) → Cover ps old
    → new.from ≤ℤ old.from → new.from ≤ℤ first_day p → old.to ≤ℤ new.to → last_day p ≤ℤ new.to → Cover (ps ++ p ∷ []) new
cover_more ps p old new cover from first to last =
    record { each = λ day is. at day (is_on_some ps day) (is_day_in day p) refl refl (sym (list_any-append (is_day_in day) ps (p ∷ [])) ∙ is) }
  where
    at : (day : ℤ) (a b : Bool) → is_on_some ps day ≡ a → is_day_in day p ≡ b → (is_on_some ps day || (is_day_in day p || false)) ≡ true → IsAmong day new
    at day true b was here is =
        let among = cover.each day was in
        let low = among.from in
        let high = among.to in
        record { from = omega (arith, ints); to = omega (arith, ints) }
    at day false true was here is =
        let parts = and_parts (int_le (first_day p) day) (int_le day (last_day p)) here in
        let low = int_le-yes (first_day p) day parts.0 in
        let high = int_le-yes day (last_day p) parts.1 in
        record { from = omega (arith, ints); to = omega (arith, ints) }
    at day false false was here is = absurd (cc)
