use Rattle.std.proofs.Common.{◌≡◌, ◌+◌, subst, true, pos, ◌+ℤ◌}
use Rattle.dh_periods.specs.declared.name.PeriodName.{PeriodName}
use Rattle.dh_periods.specs.Places.{nth_period, ordinal_of}
use Rattle.dh_periods.proofs.PlaceLemmas.{nth_period-ordinal, ordinal_of-next}
use Rattle.dh_periods.specs.Days.{is_listed, first_day, last_day}
use Rattle.dh_periods.proofs.period.Period.ordinal.Goals as goal

pub returns-clause-place : goal.returns-clause-place
returns-clause-place c =
    let P : PeriodName → Type 0 = λ p. nth_period p.kind (ordinal_of p) ≡ p in
    subst P c.self.view_is (nth_period-ordinal c.self.inside.name c.self.invariant.0)

pub returns-clause-next : goal.returns-clause-next
returns-clause-next c =
    let P : PeriodName → Type 0 = λ q. (p : PeriodName) → is_listed p ≡ true → p.kind ≡ q.kind → ordinal_of p ≡ ordinal_of q + 1
    → first_day p ≡ last_day q +ℤ pos 1 in
    subst P c.self.view_is (λ p h same next. ordinal_of-next c.self.inside.name p c.self.invariant.0 h same next)
