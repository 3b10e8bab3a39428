-- The orders of rows, registrations and events are total, and what compares as equal is one.
use Rattle.std.proofs.Common.{◌≡◌, ◌∙◌, refl, ap, Ordering, Less, Equal, Greater}
use Rattle.std.specs.Cmp.{IsTotalOrder}
use Rattle.std.specs.Cmp.Lexicographic.{slice_cmp}
use Rattle.std.specs.FinMap.{IsAntisymmetric, nat_cmp-IsAntisymmetric, int_cmp-IsAntisymmetric, slice_cmp-IsAntisymmetric}
use Rattle.std.specs.Ordering.{is_eq, ordering_then, nat_cmp, int_cmp}
use Rattle.dh_periods.specs.contracts.period.PeriodOrd.TheImpl.Laws as period
use Rattle.dh_periods.proofs.KeyLemmas.{same_period-Decides}
use Rattle.table_rows.specs.Order.{period_cmp, group_cmp, key_cmp}
use Rattle.table_rows.proofs.OrderLemmas.{group_ties, same_group-true}
use Rattle.table_build.specs.contracts.regs.RegPlaceOrd.TheImpl.Laws as reg_place
use Rattle.table_build.specs.contracts.events.EventPlaceOrd.TheImpl.Laws as event_place
use Rattle.table_build.specs.Regs as registrations
use Rattle.table_build.specs.Events as tracker

both-equal : (o rest : Ordering) → ordering_then o rest ≡ Equal → (o ≡ Equal) × (rest ≡ Equal)
both-equal Less rest e = absurd (cc)
both-equal Equal rest e = (refl, e)
both-equal Greater rest e = absurd (cc)

same-period : IsAntisymmetric period_cmp
same-period a b e = (same_period-Decides a b).0 (period.matches_eq-law a b ∙ ap is_eq e)

same-group : IsAntisymmetric group_cmp
same-group a b e = same_group-true a b (group_ties a b ∙ ap is_eq e)

pub same-key : IsAntisymmetric key_cmp
same-key a b e =
    let first = both-equal (group_cmp a.group b.group) (ordering_then (nat_cmp a.position b.position) (nat_cmp a.order b.order)) e in
    let second = both-equal (nat_cmp a.position b.position) (nat_cmp a.order b.order) first.1 in
    let group = same-group a.group b.group first.0 in
    let position = nat_cmp-IsAntisymmetric a.position b.position second.0 in
    let order = nat_cmp-IsAntisymmetric a.order b.order second.1 in
    λ i. record { group = group i; position = position i; order = order i }

pub reg_total : IsTotalOrder registrations.place_cmp
reg_total = reg_place.total-law

pub same-reg : IsAntisymmetric registrations.place_cmp
same-reg a b e =
    let first =
    both-equal (nat_cmp a.set b.set) (ordering_then (period_cmp a.period b.period)
    (ordering_then (nat_cmp a.order b.order) (nat_cmp a.attribute b.attribute))) e in
    let second = both-equal (period_cmp a.period b.period) (ordering_then (nat_cmp a.order b.order) (nat_cmp a.attribute b.attribute)) first.1 in
    let third = both-equal (nat_cmp a.order b.order) (nat_cmp a.attribute b.attribute) second.1 in
    let set = nat_cmp-IsAntisymmetric a.set b.set first.0 in
    let around = same-period a.period b.period second.0 in
    let order = nat_cmp-IsAntisymmetric a.order b.order third.0 in
    let attribute = nat_cmp-IsAntisymmetric a.attribute b.attribute third.1 in
    λ i. record { set = set i; period = around i; order = order i; attribute = attribute i }

pub event_total : IsTotalOrder tracker.place_cmp
event_total = event_place.total-law

pub same-event : IsAntisymmetric tracker.place_cmp
same-event a b e =
    let parts = both-equal (int_cmp a.day b.day) (slice_cmp nat_cmp a.id b.id) e in
    let day = int_cmp-IsAntisymmetric a.day b.day parts.0 in
    let id = slice_cmp-IsAntisymmetric nat_cmp-IsAntisymmetric a.id b.id parts.1 in
    λ i. record { day = day i; id = id i }
