-- What the lists of a store keep to.
use Rattle.std.proofs.Common.{◌≡◌, Bool, true, IsTrue, ℤ, List}
use Rattle.std.specs.List.{list_all}
use Rattle.std.specs.Ordering.{int_cmp}
use Rattle.std.proofs.lemmas.Bool.{and_parts}
use Rattle.table_rows.specs.declared.event.EventRow.{EventRow}
use Rattle.table_rows.specs.declared.event.RegRow.{RegRow}
use Rattle.table_rows.specs.declared.row.Row.{Row}
use Rattle.table_rows.specs.Order.{row_cmp}
use Rattle.table_rows.specs.Events.{event_cmp, reg_cmp, has_days}
use Rattle.table_rows.specs.Store.{is_store, is_short, rises, have_own_places}
use Rattle.dh_base.specs.Limits.{is_day}

pub record Holds (rows : List Row) (events : List EventRow) (regs : List RegRow) (years : List ℤ) : Type 0 where
  pub few_rows : is_short rows ≡ true
  pub few_events : is_short events ≡ true
  pub few_regs : is_short regs ≡ true
  pub rows_rise : rises row_cmp rows ≡ true
  pub events_rise : rises event_cmp events ≡ true
  pub regs_rise : rises reg_cmp regs ≡ true
  pub years_rise : rises int_cmp years ≡ true
  pub event_days : list_all has_days events ≡ true
  pub reg_days : list_all (λ (reg : RegRow). is_day reg.day) regs ≡ true
  pub own_places : have_own_places rows ≡ true

pub store-holds : (rows : List Row) (events : List EventRow) (regs : List RegRow) (years : List ℤ) → is_store rows events regs years ≡ true
    → Holds rows events regs years
unfolding is_store
store-holds rows events regs years e =
    let a = and_parts _ _ e in
    let b = and_parts _ _ a.1 in
    let c = and_parts _ _ b.1 in
    let d = and_parts _ _ c.1 in
    let f = and_parts _ _ d.1 in
    let g = and_parts _ _ f.1 in
    let h = and_parts _ _ g.1 in
    let i = and_parts _ _ h.1 in
    let j = and_parts _ _ i.1 in
    record {
      few_rows = a.0;
      few_events = b.0;
      few_regs = c.0;
      rows_rise = d.0;
      events_rise = f.0;
      regs_rise = g.0;
      years_rise = h.0;
      event_days =
          i.0;
      reg_days = j.0;
      own_places = j.1;
    }

pub true_from : (b : Bool) → IsTrue b → b ≡ true
true_from b h = h
