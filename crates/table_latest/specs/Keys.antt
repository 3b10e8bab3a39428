-- The keys by which a latest part speaks of rows and registrations. It speaks of events by their identifiers.
use Rattle.std.specs.Prelude.{◌≡◌, ℕ, ◌<◌, ◌≤◌, Bool, false, List, length, get_or}
use Rattle.std.specs.List.{list_any}
use Rattle.std.specs.Ordering.{ordering_then, nat_cmp, is_eq, is_lt}
use Rattle.std.specs.declared.cmp.Ordering.{Ordering}
use Rattle.std.specs.declared.cmp.Ordering.TheVariants.{Less}
use Rattle.table_rows.specs.declared.row.Row.{Row}
use Rattle.table_rows.specs.declared.row.Group.{Group}
use Rattle.table_rows.specs.declared.event.RegRow.{RegRow}
use Rattle.table_rows.specs.Rows.{group_of}
use Rattle.table_rows.specs.Order.{group_cmp, period_cmp}
use Rattle.table_latest.specs.declared.places.RowPlace.{RowPlace}
use Rattle.table_latest.specs.declared.places.RegPlace.{RegPlace}

-- a group and a unit's order: of these a store has one row, in whatever approved position
abbrev pub place_at : Group → ℕ → RowPlace
place_at group order = record { group = group; order = order }

abbrev pub place_of : Row → RowPlace
place_of row = place_at (group_of row) row.order

abbrev pub place_cmp : RowPlace → RowPlace → Ordering
place_cmp a b = ordering_then (group_cmp a.group b.group) (nat_cmp a.order b.order)

-- what tells a registration from all others
abbrev pub reg_place_of : RegRow → RegPlace
reg_place_of reg = record { set = reg.set; period = reg.period; order = reg.order; attribute = reg.attribute }

abbrev pub reg_place_cmp : RegPlace → RegPlace → Ordering
reg_place_cmp a b =
    ordering_then (nat_cmp a.set b.set) (ordering_then (period_cmp a.period b.period)
    (ordering_then (nat_cmp a.order b.order) (nat_cmp a.attribute b.attribute)))

-- a key is one of these
abbrev pub is_among : {K : Type 0} → (K → K → Ordering) → List K → K → Bool
is_among cmp keys key = list_any (λ k. is_eq (cmp k key)) keys

-- the first `at` keys stand before this one, and no later one does
pub record IsCutAt {K : Type 0} (cmp : K → K → Ordering) (key : K) (keys : List K) (at : ℕ) : Type 0 where
  pub within : at ≤ length keys
  pub before : (k : ℕ) (d : K) → k < at → cmp (get_or keys k d) key ≡ Less
  pub after : (k : ℕ) (d : K) → at ≤ k → k < length keys → is_lt (cmp (get_or keys k d) key) ≡ false
