-- The lists that a store stands for.
use Rattle.std.specs.Prelude.{Bool, true, not, ◌&&◌, nat_le, ℤ, List, [], ◌∷◌, length}
use Rattle.std.specs.List.{list_all, list_any}
use Rattle.std.specs.Ordering.{int_cmp, is_lt}
use Rattle.std.specs.declared.cmp.Ordering.{Ordering}
use Rattle.table_rows.specs.declared.event.EventRow.{EventRow}
use Rattle.table_rows.specs.declared.event.RegRow.{RegRow}
use Rattle.table_rows.specs.declared.row.Row.{Row}
use Rattle.table_rows.specs.Order.{row_cmp}
use Rattle.table_rows.specs.Rows.{same_place}
use Rattle.table_rows.specs.Events.{event_cmp, reg_cmp, has_days}
use Rattle.dh_base.specs.declared.limits.TheConstants.{MOST_RECORDS}
use Rattle.dh_base.specs.Limits.{is_day}

-- x is below the first of a list, and each member below the next
abbrev pub rises_from : {X : Type 0} → (X → X → Ordering) → X → List X → Bool
rises_from cmp x [] = true
rises_from cmp x (y ∷ ys) = is_lt (cmp x y) && rises_from cmp y ys

-- each member is below the next
abbrev pub rises : {X : Type 0} → (X → X → Ordering) → List X → Bool
rises cmp [] = true
rises cmp (x ∷ xs) = rises_from cmp x xs

-- no member is like a later one
abbrev pub all_differ : {X : Type 0} → (X → X → Bool) → List X → Bool
all_differ like [] = true
all_differ like (x ∷ xs) = not (list_any (like x) xs) && all_differ like xs

-- of one group no two rows have the same order, so that each unit stands there in at most one approved position
abbrev pub have_own_places : List Row → Bool
have_own_places rows = all_differ same_place rows

abbrev pub is_short : {X : Type 0} → List X → Bool
is_short xs = nat_le (length xs) MOST_RECORDS

-- each list is in its order without a repeat and has at most 4,194,304 members, days lie in the years from 1900 to 2100, and of a
-- group each unit has at most one row
unfoldable pub is_store : List Row → List EventRow → List RegRow → List ℤ → Bool
is_store rows events regs years =
    is_short rows && (is_short events && (is_short regs && (rises row_cmp rows
    && (rises event_cmp events && (rises reg_cmp regs && (rises int_cmp years
    && (list_all has_days events && (list_all (λ reg. is_day reg.day) regs && have_own_places rows))))))))

-- the lists of a store
pub record Listed : Type 0 where
  pub rows : List Row
  pub events : List EventRow
  pub regs : List RegRow
  pub years : List ℤ

-- what a store holds, whatever years it is cut into
pub record Contents : Type 0 where
  pub rows : List Row
  pub events : List EventRow
  pub regs : List RegRow

abbrev pub contents_in : Listed → Contents
contents_in listed = record { rows = listed.rows; events = listed.events; regs = listed.regs }
