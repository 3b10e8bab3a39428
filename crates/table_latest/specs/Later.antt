-- When tables under a latest part stand for later ones.
use Rattle.std.specs.Prelude.{◌≡◌, Bool, true, ℤ, List}
use Rattle.std.specs.List.{filter, list_all}
use Rattle.table_rows.specs.Store.{Contents, Listed, contents_in, is_store}
use Rattle.table_latest.specs.Latest.{LatestPart, is_row_touched, is_event_touched, is_reg_touched, is_in_reach, untouched, overlaid}

-- of what isn't touched the later list has the same as the base, and what is touched in it is the latest part's
pub record Follows {X : Type 0} (touched : X → Bool) (base now later : List X) : Type 0 where
  pub same : untouched touched later ≡ untouched touched base
  pub changed : filter touched later ≡ now

-- likewise of each list
pub record LeadsTo (base : Contents) (latest : LatestPart) (later : Contents) : Type 0 where
  pub rows : Follows (is_row_touched latest.touched) base.rows latest.holds.rows later.rows
  pub events : Follows (is_event_touched latest.touched) base.events latest.holds.events later.events
  pub regs : Follows (is_reg_touched latest.touched) base.regs latest.holds.regs later.regs

abbrev pub IsStoreOf : Contents → List ℤ → Type 0
IsStoreOf all years = is_store all.rows all.events all.regs years ≡ true

-- the latest part leads from a store to a later one
pub record Bridges (base : Listed) (latest : LatestPart) (later : Contents) : Type 0 where
  pub leads : LeadsTo (contents_in base) latest later
  pub store : IsStoreOf later base.years
  pub reach : list_all is_in_reach base.rows ≡ true

-- laid over any store, it changes nothing
abbrev pub ChangesNothing : LatestPart → Type 0
ChangesNothing latest = (base : Listed) → IsStoreOf (contents_in base) base.years → overlaid (contents_in base) latest ≡ contents_in base
