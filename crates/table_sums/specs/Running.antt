-- Running sums of rows.
use Rattle.std.specs.Prelude.{◌≡◌, ◌≤◌, ◌+◌, ◌*◌, ◌^◌, ℕ, ℤ, unsigned_abs, Bool, true, List, All, length, take, get_or, Option, Some, None, nat_lt}
use Rattle.table_rows.specs.declared.row.Row.{Row}
use Rattle.table_rows.specs.Sums.{sum_of_row, sum_of_rows}
use Rattle.table_rows.specs.Order.{row_cmp}
use Rattle.table_rows.specs.Store.{rises}
use Rattle.dh_base.specs.declared.limits.TheConstants.{MOST_RECORDS}

-- the number of a row has 64 bits
abbrev pub IsFit : Row → Type 0
IsFit row = unsigned_abs (sum_of_row row).micros ≤ 2 ^ 63 * (sum_of_row row).count

-- an approved position is below this one, where there is one
abbrev pub is_placed : ℕ → Option ℕ → Bool
is_placed positions None = true
is_placed positions (Some position) = nat_lt position positions

abbrev pub IsPlaced : ℕ → Row → Type 0
IsPlaced positions row = is_placed positions row.approved ≡ true

-- in place i, up to n, stand the sum of the numbers of the first i rows, and how many of these rows have one
pub record AreSums (rows : List Row) (n : ℕ) (micros : List ℤ) (plain : List ℕ) : Type 0 where
  pub sums : (i : ℕ) (d : ℤ) → i ≤ n → get_or micros i d ≡ (sum_of_rows (take i rows)).micros
  pub counts : (i : ℕ) (d : ℕ) → i ≤ n → get_or plain i d ≡ (sum_of_rows (take i rows)).plain
  pub sums_length : length micros ≡ n + 1
  pub counts_length : length plain ≡ n + 1

-- all approved positions are below `positions`, and this is the least such number
pub record ArePlaced (rows : List Row) (positions : ℕ) : Type 0 where
  pub placed : All (IsPlaced positions) rows
  pub least : (n : ℕ) → All (IsPlaced n) rows → positions ≤ n
  pub few : positions ≤ 256

-- at most 4,194,304 rows in their order, with their running sums
pub record AreSummed (rows : List Row) (micros : List ℤ) (plain : List ℕ) (positions : ℕ) : Type 0 where
  pub rise : rises row_cmp rows ≡ true
  pub few : length rows ≤ MOST_RECORDS
  pub fit : All IsFit rows
  pub sums : AreSums rows (length rows) micros plain
  pub placed : ArePlaced rows positions
