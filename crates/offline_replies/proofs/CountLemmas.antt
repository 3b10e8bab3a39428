-- The rows of an element are those of its groups.
use Rattle.std.proofs.Common.{◌≡◌, ◌∙◌, ℕ, ◌≤◌, true, List, [], ◌∷◌, length, Option, Some, None, ℤ, refl, sym, ap}
use Rattle.std.proofs.Common.{arith}
use Rattle.std.specs.Prelude.{IsTrue}
use Rattle.std.specs.List.{filter}
use Rattle.std.proofs.lemmas.Bool.{leb-true}
use Rattle.table_rows.specs.declared.event.EventRow.{EventRow}
use Rattle.table_rows.specs.declared.event.RegRow.{RegRow}
use Rattle.table_rows.specs.declared.row.Row.{Row}
use Rattle.table_rows.specs.declared.row.Group.{Group}
use Rattle.table_rows.specs.declared.sum.Sum.{Sum}
use Rattle.table_rows.specs.Groups.{groups_of}
use Rattle.table_rows.specs.Rows.{in_range}
use Rattle.table_rows.specs.Store.{is_store}
use Rattle.table_rows.specs.Sums.{sum_over, sum_of_row, sum_of_rows, sum_of_number}
use Rattle.table_rows.proofs.CellLemmas.{cell-groups}
use Rattle.table_rows.proofs.RunLemmas.{groups_of-shorter}
use Rattle.table_rows.proofs.StoreLemmas.{store-holds, true_from}
use Rattle.offline_replies.specs.Counts.{rows_counted, group_sum}

-- a sum counts its rows
counted : (number : Option ℤ) → (sum_of_number number).count ≡ 1
counted None = refl
counted (Some micros) = refl

all-counted : (rows : List Row) → (sum_over sum_of_row rows).count ≡ length rows
all-counted [] = refl
all-counted (row ∷ rows) = let one = counted row.micros in let rest = all-counted rows in omega arith

all-kept : {X : Type 0} (xs : List X) → filter (λ (x : X). true) xs ≡ xs
all-kept [] = refl
all-kept (x ∷ xs) = ap (λ ys. x ∷ ys) (all-kept xs)

-- the rows of an element, group by group
pub groups-counted : (element end : ℕ) (rows : List Row) → (sum_over (group_sum rows end) (groups_of element rows)).count ≡ rows_counted element end rows
unfolding rows_counted group_sum sum_of_rows
groups-counted element end rows =
    sym (ap (λ (s : Sum). s.count)
    (cell-groups sum_of_row element (λ group. true) (in_range 0 end) rows
    ∙ ap (sum_over (group_sum rows end)) (all-kept (groups_of element rows))))
    ∙ all-counted _

pub all-groups-counted : (element end : ℕ) (rows : List Row) (groups : List Group) (count : ℕ) → groups ≡ groups_of element rows
    → count ≡ (sum_over (group_sum rows end) groups).count
    → count ≡ rows_counted element end rows
all-groups-counted element end rows groups count all is = is ∙ ap (λ gs. (sum_over (group_sum rows end) gs).count) all ∙ groups-counted element end rows

-- a store has few groups
pub few-groups : (element : ℕ) (rows : List Row) (events : List EventRow) (regs : List RegRow) (years : List ℤ) (groups : List Group)
    → IsTrue (is_store rows events regs years)
    → groups ≡ groups_of element rows → length groups ≤ 4194304
few-groups element rows events regs years groups is all =
    let holds = store-holds rows events regs years (true_from (is_store rows events regs years) is) in
    let fewer = groups_of-shorter element rows in
    let same = ap (λ (l : List Group). length l) all in
    let short = leb-true (length rows) 4194304 holds.few_rows in
    omega (arith, short, fewer, same)
