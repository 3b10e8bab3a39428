-- Rows in columns are those that they were made of.
use Rattle.std.proofs.Common.{◌≡◌, ◌∙◌, ℕ, zero, suc, ◌<◌, cond, List, [], ◌∷◌, length, map, get_or, ℤ}
use Rattle.std.proofs.Common.{Option, Some, None, refl, sym}
use Rattle.std.proofs.Common.{ap, arith}
use Rattle.std.proofs.lemmas.List.{get_or-map, length-map}
use Rattle.table_rows.specs.declared.row.Row.{Row}
use Rattle.table_rows.specs.declared.row.Group.{Group}
use Rattle.table_sums.specs.declared.rows.Head.{Head}
use Rattle.table_sums.specs.declared.gather.Member.{Member}
use Rattle.table_sums.specs.Columns.{is_some, number_or_0, head_of, head_from, member_of, number_of, row_from, rows_from, rows_in, AreColumns}

again : (o : Option ℤ) → cond (is_some o) (Some (number_or_0 o)) None ≡ o
again None = refl
again (Some number) = refl

with_number : Row → Option ℤ → Row
with_number row o = record {
  element = row.element;
  combo = row.combo;
  attribute = row.attribute;
  period = row.period;
  approved = row.approved;
  order = row.order;
  micros = o;
}

row_again : (row : Row) → row_from (head_of row) (number_of row) ≡ row
unfolding with_number
row_again row = ap (with_number row) (again row.micros)

pub rows_again : (rows : List Row) → rows_from (map head_of rows) (map number_of rows) ≡ rows
unfolding rows_from
rows_again [] = refl
rows_again (row ∷ rows) = ap (λ r. r ∷ rows_from (map head_of rows) (map number_of rows)) (row_again row) ∙ ap (λ rs. row ∷ rs) (rows_again rows)

pub rows-length : (heads : List Head) (numbers : List ℤ) → length heads ≡ length numbers → length (rows_from heads numbers) ≡ length heads
unfolding rows_from
rows-length [] numbers same = refl
rows-length (head ∷ heads) [] same = absurd (omega arith)
rows-length (head ∷ heads) (number ∷ numbers) same = ap suc (rows-length heads numbers (omega arith))

pub rows-at : (heads : List Head) (numbers : List ℤ) (i : ℕ) (h : Head) (n : ℤ) (d : Row) → length heads ≡ length numbers → i < length heads
    → row_from (get_or heads i h) (get_or numbers i n) ≡ get_or (rows_from heads numbers) i d
unfolding rows_from
rows-at [] numbers i h n d same within = absurd (omega arith)
rows-at (head ∷ heads) [] i h n d same within = absurd (omega arith)
rows-at (head ∷ heads) (number ∷ numbers) zero h n d same within = refl
rows-at (head ∷ heads) (number ∷ numbers) (suc i) h n d same within = rows-at heads numbers i h n d (omega arith) (omega arith)

pub of-columns : (groups : List Group) (members : List Member) (numbers : List ℤ) (rows : List Row) → map (head_from groups) members ≡ map head_of rows
    → numbers ≡ map number_of rows → rows_in groups members numbers ≡ rows
of-columns groups members numbers rows heads are = ap (λ hs. rows_from hs numbers) heads ∙ ap (rows_from (map head_of rows)) are ∙ rows_again rows

pub even-columns : (groups : List Group) (members : List Member) (numbers : List ℤ) (rows : List Row) → map (head_from groups) members ≡ map head_of rows
    → numbers ≡ map number_of rows → length members ≡ length numbers
even-columns groups members numbers rows heads are =
    sym (length-map members (head_from groups)) ∙ ap length heads ∙ length-map rows head_of ∙ sym (length-map rows number_of) ∙ ap length (sym are)

pub rows_in-length : (groups : List Group) (members : List Member) (numbers : List ℤ) → length members ≡ length numbers
    → length (rows_in groups members numbers) ≡ length members
rows_in-length groups members numbers same =
    rows-length (map (head_from groups) members) numbers (length-map members (head_from groups) ∙ same) ∙ length-map members (head_from groups)

pub rows_in-at : (groups : List Group) (members : List Member) (numbers : List ℤ) (i : ℕ) (m : Member) (n : ℤ) (d : Row) → length members ≡ length numbers
    → i < length members → row_from (head_from groups (get_or members i m)) (get_or numbers i n) ≡ get_or (rows_in groups members numbers) i d
rows_in-at groups members numbers i m n d same within =
    let long : length (map (head_from groups) members) ≡ length members = length-map members (head_from groups) in
    ap (λ h. row_from h (get_or numbers i n)) (sym (get_or-map (head_from groups) members i m (head_from groups m) within))
    ∙ rows-at (map (head_from groups) members) numbers i (head_from groups m) n d (long ∙ same) (omega (arith, long))

-- the place of a row is that of a member
pub within-columns : (groups : List Group) (starts : List ℕ) (members : List Member) (numbers : List ℤ) (rows : List Row) (i : ℕ)
    → AreColumns groups starts members numbers
    → rows ≡ rows_in groups members numbers → i < length rows → i < length members
within-columns groups starts members numbers rows i columns are within =
    let long : length rows ≡ length members = ap length are ∙ rows_in-length groups members numbers columns.even in
    omega (arith, long)

pub within-numbers : (groups : List Group) (starts : List ℕ) (members : List Member) (numbers : List ℤ) (rows : List Row) (i : ℕ)
    → AreColumns groups starts members numbers
    → rows ≡ rows_in groups members numbers → i < length rows → i < length numbers
within-numbers groups starts members numbers rows i columns are within =
    let short = within-columns groups starts members numbers rows i columns are within in
    omega (arith, short, columns.even)

pub row-here : (groups gs : List Group) (starts : List ℕ) (members ms : List Member) (numbers : List ℤ) (rows : List Row) (i : ℕ) (h : Head) (n : ℤ) (r : Row)
    → AreColumns groups starts members numbers
    → rows ≡ rows_in groups members numbers → i < length rows → gs ≡ groups → ms ≡ members → ((m : Member) → h ≡ head_from gs (get_or ms i m))
    → n ≡ get_or numbers i n → r ≡ row_from h n → (d : Row) → r ≡ get_or rows i d
row-here groups gs starts members ms numbers rows i h n r columns are within is_groups is_members at at_n is d =
    let short = within-columns groups starts members numbers rows i columns are within in
    is ∙ ap (λ v. row_from v n) (at (member_of d 0)) ∙ ap (row_from (head_from gs (get_or ms i (member_of d 0)))) at_n
    ∙ ap (λ g. row_from (head_from g (get_or ms i (member_of d 0))) (get_or numbers i n)) is_groups
    ∙ ap (λ v. row_from (head_from groups (get_or v i (member_of d 0))) (get_or numbers i n)) is_members
    ∙ rows_in-at groups members numbers i (member_of d 0) n d columns.even short
    ∙ ap (λ rs. get_or rs i d) (sym are)
