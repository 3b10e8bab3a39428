-- The rows of a cell, found group by group.
use Rattle.std.proofs.Common.{◌≡◌, ◌∙◌, ℕ, zero, suc, ◌+◌, ◌<◌, Bool, true, false, not, cond, ◌&&◌, ◌||◌, List, [], ◌∷◌, length, map, get_or, inl, inr, refl}
use Rattle.std.proofs.Common.{sym, ap, arith}
use Rattle.std.specs.Prelude.{All, nat_eq}
use Rattle.std.specs.List.{filter, list_any}
use Rattle.std.proofs.lemmas.Bool.{cases_Bool, false≢true}
use Rattle.table_rows.specs.declared.row.Row.{Row}
use Rattle.table_rows.specs.declared.row.Group.{Group}
use Rattle.table_rows.specs.declared.sum.Sum.{Sum}
use Rattle.table_rows.specs.Rows.{group_of, same_group, is_of_element, is_in_group, is_wanted, wanted_rows}
use Rattle.table_rows.specs.Groups.{each_once, groups_of}
use Rattle.table_rows.specs.Sums.{no_sum, sum_over, sum_of_row, sum_of_rows}
use Rattle.table_rows.specs.Cells.{times, how_many, Part, is_in_part, is_of_cell, cell_rows, sum_of_parts}
use Rattle.table_rows.proofs.OrderLemmas.{same_group-true, same_group-self}
use Rattle.table_rows.proofs.SumLemmas.{sum_over-same}
use Rattle.table_rows.proofs.SplitLemmas.{sum_over-parts, sum_over-filter}

-- ---- how often a group stands among those without repeats

none_behind : (g h : Group) (hs : List Group) → same_group h g ≡ true → how_many (same_group g) (filter (λ y. not (same_group h y)) hs) ≡ 0
none_behind g h [] same = refl
none_behind g h (y ∷ ys) same =
    elim (cases_Bool (same_group h y)) [
      | inl again ↦ ap (λ b. how_many (same_group g) (cond (not b) (y ∷ filter (λ z. not (same_group h z)) ys) (filter (λ z. not (same_group h z)) ys))) again
          ∙ none_behind g h ys same
      | inr other ↦
          let apart : same_group g y ≡ false = ap (λ v. same_group v y) (sym (same_group-true h g same)) ∙ other in
          ap (λ b. how_many (same_group g) (cond (not b) (y ∷ filter (λ z. not (same_group h z)) ys) (filter (λ z. not (same_group h z)) ys))) other
          ∙ ap (λ b. times b + how_many (same_group g) (filter (λ z. not (same_group h z)) ys)) apart
          ∙ zero_plus (none_behind g h ys same)
    ]
  where
    zero_plus : {n : ℕ} → n ≡ 0 → 0 + n ≡ 0
    zero_plus e = omega arith

all_behind : (g h : Group) (hs : List Group) → same_group g h ≡ false
    → how_many (same_group g) (filter (λ y. not (same_group h y)) hs) ≡ how_many (same_group g) hs
all_behind g h [] apart = refl
all_behind g h (y ∷ ys) apart =
    elim (cases_Bool (same_group h y)) [
      | inl again ↦
          let other : same_group g y ≡ false = ap (same_group g) (sym (same_group-true h y again)) ∙ apart in
          ap (λ b. how_many (same_group g) (cond (not b) (y ∷ filter (λ z. not (same_group h z)) ys) (filter (λ z. not (same_group h z)) ys))) again
          ∙ all_behind g h ys apart
          ∙ not_counted (same_group g y) (how_many (same_group g) ys) other
      | inr different ↦
          ap (λ b. how_many (same_group g) (cond (not b) (y ∷ filter (λ z. not (same_group h z)) ys) (filter (λ z. not (same_group h z)) ys))) different
          ∙ ap (λ n. times (same_group g y) + n) (all_behind g h ys apart)
    ]
  where
    not_counted : (b : Bool) (n : ℕ) → b ≡ false → n ≡ times b + n
    not_counted true n e = absurd (false≢true (sym e))
    not_counted false n e = omega arith

-- once where it is one of them, and else not at all
pub each_once-count : (g : Group) (hs : List Group) → how_many (same_group g) (each_once same_group hs) ≡ times (list_any (same_group g) hs)
each_once-count g [] = refl
each_once-count g (h ∷ hs) =
    elim (cases_Bool (same_group g h)) [
      | inl same ↦
          let is : g ≡ h = same_group-true g h same in
          let back : same_group h g ≡ true = ap (same_group h) is ∙ same_group-self h in
          ap (λ b. times b + how_many (same_group g) (filter (λ y. not (same_group h y)) (each_once same_group hs))) same
          ∙ ap (λ n. 1 + n) (none_behind g h (each_once same_group hs) back)
          ∙ ap (λ b. times (b || list_any (same_group g) hs)) (sym same)
      | inr apart ↦
          ap (λ b. times b + how_many (same_group g) (filter (λ y. not (same_group h y)) (each_once same_group hs))) apart
          ∙ ap (λ n. 0 + n) (all_behind g h (each_once same_group hs) apart ∙ each_once-count g hs)
          ∙ zero_front (times (list_any (same_group g) hs))
          ∙ ap (λ b. times (b || list_any (same_group g) hs)) (sym apart)
    ]
  where
    zero_front : (n : ℕ) → 0 + n ≡ n
    zero_front n = omega arith

-- ---- the groups of an element

in_list : (r : Row) (element : ℕ) (rows : List Row) (k : ℕ) (d : Row) → k < length rows → get_or rows k d ≡ r → is_of_element element r ≡ true
    → list_any (same_group (group_of r)) (map group_of (filter (is_of_element element) rows)) ≡ true
in_list r element [] k d within at of = absurd (omega arith)
in_list r element (x ∷ xs) zero d within at of =
    let here : is_of_element element x ≡ true = ap (is_of_element element) at ∙ of in
    ap (λ b. list_any (same_group (group_of r)) (map group_of (cond b (x ∷ filter (is_of_element element) xs) (filter (is_of_element element) xs)))) here
    ∙ ap (λ y. same_group (group_of r) (group_of y) || list_any (same_group (group_of r)) (map group_of (filter (is_of_element element) xs))) at
    ∙ ap (λ b. b || list_any (same_group (group_of r)) (map group_of (filter (is_of_element element) xs))) (same_group-self (group_of r))
in_list r element (x ∷ xs) (suc k) d within at of = by_first (is_of_element element x) (in_list r element xs k d (omega arith) at of)
  where
    by_first : (b : Bool) → list_any (same_group (group_of r)) (map group_of (filter (is_of_element element) xs)) ≡ true
        → list_any (same_group (group_of r)) (map group_of (cond b (x ∷ filter (is_of_element element) xs) (filter (is_of_element element) xs))) ≡ true
    by_first true rest = ap (λ b. same_group (group_of r) (group_of x) || b) rest ∙ or_true (same_group (group_of r) (group_of x))
      where
        or_true : (b : Bool) → (b || true) ≡ true
        or_true true = refl
        or_true false = refl
    by_first false rest = rest

not_in_list : (r : Row) (element : ℕ) (rows : List Row) → is_of_element element r ≡ false
    → list_any (same_group (group_of r)) (map group_of (filter (is_of_element element) rows)) ≡ false
not_in_list r element [] other = refl
not_in_list r element (x ∷ xs) other = by_first (is_of_element element x) refl (not_in_list r element xs other)
  where
    by_first : (b : Bool) → is_of_element element x ≡ b → list_any (same_group (group_of r)) (map group_of (filter (is_of_element element) xs)) ≡ false
        → list_any (same_group (group_of r)) (map group_of (cond b (x ∷ filter (is_of_element element) xs) (filter (is_of_element element) xs))) ≡ false
    by_first true is rest =
        elim (cases_Bool (same_group (group_of r) (group_of x))) [
          | inl same ↦
              let one : r.element ≡ x.element = ap (λ (g : Group). g.element) (same_group-true (group_of r) (group_of x) same) in
              absurd (false≢true (sym other ∙ ap (λ n. nat_eq n element) one ∙ is))
          | inr apart ↦ ap (λ b. b || list_any (same_group (group_of r)) (map group_of (filter (is_of_element element) xs))) apart ∙ rest
        ]
    by_first false is rest = rest

-- a row's group stands once among those of its element, and not among those of another
pub groups_of-count : (element : ℕ) (rows : List Row)
    → All (λ r. how_many (same_group (group_of r)) (groups_of element rows) ≡ times (is_of_element element r)) rows
unfolding groups_of
groups_of-count element rows k d within =
    let r = get_or rows k d in
    each_once-count (group_of r) (map group_of (filter (is_of_element element) rows))
    ∙ elim (cases_Bool (is_of_element element r)) [
      | inl of ↦ ap times (in_list r element rows k d within refl of ∙ sym of)
      | inr other ↦ ap times (not_in_list r element rows other ∙ sym other)
    ]

-- ---- tests that agree

pub filter-same : {X : Type 0} (p q : X → Bool) (xs : List X) → ((x : X) → p x ≡ q x) → filter p xs ≡ filter q xs
filter-same p q [] same = refl
filter-same p q (x ∷ xs) same =
    ap (λ b. cond b (x ∷ filter p xs) (filter p xs)) (same x) ∙ ap (λ ys. cond (q x) (x ∷ ys) ys) (filter-same p q xs same)

pub filter-never : {X : Type 0} (p : X → Bool) (xs : List X) → ((x : X) → p x ≡ false) → filter p xs ≡ []
filter-never p [] never = refl
filter-never p (x ∷ xs) never = ap (λ b. cond b (x ∷ filter p xs) (filter p xs)) (never x) ∙ filter-never p xs never

pub how_many-same : {A : Type 0} (s t : A → Bool) (list : List A) → ((a : A) → s a ≡ t a) → how_many s list ≡ how_many t list
how_many-same s t [] same = refl
how_many-same s t (a ∷ rest) same = ap (λ b. times b + how_many s rest) (same a) ∙ ap (λ n. times (t a) + n) (how_many-same s t rest same)

pub how_many-never : {A : Type 0} (t : A → Bool) (list : List A) → ((a : A) → t a ≡ false) → how_many t list ≡ 0
how_many-never t [] never = refl
how_many-never t (a ∷ rest) never = zero_both (t a) (how_many t rest) (never a) (how_many-never t rest never)
  where
    zero_both : (b : Bool) (n : ℕ) → b ≡ false → n ≡ 0 → times b + n ≡ 0
    zero_both true n e h = absurd (false≢true (sym e))
    zero_both false n e h = omega arith

and_true : (b : Bool) → (b && true) ≡ b
and_true true = refl
and_true false = refl

and_false : (b : Bool) → (b && false) ≡ false
and_false true = refl
and_false false = refl

-- ---- from the cell to its groups

groups_by : (element : ℕ) (rows : List Row) (v : Row → Bool)
    → All (λ r. times (is_of_element element r && v r) ≡ how_many (λ g. is_in_group g r && v r) (groups_of element rows)) rows
groups_by element rows v k d within =
    let r = get_or rows k d in
    by_test r (v r) (groups_of-count element rows k d within)
  where
    by_test : (r : Row) (b : Bool) → how_many (same_group (group_of r)) (groups_of element rows) ≡ times (is_of_element element r)
        → times (is_of_element element r && b) ≡ how_many (λ g. is_in_group g r && b) (groups_of element rows)
    by_test r true counted =
        ap times (and_true (is_of_element element r)) ∙ sym counted
        ∙ how_many-same (same_group (group_of r)) (λ g. is_in_group g r && true) (groups_of element rows) (λ g. sym (and_true (is_in_group g r)))
    by_test r false counted =
        ap times (and_false (is_of_element element r))
        ∙ sym (how_many-never (λ g. is_in_group g r && false) (groups_of element rows) (λ g. and_false (is_in_group g r)))

in_one_group : (g : Group) (r : Row) (of_group : Group → Bool) (u b : Bool) → is_in_group g r ≡ b
    → (b && (of_group (group_of r) && u)) ≡ (of_group g && (b && u))
in_one_group g r of_group u true is = ap (λ v. of_group v && u) (same_group-true (group_of r) g is)
in_one_group g r of_group u false is = sym (and_false (of_group g))

group_tested : (f : Row → Sum) (of_group : Group → Bool) (of_row : Row → Bool) (rows : List Row) (g : Group)
    → sum_over f (filter (λ r. is_in_group g r && (of_group (group_of r) && of_row r)) rows)
    ≡ cond (of_group g) (sum_over f (filter (λ r. is_in_group g r && of_row r) rows)) no_sum
group_tested f of_group of_row rows g =
    ap (sum_over f)
    (filter-same (λ r. is_in_group g r && (of_group (group_of r) && of_row r)) (λ r. of_group g && (is_in_group g r && of_row r)) rows
    (λ r. in_one_group g r of_group (of_row r) (is_in_group g r) refl))
    ∙ by_test (of_group g)
  where
    by_test : (b : Bool)
        → sum_over f (filter (λ r. b && (is_in_group g r && of_row r)) rows) ≡ cond b (sum_over f (filter (λ r. is_in_group g r && of_row r) rows)) no_sum
    by_test true = refl
    by_test false = ap (sum_over f) (filter-never (λ r. false && (is_in_group g r && of_row r)) rows (λ r. refl))

-- the sum over a cell's rows is the sum, over the groups that pass, of the sums over each group's rows
pub cell-groups : (f : Row → Sum) (element : ℕ) (of_group : Group → Bool) (of_row : Row → Bool) (rows : List Row)
    → sum_over f (cell_rows element of_group of_row rows)
    ≡ sum_over (λ g. sum_over f (filter (λ r. is_in_group g r && of_row r) rows)) (filter of_group (groups_of element rows))
cell-groups f element of_group of_row rows =
    sum_over-parts f (is_of_cell element of_group of_row) (λ g r. is_in_group g r && (of_group (group_of r) && of_row r)) (groups_of element rows) rows
    (groups_by element rows (λ r. of_group (group_of r) && of_row r))
    ∙ sum_over-same (λ g. sum_over f (filter (λ r. is_in_group g r && (of_group (group_of r) && of_row r)) rows))
    (λ g. cond (of_group g) (sum_over f (filter (λ r. is_in_group g r && of_row r) rows)) no_sum) (groups_of element rows) (group_tested f of_group of_row rows)
    ∙ sym (sum_over-filter (λ g. sum_over f (filter (λ r. is_in_group g r && of_row r) rows)) of_group (groups_of element rows))

-- ---- from a group to its parts

parts_of_group : (of_row : Row → Bool) (parts : Group → List Part) (rows : List Row) (g : Group)
    → All (λ r. times (of_row r) ≡ how_many (is_in_part r) (parts (group_of r))) rows
    → All (λ r. times (is_in_group g r && of_row r) ≡ how_many (λ (part : Part). is_wanted g part.need part.from part.to r) (parts g)) rows
parts_of_group of_row parts rows g all k d within =
    let r = get_or rows k d in
    by_test r (is_in_group g r) refl (all k d within)
  where
    by_test : (r : Row) (b : Bool) → is_in_group g r ≡ b → times (of_row r) ≡ how_many (is_in_part r) (parts (group_of r))
        → times (b && of_row r) ≡ how_many (λ (part : Part). b && is_in_part r part) (parts g)
    by_test r true is parted = parted ∙ ap (λ v. how_many (is_in_part r) (parts v)) (same_group-true (group_of r) g is)
    by_test r false is parted = sym (how_many-never (λ (part : Part). false && is_in_part r part) (parts g) (λ part. refl))

-- where each row that passes lies in just one part of its group, and no other row in any, a cell's sum is the sum of the sums of all parts
pub cell-parts : (f : Row → Sum) (element : ℕ) (of_group : Group → Bool) (of_row : Row → Bool) (parts : Group → List Part) (rows : List Row)
    → All (λ r. times (of_row r) ≡ how_many (is_in_part r) (parts (group_of r))) rows
    → sum_over f (cell_rows element of_group of_row rows)
    ≡ sum_over (λ g. sum_over (λ (part : Part). sum_over f (wanted_rows g part.need part.from part.to rows)) (parts g))
    (filter of_group (groups_of element rows))
cell-parts f element of_group of_row parts rows all =
    cell-groups f element of_group of_row rows
    ∙ sum_over-same (λ g. sum_over f (filter (λ r. is_in_group g r && of_row r) rows))
    (λ g. sum_over (λ (part : Part). sum_over f (wanted_rows g part.need part.from part.to rows)) (parts g)) (filter of_group (groups_of element rows))
    (λ g. sum_over-parts f (λ r. is_in_group g r && of_row r) (λ (part : Part) r. is_wanted g part.need part.from part.to r) (parts g) rows
    (parts_of_group of_row parts rows g all))

-- the same of the sums that a store gives
pub cell-sum : (element : ℕ) (of_group : Group → Bool) (of_row : Row → Bool) (parts : Group → List Part) (rows : List Row)
    → All (λ r. times (of_row r) ≡ how_many (is_in_part r) (parts (group_of r))) rows
    → sum_of_rows (cell_rows element of_group of_row rows) ≡ sum_of_parts element of_group parts rows
unfolding sum_of_rows
cell-sum element of_group of_row parts rows all = cell-parts sum_of_row element of_group of_row parts rows all
