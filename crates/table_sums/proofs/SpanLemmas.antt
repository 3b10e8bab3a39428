-- The rows of a group stand between two places, which its number gives.
use Rattle.std.proofs.Common.{◌≡◌, ◌∙◌, ℕ, ◌+◌, ◌<◌, ◌≤◌, Bool, true, false, not, cond, List, length, get_or, inl, inr, refl, sym, ap, subst, arith, ℤ}
use Rattle.std.proofs.Common.{[], ◌∷◌, pos, Ordering, Less, Equal, Greater}
use Rattle.std.specs.Prelude.{◌&&◌, nat_lt, nat_le, nat_eq}
use Rattle.std.specs.List.Sorted.{IsPartitionedBy, IsStrictlySortedBy}
use Rattle.std.specs.Ordering.{is_lt, is_gt, is_eq, ordering_then, ordering_reverse, nat_cmp}
use Rattle.std.proofs.lemmas.Bool.{cases_Bool, false≢true}
use Rattle.std.proofs.lemmas.Bool.Decides.{nat_tests}
use Rattle.std.proofs.lemmas.List.{get_or_default}
use Rattle.table_rows.specs.declared.row.Row.{Row}
use Rattle.table_rows.specs.declared.row.Group.{Group}
use Rattle.table_rows.specs.declared.row.RowKey.{RowKey}
use Rattle.table_rows.specs.Rows.{group_of, position_of, same_group}
use Rattle.table_rows.specs.Order.{group_cmp}
use Rattle.table_rows.specs.Store.{rises}
use Rattle.table_rows.proofs.OrderLemmas.{group_total, group_cmp-self, group_ties, same_group-true}
use Rattle.table_rows.proofs.RiseLemmas.{sorted_from_rises, sorted-far}
use Rattle.table_sums.specs.declared.gather.Member.{Member}
use Rattle.table_sums.specs.declared.search.Bound.{Bound}
use Rattle.table_sums.specs.declared.search.Bound.TheVariants as bound
use Rattle.table_sums.specs.Bounds.{is_before, is_group_before, is_place_below, place_after, IsCut, IsSpan}
use Rattle.table_sums.specs.Columns.{head_from, row_from, member_of, group_at, no_group, rows_in, AreColumns}
use Rattle.table_sums.proofs.BoundLemmas.{lt_or_eq, upto-trans}
use Rattle.table_sums.proofs.ColumnLemmas.{rows_in-at, rows_in-length}
use Rattle.table_sums.proofs.PartLemmas.{lt_then}

-- ---- groups before a bound

lt-down : (a b c : ℕ) → a ≤ b → nat_lt b c ≡ true → nat_lt a c ≡ true
lt-down a b c upto less = grind (arith, nat_tests)

le-down : (a b c : ℕ) → a ≤ b → nat_le b c ≡ true → nat_le a c ≡ true
le-down a b c upto less = grind (arith, nat_tests)

upto-element : (a b : ℕ) (rest : Ordering) → ordering_then (nat_cmp a b) rest ≡ Less → a ≤ b
upto-element a b rest e =
    elim (cases_Bool (nat_le a b)) [
      | inl upto ↦ (let h : nat_le a b ≡ true = upto in grind (arith, nat_tests))
      | inr over ↦
          let not_less : nat_lt a b ≡ false = (let h : nat_le a b ≡ false = over in grind (arith, nat_tests)) in
          let not_eq : nat_eq a b ≡ false = (let h : nat_le a b ≡ false = over in grind (arith, nat_tests)) in
          absurd (let g : Greater ≡ Less = sym (ap (λ v. ordering_then (cond v Less (cond (nat_eq a b) Equal Greater)) rest) not_less
          ∙ ap (λ v. ordering_then (cond v Equal Greater) rest) not_eq) ∙ e in cc)
    ]

not_true : (b : Bool) → not b ≡ true → b ≡ false
not_true true e = absurd (cc)
not_true false e = refl

is_less : (o : Ordering) → is_lt o ≡ true → o ≡ Less
is_less Less e = refl
is_less Equal e = absurd (cc)
is_less Greater e = absurd (cc)

-- a group below one that stands before a bound does so too
group-down : (b : Bound) (x y : Group) → group_cmp x y ≡ Less → is_group_before b y ≡ true → is_group_before b x ≡ true
group-down (bound.Key key) x y less before = ap is_lt (group_total.trans x y key.group less (is_less _ before))
group-down (bound.Element element) x y less before = lt-down x.element y.element element (upto-element x.element y.element _ less) before
group-down (bound.UptoElement element) x y less before = le-down x.element y.element element (upto-element x.element y.element _ less) before
group-down (bound.UptoGroup last) x y less before = ap not (upto-trans group_total x y last (ap is_gt less) (not_true _ before))

pub groups-parted : (b : Bound) (groups : List Group) → rises group_cmp groups ≡ true → IsPartitionedBy (is_group_before b) groups
groups-parted b groups up i j d upto within before =
    elim (lt_or_eq i j upto) [
      | inl less ↦
          group-down b (get_or groups i d) (get_or groups j d)
          (sorted-far group_cmp groups i j d d (sorted_from_rises group_cmp group_total groups up) less within) before
      | inr same ↦ ap (λ n. is_group_before b (get_or groups n d)) same ∙ before
    ]

-- ---- rows by their group's number

pub group-of-row : (groups : List Group) (starts : List ℕ) (members : List Member) (numbers : List ℤ) (rows : List Row) (k : ℕ) (m : Member) (d : Row)
    → AreColumns groups starts members numbers → rows ≡ rows_in groups members numbers → k < length members
    → group_of (get_or rows k d) ≡ group_at groups (get_or members k m).group
group-of-row groups starts members numbers rows k m d columns are within =
    ap (λ rs. group_of (get_or rs k d)) are ∙ ap group_of (sym (rows_in-at groups members numbers k m (pos 0) d columns.even within))

below-of : (a b : ℕ) → nat_lt a b ≡ true → a < b
below-of a b e = grind (arith, nat_tests)

upto-of : (a b : ℕ) → nat_lt a b ≡ false → b ≤ a
upto-of a b e = grind (arith, nat_tests)

of-below : (a b : ℕ) → a < b → nat_lt a b ≡ true
of-below a b e = grind (arith, nat_tests)

of-upto : (a b : ℕ) → b ≤ a → nat_lt a b ≡ false
of-upto a b e = grind (arith, nat_tests)

-- rows of the first groups stand before all others
pub cut-by-group : (test : Group → Bool) (groups : List Group) (starts : List ℕ) (members : List Member) (numbers : List ℤ) (rows : List Row) (g place : ℕ)
    → AreColumns groups starts members numbers → rows ≡ rows_in groups members numbers → IsCut test groups g
    → place ≡ cond (nat_lt g (length starts)) (get_or starts g 0) (length members) → IsCut (λ row. test (group_of row)) rows place
cut-by-group test groups starts members numbers rows g place columns are cut is = by (nat_lt g (length starts)) refl
  where
    long : length rows ≡ length members
    long = ap length are ∙ rows_in-length groups members numbers columns.even

    at : (k : ℕ) (d : Row) → k < length members → test (group_of (get_or rows k d)) ≡ test (group_at groups (get_or members k (member_of d 0)).group)
    at k d short = ap test (group-of-row groups starts members numbers rows k (member_of d 0) d columns are short)

    by : (b : Bool) → nat_lt g (length starts) ≡ b → IsCut (λ row. test (group_of row)) rows place
    by true e =
        let even = columns.begun.even in
        let here : g < length groups = (let l = below-of g (length starts) e in omega (arith, l, even)) in
        let start : place ≡ get_or starts g 0 = is ∙ ap (λ b. cond b (get_or starts g 0) (length members)) e in
        let most = columns.begun.within g 0 here in
        record {
          within = omega (arith, start, most, long);
          before = λ k d less.
              let short : k < length members = omega (arith, less, start, most) in
              let m = get_or members k (member_of d 0) in
              let first : nat_lt k (get_or starts g 0) ≡ true = of-below k (get_or starts g 0) (omega (arith, less, start)) in
              let low = below-of m.group g (columns.begun.begins k g (member_of d 0) 0 short here ∙ first) in
              at k d short ∙ cut.before m.group no_group low;
          after = λ k d from within.
              let short : k < length members = omega (arith, within, long) in
              let m = get_or members k (member_of d 0) in
              let last : nat_lt k (get_or starts g 0) ≡ false = of-upto k (get_or starts g 0) (omega (arith, from, start)) in
              let high = upto-of m.group g (columns.begun.begins k g (member_of d 0) 0 short here ∙ last) in
              at k d short ∙ cut.after m.group no_group high (columns.known k (member_of d 0) short);
        }
    by false e =
        let even = columns.begun.even in
        let all : length groups ≤ g = (let l = upto-of g (length starts) e in omega (arith, l, even)) in
        let end : place ≡ length members = is ∙ ap (λ b. cond b (get_or starts g 0) (length members)) e in
        record {
          within = omega (arith, end, long);
          before = λ k d less.
              let short : k < length members = omega (arith, less, end) in
              let m = get_or members k (member_of d 0) in
              let known = columns.known k (member_of d 0) short in
              at k d short ∙ cut.before m.group no_group (omega (arith, known, all));
          after = λ k d from within. absurd (omega (arith, from, within, end, long));
        }

-- ---- the rows of one group

-- the groups up to one
upto-group : (groups : List Group) (j : ℕ) → rises group_cmp groups ≡ true → j < length groups
    → IsCut (is_group_before (bound.UptoGroup (group_at groups j))) groups (j + 1)
upto-group groups j up within = record {
  within = omega (arith, within);
  before = λ k d less.
      elim (lt_or_eq k j (omega (arith, less))) [
        | inl lower ↦ ap (λ o. not (is_gt o)) (sorted-far group_cmp groups k j d no_group sorted lower within)
        | inr same ↦
            ap (λ n. not (is_gt (group_cmp (get_or groups n d) (group_at groups j)))) same
            ∙ ap (λ v. not (is_gt (group_cmp v (group_at groups j)))) (get_or_default groups j d no_group within)
            ∙ ap (λ o. not (is_gt o)) (group_cmp-self (group_at groups j))
      ];
  after = λ k d from short.
      ap (λ o. not (is_gt o)) (group_total.antisymm (get_or groups k d) (group_at groups j)
      ∙ ap ordering_reverse (sorted-far group_cmp groups j k no_group d sorted (omega (arith, from)) short));
}
  where
    sorted : IsStrictlySortedBy group_cmp groups
    sorted = sorted_from_rises group_cmp group_total groups up

pub group-ends : (groups : List Group) (starts : List ℕ) (members : List Member) (numbers : List ℤ) (rows : List Row) (i place : ℕ) (m : Member)
    → AreColumns groups starts members numbers → rows ≡ rows_in groups members numbers → i < length members
    → place ≡ cond (nat_lt ((get_or members i m).group + 1) (length starts)) (get_or starts ((get_or members i m).group + 1) 0) (length members)
    → (d : Row) → IsCut (is_before (bound.UptoGroup (group_of (get_or rows i d)))) rows place
group-ends groups starts members numbers rows i place m columns are within is d =
    let j = (get_or members i m).group in
    let cut = cut-by-group (is_group_before (bound.UptoGroup (group_at groups j))) groups starts members numbers rows (j + 1) place columns are
    (upto-group groups j columns.rise (columns.known i m within)) is in
    subst (λ (g : Group). IsCut (is_before (bound.UptoGroup g)) rows place)
    (sym (group-of-row groups starts members numbers rows i m d columns are within)) cut

squeezed : (o : Ordering) → is_lt o ≡ false → not (is_gt o) ≡ true → is_eq o ≡ true
squeezed Less a b = absurd (cc)
squeezed Equal a b = refl
squeezed Greater a b = absurd (cc)

over-false : (o : Ordering) → not (is_gt o) ≡ false → is_gt o ≡ true
over-false Less e = absurd (cc)
over-false Equal e = absurd (cc)
over-false Greater e = refl

less-upto : (o : Ordering) → is_lt o ≡ true → not (is_gt o) ≡ true
less-upto Less e = refl
less-upto Equal e = absurd (cc)
less-upto Greater e = absurd (cc)

pub span : (group : Group) (rows : List Row) (low high : ℕ) → IsCut (λ row. is_lt (group_cmp (group_of row) group)) rows low
    → IsCut (λ row. not (is_gt (group_cmp (group_of row) group))) rows high → IsSpan group rows low high
span group rows low high starts ends = record {
  between = between rows refl;
  within = ends.within;
  before = starts.before;
  same = λ k d from to.
      let w = ends.within in
      same_group-true (group_of (get_or rows k d)) group
      (group_ties (group_of (get_or rows k d)) group
      ∙ squeezed (group_cmp (group_of (get_or rows k d)) group) (starts.after k d from (omega (arith, to, w))) (ends.before k d to));
  after = λ k d from within. over-false (group_cmp (group_of (get_or rows k d)) group) (ends.after k d from within);
}
  where
    between : (rs : List Row) → rs ≡ rows → low ≤ high
    between [] e = let none : 0 ≡ length rows = ap length e in let w = starts.within in omega (arith, none, w)
    between (d ∷ rs) e =
        elim (cases_Bool (nat_lt high low)) [
          | inl over ↦
              let w = starts.within in
              let less = below-of high low over in
              absurd (false≢true (sym (ends.after high d (omega arith) (omega (arith, w, less)))
              ∙ less-upto (group_cmp (group_of (get_or rows high d)) group) (starts.before high d less)))
          | inr upto ↦ upto-of high low upto
        ]

-- ---- a key in the rows of its group

first-less : (o rest : Ordering) → is_lt o ≡ true → is_lt (ordering_then o rest) ≡ true
first-less Less rest e = refl
first-less Equal rest e = absurd (cc)
first-less Greater rest e = absurd (cc)

first-over : (o rest : Ordering) → is_gt o ≡ true → is_lt (ordering_then o rest) ≡ false
first-over Less rest e = absurd (cc)
first-over Equal rest e = absurd (cc)
first-over Greater rest e = refl

pub span-before : (key : RowKey) (rows : List Row) (low high : ℕ) → IsSpan key.group rows low high → (k : ℕ) (d : Row) → k < low
    → is_before (bound.Key key) (get_or rows k d) ≡ true
span-before key rows low high s k d less = first-less (group_cmp (group_of (get_or rows k d)) key.group) _ (s.before k d less)

pub span-after : (key : RowKey) (rows : List Row) (low high : ℕ) → IsSpan key.group rows low high → (k : ℕ) (d : Row) → high ≤ k → k < length rows
    → is_before (bound.Key key) (get_or rows k d) ≡ false
span-after key rows low high s k d from within = first-over (group_cmp (group_of (get_or rows k d)) key.group) _ (s.after k d from within)

-- of a row of the key's group
pub member-before : (groups : List Group) (starts : List ℕ) (members : List Member) (numbers : List ℤ) (rows : List Row) (i : ℕ) (m : Member) (key : RowKey)
    (b : Bool) → AreColumns groups starts members numbers → rows ≡ rows_in groups members numbers → i < length members → m ≡ get_or members i m
    → b ≡ is_place_below (position_of m.approved) m.order key.position key.order
    → (d : Row) → group_of (get_or rows i d) ≡ key.group → b ≡ is_before (bound.Key key) (get_or rows i d)
member-before groups starts members numbers rows i m key b columns are within at is d same =
    let row : get_or rows i d ≡ row_from (head_from groups (get_or members i m)) (get_or numbers i (pos 0)) = ap (λ rs. get_or rs i d) are
    ∙ sym (rows_in-at groups members numbers i m (pos 0) d columns.even within) in
    let position : position_of (get_or rows i d).approved ≡ position_of m.approved = ap (λ (r : Row). position_of r.approved) row
    ∙ ap (λ (v : Member). position_of v.approved) (sym at) in
    let order : (get_or rows i d).order ≡ m.order = ap (λ (r : Row). r.order) row ∙ ap (λ (v : Member). v.order) (sym at) in
    is
    ∙ ap (λ p. is_place_below p m.order key.position key.order) (sym position)
    ∙ ap (λ o. is_place_below (position_of (get_or rows i d).approved) o key.position key.order) (sym order)
    ∙ sym (lt_then (position_of (get_or rows i d).approved) (get_or rows i d).order key.position key.order)
    ∙ ap (λ o. is_lt (ordering_then o (ordering_then (nat_cmp (position_of (get_or rows i d).approved) key.position)
    (nat_cmp (get_or rows i d).order key.order)))) (sym (ap (λ g. group_cmp g key.group) same ∙ group_cmp-self key.group))

-- ---- the group after one

is_less-not : (o : Ordering) → is_lt o ≡ false → is_eq o ≡ false → not (is_gt o) ≡ false
is_less-not Less a b = absurd (cc)
is_less-not Equal a b = absurd (cc)
is_less-not Greater a b = refl

is_less-reverse : (o : Ordering) → is_lt o ≡ false → is_eq o ≡ false → ordering_reverse o ≡ Less
is_less-reverse Less a b = absurd (cc)
is_less-reverse Equal a b = absurd (cc)
is_less-reverse Greater a b = refl

-- no group after the first that isn't below another one, and isn't this one, is up to it
past-group : (groups : List Group) (g : Group) (low k : ℕ) (d : Group) → rises group_cmp groups ≡ true → low ≤ k → k < length groups
    → is_lt (group_cmp (get_or groups low d) g) ≡ false → is_eq (group_cmp (get_or groups low d) g) ≡ false
    → is_group_before (bound.UptoGroup g) (get_or groups k d) ≡ false
past-group groups g low k d up from within not_less not_same =
    elim (lt_or_eq low k from) [
      | inl later ↦
          let first : group_cmp g (get_or groups low d) ≡ Less = group_total.antisymm g (get_or groups low d)
          ∙ is_less-reverse (group_cmp (get_or groups low d) g) not_less not_same in
          let next : group_cmp (get_or groups low d) (get_or groups k d) ≡ Less =
          sorted-far group_cmp groups low k d d (sorted_from_rises group_cmp group_total groups up) later within in
          let over : group_cmp g (get_or groups k d) ≡ Less = group_total.trans g (get_or groups low d) (get_or groups k d) first next in
          ap (λ o. not (is_gt o)) (group_total.antisymm (get_or groups k d) g ∙ ap ordering_reverse over)
      | inr same ↦
          ap (λ n. not (is_gt (group_cmp (get_or groups n d) g))) (sym same)
          ∙ is_less-not (group_cmp (get_or groups low d) g) not_less not_same
    ]

-- the groups up to one, from those below it
pub cut-after : (groups : List Group) (g : Group) (low : ℕ) → rises group_cmp groups ≡ true → IsCut (λ h. is_lt (group_cmp h g)) groups low
    → IsCut (is_group_before (bound.UptoGroup g)) groups (place_after groups low g)
cut-after groups g low up cut = by (nat_lt low (length groups)) refl (same_group (group_at groups low) g) refl
  where
    kept : ((k : ℕ) (d : Group) → low ≤ k → k < length groups → is_group_before (bound.UptoGroup g) (get_or groups k d) ≡ false)
        → IsCut (is_group_before (bound.UptoGroup g)) groups low
    kept after = record {
      within = cut.within;
      before = λ k d less. less-upto (group_cmp (get_or groups k d) g) (cut.before k d less);
      after = after;
    }

    by : (a : Bool) → nat_lt low (length groups) ≡ a → (b : Bool) → same_group (group_at groups low) g ≡ b
        → IsCut (is_group_before (bound.UptoGroup g)) groups (place_after groups low g)
    by true e true same =
        let is : place_after groups low g ≡ low + 1 = ap (λ v. cond (v && same_group (group_at groups low) g) (low + 1) low) e
        ∙ ap (λ v. cond v (low + 1) low) same in
        let one : group_at groups low ≡ g = same_group-true (group_at groups low) g same in
        subst (λ (n : ℕ). IsCut (is_group_before (bound.UptoGroup g)) groups n) (sym is)
        (subst (λ (h : Group). IsCut (is_group_before (bound.UptoGroup h)) groups (low + 1)) one (upto-group groups low up (below-of low (length groups) e)))
    by true e false other =
        let is : place_after groups low g ≡ low = ap (λ v. cond (v && same_group (group_at groups low) g) (low + 1) low) e
        ∙ ap (λ v. cond v (low + 1) low) other in
        let within : low < length groups = below-of low (length groups) e in
        subst (λ (n : ℕ). IsCut (is_group_before (bound.UptoGroup g)) groups n) (sym is)
        (kept (λ k d from short. past-group groups g low k d up from short (cut.after low d (omega arith) within)
        (sym (group_ties (get_or groups low d) g) ∙ ap (λ h. same_group h g) (get_or_default groups low d no_group within) ∙ other)))
    by false e b is_same =
        let is : place_after groups low g ≡ low = ap (λ v. cond (v && same_group (group_at groups low) g) (low + 1) low) e in
        subst (λ (n : ℕ). IsCut (is_group_before (bound.UptoGroup g)) groups n) (sym is)
        (kept (λ k d from short. absurd (let past = upto-of low (length groups) e in omega (arith, past, from, short))))
