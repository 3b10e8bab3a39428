-- Running sums.
use Rattle.std.proofs.Common.{◌≡◌, ◌∙◌, ℕ, zero, suc, ◌+◌, ◌-◌, ◌*◌, ◌^◌, ◌<◌, ◌≤◌, max, Bool, true, false, cond, List, [], ◌∷◌, ◌++◌, length, take}
use Rattle.std.proofs.Common.{drop, get_or, ℤ, pos, ◌+ℤ◌, ◌-ℤ◌, unsigned_abs, Option, Some, None, inl, inr, refl, sym, ap, subst, arith}
use Rattle.std.specs.Prelude.{All}
use Rattle.std.specs.List.{filter, AllByRecursion}
use Rattle.std.proofs.Math.ListN.{get_or-append}
use Rattle.std.proofs.Math.Nat.{le-max_left, le-max_right, max-le}
use Rattle.std.proofs.lemmas.Bool.Decides.{nat_tests}
use Rattle.std.proofs.lemmas.Int.{ints}
use Rattle.std.proofs.lemmas.List.{get_or_push, get_or-take, get_or-drop, take_more, length-take-le, length-drop, length-append}
use Rattle.std.proofs.lemmas.List.Elements.{All-more, All-filter, recursion_from_All}
use Rattle.table_rows.specs.declared.row.Row.{Row}
use Rattle.table_rows.specs.declared.sum.Sum.{Sum}
use Rattle.table_rows.specs.Sums.{joined, no_sum, sum_over, sum_of_row, sum_of_number, sum_of_rows, IsSized}
use Rattle.table_rows.proofs.SumLemmas.{sum_over-push, sum_over-append}
use Rattle.table_sums.specs.Running.{IsFit, is_placed, IsPlaced, AreSums, ArePlaced}
use Rattle.table_sums.proofs.BoundLemmas.{lt_or_eq}

-- ---- one row more

pub sum-next : (rows : List Row) (i : ℕ) (row : Row) (old new : Sum) → i < length rows → row ≡ get_or rows i row → old ≡ sum_of_rows (take i rows)
    → new ≡ joined old (sum_of_row row)
    → new ≡ sum_of_rows (take (i + 1) rows)
unfolding sum_of_rows
sum-next rows i row old new within at before is =
    is ∙ ap (λ s. joined s (sum_of_row row)) before ∙ sym (sum_over-push sum_of_row (take i rows) row)
    ∙ ap (λ r. sum_over sum_of_row (take i rows ++ r ∷ [])) at ∙ ap (sum_over sum_of_row) (sym (take_more rows i row within))

pub sums-first : (rows : List Row) (m : List ℤ) (p : List ℕ) → m ≡ pos 0 ∷ [] → p ≡ 0 ∷ [] → AreSums rows 0 m p
unfolding sum_of_rows
sums-first rows m p em ep = record {
  sums = sums_at;
  counts = counts_at;
  sums_length = ap length em;
  counts_length = ap length ep;
}
  where
    sums_at : (i : ℕ) (d : ℤ) → i ≤ 0 → get_or m i d ≡ (sum_of_rows (take i rows)).micros
    sums_at zero d e = ap (λ xs. get_or xs zero d) em
    sums_at (suc i) d e = absurd (omega arith)

    counts_at : (i : ℕ) (d : ℕ) → i ≤ 0 → get_or p i d ≡ (sum_of_rows (take i rows)).plain
    counts_at zero d e = ap (λ xs. get_or xs zero d) ep
    counts_at (suc i) d e = absurd (omega arith)

-- a column with one number more
column : {X : Type 0} (f : ℕ → X) (i : ℕ) (old new : List X) (x : X) → ((k : ℕ) (d : X) → k ≤ i → get_or old k d ≡ f k) → length old ≡ i + 1
    → new ≡ old ++ x ∷ [] → x ≡ f (i + 1)
    → (k : ℕ) (d : X) → k ≤ i + 1 → get_or new k d ≡ f k
column f i old new x at long is last k d upto =
    elim (lt_or_eq k (i + 1) upto) [
      | inl less ↦ ap (λ xs. get_or xs k d) is ∙ get_or-append old (x ∷ []) d k (omega arith) ∙ at k d (omega arith)
      | inr same ↦ ap (λ xs. get_or xs k d) is ∙ get_or_push old x d k (long ∙ sym same) ∙ last ∙ ap f (sym same)
    ]

longer : {X : Type 0} (i : ℕ) (old new : List X) (x : X) → length old ≡ i + 1 → new ≡ old ++ x ∷ [] → length new ≡ i + 1 + 1
longer i old new x long is = ap length is ∙ length-append old (x ∷ []) ∙ ap (λ n. n + 1) long

pub sums-more : (rows : List Row) (i : ℕ) (m m' : List ℤ) (p p' : List ℕ) (sum : Sum) → AreSums rows i m p → sum ≡ sum_of_rows (take (i + 1) rows)
    → m' ≡ m ++ sum.micros ∷ []
    → p' ≡ p ++ sum.plain ∷ [] → AreSums rows (i + 1) m' p'
sums-more rows i m m' p p' sum before is em ep = record {
  sums = column (λ k. (sum_of_rows (take k rows)).micros) i m m' sum.micros before.sums before.sums_length em (ap (λ (s : Sum). s.micros) is);
  counts = column (λ k. (sum_of_rows (take k rows)).plain) i p p' sum.plain before.counts before.counts_length ep (ap (λ (s : Sum). s.plain) is);
  sums_length = longer i m m' sum.micros before.sums_length em;
  counts_length = longer i p p' sum.plain before.counts_length ep;
}

-- ---- positions

placed-up : (n m : ℕ) (o : Option ℕ) → n ≤ m → is_placed n o ≡ true → is_placed m o ≡ true
placed-up n m None upto e = refl
placed-up n m (Some position) upto e = grind (arith, nat_tests)

pub positions-more : (rows : List Row) (i : ℕ) (row : Row) (old own new : ℕ) → i < length rows → row ≡ get_or rows i row → ArePlaced (take i rows) old
    → IsPlaced own row → ((n : ℕ) → IsPlaced n row → own ≤ n) → own ≤ 256 → new ≡ max own old → ArePlaced (take (i + 1) rows) new
positions-more rows i row old own new within at before placed least few is = record {
  placed = All-more (IsPlaced new) rows i row within
      (λ k d short. placed-up old new (get_or (take i rows) k d).approved upto_old (before.placed k d short))
      (subst (IsPlaced new) at (placed-up own new row.approved upto_own placed));
  least = λ n all. subst (λ m. m ≤ n) (sym is) (max-le (own_least n all) (old_least n all));
  few = subst (λ m. m ≤ 256) (sym is) (max-le few before.few);
}
  where
    upto_own : own ≤ new
    upto_own = subst (λ m. own ≤ m) (sym is) (le-max_left own old)

    upto_old : old ≤ new
    upto_old = subst (λ m. old ≤ m) (sym is) (le-max_right own old)

    long : length (take (i + 1) rows) ≡ i + 1
    long = length-take-le (i + 1) rows (omega arith)

    own_least : (n : ℕ) → All (IsPlaced n) (take (i + 1) rows) → own ≤ n
    own_least n all = least n (subst (IsPlaced n) (get_or-take (i + 1) rows i row (omega arith) ∙ sym at) (all i row (omega (arith, long))))

    old_least : (n : ℕ) → All (IsPlaced n) (take (i + 1) rows) → old ≤ n
    old_least n all = before.least n (λ k d short.
        let shorter : length (take i rows) ≡ i = length-take-le i rows (omega arith) in
        subst (IsPlaced n) (get_or-take (i + 1) rows k d (omega (arith, shorter))
        ∙ sym (get_or-take i rows k d (omega (arith, shorter)))) (all k d (omega (arith, long, shorter))))

-- ---- sums between two places

-- the sum of rows whose numbers fit
pub record Bounded (sum : Sum) (n : ℕ) : Type 0 where
  pub micros : unsigned_abs sum.micros ≤ 2 ^ 63 * sum.count
  pub plain : sum.plain ≤ sum.count
  pub count : sum.count ≡ n

one_bounded : (o : Option ℤ) → (sum_of_number o).plain ≤ 1 × ((sum_of_number o).count ≡ 1)
one_bounded None = (omega arith, refl)
one_bounded (Some z) = (omega arith, refl)

added : (a b : ℤ) (c d : ℕ) → unsigned_abs a ≤ 2 ^ 63 * c → unsigned_abs b ≤ 2 ^ 63 * d → unsigned_abs (a +ℤ b) ≤ 2 ^ 63 * (c + d)
added a b c d x y = omega (arith, ints)

bounded : (rows : List Row) → AllByRecursion IsFit rows → Bounded (sum_over sum_of_row rows) (length rows)
bounded [] all = record { micros = omega arith; plain = omega arith; count = refl }
bounded (row ∷ rows) all =
    let rest = bounded rows all.1 in
    let one = one_bounded row.micros in
    record {
      micros = added (sum_of_row row).micros (sum_over sum_of_row rows).micros (sum_of_row row).count (sum_over sum_of_row rows).count all.0 rest.micros;
      plain = omega (arith, rest.plain, one.0, one.1);
      count = omega (arith, rest.count, one.1);
    }

pub rows-bounded : (rows : List Row) → All IsFit rows → Bounded (sum_of_rows rows) (length rows)
unfolding sum_of_rows
rows-bounded rows all = bounded rows (recursion_from_All IsFit rows all)

pub sized : (rows : List Row) → All IsFit rows → length rows ≤ 4194304 → IsSized (sum_of_rows rows)
sized rows all few = let b = rows-bounded rows all in record { micros = b.micros; plain = b.plain; count = omega (arith, b.count) }

all-take : {X : Type 0} (P : X → Type 0) (n : ℕ) (xs : List X) → All P xs → n ≤ length xs → All P (take n xs)
all-take P n xs all upto k d short =
    let long : length (take n xs) ≡ n = length-take-le n xs upto in
    subst P (sym (get_or-take n xs k d (omega (arith, long)))) (all k d (omega (arith, long)))

pub prefix-bounded : (rows : List Row) (n : ℕ) → All IsFit rows → n ≤ length rows → Bounded (sum_of_rows (take n rows)) n
prefix-bounded rows n all upto =
    let long : length (take n rows) ≡ n = length-take-le n rows upto in
    subst (Bounded (sum_of_rows (take n rows))) long (rows-bounded (take n rows) (all-take IsFit n rows all upto))

filter-length : {X : Type 0} (p : X → Bool) (xs : List X) → length (filter p xs) ≤ length xs
filter-length p [] = omega arith
filter-length p (x ∷ xs) = by (p x) (filter-length p xs)
  where
    by : (b : Bool) → length (filter p xs) ≤ length xs → length (cond b (x ∷ filter p xs) (filter p xs)) ≤ suc (length xs)
    by true e = omega arith
    by false e = omega arith

-- the first `to` rows are the first `from` and those between
take-parts : {X : Type 0} (xs : List X) (from to : ℕ) → from ≤ to → take to xs ≡ take from xs ++ drop from (take to xs)
take-parts xs zero to upto = refl
take-parts [] (suc from) zero upto = absurd (omega arith)
take-parts [] (suc from) (suc to) upto = refl
take-parts (x ∷ xs) (suc from) zero upto = absurd (omega arith)
take-parts (x ∷ xs) (suc from) (suc to) upto = ap (λ ys. x ∷ ys) (take-parts xs from to (omega arith))

pub sum-parts : (rows : List Row) (from to : ℕ) → from ≤ to → sum_of_rows (take to rows) ≡ joined (sum_of_rows (take from rows)) (sum_of_rows (drop
    from (take to rows)))
unfolding sum_of_rows
sum-parts rows from to upto = ap (sum_over sum_of_row) (take-parts rows from to upto) ∙ sum_over-append sum_of_row (take from rows) (drop from (take to rows))

all-drop : {X : Type 0} (P : X → Type 0) (n : ℕ) (xs : List X) → All P xs → All P (drop n xs)
all-drop P n xs all k d short =
    let long : length (drop n xs) ≡ length xs - n = length-drop n xs in
    subst P (sym (get_or-drop n xs k d)) (all (n + k) d (omega (arith, long)))

pub between-bounded : (rows : List Row) (from to : ℕ) → All IsFit rows → from ≤ to → to ≤ length rows
    → Bounded (sum_of_rows (drop from (take to rows))) (to - from)
between-bounded rows from to all upto within =
    let long : length (take to rows) ≡ to = length-take-le to rows within in
    let rest : length (drop from (take to rows)) ≡ length (take to rows) - from = length-drop from (take to rows) in
    let both : length (drop from (take to rows)) ≡ to - from = omega (arith, long, rest) in
    subst (Bounded (sum_of_rows (drop from (take to rows)))) both (rows-bounded (drop from (take to rows)) (all-drop IsFit from (take to rows)
    (all-take IsFit to rows all within)))

same_sum : (a b : Sum) → a.micros ≡ b.micros → a.count ≡ b.count → a.plain ≡ b.plain → a ≡ b
same_sum a b em ec ep =
    let made : a ≡ record { micros = b.micros; count = b.count; plain = b.plain } = rw (← em, ← ec, ← ep) refl in
    made

subtracted : (x y a b z : ℤ) → x ≡ a → y ≡ b → a ≡ b +ℤ z → x -ℤ y ≡ z
subtracted x y a b z ex ey e = omega (arith, ints)

-- the difference of two running sums
pub difference : (rows : List Row) (from to : ℕ) (ms : List ℤ) (ps : List ℕ) (s : Sum) → All IsFit rows → AreSums rows (length rows) ms ps
    → from ≤ to → to ≤ length rows
    → ((d : ℤ) → s.micros ≡ get_or ms to d -ℤ get_or ms from d) → s.count ≡ to - from → ((d : ℕ) → s.plain + get_or ps from d ≡ get_or ps to d)
    → s ≡ sum_of_rows (drop from (take to rows))
difference rows from to ms ps s all sums upto within em ec ep =
    let parts = sum-parts rows from to upto in
    let part = sum_of_rows (drop from (take to rows)) in
    let bounds = between-bounded rows from to all upto within in
    let at_to = sums.sums to (pos 0) within in
    let at_from = sums.sums from (pos 0) (omega arith) in
    let n_to = sums.counts to 0 within in
    let n_from = sums.counts from 0 (omega arith) in
    let n = ep 0 in
    let whole : (sum_of_rows (take to rows)).micros ≡ (sum_of_rows (take from rows)).micros +ℤ part.micros = ap (λ (s : Sum). s.micros) parts in
    let plain : (sum_of_rows (take to rows)).plain ≡ (sum_of_rows (take from rows)).plain + part.plain = ap (λ (s : Sum). s.plain) parts in
    same_sum s part
    (em (pos 0) ∙ subtracted (get_or ms to (pos 0)) (get_or ms from (pos 0)) (sum_of_rows (take to rows)).micros (sum_of_rows (take from
    rows)).micros part.micros at_to at_from whole)
    (ec ∙ sym bounds.count) (omega (arith, n, n_to, n_from, plain))

pub prefix-small : (rows : List Row) (ms : List ℤ) (ps : List ℕ) (n : ℕ) → All IsFit rows → length rows ≤ 4194304
    → AreSums rows (length rows) ms ps → n ≤ length rows
    → (d : ℤ) → unsigned_abs (get_or ms n d) ≤ 2 ^ 100
prefix-small rows ms ps n all few sums upto d =
    let b = prefix-bounded rows n all upto in
    subst (λ (z : ℤ). unsigned_abs z ≤ 2 ^ 100) (sym (sums.sums n d upto)) (omega (arith, b.micros, b.count))

pub prefix-grow : (rows : List Row) (ms : List ℤ) (ps : List ℕ) (from to : ℕ) → AreSums rows (length rows) ms ps → from ≤ to → to ≤ length rows
    → (d : ℕ) → get_or ps from d ≤ get_or ps to d
prefix-grow rows ms ps from to sums upto within d =
    let n_to = sums.counts to d within in
    let n_from = sums.counts from d (omega arith) in
    let part = sum_of_rows (drop from (take to rows)) in
    let plain : (sum_of_rows (take to rows)).plain ≡ (sum_of_rows (take from rows)).plain + part.plain = ap (λ (s : Sum). s.plain) (sum-parts rows
    from to upto) in
    omega (arith, n_to, n_from, plain)

-- rows that pass a test
pub filter-sized : (p : Row → Bool) (rows : List Row) (sum : Sum) → All IsFit rows → length rows ≤ 4194304 → sum ≡ sum_of_rows (filter p rows) → IsSized sum
filter-sized p rows sum all few is =
    subst IsSized (sym is) (sized (filter p rows) (All-filter p IsFit rows all) (let less = filter-length p rows in omega (arith, less, few)))

pub between-sized : (rows : List Row) (from to : ℕ) (sum : Sum) → All IsFit rows → length rows ≤ 4194304 → from ≤ to → to ≤ length rows
    → sum ≡ sum_of_rows (drop from (take to rows)) → IsSized sum
between-sized rows from to sum all few upto within is =
    let b = between-bounded rows from to all upto within in
    subst IsSized (sym is) record { micros = b.micros; plain = b.plain; count = omega (arith, b.count) }

-- ---- no row

pub record NoneYet (sum : Sum) : Type 0 where
  pub is : sum ≡ sum_of_rows []
  pub size : unsigned_abs sum.micros ≤ 2 ^ 63 * sum.count
  pub plain : sum.plain ≤ sum.count
  pub few : sum.count ≤ 0

pub none-yet : (sum : Sum) → sum ≡ no_sum → NoneYet sum
unfolding sum_of_rows
none-yet sum e = record {
  is = e;
  size = subst (λ (s : Sum). unsigned_abs s.micros ≤ 2 ^ 63 * s.count) (sym e) (omega arith);
  plain = subst (λ (s : Sum). s.plain ≤ s.count) (sym e) (omega arith);
  few = subst (λ (s : Sum). s.count ≤ 0) (sym e) (omega arith);
}

pub none-sized : (sum : Sum) → sum ≡ no_sum → IsSized sum
none-sized sum e = subst IsSized (sym e) record { micros = omega arith; plain = omega arith; count = omega arith }
