-- The groups of an element, found by steps from group to group.
use Rattle.std.proofs.Common.{◌≡◌, ◌∙◌, ℕ, zero, suc, ◌+◌, ◌-◌, ◌<◌, ◌≤◌, Bool, true, false, not, cond, List, [], ◌∷◌, ◌++◌, length, map, take}
use Rattle.std.proofs.Common.{get_or, Option, Some, None, inl, inr, refl, sym, ap, subst, arith, length-append}
use Rattle.std.specs.Prelude.{nat_eq, nat_le, nat_lt, slice_get}
use Rattle.std.specs.List.{filter}
use Rattle.std.specs.Ordering.{is_gt}
use Rattle.std.proofs.Math.Nat.{le_refl}
use Rattle.std.proofs.Math.Seq.{get_or-append_seam}
use Rattle.std.proofs.lemmas.Bool.{cases_Bool, false≢true}
use Rattle.std.proofs.lemmas.Bool.Decides.{nat_tests}
use Rattle.std.proofs.lemmas.List.{get_or-take, get_or_default, length-take-le}
use Rattle.std.proofs.lemmas.Option.{slice_get-get_or}
use Rattle.table_rows.specs.declared.row.Row.{Row}
use Rattle.table_rows.specs.declared.row.Group.{Group}
use Rattle.table_rows.specs.Rows.{group_of, same_group, is_of_element}
use Rattle.table_rows.specs.Order.{group_cmp, row_cmp}
use Rattle.table_rows.specs.Groups.{each_once, groups_of, differs_from, with_group}
use Rattle.table_rows.specs.Store.{rises}
use Rattle.table_rows.proofs.OrderLemmas.{row_total, same_group-true, same_group-self, same_group-tie, group_cmp-self, group_upto}
use Rattle.table_rows.proofs.RiseLemmas.{sorted_from_rises, sorted-far}
use Rattle.table_rows.proofs.GroupLemmas.{Step, groups_upto, groups-more, last_of}
use Rattle.table_sums.specs.declared.search.Bound.TheVariants as bound
use Rattle.table_sums.specs.Bounds.{is_before, IsCut, NextGroup}
use Rattle.table_sums.proofs.PartLemmas.{none-pass}

-- ---- before the first group

below-other : (x element : ℕ) → nat_lt x element ≡ true → nat_eq x element ≡ false
below-other x element e = grind (arith, nat_tests)

pub groups-begin : (element : ℕ) (rows : List Row) (first : ℕ) → IsCut (is_before (bound.Element element)) rows first
    → Step (groups_upto element rows first) []
groups-begin element rows first cut =
    let long : length (take first rows) ≡ first = length-take-le first rows cut.within in
    let none : filter (is_of_element element) (take first rows) ≡ [] =
    none-pass (is_of_element element) (take first rows)
    (λ k d short.
    ap (is_of_element element) (get_or-take first rows k d (omega (arith, long)))
    ∙ below-other (get_or rows k d).element element (cut.before k d (omega (arith, long)))) in
    subst (λ (rs : List Row). Step (map group_of rs) []) (sym none) record { is = refl; top = refl }

-- ---- one group

-- a row to read where there is one
some_row : (rows : List Row) (place : ℕ) → place < length rows → Row
some_row [] place within = absurd (omega arith)
some_row (r ∷ rows) place within = r

last-push : (gs : List Group) (g : Group) → last_of (gs ++ g ∷ []) ≡ Some g
last-push gs g =
    let longer : length (gs ++ g ∷ []) ≡ length gs + 1 = length-append gs (g ∷ []) in
    let last : length (gs ++ g ∷ []) - 1 ≡ length gs = omega arith in
    ap (slice_get (gs ++ g ∷ [])) last ∙ slice_get-get_or (gs ++ g ∷ []) (length gs) g (omega arith) ∙ ap Some (get_or-append_seam gs g [] g)

-- the group that was put is the last
pub last-after : (gs : List Group) (g : Group) → last_of (with_group true gs g) ≡ Some g
last-after gs g = by_last (last_of gs) refl
  where
    by_last : (o : Option Group) → last_of gs ≡ o → last_of (with_group true gs g) ≡ Some g
    by_last None last = ap (λ o. last_of (cond (differs_from o g) (gs ++ g ∷ []) gs)) last ∙ last-push gs g
    by_last (Some top) last =
        elim (cases_Bool (same_group g top)) [
          | inl same ↦
              ap (λ o. last_of (cond (differs_from o g) (gs ++ g ∷ []) gs)) last ∙ ap (λ b. last_of (cond (not b) (gs ++ g ∷ []) gs)) same
              ∙ last ∙ ap Some (sym (same_group-true g top same))
          | inr other ↦
              ap (λ o. last_of (cond (differs_from o g) (gs ++ g ∷ []) gs)) last ∙ ap (λ b. last_of (cond (not b) (gs ++ g ∷ []) gs)) other
              ∙ last-push gs g
        ]

-- a group that is the last already isn't put again
kept-last : (gs : List Group) (g : Group) → last_of gs ≡ Some g → gs ≡ with_group true gs g
kept-last gs g last =
    ap (λ b. cond (not b) (gs ++ g ∷ []) gs) (sym (same_group-self g)) ∙ ap (λ o. cond (differs_from o g) (gs ++ g ∷ []) gs) (sym last)

not-true : (b : Bool) → not b ≡ true → b ≡ false
not-true true e = absurd (cc)
not-true false e = refl

-- a row after another one and up to its group is of this group
same-later : (rows : List Row) (place k : ℕ) (d : Row) (g : Group) → rises row_cmp rows ≡ true → place < k → k < length rows
    → group_of (get_or rows place d) ≡ g
    → is_before (bound.UptoGroup g) (get_or rows k d) ≡ true → group_of (get_or rows k d) ≡ g
same-later rows place k d g up after within is before =
    let less = sorted-far row_cmp rows place k d d (sorted_from_rises row_cmp row_total rows up) after within in
    let from : is_gt (group_cmp g (group_of (get_or rows k d))) ≡ false =
    ap (λ h. is_gt (group_cmp h (group_of (get_or rows k d)))) (sym is) ∙ group_upto (get_or rows place d) (get_or rows k d) less in
    same_group-true (group_of (get_or rows k d)) g (same_group-tie (group_of (get_or rows k d)) g (not-true _ before) from)

element-same : (x element : ℕ) → nat_lt x element ≡ false → nat_le x element ≡ true → nat_eq x element ≡ true
element-same x element a b = grind (arith, nat_tests)

-- one more row of the last group
row-again : (element : ℕ) (rows : List Row) (k : ℕ) (d : Row) (gs : List Group) (g : Group) → rises row_cmp rows ≡ true → k < length rows
    → group_of (get_or rows k d) ≡ g
    → nat_eq g.element element ≡ true → last_of gs ≡ Some g → Step (groups_upto element rows k) gs → Step (groups_upto element rows (k + 1)) gs
row-again element rows k d gs g up within is of last before =
    let y = get_or rows k d in
    let one : nat_eq y.element element ≡ true = ap (λ (h : Group). nat_eq h.element element) is ∙ of in
    let kept : gs ≡ with_group (nat_eq y.element element) gs (group_of y) =
    kept-last gs g last ∙ ap (λ h. with_group true gs h) (sym is) ∙ ap (λ b. with_group b gs (group_of y)) (sym one) in
    groups-more element rows k y gs gs up within (get_or_default rows k d y within) before kept

pub next-after : (rows : List Row) (place : ℕ) (old new : List Group) (next : ℕ) → place < length rows → NextGroup rows place old new next → place < next
next-after rows place old new next within n =
    let d = some_row rows place within in
    let g = group_of (get_or rows place d) in
    elim (cases_Bool (nat_lt place next)) [
      | inl less ↦ (let e : nat_lt place next ≡ true = less in grind (arith, nat_tests))
      | inr not_less ↦
          let e : nat_lt place next ≡ false = not_less in
          let upto : next ≤ place = grind (arith, nat_tests) in
          let after : not (is_gt (group_cmp g g)) ≡ false = (n.cut d).after place d upto within in
          absurd (false≢true (sym after ∙ ap (λ o. not (is_gt o)) (group_cmp-self g)))
    ]

next-at : (element : ℕ) (rows : List Row) (first end place : ℕ) (old new : List Group) (next : ℕ) (d : Row) → place < length rows → rises row_cmp rows ≡ true
    → IsCut (is_before (bound.Element element)) rows first → IsCut (is_before (bound.UptoElement element)) rows end → first ≤ place → place < end
    → Step (groups_upto element rows place) old → NextGroup rows place old new next → Step (groups_upto element rows next) new
next-at element rows first end place old new next d within up starts ends from to before n =
    let past : place < next = next-after rows place old new next within n in
    run (next - (place + 1)) next (omega (arith, past)) (le_refl next)
  where
    of : nat_eq (get_or rows place d).element element ≡ true
    of = element-same (get_or rows place d).element element (starts.after place d from within) (ends.before place d to)

    put : new ≡ with_group (nat_eq (get_or rows place d).element element) old (group_of (get_or rows place d))
    put = n.at d ∙ ap (λ b. with_group b old (group_of (get_or rows place d))) (sym of)

    start : Step (groups_upto element rows (place + 1)) new
    start = groups-more element rows place (get_or rows place d) old new up within (get_or_default rows place d (get_or rows place d) within) before put

    last : last_of new ≡ Some (group_of (get_or rows place d))
    last = ap last_of (n.at d) ∙ last-after old (group_of (get_or rows place d))

    run : (m j : ℕ) → j ≡ place + 1 + m → j ≤ next → Step (groups_upto element rows j) new
    run zero j is upto = (let e : place + 1 ≡ j = omega arith in subst (λ (v : ℕ). Step (groups_upto element rows v) new) e start)
    run (suc m) j is upto =
        let k = j - 1 in
        let after : place < k = omega arith in
        let w = (n.cut d).within in
        let short : k < length rows = omega (arith, w) in
        let back : k + 1 ≡ j = omega arith in
        let inside = same-later rows place k d (group_of (get_or rows place d)) up after short refl ((n.cut d).before k d (omega arith)) in
        subst (λ (v : ℕ). Step (groups_upto element rows v) new) back
        (row-again element rows k d new (group_of (get_or rows place d)) up short inside of last (run m k (omega arith) (omega arith)))

pub groups-next : (element : ℕ) (rows : List Row) (first end place : ℕ) (old new : List Group) (next : ℕ) → rises row_cmp rows ≡ true
    → IsCut (is_before (bound.Element element)) rows first → IsCut (is_before (bound.UptoElement element)) rows end → first ≤ place → place < end
    → Step (groups_upto element rows place) old → NextGroup rows place old new next → Step (groups_upto element rows next) new
groups-next element rows first end place old new next up starts ends from to before n =
    let within : place < length rows = (let w = ends.within in omega (arith, w)) in
    next-at element rows first end place old new next (some_row rows place within) within up starts ends from to before n

pub next-within : (rows : List Row) (place : ℕ) (old new : List Group) (next : ℕ) → place < length rows → NextGroup rows place old new next
    → next ≤ length rows
next-within rows place old new next within n = (n.cut (some_row rows place within)).within

-- ---- after the last group

above-other : (x element : ℕ) → nat_le x element ≡ false → nat_eq x element ≡ false
above-other x element e = grind (arith, nat_tests)

filter-first : {X : Type 0} (p : X → Bool) (xs : List X) (n : ℕ) → ((k : ℕ) (d : X) → n ≤ k → k < length xs → p (get_or xs k d) ≡ false)
    → filter p (take n xs) ≡ filter p xs
filter-first p [] zero none = refl
filter-first p [] (suc n) none = refl
filter-first p (x ∷ xs) zero none = sym (none-pass p (x ∷ xs) (λ k d short. none k d (omega arith) short))
filter-first p (x ∷ xs) (suc n) none = ap (λ ys. cond (p x) (x ∷ ys) ys) (filter-first p xs n (λ k d from short. none (suc k) d (omega arith) (omega arith)))

pub groups-done : (element : ℕ) (rows : List Row) (end place : ℕ) (gs : List Group) → IsCut (is_before (bound.UptoElement element)) rows end → end ≤ place
    → Step (groups_upto element rows place) gs → gs ≡ groups_of element rows
unfolding groups_of
groups-done element rows end place gs ends past step =
    step.is
    ∙ ap (λ rs. each_once same_group (map group_of rs))
    (filter-first (is_of_element element) rows place (λ k d from short. above-other (get_or rows k d).element element (ends.after k d (omega arith) short)))
