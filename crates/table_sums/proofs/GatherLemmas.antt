-- Rows put into their groups are those rows.
use Rattle.std.proofs.Common.{◌≡◌, ◌∙◌, ℕ, suc, ◌+◌, ◌-◌, ◌<◌, ◌≤◌, Bool, true, false, not, cond, List, [], ◌∷◌, ◌++◌, length, map, take}
use Rattle.std.proofs.Common.{get_or, Some, inl, inr, refl, sym, ap, subst, arith}
use Rattle.std.specs.Prelude.{All, nat_lt, slice_get}
use Rattle.std.specs.Ordering.{is_lt, is_gt, is_eq, ordering_reverse}
use Rattle.std.proofs.Common.{ℤ, Ordering, Less, Equal, Greater}
use Rattle.std.proofs.Math.ListN.{get_or-append}
use Rattle.std.proofs.Math.Seq.{take-length}
use Rattle.std.proofs.lemmas.Bool.{and_from, and_parts}
use Rattle.std.proofs.lemmas.Bool.Decides.{nat_tests}
use Rattle.std.proofs.lemmas.List.{map-append, take_more, length-append, length-map, length-take-le, get_or_push, get_or_default}
use Rattle.std.proofs.lemmas.List.Elements.{All-push}
use Rattle.std.proofs.lemmas.Option.{get_or_from_slice_get, slice_get_within, slice_get-get_or}
use Rattle.table_rows.specs.declared.row.Row.{Row}
use Rattle.table_rows.specs.declared.row.Group.{Group}
use Rattle.table_rows.specs.Rows.{group_of, same_group}
use Rattle.table_rows.specs.Order.{group_cmp, row_cmp}
use Rattle.table_rows.specs.Store.{rises, rises_from}
use Rattle.table_rows.specs.Groups.{differs_from, differs_from_last, with_group}
use Rattle.table_rows.proofs.OrderLemmas.{row_total, group_total, group_ties, group_upto}
use Rattle.table_rows.proofs.RiseLemmas.{sorted_from_rises, sorted-far}
use Rattle.table_sums.specs.declared.gather.Member.{Member}
use Rattle.table_sums.specs.Columns.{head_of, head_in, head_from, member_of, number_of, group_at, no_group, rows_in, IsKnown, AreBegun, AreColumns}
use Rattle.table_sums.specs.Gathered.{IsGathered}
use Rattle.table_sums.proofs.BoundLemmas.{lt_or_eq}
use Rattle.table_sums.proofs.ColumnLemmas.{of-columns, even-columns}
use Rattle.table_sums.proofs.JumpLemmas.{last-after}

-- ---- a group more

-- a list that goes on after these groups
pub record Longer (old new : List Group) : Type 0 where
  pub long : length old ≤ length new
  pub one : length new ≤ length old + 1
  pub same : (j : ℕ) → j < length old → group_at new j ≡ group_at old j

longer-if : (b : Bool) (gs : List Group) (g : Group) → Longer gs (cond b (gs ++ g ∷ []) gs)
longer-if true gs g =
    let more : length (gs ++ g ∷ []) ≡ length gs + 1 = length-append gs (g ∷ []) in
    record { long = omega (arith, more); one = omega (arith, more); same = λ j within. get_or-append gs (g ∷ []) no_group j within }
longer-if false gs g = record { long = omega arith; one = omega arith; same = λ j within. refl }

pub longer : (gs new : List Group) (g : Group) → new ≡ with_group true gs g → Longer gs new
longer gs new g is = subst (Longer gs) (sym is) (longer-if (differs_from_last gs g) gs g)

-- the last group is that of the row
pub record Last (new : List Group) (g : Group) : Type 0 where
  pub some : 0 < length new
  pub at : group_at new (length new - 1) ≡ g

pub last-with : (gs new : List Group) (g : Group) → new ≡ with_group true gs g → Last new g
last-with gs new g is =
    let last : slice_get new (length new - 1) ≡ Some g = ap (λ hs. slice_get hs (length hs - 1)) is ∙ last-after gs g in
    let within = slice_get_within new (length new - 1) g last in
    record { some = omega (arith, within); at = get_or_from_slice_get new (length new - 1) g no_group last }

-- ---- a row more

heads-kept : (gs new : List Group) (ms : List Member) → Longer gs new → All (IsKnown (length gs)) ms
    → map (head_from new) ms ≡ map (head_from gs) ms
heads-kept gs new [] more known = refl
heads-kept gs new (m ∷ ms) more known =
    let here : group_at new m.group ≡ group_at gs m.group = more.same m.group (known 0 m (omega arith)) in
    let rest : map (head_from new) ms ≡ map (head_from gs) ms = heads-kept gs new ms more (λ k d within. known (suc k) d (omega arith)) in
    ap (λ g. head_in g m ∷ map (head_from new) ms) here ∙ ap (λ hs. head_from gs m ∷ hs) rest

-- ---- where the rows of the groups begin

below-is : (a b : ℕ) → a < b → nat_lt a b ≡ true
below-is a b less = grind (arith, nat_tests)

upto-is : (a b : ℕ) → b ≤ a → nat_lt a b ≡ false
upto-is a b upto = grind (arith, nat_tests)

-- a member more of the last group
begun-kept : (gs : List Group) (ss : List ℕ) (ms : List Member) (m : Member) → AreBegun gs ss ms → m.group ≡ length gs - 1
    → AreBegun gs ss (ms ++ m ∷ [])
begun-kept gs ss ms m begun group = record {
  even = begun.even;
  within = λ j e short. let w = begun.within j e short in omega (arith, w, more);
  begins = λ k j d e short here.
      elim (lt_or_eq k (length ms) (omega (arith, short, more))) [
        | inl less ↦ ap (λ (v : Member). nat_lt v.group j) (get_or-append ms (m ∷ []) d k less) ∙ begun.begins k j d e less here
        | inr same ↦
            let w = begun.within j e here in
            ap (λ (v : Member). nat_lt v.group j) (get_or_push ms m d k (sym same))
            ∙ upto-is m.group j (omega (arith, group, here)) ∙ sym (upto-is k (get_or ss j e) (omega (arith, w, same)))
      ];
}
  where
    more : length (ms ++ m ∷ []) ≡ length ms + 1
    more = length-append ms (m ∷ [])

-- a member more of a new group
begun-added : (gs : List Group) (ss : List ℕ) (ms : List Member) (g : Group) (m : Member) → AreBegun gs ss ms → All (IsKnown (length gs)) ms
    → m.group ≡ length (gs ++ g ∷ []) - 1 → AreBegun (gs ++ g ∷ []) (ss ++ length ms ∷ []) (ms ++ m ∷ [])
begun-added gs ss ms g m begun known group = record {
  even = omega (arith, groups, starts, begun.even);
  within = λ j e short.
      elim (lt_or_eq j (length gs) (omega (arith, short, groups))) [
        | inl old ↦
            let w = begun.within j e old in
            let at : get_or (ss ++ length ms ∷ []) j e ≡ get_or ss j e = get_or-append ss (length ms ∷ []) e j (omega (arith, old, begun.even)) in
            omega (arith, w, at, more)
        | inr new ↦
            let at : get_or (ss ++ length ms ∷ []) j e ≡ length ms = get_or_push ss (length ms) e j (begun.even ∙ sym new) in
            omega (arith, at, more)
      ];
  begins = λ k j d e short here.
      elim (lt_or_eq k (length ms) (omega (arith, short, more))) [
        | inl less ↦
            let member : get_or (ms ++ m ∷ []) k d ≡ get_or ms k d = get_or-append ms (m ∷ []) d k less in
            let low = known k d less in
            elim (lt_or_eq j (length gs) (omega (arith, here, groups))) [
              | inl old ↦
                  ap (λ (v : Member). nat_lt v.group j) member ∙ begun.begins k j d e less old
                  ∙ ap (nat_lt k) (sym (get_or-append ss (length ms ∷ []) e j (omega (arith, old, begun.even))))
              | inr new ↦
                  ap (λ (v : Member). nat_lt v.group j) member ∙ below-is (get_or ms k d).group j (omega (arith, low, new))
                  ∙ sym (below-is k (length ms) less) ∙ ap (nat_lt k) (sym (get_or_push ss (length ms) e j (begun.even ∙ sym new)))
            ]
        | inr same ↦
            let member : get_or (ms ++ m ∷ []) k d ≡ m = get_or_push ms m d k (sym same) in
            elim (lt_or_eq j (length gs) (omega (arith, here, groups))) [
              | inl old ↦
                  let w = begun.within j e old in
                  ap (λ (v : Member). nat_lt v.group j) member ∙ upto-is m.group j (omega (arith, group, groups, old))
                  ∙ sym (upto-is k (get_or ss j e) (omega (arith, w, same)))
                  ∙ ap (nat_lt k) (sym (get_or-append ss (length ms ∷ []) e j (omega (arith, old, begun.even))))
              | inr new ↦
                  ap (λ (v : Member). nat_lt v.group j) member ∙ upto-is m.group j (omega (arith, group, groups, new))
                  ∙ sym (upto-is k (length ms) (omega (arith, same))) ∙ ap (nat_lt k) (sym (get_or_push ss (length ms) e j (begun.even ∙ sym new)))
            ]
      ];
}
  where
    more : length (ms ++ m ∷ []) ≡ length ms + 1
    more = length-append ms (m ∷ [])

    groups : length (gs ++ g ∷ []) ≡ length gs + 1
    groups = length-append gs (g ∷ [])

    starts : length (ss ++ length ms ∷ []) ≡ length ss + 1
    starts = length-append ss (length ms ∷ [])

pub begun-more : (b : Bool) (gs new : List Group) (ss next : List ℕ) (ms : List Member) (g : Group) (m : Member) → AreBegun gs ss ms
    → All (IsKnown (length gs)) ms → new ≡ cond b (gs ++ g ∷ []) gs → next ≡ cond (nat_lt (length ss) (length new)) (ss ++ length ms ∷ []) ss
    → m.group ≡ length new - 1 → AreBegun new next (ms ++ m ∷ [])
begun-more true gs new ss next ms g m begun known is put group =
    let groups : length new ≡ length gs + 1 = ap length is ∙ length-append gs (g ∷ []) in
    let even = begun.even in
    let starts : next ≡ ss ++ length ms ∷ [] = put ∙ ap (λ b. cond b (ss ++ length ms ∷ []) ss)
    (below-is (length ss) (length new) (omega (arith, groups, even))) in
    subst (λ (v : List Group). AreBegun v next (ms ++ m ∷ [])) (sym is)
    (subst (λ (v : List ℕ). AreBegun (gs ++ g ∷ []) v (ms ++ m ∷ [])) (sym starts)
    (begun-added gs ss ms g m begun known (group ∙ ap (λ (v : List Group). length v - 1) is)))
begun-more false gs new ss next ms g m begun known is put group =
    let even = begun.even in
    let groups : length new ≡ length gs = ap length is in
    let starts : next ≡ ss = put ∙ ap (λ b. cond b (ss ++ length ms ∷ []) ss) (upto-is (length ss) (length new) (omega (arith, groups, even))) in
    subst (λ (v : List Group). AreBegun v next (ms ++ m ∷ [])) (sym is)
    (subst (λ (v : List ℕ). AreBegun gs v (ms ++ m ∷ [])) (sym starts)
    (begun-kept gs ss ms m begun (group ∙ ap (λ (v : List Group). length v - 1) is)))

-- ---- groups in their order

from-push : {X : Type 0} (cmp : X → X → Ordering) (x : X) (xs : List X) (y : X) → rises_from cmp x xs ≡ true
    → is_lt (cmp (get_or (x ∷ xs) (length xs) x) y) ≡ true → rises_from cmp x (xs ++ y ∷ []) ≡ true
from-push cmp x [] y up less = and_from _ _ less refl
from-push cmp x (z ∷ zs) y up less =
    let parts = and_parts (is_lt (cmp x z)) (rises_from cmp z zs) up in
    let last : get_or (z ∷ zs) (length zs) z ≡ get_or (z ∷ zs) (length zs) x = get_or_default (z ∷ zs) (length zs) z x (omega arith) in
    and_from _ _ parts.0 (from-push cmp z zs y parts.1 (ap (λ v. is_lt (cmp v y)) last ∙ less))

-- a member above the last one
rises-push : {X : Type 0} (cmp : X → X → Ordering) (xs : List X) (y : X) → rises cmp xs ≡ true
    → ((d : X) → 0 < length xs → is_lt (cmp (get_or xs (length xs - 1) d) y) ≡ true) → rises cmp (xs ++ y ∷ []) ≡ true
rises-push cmp [] y up less = refl
rises-push cmp (x ∷ xs) y up less =
    let last : length (x ∷ xs) - 1 ≡ length xs = omega arith in
    from-push cmp x xs y up (ap (λ n. is_lt (cmp (get_or (x ∷ xs) n x) y)) (sym last) ∙ less x (omega arith))

other-less : (o : Ordering) → is_gt o ≡ false → is_eq o ≡ false → is_lt o ≡ true
other-less Less a b = refl
other-less Equal a b = absurd (cc)
other-less Greater a b = absurd (cc)

reverse-eq : (o : Ordering) → is_eq (ordering_reverse o) ≡ is_eq o
reverse-eq Less = refl
reverse-eq Equal = refl
reverse-eq Greater = refl

not-true : (b : Bool) → not b ≡ true → b ≡ false
not-true true e = absurd (cc)
not-true false e = refl

-- a group that differs from the last and doesn't stand before it stands after it
above-last : (gs : List Group) (g : Group) (d : Group) → 0 < length gs → differs_from_last gs g ≡ true
    → is_gt (group_cmp (get_or gs (length gs - 1) d) g) ≡ false → is_lt (group_cmp (get_or gs (length gs - 1) d) g) ≡ true
above-last gs g d some differs upto =
    let top = get_or gs (length gs - 1) d in
    let last : slice_get gs (length gs - 1) ≡ Some top = slice_get-get_or gs (length gs - 1) d (omega (arith, some)) in
    let other : same_group g top ≡ false = not-true (same_group g top) (ap (λ o. differs_from o g) (sym last) ∙ differs) in
    let apart : is_eq (group_cmp top g) ≡ false = ap is_eq (group_total.antisymm top g) ∙ reverse-eq (group_cmp g top) ∙ sym (group_ties g top) ∙ other in
    other-less (group_cmp top g) upto apart

rise-more : (b : Bool) (gs new : List Group) (g : Group) → differs_from_last gs g ≡ b → new ≡ cond b (gs ++ g ∷ []) gs → rises group_cmp gs ≡ true
    → ((d : Group) → 0 < length gs → is_gt (group_cmp (get_or gs (length gs - 1) d) g) ≡ false) → rises group_cmp new ≡ true
rise-more true gs new g differs is up upto =
    ap (rises group_cmp) is ∙ rises-push group_cmp gs g up (λ d some. above-last gs g d some differs (upto d some))
rise-more false gs new g differs is up upto = ap (rises group_cmp) is ∙ up

-- ---- a row more

-- the group of the last row doesn't stand after that of the next
last-upto : (rows : List Row) (i : ℕ) (x : Row) (gs : List Group) → rises row_cmp rows ≡ true → i < length rows → x ≡ get_or rows i x → length gs ≤ i
    → ((d : Row) → 0 < i → group_at gs (length gs - 1) ≡ group_of (get_or rows (i - 1) d)) → (d : Group) → 0 < length gs
    → is_gt (group_cmp (get_or gs (length gs - 1) d) (group_of x)) ≡ false
last-upto rows i x gs up within at few last d some =
    let less : row_cmp (get_or rows (i - 1) x) (get_or rows i x) ≡ Less =
    sorted-far row_cmp rows (i - 1) i x x (sorted_from_rises row_cmp row_total rows up) (omega (arith, few, some)) within in
    ap (λ g. is_gt (group_cmp g (group_of x))) (get_or_default gs (length gs - 1) d no_group (omega (arith, some)) ∙ last x (omega (arith, few, some)))
    ∙ group_upto (get_or rows (i - 1) x) x (ap (row_cmp (get_or rows (i - 1) x)) at ∙ less)

pub gathered-more : (rows : List Row) (i : ℕ) (x : Row) (gs new : List Group) (ss starts : List ℕ) (ms next : List Member) → rises row_cmp rows ≡ true
    → i < length rows → x ≡ get_or rows i x → IsGathered rows i gs ss ms → new ≡ with_group true gs (group_of x)
    → starts ≡ cond (nat_lt (length ss) (length new)) (ss ++ length ms ∷ []) ss → next ≡ ms ++ member_of x (length new - 1) ∷ []
    → IsGathered rows (i + 1) new starts next
gathered-more rows i x gs new ss starts ms next up within at before is begin put = record {
  heads = ap (map (head_from new)) put ∙ map-append (head_from new) ms (m ∷ [])
      ∙ ap (λ hs. hs ++ head_from new m ∷ []) (heads-kept gs new ms more before.known ∙ before.heads)
      ∙ ap (λ g. map head_of (take i rows) ++ head_in g m ∷ []) last.at
      ∙ ap (λ r. map head_of (take i rows) ++ head_of r ∷ []) at
      ∙ sym (map-append head_of (take i rows) (get_or rows i x ∷ []))
      ∙ ap (map head_of) (sym (take_more rows i x within));
  known = subst (All (IsKnown (length new))) (sym put) (All-push (IsKnown (length new)) ms m kept here);
  few = omega (arith, before.few, more.one);
  rise = rise-more (differs_from_last gs (group_of x)) gs new (group_of x) refl is before.rise
      (last-upto rows i x gs up within at before.few before.last);
  last = λ d some.
      let here : i + 1 - 1 ≡ i = omega arith in
      last.at ∙ ap group_of (at ∙ get_or_default rows i x d within) ∙ ap (λ n. group_of (get_or rows n d)) (sym here);
  begun = subst (AreBegun new starts) (sym put)
      (begun-more (differs_from_last gs (group_of x)) gs new ss starts ms (group_of x) m before.begun before.known is begin refl);
}
  where
    m : Member
    m = member_of x (length new - 1)

    more : Longer gs new
    more = longer gs new (group_of x) is

    last : Last new (group_of x)
    last = last-with gs new (group_of x) is

    kept : All (IsKnown (length new)) ms
    kept = λ k d short. (let a = before.known k d short in omega (arith, a, more.long))

    here : IsKnown (length new) m
    here = let s = last.some in omega (arith, s)

pub gathered-none : (rows : List Row) (gs : List Group) (ss : List ℕ) (ms : List Member) → gs ≡ [] → ss ≡ [] → ms ≡ [] → IsGathered rows 0 gs ss ms
gathered-none rows gs ss ms no_groups no_starts no_members = record {
  heads = ap (map (head_from gs)) no_members;
  known = λ k d short. absurd (let e : length ms ≡ 0 = ap length no_members in omega (arith, e));
  few = omega (arith, none);
  rise = ap (rises group_cmp) no_groups;
  last = λ d some. absurd (omega arith);
  begun = record {
    even = ap length no_starts ∙ sym none;
    within = λ j e short. absurd (omega (arith, none));
    begins = λ k j d e short here. absurd (omega (arith, none));
  };
}
  where
    none : length gs ≡ 0
    none = ap length no_groups

-- as many rows as members
pub as_many : (rows : List Row) (i : ℕ) (gs : List Group) (ss : List ℕ) (ms : List Member) → i ≤ length rows → IsGathered rows i gs ss ms → length ms ≡ i
as_many rows i gs ss ms upto g =
    sym (length-map ms (head_from gs)) ∙ ap length g.heads ∙ length-map (take i rows) head_of ∙ length-take-le i rows upto

-- ---- all rows

heads-all : (rows : List Row) (gs : List Group) (ss : List ℕ) (ms : List Member) → IsGathered rows (length rows) gs ss ms
    → map (head_from gs) ms ≡ map head_of rows
heads-all rows gs ss ms all = all.heads ∙ ap (map head_of) (take-length rows)

pub gathered-rows : (rows : List Row) (gs : List Group) (ss : List ℕ) (ms : List Member) (numbers : List ℤ) → IsGathered rows (length rows) gs ss ms
    → numbers ≡ map number_of rows → rows_in gs ms numbers ≡ rows
gathered-rows rows gs ss ms numbers all are = of-columns gs ms numbers rows (heads-all rows gs ss ms all) are

pub gathered-columns : (rows : List Row) (gs : List Group) (ss : List ℕ) (ms : List Member) (numbers : List ℤ) → IsGathered rows (length rows) gs ss ms
    → numbers ≡ map number_of rows → AreColumns gs ss ms numbers
gathered-columns rows gs ss ms numbers all are = record {
  rise = all.rise;
  begun = all.begun;
  known = all.known;
  even = even-columns gs ms numbers rows (heads-all rows gs ss ms all) are;
}

pub ruleset gathered = (gathered-rows, gathered-columns)
