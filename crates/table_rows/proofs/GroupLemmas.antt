-- Of rows in their order those of one group stand side by side.
use Rattle.std.proofs.Common.{◌≡◌, ◌∙◌, ℕ, ◌+◌, ◌-◌, ◌<◌, Bool, true, false, not, cond, ◌||◌, List, [], ◌∷◌, ◌++◌, length, map, take, get_or, Option, Some}
use Rattle.std.proofs.Common.{None, inl, inr, refl, sym, ap, subst, arith, length-append}
use Rattle.std.specs.Prelude.{All, Contains, nat_eq, slice_get}
use Rattle.std.specs.List.{filter, list_any}
use Rattle.std.specs.Ordering.{is_gt}
use Rattle.std.proofs.Math.Seq.{get_or-append_seam}
use Rattle.std.proofs.lemmas.Bool.{cases_Bool, false≢true}
use Rattle.std.proofs.lemmas.List.{append-nil, map-append, length-take, get_or-take}
use Rattle.std.proofs.lemmas.List.Elements.{All-push, All-map, All-filter, Contains-push, Contains-append_left, filter-append, filter_more}
use Rattle.std.proofs.lemmas.List.Folds.{list_any_at, list_any_none}
use Rattle.std.proofs.lemmas.Option.{slice_get-get_or}
use Rattle.table_rows.specs.declared.row.Row.{Row}
use Rattle.table_rows.specs.declared.row.Group.{Group}
use Rattle.table_rows.specs.Rows.{group_of, same_group, is_of_element}
use Rattle.table_rows.specs.Order.{group_cmp, row_cmp}
use Rattle.table_rows.specs.Groups.{each_once, differs_from, with_group}
use Rattle.table_rows.specs.Store.{rises}
use Rattle.table_rows.proofs.OrderLemmas.{row_total, same_group-true, same_group-self, same_group-tie, group_cmp-self, group_upto}
use Rattle.table_rows.proofs.RiseLemmas.{sorted_from_rises, sorted-far}

-- ---- each once

filter-push_not : {X : Type 0} (same : X → X → Bool) (y x : X) (ys : List X) (b : Bool) → same y x ≡ b
    → filter (λ z. not (same y z)) (ys ++ x ∷ []) ≡ filter (λ z. not (same y z)) ys ++ cond b [] (x ∷ [])
filter-push_not same y x ys true is =
    filter-append (λ z. not (same y z)) ys (x ∷ []) ∙ ap (λ t. filter (λ z. not (same y z)) ys ++ cond (not t) (x ∷ []) []) is
filter-push_not same y x ys false is =
    filter-append (λ z. not (same y z)) ys (x ∷ []) ∙ ap (λ t. filter (λ z. not (same y z)) ys ++ cond (not t) (x ∷ []) []) is

-- what stands in the list already isn't taken again, and what doesn't comes last
pub each_once-push : {X : Type 0} (same : X → X → Bool) (xs : List X) (x : X)
    → each_once same (xs ++ x ∷ []) ≡ each_once same xs ++ cond (list_any (λ y. same y x) xs) [] (x ∷ [])
each_once-push same [] x = refl
each_once-push same (y ∷ ys) x =
    ap (λ zs. y ∷ filter (λ z. not (same y z)) zs) (each_once-push same ys x) ∙ by_rest (list_any (λ z. same z x) ys) (same y x) refl
  where
    kept_all : (y ∷ filter (λ z. not (same y z)) (each_once same ys ++ [])) ≡ (y ∷ filter (λ z. not (same y z)) (each_once same ys)) ++ []
    kept_all = ap (λ zs. y ∷ filter (λ z. not (same y z)) zs) (append-nil (each_once same ys))
        ∙ sym (append-nil (y ∷ filter (λ z. not (same y z)) (each_once same ys)))

    by_rest : (any here : Bool) → same y x ≡ here
        → (y ∷ filter (λ z. not (same y z)) (each_once same ys ++ cond any [] (x ∷ [])))
        ≡ (y ∷ filter (λ z. not (same y z)) (each_once same ys)) ++ cond (here || any) [] (x ∷ [])
    by_rest true true is = kept_all
    by_rest true false is = kept_all
    by_rest false true is = ap (λ zs. y ∷ zs) (filter-push_not same y x (each_once same ys) true is)
    by_rest false false is = ap (λ zs. y ∷ zs) (filter-push_not same y x (each_once same ys) false is)

-- ---- the last group

-- the last of the groups is one of these, and none of these stands after it
abbrev pub IsTop : Option Group → List Group → Type 0
IsTop None hs = hs ≡ []
IsTop (Some top) hs = Contains hs top × All (λ h. is_gt (group_cmp h top) ≡ false) hs

abbrev pub last_of : List Group → Option Group
last_of groups = slice_get groups (length groups - 1)

last_of-push : (gs : List Group) (g : Group) → last_of (gs ++ g ∷ []) ≡ Some g
last_of-push gs g =
    let longer : length (gs ++ g ∷ []) ≡ length gs + 1 = length-append gs (g ∷ []) in
    let last : length (gs ++ g ∷ []) - 1 ≡ length gs = omega arith in
    ap (slice_get (gs ++ g ∷ [])) last ∙ slice_get-get_or (gs ++ g ∷ []) (length gs) g (omega arith) ∙ ap Some (get_or-append_seam gs g [] g)

none_same : (hs : List Group) (top g : Group) → IsTop (Some top) hs → All (λ h. is_gt (group_cmp h g) ≡ false) hs → same_group g top ≡ false
    → list_any (λ h. same_group h g) hs ≡ false
none_same hs top g is_top upto differs =
    list_any_none (λ h. same_group h g) hs (λ k d within.
    elim (cases_Bool (same_group (get_or hs k d) g)) [
      | inl same ↦
          let is : get_or hs k d ≡ g = same_group-true (get_or hs k d) g same in
          let below : is_gt (group_cmp g top) ≡ false = subst (λ (v : Group). is_gt (group_cmp v top) ≡ false) is (is_top.1 k d within) in
          let there = is_top.0 in
          let top_upto : is_gt (group_cmp top g) ≡ false = subst (λ (v : Group). is_gt (group_cmp v g) ≡ false) there.2 (upto there.0 top there.1) in
          absurd (false≢true (sym differs ∙ same_group-tie g top below top_upto))
      | inr other ↦ other
    ])

some_same : (hs : List Group) (top g : Group) → Contains hs top → g ≡ top → list_any (λ h. same_group h g) hs ≡ true
some_same hs top g there is =
    list_any_at (λ h. same_group h g) hs there.0 top there.1
    (ap (λ v. same_group v g) there.2 ∙ ap (same_group top) is ∙ same_group-self top)

-- a group more
pub record Step (hs gs : List Group) : Type 0 where
  pub is : gs ≡ each_once same_group hs
  pub top : IsTop (last_of gs) hs

group-new : (hs gs : List Group) (g : Group) → gs ≡ each_once same_group hs → All (λ h. is_gt (group_cmp h g) ≡ false) hs
    → list_any (λ h. same_group h g) hs ≡ false → Step (hs ++ g ∷ []) (gs ++ g ∷ [])
group-new hs gs g is upto none =
    let self : is_gt (group_cmp g g) ≡ false = ap is_gt (group_cmp-self g) in
    record {
      is = ap (λ v. v ++ g ∷ []) is ∙ ap (λ b. each_once same_group hs ++ cond b [] (g ∷ [])) (sym none) ∙ sym (each_once-push same_group hs g);
      top = subst (λ (o : Option Group). IsTop o (hs ++ g ∷ [])) (sym (last_of-push gs g))
          (Contains-push hs g, All-push (λ h. is_gt (group_cmp h g) ≡ false) hs g upto self);
    }

group-known : (hs gs : List Group) (top g : Group) → gs ≡ each_once same_group hs → last_of gs ≡ Some top → IsTop (Some top) hs → same_group g top ≡ true
    → Step (hs ++ g ∷ []) gs
group-known hs gs top g is last is_top same =
    let one : g ≡ top = same_group-true g top same in
    let upto : is_gt (group_cmp g top) ≡ false = ap (λ v. is_gt (group_cmp v top)) one ∙ ap is_gt (group_cmp-self top) in
    record {
      is = is
          ∙ sym (each_once-push same_group hs g ∙ ap (λ b. each_once same_group hs ++ cond b [] (g ∷ [])) (some_same hs top g is_top.0 one)
          ∙ append-nil (each_once same_group hs));
      top = subst (λ (o : Option Group). IsTop o (hs ++ g ∷ [])) (sym last)
          (Contains-append_left hs (g ∷ []) top is_top.0, All-push (λ h. is_gt (group_cmp h top) ≡ false) hs g is_top.1 upto);
    }

group-step : (hs gs : List Group) (g : Group) → Step hs gs → All (λ h. is_gt (group_cmp h g) ≡ false) hs → Step (hs ++ g ∷ []) (with_group true gs g)
group-step hs gs g before upto = by_last (last_of gs) refl
  where
    by_last : (o : Option Group) → last_of gs ≡ o → Step (hs ++ g ∷ []) (with_group true gs g)
    by_last None last =
        let empty : hs ≡ [] = subst (λ (o : Option Group). IsTop o hs) last before.top in
        let added : gs ++ g ∷ [] ≡ with_group true gs g = ap (λ o. cond (differs_from o g) (gs ++ g ∷ []) gs) (sym last) in
        subst (Step (hs ++ g ∷ [])) added
        (group-new hs gs g before.is upto (ap (list_any (λ h. same_group h g)) empty))
    by_last (Some top) last =
        let is_top : IsTop (Some top) hs = subst (λ (o : Option Group). IsTop o hs) last before.top in
        elim (cases_Bool (same_group g top)) [
          | inl same ↦
              let kept : gs ≡ with_group true gs g = ap (λ b. cond (not b) (gs ++ g ∷ []) gs) (sym same)
              ∙ ap (λ o. cond (differs_from o g) (gs ++ g ∷ []) gs) (sym last) in
              subst (Step (hs ++ g ∷ [])) kept (group-known hs gs top g before.is last is_top same)
          | inr other ↦
              let added : gs ++ g ∷ [] ≡ with_group true gs g = ap (λ b. cond (not b) (gs ++ g ∷ []) gs) (sym other)
              ∙ ap (λ o. cond (differs_from o g) (gs ++ g ∷ []) gs) (sym last) in
              subst (Step (hs ++ g ∷ [])) added (group-new hs gs g before.is upto (none_same hs top g is_top upto other))
        ]

-- ---- rows

-- the groups of the first rows that are of an element
abbrev pub groups_upto : ℕ → List Row → ℕ → List Group
groups_upto element rows i = map group_of (filter (is_of_element element) (take i rows))

earlier_upto : (element : ℕ) (rows : List Row) (i : ℕ) (x : Row) → rises row_cmp rows ≡ true → i < length rows → x ≡ get_or rows i x
    → All (λ h. is_gt (group_cmp h (group_of x)) ≡ false) (groups_upto element rows i)
earlier_upto element rows i x up within at =
    let sorted = sorted_from_rises row_cmp row_total rows up in
    All-map (λ h. is_gt (group_cmp h (group_of x)) ≡ false) group_of (filter (is_of_element element) (take i rows))
    (All-filter (is_of_element element) (λ (r : Row). is_gt (group_cmp (group_of r) (group_of x)) ≡ false) (take i rows)
    (λ k d short.
    let len = length-take i rows in
    let less : row_cmp (get_or rows k d) (get_or rows i x) ≡ _ = sorted-far row_cmp rows k i d x sorted (omega arith) within in
    let front : get_or (take i rows) k d ≡ get_or rows k d = get_or-take i rows k d (omega arith) in
    ap (λ r. is_gt (group_cmp (group_of r) (group_of x))) front ∙ group_upto (get_or rows k d) x (ap (row_cmp (get_or rows k d)) at ∙ less)))

more_groups : (element : ℕ) (rows : List Row) (i : ℕ) (x : Row) → i < length rows → x ≡ get_or rows i x
    → groups_upto element rows (i + 1) ≡ groups_upto element rows i ++ map group_of (cond (is_of_element element x) (x ∷ []) [])
more_groups element rows i x within at =
    ap (map group_of) (filter_more (is_of_element element) rows i x within
    ∙ ap (λ y. filter (is_of_element element) (take i rows) ++ cond (is_of_element element y) (y ∷ []) []) (sym at))
    ∙ map-append group_of (filter (is_of_element element) (take i rows)) (cond (is_of_element element x) (x ∷ []) [])

pub groups-more : (element : ℕ) (rows : List Row) (i : ℕ) (x : Row) (gs new : List Group) → rises row_cmp rows ≡ true → i < length rows → x ≡ get_or rows i x
    → Step (groups_upto element rows i) gs → new ≡ with_group (nat_eq x.element element) gs (group_of x) → Step (groups_upto element rows (i + 1)) new
groups-more element rows i x gs new up within at before is =
    subst (λ (hs : List Group). Step hs new) (sym (more_groups element rows i x within at))
    (subst (Step (groups_upto element rows i ++ map group_of (cond (is_of_element element x) (x ∷ []) []))) (sym is) (by_test (nat_eq x.element element)))
  where
    by_test : (b : Bool) → Step (groups_upto element rows i ++ map group_of (cond b (x ∷ []) [])) (with_group b gs (group_of x))
    by_test true = group-step (groups_upto element rows i) gs (group_of x) before (earlier_upto element rows i x up within at)
    by_test false = subst (λ (hs : List Group). Step hs gs) (sym (append-nil (groups_upto element rows i))) before
