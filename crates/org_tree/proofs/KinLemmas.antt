-- The list of the units by families: who stands before whom, and the places in the walk that follow.
use Rattle.std.proofs.Common.{◌≡◌, ◌⊎◌, ℕ, zero, suc, ◌+◌, ◌-◌, ◌<◌, true, List, length, get_or, Some, Ordering, refl, sym, ap, ◌∙◌, subst, inl, inr, arith}
use Rattle.std.specs.Prelude.{unwrap_or}
use Rattle.std.specs.declared.cmp.Ordering.TheVariants.{Less, Equal, Greater}
use Rattle.std.specs.Cmp.{IsTotalOrder}
use Rattle.std.specs.Ordering.{nat_cmp, is_lt, ordering_then, ordering_reverse}
use Rattle.std.proofs.lemmas.Bool.{cases_Bool, cases_eq, cases_order, false≢true, ne_eqb, lt-ltb, le-ltb}
use Rattle.std.proofs.lemmas.Cmp.{nat_cmp_total, nat_list_cmp_total, then_total, on_total, tied_itself}
use Rattle.org_tree.specs.Units.{UnitRow, id_at, parent_of, climb, level_of, order_of, size_of, IsTree}
use Rattle.org_tree.specs.Levels.{HasLevel}
use Rattle.org_tree.specs.Families.{family_of, kin_cmp, InFamilies}
use Rattle.org_tree.proofs.ClimbLemmas.{some_or_none, climb-zero, climb-child, climb-root}
use Rattle.org_tree.proofs.WayLemmas.{level_of-child, level_of-root}
use Rattle.org_tree.proofs.BeforeLemmas.{by_id}
use Rattle.org_tree.proofs.OrderLemmas.{is_elder, order-first_child, order-next_child}

-- the level that a build finds is the unit's
pub level_of-HasLevel : (us : List UnitRow) → IsTree us → (x level : ℕ) → x < length us → HasLevel us x level → level_of us x ≡ level
level_of-HasLevel us t x level h has = up has.above x h has.reached ∙ sym has.is
  where
    up : (above x : ℕ) → x < length us → climb above us x ≡ Some has.root → level_of us x ≡ above + 1
    up zero x h reached =
        let e : x ≡ has.root = let c = climb-zero us x in cc in
        level_of-root us x h (ap (λ (v : ℕ). parent_of us v) e ∙ has.top)
    up (suc above) x h reached =
        elim (some_or_none (parent_of us x)) [
          | inl p ↦
              level_of-child us t x p.0 h p.1
              ∙ ap (λ v. v + 1) (up above p.0 (t.parent_in_range x p.0 p.1) (sym (climb-child above us x p.0 p.1) ∙ reached))
              ∙ omega arith
          | inr top ↦ absurd (let c = climb-root above us x top in cc)
        ]

pub level-positive : (us : List UnitRow) → IsTree us → (x : ℕ) → x < length us → 0 < level_of us x
level-positive us t x h =
    elim (some_or_none (parent_of us x)) [
      | inl p ↦ (let e = level_of-child us t x p.0 h p.1 in omega arith)
      | inr top ↦ (let e = level_of-root us x h top in omega arith)
    ]

pub kin_total : (us : List UnitRow) → IsTotalOrder (kin_cmp us)
kin_total us =
    then_total (on_total (level_of us) nat_cmp_total) (then_total (on_total (family_of us) nat_cmp_total) (on_total (id_at us) nat_list_cmp_total))

-- what it means to stand before
abbrev pub StandsBefore : List UnitRow → ℕ → ℕ → Type 0
StandsBefore us a b =
    (level_of us a < level_of us b) ⊎ ((level_of us a ≡ level_of us b)
    × ((family_of us a < family_of us b) ⊎ ((family_of us a ≡ family_of us b) × (by_id us a b ≡ Less))))

then_less : (m n : ℕ) (rest : Ordering) → ordering_then (nat_cmp m n) rest ≡ Less → (m < n) ⊎ ((m ≡ n) × (rest ≡ Less))
then_less m n rest e =
    elim (cases_order m n) [
      | inl same ↦
          let tie : nat_cmp m n ≡ Equal = ap (nat_cmp m) (sym same) ∙ tied_itself nat_cmp_total m in
          inr (same, sym (ap (λ o. ordering_then o rest) tie) ∙ e)
      | inr apart ↦
          elim apart [
            | inl below ↦ inl below
            | inr above ↦
                let greater : nat_cmp m n ≡ Greater = rw (le-ltb m n (omega arith), ne_eqb m n (λ e. omega arith)) refl in
                absurd (let f = ap (λ o. ordering_then o rest) greater in cc)
          ]
    ]

pub StandsBefore-from_Less : (us : List UnitRow) (a b : ℕ) → kin_cmp us a b ≡ Less → StandsBefore us a b
StandsBefore-from_Less us a b e =
    elim (then_less (level_of us a) (level_of us b) (ordering_then (nat_cmp (family_of us a) (family_of us b)) (by_id us a b)) e) [
      | inl below ↦ inl below
      | inr same ↦
          elim (then_less (family_of us a) (family_of us b) (by_id us a b) same.1) [
            | inl below ↦ inr (same.0, inl below)
            | inr both ↦ inr (same.0, inr both)
          ]
    ]

less_from_lt : (m n : ℕ) → m < n → nat_cmp m n ≡ Less
less_from_lt m n h = rw (lt-ltb m n h) refl

pub Less-from_level : (us : List UnitRow) (a b : ℕ) → level_of us a < level_of us b → kin_cmp us a b ≡ Less
Less-from_level us a b h =
    ap (λ o. ordering_then o (ordering_then (nat_cmp (family_of us a) (family_of us b)) (by_id us a b))) (less_from_lt (level_of us a) (level_of us b) h)

pub Less-from_elder : (us : List UnitRow) (a b : ℕ) → level_of us a ≡ level_of us b → family_of us a ≡ family_of us b → is_elder us a b ≡ true
    → kin_cmp us a b ≡ Less
Less-from_elder us a b level family elder =
    let level_tie : nat_cmp (level_of us a) (level_of us b) ≡ Equal = ap (nat_cmp (level_of us a)) (sym level) ∙ tied_itself nat_cmp_total (level_of us a) in
    let family_tie : nat_cmp (family_of us a) (family_of us b) ≡ Equal = ap (nat_cmp (family_of us a)) (sym family)
    ∙ tied_itself nat_cmp_total (family_of us a) in
    ap (λ o. ordering_then o (ordering_then (nat_cmp (family_of us a) (family_of us b)) (by_id us a b))) level_tie
    ∙ ap (λ o. ordering_then o (by_id us a b)) family_tie ∙ less_from (by_id us a b) elder
  where
    less_from : (o : Ordering) → is_lt o ≡ true → o ≡ Less
    less_from Less e = refl
    less_from Equal e = absurd (false≢true e)
    less_from Greater e = absurd (false≢true e)

-- what stands between two of one family is of that family
pub same_family_between : (us : List UnitRow) (a b c : ℕ) → kin_cmp us a b ≡ Less → kin_cmp us b c ≡ Less → level_of us a ≡ level_of us c
    → family_of us a ≡ family_of us c → (level_of us b ≡ level_of us c) × (family_of us b ≡ family_of us c)
same_family_between us a b c first then level family =
    elim (StandsBefore-from_Less us a b first) [
      | inl low ↦ elim (StandsBefore-from_Less us b c then) [ inl l ↦ absurd (omega arith) | inr r ↦ absurd (let e = r.0 in omega arith) ]
      | inr same ↦
          elim (StandsBefore-from_Less us b c then) [
            | inl low ↦ absurd (let e = same.0 in omega arith)
            | inr same' ↦ (
              same'.0,
              elim same.1 [
                | inl below ↦ elim same'.1 [ inl b' ↦ absurd (omega arith) | inr r ↦ absurd (let e = r.0 in omega arith) ]
                | inr both ↦ elim same'.1 [ inl b' ↦ absurd (let e = both.0 in omega arith) | inr r ↦ r.0 ]
              ],
            )
          ]
    ]

-- siblings have one level and one family, and the other way round
pub sibling_keys : (us : List UnitRow) → IsTree us → (a b p : ℕ) → a < length us → b < length us → parent_of us a ≡ Some p → parent_of us b ≡ Some p
    → (level_of us a ≡ level_of us b) × (family_of us a ≡ family_of us b)
sibling_keys us t a b p h i up_a up_b =
    (level_of-child us t a p h up_a ∙ sym (level_of-child us t b p i up_b), ap (λ o. unwrap_or o 0) (up_a ∙ sym up_b))

pub parent_from_keys : (us : List UnitRow) → IsTree us → (a b p : ℕ) → a < length us → b < length us → parent_of us b ≡ Some p → level_of us a ≡ level_of us b
    → family_of us a ≡ family_of us b → parent_of us a ≡ Some p
parent_from_keys us t a b p h i up level family =
    elim (some_or_none (parent_of us a)) [
      | inl up_a ↦
          let same : up_a.0 ≡ p = sym (ap (λ o. unwrap_or o 0) up_a.1) ∙ family ∙ ap (λ o. unwrap_or o 0) up in
          up_a.1 ∙ ap Some same
      | inr top ↦
          absurd
          (let one = level_of-root us a h top in
          let more = level_of-child us t b p i up in
          let high = level-positive us t p (t.parent_in_range b p up) in
          omega arith)
    ]

-- who is less stands before
pub sooner : (us : List UnitRow) (kin : List ℕ) → InFamilies us kin → (i j : ℕ) → i < length us → j < length us
    → kin_cmp us (get_or kin i 0) (get_or kin j 0) ≡ Less → i < j
sooner us kin fam i j h l less =
    elim (cases_order i j) [
      | inl same ↦
          absurd
          (let tie : kin_cmp us (get_or kin i 0) (get_or kin j 0) ≡ Equal = ap (λ (v : ℕ). kin_cmp us (get_or kin i 0) (get_or kin v 0)) (sym same)
          ∙ tied_itself (kin_total us) (get_or kin i 0) in
          let e : Less ≡ Equal = sym less ∙ tie in cc)
      | inr apart ↦
          elim apart [
            | inl below ↦ below
            | inr above ↦
                absurd
                (let back : kin_cmp us (get_or kin j 0) (get_or kin i 0) ≡ Less = fam.sorted j i above h in
                let turned : kin_cmp us (get_or kin i 0) (get_or kin j 0) ≡ Greater = (kin_total us).antisymm (get_or kin i 0) (get_or kin j 0)
                ∙ ap ordering_reverse back in
                let e : Less ≡ Greater = sym less ∙ turned in cc)
          ]
    ]

-- a parent stands before its child
pub parent_sooner : (us : List UnitRow) (kin : List ℕ) → IsTree us → InFamilies us kin → (i p : ℕ) → i < length us → parent_of us (get_or kin i 0) ≡ Some p
    → (j : ℕ) × ((j < i) × (get_or kin j 0 ≡ p))
parent_sooner us kin t fam i p h up =
    let c = get_or kin i 0 in
    let at = fam.found p (t.parent_in_range c p up) in
    let level : level_of us c ≡ level_of us p + 1 = level_of-child us t c p (fam.in_range i h) up in
    let less : kin_cmp us (get_or kin at.0 0) c ≡ Less = subst (λ (v : ℕ). kin_cmp us v c ≡ Less) (sym at.1.1) (Less-from_level us p c (omega arith)) in
    (at.0, (sooner us kin fam at.0 i at.1.0 h less, at.1.1))

-- an elder sibling stands before, and if not right before then before who stands there
elder_sooner : (us : List UnitRow) (kin : List ℕ) → IsTree us → InFamilies us kin → (i p v : ℕ) → i < length us → v < length us
    → parent_of us (get_or kin i 0) ≡ Some p → parent_of us v ≡ Some p → is_elder us v (get_or kin i 0) ≡ true
    → (0 < i) × ((v ≡ get_or kin (i - 1) 0) ⊎ (kin_cmp us v (get_or kin (i - 1) 0) ≡ Less))
elder_sooner us kin t fam i p v h l up up_v elder =
    let c = get_or kin i 0 in
    let at = fam.found v l in
    let keys = sibling_keys us t v c p l (fam.in_range i h) up_v up in
    let less : kin_cmp us (get_or kin at.0 0) c ≡ Less =
    subst (λ (w : ℕ). kin_cmp us w c ≡ Less) (sym at.1.1) (Less-from_elder us v c keys.0 keys.1 elder) in
    let before : at.0 < i = sooner us kin fam at.0 i at.1.0 h less in (
      omega arith,
      elim (cases_eq at.0 (i - 1)) [
        | inl right ↦ inl (sym at.1.1 ∙ ap (λ (k : ℕ). get_or kin k 0) right)
        | inr further ↦ inr (subst (λ (w : ℕ). kin_cmp us w (get_or kin (i - 1) 0) ≡ Less) at.1.1 (fam.sorted at.0 (i - 1) (omega arith) (omega arith)))
      ],
    )

-- the place of a unit right after a sibling in the list
pub order-behind_sibling : (us : List UnitRow) (kin : List ℕ) → IsTree us → InFamilies us kin → (i p : ℕ) → i < length us → 0 < i
    → parent_of us (get_or kin i 0) ≡ Some p → parent_of us (get_or kin (i - 1) 0) ≡ Some p
    → order_of us (get_or kin i 0) ≡ order_of us (get_or kin (i - 1) 0) + size_of us (get_or kin (i - 1) 0)
order-behind_sibling us kin t fam i p h pos up_c up_s =
    let c = get_or kin i 0 in
    let s = get_or kin (i - 1) 0 in
    let c_in = fam.in_range i h in
    let s_in = fam.in_range (i - 1) (omega arith) in
    let keys = sibling_keys us t s c p s_in c_in up_s up_c in
    order-next_child us t c s p c_in s_in up_c up_s
    (elder_from s c (fam.sorted (i - 1) i (omega arith) h) keys.0 keys.1)
    (λ v l up_v elder.
    elim (elder_sooner us kin t fam i p v h l up_c up_v elder).1 [
      | inl same ↦ inl same
      | inr less ↦
          let keys_v = sibling_keys us t v s p l s_in up_v up_s in
          inr (elder_from v s less keys_v.0 keys_v.1)
    ])
  where
    elder_from : (a b : ℕ) → kin_cmp us a b ≡ Less → level_of us a ≡ level_of us b → family_of us a ≡ family_of us b → is_elder us a b ≡ true
    elder_from a b less level family =
        elim (StandsBefore-from_Less us a b less) [
          | inl low ↦ absurd (omega arith)
          | inr same ↦ elim same.1 [ inl low ↦ absurd (omega arith) | inr both ↦ ap is_lt both.1 ]
        ]

-- and of one that stands after none
pub order-behind_parent : (us : List UnitRow) (kin : List ℕ) → IsTree us → InFamilies us kin → (i p : ℕ) → i < length us
    → parent_of us (get_or kin i 0) ≡ Some p → (0 < i → parent_of us (get_or kin (i - 1) 0) ≡ Some p → ⊥) → order_of us (get_or kin i 0) ≡ order_of us p + 1
order-behind_parent us kin t fam i p h up none_before =
    let c = get_or kin i 0 in
    order-first_child us t c p (fam.in_range i h) up
    (λ v l up_v.
    elim (cases_Bool (is_elder us v c)) [
      | inr no_elder ↦ no_elder
      | inl elder ↦
          let s = get_or kin (i - 1) 0 in
          let before = elder_sooner us kin t fam i p v h l up up_v elder in
          absurd (none_before before.0 (elim before.1 [
            | inl same ↦ subst (λ (w : ℕ). parent_of us w ≡ Some p) same up_v
            | inr less ↦
                let keys = sibling_keys us t v c p l (fam.in_range i h) up_v up in
                let between = same_family_between us v s c less (fam.sorted (i - 1) i (let b = before.0 in omega arith) h) keys.0 keys.1 in
                parent_from_keys us t s c p (fam.in_range (i - 1) (omega arith)) (fam.in_range i h) up between.0 between.1
          ]))
    ])
