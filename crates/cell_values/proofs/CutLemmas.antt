-- Going through two lists of ranges at once.
use Rattle.std.proofs.Common.{◌≡◌, ◌∙◌, ℕ, ◌+◌, ◌<◌, ◌≤◌, max, min, Bool, true, false, ◌&&◌, ◌||◌, List, [], ◌∷◌, ◌++◌, ◌-◌, ◌⊎◌, length, drop, get_or, inl}
use Rattle.std.proofs.Common.{inr, refl, sym, ap, subst, arith}
use Rattle.std.specs.Prelude.{nat_le, nat_lt}
use Rattle.std.proofs.lemmas.Bool.{cases_Bool, false≢true, and_parts, leb-true, ltb-true}
use Rattle.std.proofs.lemmas.Bool.Decides.{nat_tests}
use Rattle.std.proofs.lemmas.List.{drop_more, drop_all, get_or_default, get_or-drop, length-drop}
use Rattle.std.proofs.lemmas.List.Folds.{Any-from_list_any}
use Rattle.dh_sharing.specs.Ranges.{is_in_range, is_within, AreApart}
use Rattle.dh_sharing.proofs.RangeLemmas.{within-push}
use Rattle.cell_values.specs.Cuts.{overlap_of, HoldsBoth}

in_both : (a b c d n : ℕ) → (nat_le (max a c) n && nat_lt n (min b d)) ≡ ((nat_le a n && nat_lt n b) && (nat_le c n && nat_lt n d))
in_both a b c d n = grind (arith, nat_tests)

pub in_overlap : (x y : ℕ × ℕ) (n : ℕ) → is_in_range n (overlap_of x y) ≡ (is_in_range n x && is_in_range n y)
in_overlap x y n = in_both x.0 x.1 y.0 y.1 n

-- what the ranges after one hold lies after its end
pub beyond : (ranges : List (ℕ × ℕ)) (j n : ℕ) → AreApart ranges → is_within (drop (j + 1) ranges) n ≡ true → (get_or ranges j (0, 0)).1 < n
beyond ranges j n apart inside =
    let found = Any-from_list_any (is_in_range n) (drop (j + 1) ranges) inside in
    let k = found.0 in
    let shorter : length (drop (j + 1) ranges) ≤ length ranges - (j + 1) = omega (arith, length-drop (j + 1) ranges) in
    let within : j + 1 + k < length ranges = omega (arith, found.2, shorter) in
    let at : get_or ranges (j + 1 + k) (0, 0) ≡ found.1 =
    get_or_default ranges (j + 1 + k) (0, 0) found.1 within ∙ sym (get_or-drop (j + 1) ranges k found.1) ∙ found.3 in
    let first : found.1.0 ≤ n = leb-true found.1.0 n (and_parts (nat_le found.1.0 n) (nat_lt n found.1.1) found.4).0 in
    let gap : (get_or ranges j (0, 0)).1 < (get_or ranges (j + 1 + k) (0, 0)).0 = apart.ascending j (j + 1 + k) (omega arith) within in
    let gap_at : (get_or ranges j (0, 0)).1 < found.1.0 = subst (λ (r : ℕ × ℕ). (get_or ranges j (0, 0)).1 < r.0) at gap in
    omega (arith, gap_at, first)

-- what was found so far, and what is left of both lists
pub record Both (a b : List (ℕ × ℕ)) (i j : ℕ) (both : List (ℕ × ℕ)) : Type 0 where
  pub members : (n : ℕ) → (is_within a n && is_within b n) ≡ (is_within both n || (is_within (drop i a) n && is_within (drop j b) n))

within-drop : (ranges : List (ℕ × ℕ)) (i n : ℕ) → i < length ranges
    → is_within (drop i ranges) n ≡ (is_in_range n (get_or ranges i (0, 0)) || is_within (drop (i + 1) ranges) n)
within-drop ranges i n within = ap (λ rs. is_within rs n) (drop_more ranges i (0, 0) within)

left_done : (w x a y b : Bool) → (x ≡ true → b ≡ false) → (w || ((x || a) && (y || b))) ≡ ((w || (x && y)) || (a && (y || b)))
left_done true x a y b h = refl
left_done false true a true b h = refl
left_done false true a false true h = absurd (false≢true (sym (h refl)))
left_done false true true false false h = refl
left_done false true false false false h = refl
left_done false false a y b h = refl

right_done : (w x a y b : Bool) → (y ≡ true → a ≡ false) → (w || ((x || a) && (y || b))) ≡ ((w || (x && y)) || ((x || a) && b))
right_done true x a y b h = refl
right_done false true a true b h = refl
right_done false false true true b h = absurd (false≢true (sym (h refl)))
right_done false false false true b h = refl
right_done false true a false b h = refl
right_done false false a false b h = refl

-- a number of a range isn't in those after one that ends no sooner
not_behind : (ranges : List (ℕ × ℕ)) (j n : ℕ) (x : ℕ × ℕ) → AreApart ranges → x.1 ≤ (get_or ranges j (0, 0)).1 → is_in_range n x ≡ true
    → is_within (drop (j + 1) ranges) n ≡ false
not_behind ranges j n x apart ends inside =
    elim (cases_Bool (is_within (drop (j + 1) ranges) n)) [
      | inl there ↦
          let past = beyond ranges j n apart there in
          let short : n < x.1 = ltb-true n x.1 (and_parts (nat_le x.0 n) (nat_lt n x.1) inside).1 in
          absurd (omega (arith, past, short, ends))
      | inr off ↦ off
    ]

pub Both-start : (a b : List (ℕ × ℕ)) → Both a b 0 0 []
Both-start a b = record { members = λ n. refl }

pub Both-left : (a b both : List (ℕ × ℕ)) (i j : ℕ) → AreApart b → i < length a → j < length b → (get_or a i (0, 0)).1 ≤ (get_or b j (0, 0)).1
    → Both a b i j both
    → Both a b (i + 1) j (both ++ overlap_of (get_or a i (0, 0)) (get_or b j (0, 0)) ∷ [])
Both-left a b both i j apart ha hb ends before = record {
  members = λ n.
      (let x = get_or a i (0, 0) in
      let y = get_or b j (0, 0) in
      let X = is_in_range n x in
      let Y = is_in_range n y in
      let A = is_within (drop (i + 1) a) n in
      let B = is_within (drop (j + 1) b) n in
      let w = is_within both n in
      before.members n
      ∙ ap (λ v. w || (v && is_within (drop j b) n)) (within-drop a i n ha)
      ∙ ap (λ v. w || ((X || A) && v)) (within-drop b j n hb)
      ∙ left_done w X A Y B (λ h. not_behind b j n x apart ends h)
      ∙ ap (λ v. (w || (X && Y)) || (A && v)) (sym (within-drop b j n hb))
      ∙ ap (λ v. (w || v) || (A && is_within (drop j b) n)) (sym (in_overlap x y n))
      ∙ ap (λ v. v || (A && is_within (drop j b) n)) (sym (within-push both (overlap_of x y) n)));
}

pub Both-right : (a b both : List (ℕ × ℕ)) (i j : ℕ) → AreApart a → i < length a → j < length b → (get_or b j (0, 0)).1 ≤ (get_or a i (0, 0)).1
    → Both a b i j both
    → Both a b i (j + 1) (both ++ overlap_of (get_or a i (0, 0)) (get_or b j (0, 0)) ∷ [])
Both-right a b both i j apart ha hb ends before = record {
  members = λ n.
      (let x = get_or a i (0, 0) in
      let y = get_or b j (0, 0) in
      let X = is_in_range n x in
      let Y = is_in_range n y in
      let A = is_within (drop (i + 1) a) n in
      let B = is_within (drop (j + 1) b) n in
      let w = is_within both n in
      before.members n
      ∙ ap (λ v. w || (v && is_within (drop j b) n)) (within-drop a i n ha)
      ∙ ap (λ v. w || ((X || A) && v)) (within-drop b j n hb)
      ∙ right_done w X A Y B (λ h. not_behind a i n y apart ends h)
      ∙ ap (λ v. (w || (X && Y)) || (v && B)) (sym (within-drop a i n ha))
      ∙ ap (λ v. (w || v) || (is_within (drop i a) n && B)) (sym (in_overlap x y n))
      ∙ ap (λ v. v || (is_within (drop i a) n && B)) (sym (within-push both (overlap_of x y) n)));
}

or_no : (b : Bool) → (b || false) ≡ b
or_no true = refl
or_no false = refl

and_no : (b : Bool) → (b && false) ≡ false
and_no true = refl
and_no false = refl

-- one of the lists is done with
pub Both-end : (a b both : List (ℕ × ℕ)) (i j : ℕ) → (length a ≤ i) ⊎ (length b ≤ j) → Both a b i j both → HoldsBoth a b both
Both-end a b both i j (inl past) before = record {
  members = λ n.
      sym (before.members n ∙ ap (λ rs. is_within both n || (is_within rs n && is_within (drop j b) n)) (drop_all i a past) ∙ or_no (is_within both n));
}
Both-end a b both i j (inr past) before = record {
  members = λ n.
      sym (before.members n ∙ ap (λ rs. is_within both n || (is_within (drop i a) n && is_within rs n)) (drop_all j b past)
      ∙ ap (λ v. is_within both n || v) (and_no (is_within (drop i a) n)) ∙ or_no (is_within both n));
}
