-- Lists of ranges that stand apart, and what they hold.
use Rattle.std.proofs.Common.{◌≡◌, ℕ, ◌+◌, ◌-◌, ◌<◌, ◌≤◌, max, Bool, true, false, ◌&&◌, ◌||◌, List, [], ◌∷◌, ◌++◌, length, get_or, take, refl, sym, ap, ◌∙◌}
use Rattle.std.proofs.Common.{subst, inl, inr, arith}
use Rattle.std.specs.Prelude.{nat_le, nat_lt, filter, IsPermutation}
use Rattle.std.specs.List.Sorted.{IsSortedBy}
use Rattle.std.specs.Ordering.{nat_cmp, is_lt, ordering_then}
use Rattle.std.specs.declared.cmp.Ordering.TheVariants.{Less}
use Rattle.std.proofs.lemmas.Bool.{cases_eq, cases_lt, cases_Bool, false≢true, le-leb, lt-leb, lt-ltb, le-ltb, ltb-true, ltb-false, and_from, and_left}
use Rattle.std.proofs.lemmas.Bool.{and_right}
use Rattle.std.proofs.lemmas.Bool.Decides.{nat_tests}
use Rattle.std.proofs.lemmas.Cmp.{nat_cmp_total, then_total, on_total}
use Rattle.std.proofs.lemmas.List.{get_or_append_left, get_or_push, length_push, take_more, take_all, get_or_default}
use Rattle.std.proofs.lemmas.List.Elements.{filter_passes}
use Rattle.std.proofs.lemmas.List.Folds.{list_any-append, list_any_at, list_any_none}
use Rattle.std.proofs.lemmas.List.Sorted.{sorted_far, ranks_by, list_any-IsPermutation, All-permutation}
use Rattle.dh_sharing.specs.Ranges.{is_in_range, is_filled, is_within, AreApart, HoldsTheSame, ByFirst, IsCount}

or_false : (b : Bool) → (b || false) ≡ b
or_false true = refl
or_false false = refl

pub within-push : (ranges : List (ℕ × ℕ)) (range : ℕ × ℕ) (n : ℕ) → is_within (ranges ++ range ∷ []) n ≡ (is_within ranges n || is_in_range n range)
within-push ranges range n =
    list_any-append (is_in_range n) ranges (range ∷ []) ∙ ap (λ b. is_within ranges n || b) (or_false (is_in_range n range))

pub within-more : (ranges : List (ℕ × ℕ)) (i n : ℕ) → i < length ranges
    → is_within (take (i + 1) ranges) n ≡ (is_within (take i ranges) n || is_in_range n (get_or ranges i (0, 0)))
within-more ranges i n h = ap (λ rs. is_within rs n) (take_more ranges i (0, 0) h) ∙ within-push (take i ranges) (get_or ranges i (0, 0)) n

-- empty ranges hold nothing
pub within-filter : (ranges : List (ℕ × ℕ)) (n : ℕ) → is_within (filter is_filled ranges) n ≡ is_within ranges n
within-filter [] n = refl
within-filter (range ∷ ranges) n =
    elim (cases_Bool (is_filled range)) [
      | inl full ↦ rw full (ap (λ b. is_in_range n range || b) (within-filter ranges n))
      | inr empty ↦
          let outside : is_in_range n range ≡ false = empty_holds_none range n empty in
          rw (empty, outside) (within-filter ranges n)
    ]
  where
    empty_holds_none : (range : ℕ × ℕ) (n : ℕ) → is_filled range ≡ false → is_in_range n range ≡ false
    empty_holds_none range n empty =
        elim (cases_lt n range.0) [
          | inl low ↦ and_left (nat_le range.0 n) (nat_lt n range.1) (lt-leb range.0 n low)
          | inr high ↦
              let e : range.1 ≤ range.0 = ltb-false range.0 range.1 empty in
              and_right (nat_le range.0 n) (nat_lt n range.1) (le-ltb n range.1 (omega arith))
        ]

-- what a range holds that was widened to take in another
pub in_widened : (last next : ℕ × ℕ) (n : ℕ) → last.0 ≤ next.0 → next.0 ≤ last.1 → next.0 < next.1
    → is_in_range n (last.0, max last.1 next.1) ≡ (is_in_range n last || is_in_range n next)
in_widened last next n first meets full = in_widened_numbers last.0 last.1 next.0 next.1 n first meets full
  where
    in_widened_numbers : (a b c d n : ℕ) → a ≤ c → c ≤ b → c < d
        → (nat_le a n && nat_lt n (max b d)) ≡ ((nat_le a n && nat_lt n b) || (nat_le c n && nat_lt n d))
    in_widened_numbers a b c d n h i j = grind (arith, nat_tests)

apart_at : List (ℕ × ℕ) → ℕ × ℕ → Type 0
apart_at ranges range = (i : ℕ) → i < length ranges → (get_or ranges i (0, 0)).1 < range.0

pub AreApart-none : AreApart []
AreApart-none = record { filled = λ i h. absurd (omega arith); ascending = λ i j l h. absurd (omega arith) }

-- one more range after all
pub AreApart-push : (ranges : List (ℕ × ℕ)) (range : ℕ × ℕ) → AreApart ranges → ((i : ℕ) → i < length ranges → (get_or ranges i (0, 0)).1 < range.0)
    → range.0 < range.1 → AreApart (ranges ++ range ∷ [])
AreApart-push ranges range apart beyond full = record {
  filled = λ i h.
      elim (cases_eq i (length ranges)) [
        | inl last ↦ subst (λ (r : ℕ × ℕ). r.0 < r.1) (sym (here i last)) full
        | inr before ↦ subst (λ (r : ℕ × ℕ). r.0 < r.1) (sym (there i (omega (arith, longer)))) (apart.filled i (omega (arith, longer)))
      ];
  ascending = λ i j l h.
      elim (cases_eq j (length ranges)) [
        | inl last ↦
            subst (λ (r : ℕ × ℕ). (get_or (ranges ++ range ∷ []) i (0, 0)).1 < r.0) (sym (here j last))
            (subst (λ (r : ℕ × ℕ). r.1 < range.0) (sym (there i (omega arith))) (beyond i (omega arith)))
        | inr before ↦
            subst (λ (r : ℕ × ℕ). (get_or (ranges ++ range ∷ []) i (0, 0)).1 < r.0) (sym (there j (omega (arith, longer))))
            (subst (λ (r : ℕ × ℕ). r.1 < (get_or ranges j (0, 0)).0) (sym (there i (omega (arith, longer)))) (apart.ascending i j l (omega (arith, longer))))
      ];
}
  where
    longer : length (ranges ++ range ∷ []) ≡ length ranges + 1
    longer = length_push ranges range

    here : (i : ℕ) → i ≡ length ranges → get_or (ranges ++ range ∷ []) i (0, 0) ≡ range
    here i last = get_or_push ranges range (0, 0) i (sym last)

    there : (i : ℕ) → i < length ranges → get_or (ranges ++ range ∷ []) i (0, 0) ≡ get_or ranges i (0, 0)
    there i h = get_or_append_left ranges (range ∷ []) (0, 0) i h

-- what the join has done with the first ranges: the finished parts and the last one, which may still grow
pub record Joins (sorted : List (ℕ × ℕ)) (taken : ℕ) (parts : List (ℕ × ℕ)) (last : ℕ × ℕ) : Type 0 where
  pub apart : AreApart parts
  pub beyond : (i : ℕ) → i < length parts → (get_or parts i (0, 0)).1 < last.0
  pub full : last.0 < last.1
  pub first : (i : ℕ) → taken ≤ i → i < length sorted → last.0 ≤ (get_or sorted i (0, 0)).0
  pub members : (n : ℕ) → (is_within parts n || is_in_range n last) ≡ is_within (take taken sorted) n

-- the same of lists and ranges that are equal
pub Joins-same : (sorted : List (ℕ × ℕ)) (taken : ℕ) (parts others : List (ℕ × ℕ)) (last other : ℕ × ℕ) → others ≡ parts → other ≡ last
    → Joins sorted taken parts last → Joins sorted taken others other
Joins-same sorted taken parts others last other p q so_far =
    subst (λ (v : List (ℕ × ℕ)). Joins sorted taken v other) (sym p) (subst (λ (r : ℕ × ℕ). Joins sorted taken parts r) (sym q) so_far)

pub Joins-first : (sorted : List (ℕ × ℕ)) → ByFirst sorted → 0 < length sorted → Joins sorted 1 [] (get_or sorted 0 (0, 0))
Joins-first sorted by h = record {
  apart = AreApart-none;
  beyond = λ i l. absurd (omega arith);
  full = by.filled 0 h;
  first = λ i l k. by.ascending 0 i (omega arith) k;
  members = λ n. sym (within-more sorted 0 n h);
}

pub Joins-widened : (sorted parts : List (ℕ × ℕ)) (last : ℕ × ℕ) (i : ℕ) → ByFirst sorted → i < length sorted → (get_or sorted i (0, 0)).0 ≤ last.1
    → Joins sorted i parts last → Joins sorted (i + 1) parts (last.0, max last.1 (get_or sorted i (0, 0)).1)
Joins-widened sorted parts last i by h meets so_far = record {
  apart = so_far.apart;
  beyond = so_far.beyond;
  full = let f = so_far.full in omega arith;
  first = λ k l m. so_far.first k (omega arith) m;
  members = λ n.
      ap (λ b. is_within parts n || b) (in_widened last (get_or sorted i (0, 0)) n (so_far.first i (omega arith) h) meets (by.filled i h))
      ∙ or_assoc (is_within parts n) (is_in_range n last) (is_in_range n (get_or sorted i (0, 0)))
      ∙ ap (λ b. b || is_in_range n (get_or sorted i (0, 0))) (so_far.members n) ∙ sym (within-more sorted i n h);
}
  where
    or_assoc : (a b c : Bool) → (a || (b || c)) ≡ ((a || b) || c)
    or_assoc true b c = refl
    or_assoc false b c = refl

pub Joins-next : (sorted parts : List (ℕ × ℕ)) (last : ℕ × ℕ) (i : ℕ) → ByFirst sorted → i < length sorted → last.1 < (get_or sorted i (0, 0)).0
    → Joins sorted i parts last → Joins sorted (i + 1) (parts ++ last ∷ []) (get_or sorted i (0, 0))
Joins-next sorted parts last i by h past so_far = record {
  apart = AreApart-push parts last so_far.apart so_far.beyond so_far.full;
  beyond = λ k l.
      (let longer : length (parts ++ last ∷ []) ≡ length parts + 1 = length_push parts last in
      elim (cases_eq k (length parts)) [
        | inl end ↦ subst (λ (r : ℕ × ℕ). r.1 < (get_or sorted i (0, 0)).0) (sym (get_or_push parts last (0, 0) k (sym end))) past
        | inr before ↦
            let inside : k < length parts = omega arith in
            let low = so_far.beyond k inside in
            let full = so_far.full in
            subst (λ (r : ℕ × ℕ). r.1 < (get_or sorted i (0, 0)).0) (sym (get_or_append_left parts (last ∷ []) (0, 0) k inside)) (omega arith)
      ]);
  full = by.filled i h;
  first = λ k l m. by.ascending i k (omega arith) m;
  members = λ n.
      ap (λ b. b || is_in_range n (get_or sorted i (0, 0))) (within-push parts last n ∙ so_far.members n) ∙ sym (within-more sorted i n h);
}

pub Joins-apart : (sorted parts : List (ℕ × ℕ)) (last : ℕ × ℕ) (taken : ℕ) → Joins sorted taken parts last → AreApart (parts ++ last ∷ [])
Joins-apart sorted parts last taken so_far = AreApart-push parts last so_far.apart so_far.beyond so_far.full

pub Joins-all : (sorted parts : List (ℕ × ℕ)) (last : ℕ × ℕ) (taken : ℕ) → length sorted ≤ taken → Joins sorted taken parts last
    → HoldsTheSame (parts ++ last ∷ []) sorted
Joins-all sorted parts last taken all so_far = record {
  members = λ n. within-push parts last n ∙ so_far.members n ∙ ap (λ rs. is_within rs n) (take_all taken sorted all);
}

-- a number lies in ranges that stand apart where it lies in the last that begins at it or before
pub within-last : (ranges : List (ℕ × ℕ)) (n begun : ℕ) → AreApart ranges → IsCount ranges n begun → 0 < begun
    → is_within ranges n ≡ nat_lt n (get_or ranges (begun - 1) (0, 0)).1
within-last ranges n begun apart count some =
    elim (cases_lt n (get_or ranges (begun - 1) (0, 0)).1) [
      | inl low ↦
          let most = count.most in
          list_any_at (is_in_range n) ranges (begun - 1) (0, 0) (omega arith)
          (and_from _ _ (le-leb _ _ (count.before (begun - 1) (omega arith))) (lt-ltb _ _ low))
          ∙ sym (lt-ltb _ _ low)
      | inr high ↦
          list_any_none (is_in_range n) ranges
          (λ i d h. rw (get_or_default ranges i d (0, 0) h) (outside i h high)) ∙ sym (le-ltb _ _ high)
    ]
  where
    outside : (i : ℕ) → i < length ranges → (get_or ranges (begun - 1) (0, 0)).1 ≤ n → is_in_range n (get_or ranges i (0, 0)) ≡ false
    outside i h high =
        let most = count.most in
        elim (cases_lt i begun) [
          | inr past ↦ and_left _ _ (lt-leb _ _ (count.beyond i past h))
          | inl begins ↦
              and_right _ _
              (le-ltb _ _ (elim (cases_eq i (begun - 1)) [
                | inl last ↦ subst (λ (k : ℕ). (get_or ranges k (0, 0)).1 ≤ n) (sym last) high
                | inr before ↦
                    let below : (get_or ranges i (0, 0)).1 < (get_or ranges (begun - 1) (0, 0)).0 = apart.ascending i (begun - 1) (omega arith) (omega arith) in
                    let full : (get_or ranges (begun - 1) (0, 0)).0 < (get_or ranges (begun - 1) (0, 0)).1 = apart.filled (begun - 1) (omega arith) in
                    omega arith
              ]))
        ]

pub within-none : (ranges : List (ℕ × ℕ)) (n : ℕ) → IsCount ranges n 0 → is_within ranges n ≡ false
within-none ranges n count =
    list_any_none (is_in_range n) ranges
    (λ i d h. rw (get_or_default ranges i d (0, 0) h) (and_left _ _ (lt-leb _ _ (count.beyond i (omega arith) h))))

-- a sort puts the ranges by their first numbers
pub ByFirst-from_sort : (ranges sorted : List (ℕ × ℕ)) → IsPermutation (filter is_filled ranges) sorted
    → IsSortedBy (λ a b. is_lt (ordering_then (nat_cmp a.0 b.0) (nat_cmp a.1 b.1))) sorted → ByFirst sorted
ByFirst-from_sort ranges sorted moved up = record {
  filled = λ i h. ltb-true _ _ (All-permutation (λ r. is_filled r ≡ true) (filter is_filled ranges) sorted moved (filter_passes is_filled ranges) i (0, 0) h);
  ascending = λ i j l h.
      not_above (get_or sorted i (0, 0)) (get_or sorted j (0, 0))
      (sorted_far (λ a b. is_lt (ordering_then (nat_cmp a.0 b.0) (nat_cmp a.1 b.1)))
      (ranks_by (then_total (on_total (λ (r : ℕ × ℕ). r.0) nat_cmp_total) (on_total (λ (r : ℕ × ℕ). r.1) nat_cmp_total)) (λ (r : ℕ × ℕ). r))
      sorted up i j (0, 0) l h);
}
  where
    not_above : (a b : ℕ × ℕ) → is_lt (ordering_then (nat_cmp b.0 a.0) (nat_cmp b.1 a.1)) ≡ false → a.0 ≤ b.0
    not_above a b low =
        elim (cases_lt b.0 a.0) [
          | inr le ↦ le
          | inl less ↦
              let first : nat_cmp b.0 a.0 ≡ Less = rw (lt-ltb b.0 a.0 less) refl in
              absurd (false≢true (sym low ∙ ap (λ o. is_lt (ordering_then o (nat_cmp b.1 a.1))) first))
        ]

pub HoldsTheSame-from_sort : (ranges sorted parts : List (ℕ × ℕ)) → IsPermutation (filter is_filled ranges) sorted → HoldsTheSame parts sorted
    → HoldsTheSame parts ranges
HoldsTheSame-from_sort ranges sorted parts moved same = record {
  members = λ n. same.members n ∙ sym (list_any-IsPermutation (is_in_range n) (filter is_filled ranges) sorted moved) ∙ within-filter ranges n;
}
