-- How many numbers ranges hold.
use Rattle.std.proofs.Common.{◌≡◌, ◌∙◌, ℕ, zero, suc, ◌+◌, ◌-◌, ◌<◌, ◌≤◌, min, Bool, true, false, cond, ◌&&◌, ◌||◌, List, [], ◌∷◌, length, drop, get_or, inl}
use Rattle.std.proofs.Common.{inr, refl, sym, ap, subst, arith}
use Rattle.std.specs.Prelude.{nat_le, nat_lt}
use Rattle.std.proofs.lemmas.Bool.{cases_Bool, cases_lt, false≢true, and_from, and_parts, le-leb, lt-ltb, leb-true, ltb-true}
use Rattle.std.proofs.lemmas.Bool.Decides.{nat_tests}
use Rattle.std.proofs.lemmas.List.{drop_more, drop_all, get_or_default}
use Rattle.std.proofs.lemmas.List.Folds.{Any-from_list_any}
use Rattle.dh_sharing.specs.Ranges.{is_in_range, is_within, AreApart}
use Rattle.org_tree.specs.Count.{count_below}
use Rattle.org_tree.proofs.CountLemmas.{count_below-or, count_below-none}
use Rattle.cell_values.specs.Counts.{covered}

pub apart-rest : (x : ℕ × ℕ) (xs : List (ℕ × ℕ)) → AreApart (x ∷ xs) → AreApart xs
apart-rest x xs apart = record {
  filled = λ i h. apart.filled (suc i) (omega arith);
  ascending = λ i j l h. apart.ascending (suc i) (suc j) (omega arith) (omega arith);
}

-- what lies in the first range lies in none after it
pub first-alone : (x : ℕ × ℕ) (xs : List (ℕ × ℕ)) (n : ℕ) → AreApart (x ∷ xs) → is_in_range n x ≡ true → is_within xs n ≡ false
first-alone x xs n apart inside =
    elim (cases_Bool (is_within xs n)) [
      | inl there ↦
          let found = Any-from_list_any (is_in_range n) xs there in
          let at : get_or xs found.0 (0, 0) ≡ found.1 = get_or_default xs found.0 (0, 0) found.1 found.2 ∙ found.3 in
          let first : found.1.0 ≤ n = leb-true found.1.0 n (and_parts (nat_le found.1.0 n) (nat_lt n found.1.1) found.4).0 in
          let gap : x.1 < (get_or xs found.0 (0, 0)).0 = apart.ascending 0 (suc found.0) (omega arith) (omega (arith, found.2)) in
          let gap_at : x.1 < found.1.0 = subst (λ (r : ℕ × ℕ). x.1 < r.0) at gap in
          let short : n < x.1 = ltb-true n x.1 (and_parts (nat_le x.0 n) (nat_lt n x.1) inside).1 in
          absurd (omega (arith, first, gap_at, short))
      | inr off ↦ off
    ]

-- how many of the numbers below an end lie in a range
count-range : (a b n : ℕ) → count_below (λ k. nat_le a k && nat_lt k b) n ≡ min b n - a
count-range a b zero = grind arith
count-range a b (suc n) =
    let rest = count-range a b n in
    ap (λ c. c + cond (nat_le a n && nat_lt n b) 1 0) rest ∙ one_more a b n
  where
    one_more : (a b n : ℕ) → (min b n - a) + cond (nat_le a n && nat_lt n b) 1 0 ≡ min b (suc n) - a
    one_more a b n = grind (arith, nat_tests)

pub covered-count : (ranges : List (ℕ × ℕ)) (end : ℕ) → AreApart ranges → ((n : ℕ) → end ≤ n → is_within ranges n ≡ false)
    → covered ranges ≡ count_below (is_within ranges) end
covered-count [] end apart below = sym (count_below-none (is_within []) end (λ k h. refl))
covered-count (x ∷ xs) end apart below =
    let full : x.0 < x.1 = apart.filled 0 (omega arith) in
    let upto : x.1 ≤ end =
    elim (cases_lt end x.1) [
      | inl past ↦
          let inside : is_in_range (x.1 - 1) x ≡ true =
          and_from (nat_le x.0 (x.1 - 1)) (nat_lt (x.1 - 1) x.1) (le-leb x.0 (x.1 - 1) (omega arith)) (lt-ltb (x.1 - 1) x.1 (omega arith)) in
          let there : is_within (x ∷ xs) (x.1 - 1) ≡ true = ap (λ b. b || is_within xs (x.1 - 1)) inside in
          absurd (false≢true (sym (below (x.1 - 1) (omega arith)) ∙ there))
      | inr fits ↦ fits
    ] in
    let rest : covered xs ≡ count_below (is_within xs) end =
    covered-count xs end (apart-rest x xs apart) (λ n past. off_both (is_in_range n x) (is_within xs n) (below n past)) in
    let here : x.1 - x.0 ≡ count_below (λ k. is_in_range k x) end = sym (count-range x.0 x.1 end ∙ shortest upto) in
    ap (λ c. c + covered xs) here ∙ ap (λ c. count_below (λ k. is_in_range k x) end + c) rest
    ∙ sym (count_below-or (λ k. is_in_range k x) (is_within xs) end (λ k h inside. first-alone x xs k apart inside))
  where
    off_both : (a b : Bool) → (a || b) ≡ false → b ≡ false
    off_both true b e = absurd (false≢true (sym e))
    off_both false b e = e

    shortest : x.1 ≤ end → min x.1 end - x.0 ≡ x.1 - x.0
    shortest fits = grind arith

-- a loop over ranges that counts
pub record Counted (ranges : List (ℕ × ℕ)) (i count : ℕ) : Type 0 where
  pub is : covered ranges ≡ count + covered (drop i ranges)
  pub below : (j : ℕ) → i ≤ j → j < length ranges → count ≤ (get_or ranges j (0, 0)).0

pub Counted-start : (ranges : List (ℕ × ℕ)) → Counted ranges 0 0
Counted-start ranges = record { is = sym (zero_add (covered ranges)); below = λ j l h. omega arith }
  where
    zero_add : (n : ℕ) → 0 + n ≡ n
    zero_add n = omega arith

pub Counted-more : (ranges : List (ℕ × ℕ)) (i count : ℕ) → AreApart ranges → i < length ranges → Counted ranges i count
    → Counted ranges (i + 1) (count + ((get_or ranges i (0, 0)).1 - (get_or ranges i (0, 0)).0))
Counted-more ranges i count apart within before =
    let x = get_or ranges i (0, 0) in
    let full : x.0 < x.1 = apart.filled i within in
    let low : count ≤ x.0 = before.below i (omega arith) within in
    record {
      is = before.is ∙ ap (λ rs. count + covered rs) (drop_more ranges i (0, 0) within) ∙ regroup count (x.1 - x.0) (covered (drop (i + 1) ranges));
      below = λ j l h.
          (let gap : x.1 < (get_or ranges j (0, 0)).0 = apart.ascending i j (omega arith) h in
          omega (arith, gap, full, low));
    }
  where
    regroup : (a b c : ℕ) → a + (b + c) ≡ (a + b) + c
    regroup a b c = omega arith

pub Counted-end : (ranges : List (ℕ × ℕ)) (i count : ℕ) → length ranges ≤ i → Counted ranges i count → count ≡ covered ranges
Counted-end ranges i count past done = sym (done.is ∙ ap (λ rs. count + covered rs) (drop_all i ranges past) ∙ no_more count)
  where
    no_more : (n : ℕ) → n + 0 ≡ n
    no_more n = omega arith
