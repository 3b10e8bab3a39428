-- The days on which periods begin that lie in others.
use Rattle.std.proofs.Common.{◌≡◌, ◌∙◌, ℕ, ◌+◌, ◌<◌, ◌≤◌, Bool, true, false, ◌&&◌, ◌||◌, List, [], ◌∷◌, ◌++◌, length, take, get_or, ℤ, pos, neg_ℤ, ◌+ℤ◌}
use Rattle.std.proofs.Common.{append-nil, cond, ◌-ℤ◌, ◌≤ℤ◌, ◌<ℤ◌, FitsSigned, to_z, of_z, to_z-of_z, Option, Some, None, inl, inr, refl, sym, ap, subst, arith}
use Rattle.std.specs.Prelude.{nat_lt, nat_eq, int_le}
use Rattle.std.specs.Int.{w32}
use Rattle.std.specs.Option.{option_map_or}
use Rattle.std.specs.Ordering.{int_eq}
use Rattle.std.proofs.lemmas.Bool.{cases_Bool, false≢true, and_parts, eqb-true, lt-ltb, le-ltb}
use Rattle.std.proofs.lemmas.Bool.Decides.{nat_tests, Decides-int_eq}
use Rattle.std.proofs.lemmas.Int.{ints}
use Rattle.std.proofs.lemmas.List.Folds.{list_any_more, list_any_none}
use Rattle.dh_periods.specs.declared.kind.PeriodType.{PeriodType}
use Rattle.dh_periods.specs.declared.name.PeriodName.{PeriodName}
use Rattle.dh_periods.specs.Calendar.{unix_day}
use Rattle.dh_periods.specs.Days.{is_listed, is_inside, first_day, last_day}
use Rattle.dh_periods.specs.Places.{containing_of}
use Rattle.dh_periods.proofs.BoundLemmas.{day-bounds}
use Rattle.dh_periods.proofs.ContainingLemmas.{containing_of-outside}
use Rattle.dh_periods.proofs.HeldLemmas.{int_le-yes}
use Rattle.dh_sharing.specs.Ranges.{is_in_range, is_within, AreApart, HoldsTheSame}
use Rattle.dh_sharing.proofs.RangeLemmas.{within-push}
use Rattle.org_tree.proofs.CountLemmas.{count_below-agree, count_below-le}
use Rattle.cell_values.specs.Reporting.{begins_in, begins_in_some, periods_due}
use Rattle.cell_values.specs.Counts.{covered, AreBegins, AddsBegins}
use Rattle.cell_values.proofs.PlaceLemmas.{one_number}
use Rattle.cell_values.proofs.SpanLemmas.{covered-count}

-- ---- days that fit the machine's numbers

small_fits : (d e : ℤ) → neg_ℤ (pos 25567) ≤ℤ d → d ≤ℤ e → e ≤ℤ pos 48119 → FitsSigned w32 e
small_fits d e low upto high = omega (arith, ints)

above : (d e : ℤ) → neg_ℤ (pos 25567) ≤ℤ d → d ≤ℤ e → neg_ℤ (pos 25567) ≤ℤ e
above d e low upto = omega (arith, ints)

pub last-in : (last : ℤ) (p : PeriodName) → is_listed p ≡ true → last ≡ last_day p
    → (neg_ℤ (pos 25567) ≤ℤ to_z w32 (of_z w32 last)) × (to_z w32 (of_z w32 last) ≤ℤ pos 48119) × (to_z w32 (of_z w32 last) ≡ last)
last-in last p h e =
    let b = day-bounds p h in
    let fits : FitsSigned w32 (last_day p) = small_fits (first_day p) (last_day p) b.0 b.1 b.2 in
    let back : to_z w32 (of_z w32 (last_day p)) ≡ last_day p = to_z-of_z fits in
    rw e (rw back (above (first_day p) (last_day p) b.0 b.1), rw back b.2, back)

-- ---- where such days lie

inside-parts : (q p : PeriodName) → is_inside q p ≡ true → (first_day p ≤ℤ first_day q) × (first_day q ≤ℤ last_day p)
unfolding is_inside
inside-parts q p e =
    let whole = and_parts (int_le (first_day p) (first_day q) && int_le (first_day q) (last_day p))
    (int_le (first_day p) (last_day q) && int_le (last_day q) (last_day p)) e in
    let first = and_parts (int_le (first_day p) (first_day q)) (int_le (first_day q) (last_day p)) whole.0 in
    (int_le-yes (first_day p) (first_day q) first.0, int_le-yes (first_day q) (last_day p) first.1)

begins-inside : (kind : PeriodType) (p : PeriodName) (n : ℕ) → begins_in kind p n ≡ true → (first_day p ≤ℤ unix_day n) × (unix_day n ≤ℤ last_day p)
unfolding begins_in
begins-inside kind p n e = by (containing_of kind (unix_day n) (unix_day n)) e
  where
    by : (o : Option PeriodName) → option_map_or (λ q. int_eq (first_day q) (unix_day n) && is_inside q p) o false ≡ true
        → (first_day p ≤ℤ unix_day n) × (unix_day n ≤ℤ last_day p)
    by None h = absurd (false≢true h)
    by (Some q) h =
        let parts = and_parts (int_eq (first_day q) (unix_day n)) (is_inside q p) h in
        let at : first_day q ≡ unix_day n = (Decides-int_eq (first_day q) (unix_day n)).0 parts.0 in
        let both = inside-parts q p parts.1 in
        rw (← at) both

-- no period begins so late
begins-past : (kind : PeriodType) (p : PeriodName) (n : ℕ) → 73687 ≤ n → begins_in kind p n ≡ false
unfolding begins_in
begins-past kind p n past =
    let late : pos 48119 <ℤ unix_day n = late_day n past in
    ap (λ o. option_map_or (λ q. int_eq (first_day q) (unix_day n) && is_inside q p) o false)
    (sym (containing_of-outside kind (unix_day n) (unix_day n) (inr late)))
  where
    late_day : (n : ℕ) → 73687 ≤ n → pos 48119 <ℤ (pos n -ℤ pos 25567)
    late_day n past = omega (arith, ints)

-- ---- one period

-- the days before a place on which periods begin stand beside the earlier ones
pub record Begins (kind : PeriodType) (period : PeriodName) (old : List (ℕ × ℕ)) (place : ℕ) (new : List (ℕ × ℕ)) : Type 0 where
  pub members : (n : ℕ) → is_within new n ≡ (is_within old n || (nat_lt n place && begins_in kind period n))

or_none : (a b : Bool) → b ≡ false → a ≡ (a || b)
or_none true b e = refl
or_none false b e = sym e

first_upto : (f n : ℕ) (d : ℤ) → pos f ≡ d +ℤ pos 25567 → d ≤ℤ (pos n -ℤ pos 25567) → f ≤ n
first_upto f n d is upto = omega (arith, ints)

upto_last : (l n : ℕ) (d : ℤ) → pos l ≡ d +ℤ pos 25567 → (pos n -ℤ pos 25567) ≤ℤ d → n ≤ l
upto_last l n d is upto = omega (arith, ints)

pub Begins-start : (kind : PeriodType) (p : PeriodName) (old : List (ℕ × ℕ)) (f : ℕ) → pos f ≡ first_day p +ℤ pos 25567 → Begins kind p old f old
Begins-start kind p old f is = record { members = λ n. or_none (is_within old n) (nat_lt n f && begins_in kind p n) (early n) }
  where
    early : (n : ℕ) → (nat_lt n f && begins_in kind p n) ≡ false
    early n =
        elim (cases_Bool (begins_in kind p n)) [
          | inl begins ↦
              let from : f ≤ n = first_upto f n (first_day p) is (begins-inside kind p n begins).0 in
              ap (λ b. b && begins_in kind p n) (le-ltb n f from)
          | inr never ↦ ap (λ b. nat_lt n f && b) never ∙ none (nat_lt n f)
        ]
      where
        none : (b : Bool) → (b && false) ≡ false
        none true = refl
        none false = refl

next_number : (a n : ℕ) → nat_lt n (a + 1) ≡ (nat_lt n a || nat_eq a n)
next_number a n = grind (arith, nat_tests)

-- the numbers up to a are those before it and a itself
upto_next : (test : ℕ → Bool) (a n : ℕ) → (nat_lt n (a + 1) && test n) ≡ ((nat_lt n a && test n) || (nat_eq a n && test a))
upto_next test a n = ap (λ b. b && test n) (next_number a n) ∙ by (nat_eq a n) refl
  where
    by : (e : Bool) → nat_eq a n ≡ e → ((nat_lt n a || e) && test n) ≡ ((nat_lt n a && test n) || (e && test a))
    by true is = ap (λ v. (nat_lt n a || true) && test v) (sym (eqb-true a n is))
        ∙ all (nat_lt n a) (test a) ∙ ap (λ v. (nat_lt n a && test v) || test a) (eqb-true a n is)
      where
        all : (b t : Bool) → ((b || true) && t) ≡ ((b && t) || t)
        all true true = refl
        all true false = refl
        all false true = refl
        all false false = refl
    by false is = none (nat_lt n a) (test n)
      where
        none : (b t : Bool) → ((b || false) && t) ≡ ((b && t) || false)
        none true true = refl
        none true false = refl
        none false true = refl
        none false false = refl

or_assoc : (a b c : Bool) → ((a || b) || c) ≡ (a || (b || c))
or_assoc true b c = refl
or_assoc false b c = refl

or_and_true : (a b e t : Bool) → t ≡ true → (a || (b || e)) ≡ (a || (b || (e && t)))
or_and_true a b true t is = ap (λ v. a || (b || v)) (sym is)
or_and_true a b false t is = refl

or_and_false : (a b e t : Bool) → t ≡ false → (a || b) ≡ (a || (b || (e && t)))
or_and_false a b true t is = ap (λ v. a || v) (or_none b t is)
or_and_false a true false t is = refl
or_and_false a false false t is = refl

Begins-yes : (kind : PeriodType) (p : PeriodName) (old new : List (ℕ × ℕ)) (a : ℕ) → begins_in kind p a ≡ true → Begins kind p old a new
    → Begins kind p old (a + 1) (new ++ (a, a + 1) ∷ [])
Begins-yes kind p old new a here before = record {
  members = λ n.
      within-push new (a, a + 1) n
      ∙ ap (λ b. b || is_in_range n (a, a + 1)) (before.members n)
      ∙ ap (λ b. (is_within old n || (nat_lt n a && begins_in kind p n)) || b) (one_number a n)
      ∙ or_assoc (is_within old n) (nat_lt n a && begins_in kind p n) (nat_eq a n)
      ∙ or_and_true (is_within old n) (nat_lt n a && begins_in kind p n) (nat_eq a n) (begins_in kind p a) here
      ∙ ap (λ b. is_within old n || b) (sym (upto_next (begins_in kind p) a n));
}

Begins-no : (kind : PeriodType) (p : PeriodName) (old new : List (ℕ × ℕ)) (a : ℕ) → begins_in kind p a ≡ false → Begins kind p old a new
    → Begins kind p old (a + 1) new
Begins-no kind p old new a here before = record {
  members = λ n.
      before.members n
      ∙ or_and_false (is_within old n) (nat_lt n a && begins_in kind p n) (nat_eq a n) (begins_in kind p a) here
      ∙ ap (λ b. is_within old n || b) (sym (upto_next (begins_in kind p) a n));
}

pub Begins-more : (kind : PeriodType) (p : PeriodName) (old new after : List (ℕ × ℕ)) (a : ℕ) (b : Bool) → b ≡ begins_in kind p a
    → after ≡ new ++ cond b ((a, a + 1) ∷ []) [] → Begins kind p old a new → Begins kind p old (a + 1) after
Begins-more kind p old new after a true here is before =
    subst (Begins kind p old (a + 1)) (sym is) (Begins-yes kind p old new a (sym here) before)
Begins-more kind p old new after a false here is before =
    subst (Begins kind p old (a + 1)) (sym (is ∙ append-nil new)) (Begins-no kind p old new a (sym here) before)

pub Begins-end : (kind : PeriodType) (p : PeriodName) (old new : List (ℕ × ℕ)) (l place : ℕ) → pos l ≡ last_day p +ℤ pos 25567 → l + 1 ≤ place
    → Begins kind p old place new → AddsBegins kind p old new
Begins-end kind p old new l place is past done = record {
  members = λ n. done.members n ∙ ap (λ b. is_within old n || b) (all n);
}
  where
    all : (n : ℕ) → (nat_lt n place && begins_in kind p n) ≡ begins_in kind p n
    all n =
        elim (cases_Bool (begins_in kind p n)) [
          | inl begins ↦
              let upto : n ≤ l = upto_last l n (last_day p) is (begins-inside kind p n begins).1 in
              ap (λ b. b && begins_in kind p n) (lt-ltb n place (omega (arith, upto, past)))
          | inr never ↦ ap (λ b. nat_lt n place && b) never ∙ none (nat_lt n place) ∙ sym never
        ]
      where
        none : (b : Bool) → (b && false) ≡ false
        none true = refl
        none false = refl

-- ---- all periods

pub begins-none : (kind : PeriodType) → AreBegins kind [] []
begins-none kind = record { members = λ n. refl }

pub begins-more : (kind : PeriodType) (periods : List PeriodName) (i : ℕ) (p : PeriodName) (old new : List (ℕ × ℕ)) → i < length periods
    → p ≡ get_or periods i p
    → AreBegins kind (take i periods) old → AddsBegins kind p old new → AreBegins kind (take (i + 1) periods) new
begins-more kind periods i p old new within at before here = record {
  members = λ n.
      here.members n
      ∙ ap (λ b. b || begins_in kind p n) (before.members n)
      ∙ ap (λ q. begins_in_some kind (take i periods) n || begins_in kind q n) at
      ∙ sym (list_any_more (λ q. begins_in kind q n) periods i p within);
}

begins_some-past : (kind : PeriodType) (periods : List PeriodName) (n : ℕ) → 73687 ≤ n → begins_in_some kind periods n ≡ false
begins_some-past kind periods n past =
    list_any_none (λ q. begins_in kind q n) periods (λ k d within. begins-past kind (get_or periods k d) n past)

pub begins-counted : (kind : PeriodType) (periods : List PeriodName) (ranges joined : List (ℕ × ℕ)) → AreBegins kind periods ranges → HoldsTheSame joined ranges
    → AreApart joined → covered joined ≡ periods_due kind periods
unfolding periods_due
begins-counted kind periods ranges joined are same apart =
    covered-count joined 73687 apart (λ n past. same.members n ∙ are.members n ∙ begins_some-past kind periods n past)
    ∙ count_below-agree (is_within joined) (begins_in_some kind periods) 73687 (λ n h. same.members n ∙ are.members n)

pub periods_due-few : (kind : PeriodType) (periods : List PeriodName) → periods_due kind periods ≤ 73687
unfolding periods_due
periods_due-few kind periods = count_below-le (begins_in_some kind periods) 73687
