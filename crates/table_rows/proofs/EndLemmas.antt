-- Of samples in series order the one that counts in each series, found in one pass.
use Rattle.std.proofs.Common.{◌≡◌, ◌∙◌, ℕ, zero, suc, ◌+◌, ◌<◌, ◌≤◌, Bool, true, false, not, cond, ◌&&◌, ◌||◌, List, [], ◌∷◌, ◌++◌, length, map, take}
use Rattle.std.proofs.Common.{get_or, ℤ, pos, ◌+ℤ◌, ◌-ℤ◌, Some, None, inl, inr, refl, sym, ap, subst, arith, length-append, Ordering, Less, Equal, Greater}
use Rattle.std.proofs.Common.{unsigned_abs, ◌^◌, to_z, of_z, to_z-of_z}
use Rattle.std.specs.Int.{w128}
use Rattle.std.proofs.lemmas.Int.{ints, fits_signed_from_abs}
use Rattle.std.specs.Prelude.{nat_eq}
use Rattle.std.specs.Cmp.{IsTotalOrder}
use Rattle.std.specs.List.{filter, list_any, list_all, AllByRecursion}
use Rattle.std.specs.Ordering.{is_gt, is_le, is_eq, ordering_reverse}
use Rattle.std.proofs.lemmas.Bool.{cases_Bool, false≢true, and_parts, ne_eqb, eq-eqb}
use Rattle.std.proofs.lemmas.List.{append-nil, map-append, get_or_default, take_all}
use Rattle.std.proofs.lemmas.List.Elements.{filter-append}
use Rattle.std.proofs.lemmas.List.Folds.{list_any-append}
use Rattle.dh_periods.specs.declared.name.PeriodName.{PeriodName}
use Rattle.dh_periods.specs.Keys.{same_period}
use Rattle.table_rows.specs.Groups.{each_once}
use Rattle.table_rows.specs.Order.{period_cmp}
use Rattle.table_rows.proofs.GroupLemmas.{each_once-push}
use Rattle.table_rows.specs.declared.ends.Run.{Run}
use Rattle.table_rows.specs.declared.sample.Sample.{Sample}
use Rattle.table_rows.specs.declared.sample.Series.{Series}
use Rattle.table_rows.specs.Samples.{series_cmp, same_series, may_precede, in_series_order, has_number, numbered, number_of, total, series_of, goes_beyond}
use Rattle.table_rows.specs.Samples.{outermost, backwards}
use Rattle.table_rows.specs.Ends.{order_of, run_with, begins_series, next_run, found_if_any}
use Rattle.table_rows.specs.declared.ends.End.{End}
use Rattle.table_rows.specs.declared.ends.End.TheVariants.{First, Last}
use Rattle.table_rows.specs.contracts.sample.SeriesOrd.TheImpl.Laws as series
use Rattle.dh_periods.specs.contracts.period.PeriodOrd.TheImpl.Laws as period
use Rattle.std.proofs.lemmas.Cmp.{back_total}
use Rattle.std.proofs.Math.IntN.{+ℤ-neg_ℤ_cancel}
use Rattle.table_rows.proofs.TotalLemmas.{total-push, numbered-more}

-- ---- series

series_total : IsTotalOrder series_cmp
series_total = series.total-law

series_ties : (a b : Series) → same_series a b ≡ is_eq (series_cmp a b)
series_ties a b = series.matches_eq-law a b

itself : (o : Ordering) → o ≡ ordering_reverse o → o ≡ Equal
itself Less e = absurd (cc)
itself Equal e = refl
itself Greater e = absurd (cc)

self_equal : {K : Type 0} (order : K → K → Ordering) → IsTotalOrder order → (p : K) → order p p ≡ Equal
self_equal order t p = itself (order p p) (t.antisymm p p)

equal_from : (o : Ordering) → is_eq o ≡ true → o ≡ Equal
equal_from Less e = absurd (cc)
equal_from Equal e = refl
equal_from Greater e = absurd (cc)

less_from : (o : Ordering) → is_le o ≡ true → is_eq o ≡ false → o ≡ Less
less_from Less a b = refl
less_from Equal a b = absurd (cc)
less_from Greater a b = absurd (cc)

series_equal : (a b : Series) → same_series a b ≡ true → series_cmp a b ≡ Equal
series_equal a b same = equal_from (series_cmp a b) (sym (series_ties a b) ∙ same)

-- what is the same as another compares as that one does
series_congr : (a b c : Series) → same_series a b ≡ true → series_cmp a c ≡ series_cmp b c
series_congr a b c same = series_total.congr a b c (series_equal a b same)

same_congr : (a b c : Series) → same_series a b ≡ true → same_series a c ≡ same_series b c
same_congr a b c same = series_ties a c ∙ ap is_eq (series_congr a b c same) ∙ sym (series_ties b c)

reverse_eq : (o : Ordering) → is_eq (ordering_reverse o) ≡ is_eq o
reverse_eq Less = refl
reverse_eq Equal = refl
reverse_eq Greater = refl

pub same_turned : (a b : Series) → same_series a b ≡ same_series b a
same_turned a b = series_ties a b ∙ ap is_eq (series_total.antisymm a b) ∙ reverse_eq (series_cmp b a) ∙ sym (series_ties b a)

-- s upto b, b before x: s isn't x
apart_later : (s b x : Series) → is_le (series_cmp s b) ≡ true → series_cmp b x ≡ Less → same_series s x ≡ false
apart_later s b x upto less =
    elim (cases_Bool (same_series s x)) [
      | inl same ↦
          let here : is_le (series_cmp x b) ≡ true = ap is_le (sym (series_congr s x b same)) ∙ upto in
          let back : series_cmp x b ≡ Greater = series_total.antisymm x b ∙ ap ordering_reverse less in
          absurd (false≢true (ap is_le (sym back) ∙ here))
      | inr other ↦ other
    ]

-- ---- lists

pub every_same : {X : Type 0} (P Q : X → Type 0) (xs : List X) → ((x : X) → P x → Q x) → AllByRecursion P xs → AllByRecursion Q xs
every_same P Q [] to all = tt
every_same P Q (x ∷ xs) to all = (to x all.0, every_same P Q xs to all.1)

every_filter : {X : Type 0} (P : X → Type 0) (p : X → Bool) (xs : List X) → AllByRecursion P xs → AllByRecursion P (filter p xs)
every_filter P p [] all = tt
every_filter P p (x ∷ xs) all = by_test (p x) (every_filter P p xs all.1)
  where
    by_test : (b : Bool) → AllByRecursion P (filter p xs) → AllByRecursion P (cond b (x ∷ filter p xs) (filter p xs))
    by_test true rest = (all.0, rest)
    by_test false rest = rest

pub every_kept : {X : Type 0} (p : X → Bool) (xs : List X) → AllByRecursion (λ x. p x ≡ true) (filter p xs)
every_kept p [] = tt
every_kept p (x ∷ xs) = by_test (p x) refl (every_kept p xs)
  where
    by_test : (b : Bool) → p x ≡ b → AllByRecursion (λ x. p x ≡ true) (filter p xs) → AllByRecursion (λ x. p x ≡ true) (cond b (x ∷ filter p xs) (filter p xs))
    by_test true is rest = (is, rest)
    by_test false is rest = rest

every_push : {X : Type 0} (P : X → Type 0) (xs : List X) (x : X) → AllByRecursion P xs → P x → AllByRecursion P (xs ++ x ∷ [])
every_push P [] x all last = (last, tt)
every_push P (y ∷ ys) x all last = (all.0, every_push P ys x all.1 last)

at_last : {X : Type 0} (P : X → Type 0) (xs : List X) (x : X) → AllByRecursion P (xs ++ x ∷ []) → P x
at_last P [] x all = all.0
at_last P (y ∷ ys) x all = at_last P ys x all.1

filter_every : {X : Type 0} (p : X → Bool) (xs : List X) → AllByRecursion (λ x. p x ≡ true) xs → filter p xs ≡ xs
filter_every p [] all = refl
filter_every p (x ∷ xs) all = ap (λ b. cond b (x ∷ filter p xs) (filter p xs)) all.0 ∙ ap (λ v. x ∷ v) (filter_every p xs all.1)

any_none : {X : Type 0} (p : X → Bool) (xs : List X) → AllByRecursion (λ x. p x ≡ false) xs → list_any p xs ≡ false
any_none p [] all = refl
any_none p (x ∷ xs) all = ap (λ b. b || list_any p xs) all.0 ∙ any_none p xs all.1

none_any : {X : Type 0} (p : X → Bool) (xs : List X) → list_any p xs ≡ false → AllByRecursion (λ x. p x ≡ false) xs
none_any p [] none = tt
none_any p (x ∷ xs) none = by_test (p x) refl (λ e. none_any p xs e) none
  where
    by_test : (b : Bool) → p x ≡ b → (list_any p xs ≡ false → AllByRecursion (λ x. p x ≡ false) xs) → (b || list_any p xs) ≡ false
        → (p x ≡ false) × AllByRecursion (λ x. p x ≡ false) xs
    by_test true is rest none = absurd (false≢true (sym none))
    by_test false is rest none = (is, rest none)

any_push : {X : Type 0} (p : X → Bool) (xs : List X) (x : X) → list_any p (xs ++ x ∷ []) ≡ (list_any p xs || p x)
any_push p xs x = list_any-append p xs (x ∷ []) ∙ ap (λ b. list_any p xs || b) (or_false (p x))
  where
    or_false : (b : Bool) → (b || false) ≡ b
    or_false true = refl
    or_false false = refl

filter_both : {X : Type 0} (p q : X → Bool) (xs : List X) → filter q (filter p xs) ≡ filter (λ x. p x && q x) xs
filter_both p q [] = refl
filter_both p q (x ∷ xs) = by_test (p x) (filter_both p q xs)
  where
    by_test : (b : Bool) → filter q (filter p xs) ≡ filter (λ x. p x && q x) xs
        → filter q (cond b (x ∷ filter p xs) (filter p xs)) ≡ cond (b && q x) (x ∷ filter (λ x. p x && q x) xs) (filter (λ x. p x && q x) xs)
    by_test true is = ap (λ v. cond (q x) (x ∷ v) v) is
    by_test false is = is

pub filter_same : {X : Type 0} (p q : X → Bool) (xs : List X) → ((x : X) → p x ≡ q x) → filter p xs ≡ filter q xs
filter_same p q [] same = refl
filter_same p q (x ∷ xs) same = ap (λ b. cond b (x ∷ filter p xs) (filter p xs)) (same x) ∙ ap (λ ys. cond (q x) (x ∷ ys) ys) (filter_same p q xs same)

-- ---- what was found

-- what was found in some samples: nothing in none, else the sample that counts in the last series is known
pub record Held (order : PeriodName → PeriodName → Ordering) (ns : List Sample) (run : Run) (best : Sample) : Type 0 where
  pub kept : List Sample
  pub lasts : outermost order ns ≡ kept ++ best ∷ []
  pub others : AllByRecursion (λ s. same_series s.series best.series ≡ false) kept
  pub upto : AllByRecursion (λ s. is_le (series_cmp s.series best.series) ≡ true) ns
  pub micros : run.micros ≡ total number_of (outermost order ns)
  pub series : run.series ≡ length (series_of ns)

abbrev pub IsRun : (PeriodName → PeriodName → Ordering) → List Sample → Run → Sample → Type 0
IsRun order [] run best = (run.micros ≡ pos 0) × (run.series ≡ 0)
IsRun order (s ∷ ss) run best = Held order (s ∷ ss) run best

run_from_held : (order : PeriodName → PeriodName → Ordering) (ns : List Sample) (x : Sample) (run : Run) (best : Sample) → Held order (ns ++ x ∷ []) run best
    → IsRun order (ns ++ x ∷ []) run best
run_from_held order [] x run best held = held
run_from_held order (n ∷ ns) x run best held = held

-- ---- one more

-- an order of periods
pub record IsPeriodOrder (order : PeriodName → PeriodName → Ordering) : Type 0 where
  pub whole : IsTotalOrder order
  pub ties : (p q : PeriodName) → same_period p q ≡ is_eq (order p q)

pub forwards-order : IsPeriodOrder period_cmp
forwards-order = record { whole = period.total-law; ties = λ p q. period.matches_eq-law p q }

pub backwards-order : IsPeriodOrder backwards
backwards-order = record {
  whole = back_total period.total-law;
  ties = λ p q. period.matches_eq-law p q ∙ ap is_eq (period.total-law.antisymm p q) ∙ reverse_eq (period_cmp q p);
}

counts : (PeriodName → PeriodName → Ordering) → List Sample → Sample → Bool
counts order ns s = not (list_any (λ other. goes_beyond order other s) ns)

not_or : (a b : Bool) → not (a || b) ≡ (not a && not b)
not_or true b = refl
not_or false b = refl

and_true : (b : Bool) → (b && true) ≡ b
and_true true = refl
and_true false = refl

counts-push : (order : PeriodName → PeriodName → Ordering) (ns : List Sample) (x s : Sample)
    → not (list_any (λ other. goes_beyond order other s) (ns ++ x ∷ []))
    ≡ (not (list_any (λ other. goes_beyond order other s) ns) && not (goes_beyond order x s))
counts-push order ns x s =
    ap not (any_push (λ other. goes_beyond order other s) ns x) ∙ not_or (list_any (λ other. goes_beyond order other s) ns) (goes_beyond order x s)

not_beyond_itself : (order : PeriodName → PeriodName → Ordering) → IsPeriodOrder order → (x : Sample) → goes_beyond order x x ≡ false
not_beyond_itself order o x =
    ap (λ b. same_series x.series x.series && b) (ap is_gt (self_equal order o.whole x.period)) ∙ and_false (same_series x.series x.series)
  where
    and_false : (b : Bool) → (b && false) ≡ false
    and_false true = refl
    and_false false = refl

outermost-push : (order : PeriodName → PeriodName → Ordering) → IsPeriodOrder order → (ns : List Sample) (x : Sample)
    → outermost order (ns ++ x ∷ []) ≡ filter (λ s. not (goes_beyond order x s)) (outermost order ns)
    ++ cond (not (list_any (λ other. goes_beyond order other x) ns)) (x ∷ []) []
outermost-push order o ns x =
    let now : Sample → Bool = λ s. not (list_any (λ other. goes_beyond order other s) (ns ++ x ∷ [])) in
    let before : Sample → Bool = λ s. not (list_any (λ other. goes_beyond order other s) ns) in
    let own : now x ≡ before x = counts-push order ns x x ∙ ap (λ b. before x && not b) (not_beyond_itself order o x) ∙ and_true (before x) in
    filter-append now ns (x ∷ [])
    ∙ ap (λ ys. ys ++ cond (now x) (x ∷ []) []) (filter_same now (λ s. before s && not (goes_beyond order x s)) ns (counts-push order ns x)
    ∙ sym (filter_both before (λ s. not (goes_beyond order x s)) ns))
    ∙ ap (λ b. filter (λ s. not (goes_beyond order x s)) (outermost order ns) ++ cond b (x ∷ []) []) own

-- a sample of another series goes beyond none
other_series : (order : PeriodName → PeriodName → Ordering) (x s : Sample) → same_series x.series s.series ≡ false → goes_beyond order x s ≡ false
other_series order x s apart = ap (λ b. b && is_gt (order x.period s.period)) apart

le_from : (s x : Sample) → may_precede s x ≡ true → is_le (series_cmp s.series x.series) ≡ true
le_from s x may = (and_parts (is_le (series_cmp s.series x.series)) (not (same_series s.series x.series && same_period s.period x.period)) may).0

le_self : (s : Series) → is_le (series_cmp s s) ≡ true
le_self s = ap is_le (self_equal series_cmp series_total s)

upto_new : (ns : List Sample) (x : Sample) → AllByRecursion (λ s. may_precede s x ≡ true) ns
    → AllByRecursion (λ (s : Sample). is_le (series_cmp s.series x.series) ≡ true) (ns ++ x ∷ [])
upto_new ns x may =
    every_push (λ (s : Sample). is_le (series_cmp s.series x.series) ≡ true) ns x
    (every_same (λ s. may_precede s x ≡ true) (λ (s : Sample). is_le (series_cmp s.series x.series) ≡ true) ns (λ s e. le_from s x e) may) (le_self x.series)

map_push : (ns : List Sample) (x : Sample) → map (λ (s : Sample). s.series) (ns ++ x ∷ []) ≡ map (λ (s : Sample). s.series) ns ++ x.series ∷ []
map_push ns x = map-append (λ (s : Sample). s.series) ns (x ∷ [])

series-push : (ns : List Sample) (x : Sample) (known : Bool) → list_any (λ (s : Sample). same_series s.series x.series) ns ≡ known
    → series_of (ns ++ x ∷ []) ≡ series_of ns ++ cond known [] (x.series ∷ [])
series-push ns x known is =
    ap (each_once same_series) (map_push ns x)
    ∙ each_once-push same_series (map (λ (s : Sample). s.series) ns) x.series
    ∙ ap (λ b. series_of ns ++ cond b [] (x.series ∷ [])) (any_map ns ∙ is)
  where
    any_map : (ms : List Sample)
        → list_any (λ y. same_series y x.series) (map (λ (s : Sample). s.series) ms) ≡ list_any (λ (s : Sample). same_series s.series x.series) ms
    any_map [] = refl
    any_map (m ∷ ms) = ap (λ b. same_series m.series x.series || b) (any_map ms)

-- a sample of a new series
begins : (order : PeriodName → PeriodName → Ordering) → IsPeriodOrder order → (ns : List Sample) (x : Sample) (m : ℤ) (n at : ℕ)
    → AllByRecursion (λ s. may_precede s x ≡ true) ns → AllByRecursion (λ (s : Sample). same_series s.series x.series ≡ false) ns
    → m ≡ total number_of (outermost order ns) → n ≡ length (series_of ns) → Held order (ns ++ x ∷ []) (run_with (m +ℤ number_of x) (n + 1) at) x
begins order o ns x m n at may apart micros series =
    let none_beyond : AllByRecursion (λ s. not (goes_beyond order x s) ≡ true) ns =
    every_same (λ (s : Sample). same_series s.series x.series ≡ false) (λ s. not (goes_beyond order x s) ≡ true) ns
    (λ s e. ap not (other_series order x s (same_turned x.series s.series ∙ e))) apart in
    let counted : not (list_any (λ other. goes_beyond order other x) ns) ≡ true =
    ap not (any_none (λ other. goes_beyond order other x) ns
    (every_same (λ (s : Sample). same_series s.series x.series ≡ false) (λ s. goes_beyond order s x ≡ false) ns (λ s e. other_series order s x e) apart)) in
    let lasts : outermost order (ns ++ x ∷ []) ≡ outermost order ns ++ x ∷ [] =
    outermost-push order o ns x
    ∙ ap (λ ys. ys ++ cond (not (list_any (λ other. goes_beyond order other x) ns)) (x ∷ []) [])
    (filter_every (λ s. not (goes_beyond order x s)) (outermost order ns)
    (every_filter (λ s. not (goes_beyond order x s) ≡ true) (λ s. not (list_any (λ other. goes_beyond order other s) ns)) ns none_beyond))
    ∙ ap (λ b. outermost order ns ++ cond b (x ∷ []) []) counted in
    let new : series_of (ns ++ x ∷ []) ≡ series_of ns ++ x.series ∷ [] =
    series-push ns x false (any_none (λ (s : Sample). same_series s.series x.series) ns apart) in
    record {
      kept = outermost order ns;
      lasts = lasts;
      others = every_filter (λ (s : Sample). same_series s.series x.series ≡ false) (λ s. not (list_any (λ other. goes_beyond order other s) ns)) ns apart;
      upto = upto_new ns x may;
      micros = ap (λ t. t +ℤ number_of x) micros ∙ sym (total-push number_of (outermost order ns) x) ∙ ap (total number_of) (sym lasts);
      series = ap (λ k. k + 1) series ∙ sym (length-append (series_of ns) (x.series ∷ [])) ∙ ap length (sym new);
    }

-- what holds of all samples holds of the one that counts in the last series
of_best : (order : PeriodName → PeriodName → Ordering) (P : Sample → Type 0) (ns kept : List Sample) (best : Sample) → outermost order ns ≡ kept ++ best ∷ []
    → AllByRecursion P ns → P best
of_best order P ns kept best lasts all =
    at_last P kept best (subst (AllByRecursion P) lasts (every_filter P (λ s. not (list_any (λ other. goes_beyond order other s) ns)) ns all))

-- some of the samples is such where the one that counts in the last series is
some_as_best : (order : PeriodName → PeriodName → Ordering) (p : Sample → Bool) (ns kept : List Sample) (best : Sample) → outermost order ns ≡ kept ++ best ∷ []
    → p best ≡ true → list_any p ns ≡ true
some_as_best order p ns kept best lasts is =
    elim (cases_Bool (list_any p ns)) [
      | inl found ↦ found
      | inr none ↦ absurd (false≢true (sym (of_best order (λ s. p s ≡ false) ns kept best lasts (none_any p ns none)) ∙ is))
    ]

not_true : (b : Bool) → not b ≡ true → b ≡ false
not_true true e = absurd (false≢true e)
not_true false e = refl

-- none of its series goes beyond the one that counts
best_counts : (order : PeriodName → PeriodName → Ordering) (ns kept : List Sample) (best : Sample) → outermost order ns ≡ kept ++ best ∷ []
    → AllByRecursion (λ s. goes_beyond order s best ≡ false) ns
best_counts order ns kept best lasts =
    none_any (λ s. goes_beyond order s best) ns
    (not_true (list_any (λ s. goes_beyond order s best) ns)
    (at_last (λ s. not (list_any (λ other. goes_beyond order other s) ns) ≡ true) kept best
    (subst (AllByRecursion (λ s. not (list_any (λ other. goes_beyond order other s) ns) ≡ true)) lasts
    (every_kept (λ s. not (list_any (λ other. goes_beyond order other s) ns)) ns))))

filter_end : (p : Sample → Bool) (kept : List Sample) (best : Sample) (b : Bool) → AllByRecursion (λ s. p s ≡ true) kept → p best ≡ b
    → filter p (kept ++ best ∷ []) ≡ kept ++ cond b (best ∷ []) []
filter_end p kept best b all is =
    filter-append p kept (best ∷ []) ∙ ap (λ ys. ys ++ cond (p best) (best ∷ []) []) (filter_every p kept all) ∙ ap (λ c. kept ++ cond c (best ∷ []) []) is

-- the kept ones are of other series than a sample of the last series
kept_pass : (order : PeriodName → PeriodName → Ordering) (kept : List Sample) (best x : Sample) → same_series x.series best.series ≡ true
    → AllByRecursion (λ (s : Sample). same_series s.series best.series ≡ false) kept → AllByRecursion (λ s. not (goes_beyond order x s) ≡ true) kept
kept_pass order kept best x same others =
    every_same (λ (s : Sample). same_series s.series best.series ≡ false) (λ s. not (goes_beyond order x s) ≡ true) kept
    (λ s e. ap not (other_series order x s (same_congr x.series best.series s.series same ∙ same_turned best.series s.series ∙ e))) others

gt_less : (o : Ordering) → is_gt o ≡ true → ordering_reverse o ≡ Less
gt_less Less e = absurd (false≢true e)
gt_less Equal e = absurd (false≢true e)
gt_less Greater e = refl

-- t isn't beyond b, x is: t isn't beyond x
not_beyond : (order : PeriodName → PeriodName → Ordering) → IsTotalOrder order → (t b x : PeriodName) → is_gt (order t b) ≡ false → is_gt (order x b) ≡ true
    → is_gt (order t x) ≡ false
not_beyond order o t b x upto above =
    let less : order b x ≡ Less = o.antisymm b x ∙ gt_less (order x b) above in
    by_order (order t b) refl upto less
  where
    by_order : (c : Ordering) → order t b ≡ c → is_gt c ≡ false → order b x ≡ Less → is_gt (order t x) ≡ false
    by_order Less is e less = ap is_gt (o.trans t b x is less)
    by_order Equal is e less = ap is_gt (o.congr t b x is ∙ less)
    by_order Greater is e less = absurd (false≢true (sym e))

-- a known series has no further one
series-known : (order : PeriodName → PeriodName → Ordering) (ns kept : List Sample) (best x : Sample) → outermost order ns ≡ kept ++ best ∷ []
    → same_series x.series best.series ≡ true
    → series_of (ns ++ x ∷ []) ≡ series_of ns
series-known order ns kept best x lasts same =
    series-push ns x true
    (some_as_best order (λ (s : Sample). same_series s.series x.series) ns kept best lasts (same_turned best.series x.series ∙ same))
    ∙ append-nil (series_of ns)

upto_known : (order : PeriodName → PeriodName → Ordering) (ns : List Sample) (best x : Sample) → same_series x.series best.series ≡ true
    → AllByRecursion (λ (s : Sample). is_le (series_cmp s.series best.series) ≡ true) ns
    → AllByRecursion (λ (s : Sample). is_le (series_cmp s.series best.series) ≡ true) (ns ++ x ∷ [])
upto_known order ns best x same upto =
    every_push (λ (s : Sample). is_le (series_cmp s.series best.series) ≡ true) ns x upto (ap is_le (series_equal x.series best.series same))

-- a sample of the last series that goes beyond the one that counted
goes_on : (order : PeriodName → PeriodName → Ordering) → IsPeriodOrder order → (ns : List Sample) (x best : Sample) (run : Run) (at : ℕ)
    → AllByRecursion (λ s. may_precede s x ≡ true) ns → same_series x.series best.series ≡ true → is_gt (order x.period best.period) ≡ true
    → Held order ns run best
    → Held order (ns ++ x ∷ []) (run_with ((run.micros -ℤ number_of best) +ℤ number_of x) run.series at) x
goes_on order o ns x best run at may same above held =
    let beyond : goes_beyond order x best ≡ true = ap (λ b. b && is_gt (order x.period best.period)) same ∙ above in
    let left : filter (λ s. not (goes_beyond order x s)) (outermost order ns) ≡ held.kept =
    ap (filter (λ s. not (goes_beyond order x s))) held.lasts
    ∙ filter_end (λ s. not (goes_beyond order x s)) held.kept best false (kept_pass order held.kept best x same held.others) (ap not beyond)
    ∙ append-nil held.kept in
    let counted : list_any (λ other. goes_beyond order other x) ns ≡ false =
    any_none (λ other. goes_beyond order other x) ns
    (every_same (λ s. goes_beyond order s best ≡ false) (λ s. goes_beyond order s x ≡ false) ns (λ s e. below s e)
    (best_counts order ns held.kept best held.lasts)) in
    let lasts : outermost order (ns ++ x ∷ []) ≡ held.kept ++ x ∷ [] =
    outermost-push order o ns x
    ∙ ap (λ ys. ys ++ cond (not (list_any (λ other. goes_beyond order other x) ns)) (x ∷ []) []) left
    ∙ ap (λ b. held.kept ++ cond (not b) (x ∷ []) []) counted in
    let sum : run.micros ≡ total number_of held.kept +ℤ number_of best = held.micros ∙ ap (total number_of) held.lasts ∙ total-push number_of held.kept best in
    record {
      kept = held.kept;
      lasts = lasts;
      others = every_same (λ (s : Sample). same_series s.series best.series ≡ false) (λ (s : Sample). same_series s.series x.series ≡ false) held.kept
          (λ s e. same_turned s.series x.series ∙ same_congr x.series best.series s.series same ∙ same_turned best.series s.series ∙ e) held.others;
      upto = upto_new ns x may;
      micros = ap (λ t. (t -ℤ number_of best) +ℤ number_of x) sum
          ∙ ap (λ t. t +ℤ number_of x) (+ℤ-neg_ℤ_cancel (total number_of held.kept) (number_of best))
          ∙ sym (total-push number_of held.kept x) ∙ ap (total number_of) (sym lasts);
      series = held.series ∙ ap length (sym (series-known order ns held.kept best x held.lasts same));
    }
  where
    below : (s : Sample) → goes_beyond order s best ≡ false → goes_beyond order s x ≡ false
    below s e = by_series (same_series s.series x.series) refl
      where
        by_series : (b : Bool) → same_series s.series x.series ≡ b → (b && is_gt (order s.period x.period)) ≡ false
        by_series false is = refl
        by_series true is =
            let own : same_series s.series best.series ≡ true = same_congr s.series x.series best.series is ∙ same in
            let upto : is_gt (order s.period best.period) ≡ false = ap (λ b. b && is_gt (order s.period best.period)) (sym own) ∙ e in
            not_beyond order o.whole s.period best.period x.period upto above

not_gt : (o : Ordering) → is_gt o ≡ false → is_eq o ≡ false → is_gt (ordering_reverse o) ≡ true
not_gt Less a b = refl
not_gt Equal a b = absurd (false≢true (sym b))
not_gt Greater a b = absurd (false≢true (sym a))

-- a sample of the last series that doesn't
stays : (order : PeriodName → PeriodName → Ordering) → IsPeriodOrder order → (ns : List Sample) (x best : Sample) (run : Run)
    → AllByRecursion (λ s. may_precede s x ≡ true) ns → same_series x.series best.series ≡ true → is_gt (order x.period best.period) ≡ false
    → Held order ns run best
    → Held order (ns ++ x ∷ []) run best
stays order o ns x best run may same below held =
    let beyond : goes_beyond order x best ≡ false = ap (λ b. b && is_gt (order x.period best.period)) same ∙ below in
    let left : filter (λ s. not (goes_beyond order x s)) (outermost order ns) ≡ held.kept ++ best ∷ [] =
    ap (filter (λ s. not (goes_beyond order x s))) held.lasts
    ∙ filter_end (λ s. not (goes_beyond order x s)) held.kept best true (kept_pass order held.kept best x same held.others) (ap not beyond) in
    let back : same_series best.series x.series ≡ true = same_turned best.series x.series ∙ same in
    let before : may_precede best x ≡ true = of_best order (λ s. may_precede s x ≡ true) ns held.kept best held.lasts may in
    let differs : (same_series best.series x.series && same_period best.period x.period) ≡ false =
    not_true (same_series best.series x.series && same_period best.period x.period)
    (and_parts (is_le (series_cmp best.series x.series)) (not (same_series best.series x.series && same_period best.period x.period)) before).1 in
    let apart : same_period best.period x.period ≡ false = ap (λ b. b && same_period best.period x.period) (sym back) ∙ differs in
    let other_way : is_eq (order x.period best.period) ≡ false =
    ap is_eq (o.whole.antisymm x.period best.period) ∙ reverse_eq (order best.period x.period) ∙ sym (o.ties best.period x.period) ∙ apart in
    let above : is_gt (order best.period x.period) ≡ true =
    ap is_gt (o.whole.antisymm best.period x.period) ∙ not_gt (order x.period best.period) below other_way in
    let known : list_any (λ other. goes_beyond order other x) ns ≡ true =
    some_as_best order (λ other. goes_beyond order other x) ns held.kept best held.lasts (ap (λ b. b && is_gt (order best.period x.period)) back ∙ above) in
    let lasts : outermost order (ns ++ x ∷ []) ≡ held.kept ++ best ∷ [] =
    outermost-push order o ns x
    ∙ ap (λ ys. ys ++ cond (not (list_any (λ other. goes_beyond order other x) ns)) (x ∷ []) []) left
    ∙ ap (λ b. (held.kept ++ best ∷ []) ++ cond (not b) (x ∷ []) []) known
    ∙ append-nil (held.kept ++ best ∷ []) in
    record {
      kept = held.kept;
      lasts = lasts;
      others = held.others;
      upto = upto_known order ns best x same held.upto;
      micros = held.micros ∙ ap (total number_of) (held.lasts ∙ sym lasts);
      series = held.series ∙ ap length (sym (series-known order ns held.kept best x held.lasts same));
    }

-- ---- the step

not_zero : (k m : ℕ) → k ≡ suc m → nat_eq k 0 ≡ false
not_zero k m e = ne_eqb k 0 (λ z. (let bad : suc m ≡ 0 = sym e ∙ z in absurd (omega arith)))

apart_all : (ns : List Sample) (x best : Sample) → AllByRecursion (λ s. may_precede s x ≡ true) ns → may_precede best x ≡ true
    → same_series x.series best.series ≡ false
    → AllByRecursion (λ (s : Sample). is_le (series_cmp s.series best.series) ≡ true) ns
    → AllByRecursion (λ (s : Sample). same_series s.series x.series ≡ false) ns
apart_all ns x best may best_may other upto =
    let less : series_cmp best.series x.series ≡ Less =
    less_from (series_cmp best.series x.series) (le_from best x best_may) (sym (series_ties best.series x.series) ∙ same_turned best.series x.series ∙ other) in
    every_same (λ (s : Sample). is_le (series_cmp s.series best.series) ≡ true) (λ (s : Sample). same_series s.series x.series ≡ false) ns
    (λ s e. apart_later s.series best.series x.series e less) upto

-- the next run by its tests
abbrev next_by : (PeriodName → PeriodName → Ordering) → Run → Sample → Sample → ℕ → Bool → Bool → Bool → Bool → Run
next_by order run best x at number empty same above =
    cond (not number) run
    (cond (empty || not same) (run_with (run.micros +ℤ number_of x) (run.series + 1) at)
    (cond above (run_with ((run.micros -ℤ number_of best) +ℤ number_of x) run.series at) run))

abbrev Stands : (PeriodName → PeriodName → Ordering) → List Sample → Sample → (ℕ → Sample) → Run → Type 0
Stands order ns x at_place run = IsRun order (ns ++ x ∷ []) run (at_place run.best)

stands_from_held : (order : PeriodName → PeriodName → Ordering) (ns : List Sample) (x best : Sample) (at_place : ℕ → Sample) (run : Run)
    → at_place run.best ≡ best
    → Held order (ns ++ x ∷ []) run best → Stands order ns x at_place run
stands_from_held order ns x best at_place run at held =
    run_from_held order ns x run (at_place run.best) (subst (λ (b : Sample). Held order (ns ++ x ∷ []) run b) (sym at) held)

first_step : (order : PeriodName → PeriodName → Ordering) → IsPeriodOrder order → (x best : Sample) (run : Run) (at : ℕ) (at_place : ℕ → Sample)
    → at_place at ≡ x → IsRun order [] run best
    → Stands order [] x at_place (next_by order run best x at true (nat_eq run.series 0) (same_series x.series best.series)
    (is_gt (order x.period best.period)))
first_step order o x best run at at_place at_x is =
    let empty : nat_eq run.series 0 ≡ true = eq-eqb run.series 0 is.1 in
    subst (λ (b : Bool). Stands order [] x at_place
    (next_by order run best x at true b (same_series x.series best.series) (is_gt (order x.period best.period)))) (sym empty)
    (stands_from_held order [] x x at_place (run_with (run.micros +ℤ number_of x) (run.series + 1) at) at_x
    (begins order o [] x run.micros run.series at tt tt is.0 is.1))

held_step : (order : PeriodName → PeriodName → Ordering) → IsPeriodOrder order
    → (ns : List Sample) (x best : Sample) (run : Run) (at : ℕ) (at_place : ℕ → Sample)
    → AllByRecursion (λ s. may_precede s x ≡ true) ns → at_place run.best ≡ best → at_place at ≡ x → Held order ns run best
    → (same above : Bool) → same_series x.series best.series ≡ same → is_gt (order x.period best.period) ≡ above
    → Stands order ns x at_place (next_by order run best x at true false same above)
held_step order o ns x best run at at_place may at_best at_x held false above is_same is_above =
    stands_from_held order ns x x at_place (run_with (run.micros +ℤ number_of x) (run.series + 1) at) at_x
    (begins order o ns x run.micros run.series at may
    (apart_all ns x best may (of_best order (λ s. may_precede s x ≡ true) ns held.kept best held.lasts may) is_same held.upto) held.micros held.series)
held_step order o ns x best run at at_place may at_best at_x held true true is_same is_above =
    stands_from_held order ns x x at_place (run_with ((run.micros -ℤ number_of best) +ℤ number_of x) run.series at) at_x
    (goes_on order o ns x best run at may is_same is_above held)
held_step order o ns x best run at at_place may at_best at_x held true false is_same is_above =
    stands_from_held order ns x best at_place run at_best (stays order o ns x best run may is_same is_above held)

later_step : (order : PeriodName → PeriodName → Ordering) → IsPeriodOrder order
    → (n : Sample) (ns : List Sample) (x best : Sample) (run : Run) (at : ℕ) (at_place : ℕ → Sample)
    → AllByRecursion (λ s. may_precede s x ≡ true) (n ∷ ns) → at_place run.best ≡ best → at_place at ≡ x → Held order (n ∷ ns) run best
    → Stands order (n ∷ ns) x at_place (next_by order run best x at true (nat_eq run.series 0) (same_series x.series best.series)
    (is_gt (order x.period best.period)))
later_step order o n ns x best run at at_place may at_best at_x held =
    let some : nat_eq run.series 0 ≡ false = not_zero run.series _ held.series in
    subst (λ (b : Bool). Stands order (n ∷ ns) x at_place
    (next_by order run best x at true b (same_series x.series best.series) (is_gt (order x.period best.period)))) (sym some)
    (held_step order o (n ∷ ns) x best run at at_place may at_best at_x held (same_series x.series best.series) (is_gt (order x.period best.period)) refl refl)

step_by : (order : PeriodName → PeriodName → Ordering) → IsPeriodOrder order → (ns : List Sample) (x best : Sample) (run : Run) (at : ℕ) (at_place : ℕ → Sample)
    → AllByRecursion (λ s. may_precede s x ≡ true) ns → at_place run.best ≡ best → at_place at ≡ x → IsRun order ns run best
    → Stands order ns x at_place (next_by order run best x at true (nat_eq run.series 0) (same_series x.series best.series)
    (is_gt (order x.period best.period)))
step_by order o [] x best run at at_place may at_best at_x is = first_step order o x best run at at_place at_x is
step_by order o (n ∷ ns) x best run at at_place may at_best at_x is = later_step order o n ns x best run at at_place may at_best at_x is

-- a sample with a number more; `at_place` gives the samples by their places
pub run-step : (order : PeriodName → PeriodName → Ordering) → IsPeriodOrder order
    → (ns : List Sample) (x best : Sample) (run : Run) (at : ℕ) (at_place : ℕ → Sample)
    → AllByRecursion (λ s. may_precede s x ≡ true) ns → has_number x ≡ true → at_place run.best ≡ best → at_place at ≡ x → IsRun order ns run best
    → IsRun order (ns ++ x ∷ []) (next_run order run best x at) (at_place (next_run order run best x at).best)
run-step order o ns x best run at at_place may numbered at_best at_x is =
    subst (λ (b : Bool). Stands order ns x at_place
    (next_by order run best x at b (nat_eq run.series 0) (same_series x.series best.series) (is_gt (order x.period best.period)))) (sym numbered)
    (step_by order o ns x best run at at_place may at_best at_x is)

-- ---- a loop's step

-- each sample may stand before those after it
may_all : (samples : List Sample) (i : ℕ) (x : Sample) → in_series_order samples ≡ true → i < length samples → x ≡ get_or samples i x
    → AllByRecursion (λ s. may_precede s x ≡ true) (take i samples)
may_all [] i x ordered within at = absurd (omega arith)
may_all (s ∷ ss) zero x ordered within at = tt
may_all (s ∷ ss) (suc i) x ordered within at =
    let parts = and_parts (list_all (may_precede s) ss) (in_series_order ss) ordered in
    (pass ss i parts.0 (omega arith) at, may_all ss i x parts.1 (omega arith) at)
  where
    pass : (ts : List Sample) (k : ℕ) → list_all (may_precede s) ts ≡ true → k < length ts → x ≡ get_or ts k x → may_precede s x ≡ true
    pass [] k all within at = absurd (omega arith)
    pass (t ∷ ts) zero all within at = ap (may_precede s) at ∙ (and_parts (may_precede s t) (list_all (may_precede s) ts) all).0
    pass (t ∷ ts) (suc k) all within at = pass ts k (and_parts (may_precede s t) (list_all (may_precede s) ts) all).1 (omega arith) at

-- what was found in the first samples
abbrev pub IsRunAt : (PeriodName → PeriodName → Ordering) → List Sample → ℕ → Run → Type 0
IsRunAt order samples i run = (d : Sample) → IsRun order (numbered (take i samples)) run (get_or samples run.best d)

pub run-more : (order : PeriodName → PeriodName → Ordering) → IsPeriodOrder order → (samples : List Sample) (i : ℕ) (x best : Sample) (run new : Run)
    → in_series_order samples ≡ true → i < length samples → x ≡ get_or samples i x → run.best < length samples → best ≡ get_or samples run.best best
    → IsRunAt order samples i run → new ≡ next_run order run best x i → IsRunAt order samples (i + 1) new
run-more order o samples i x best run new ordered within at best_within at_best is step d =
    let at_place : ℕ → Sample = λ k. get_or samples k d in
    let has_best : at_place run.best ≡ best = get_or_default samples run.best d best best_within ∙ sym at_best in
    let has_x : at_place i ≡ x = get_or_default samples i d x within ∙ sym at in
    subst (λ (r : Run). IsRun order (numbered (take (i + 1) samples)) r (get_or samples r.best d)) (sym step)
    (subst (λ (ns : List Sample). IsRun order ns (next_run order run best x i) (at_place (next_run order run best x i).best))
    (sym (numbered-more samples i x within at))
    (elim (cases_Bool (has_number x)) [
      | inl numbered_is ↦
          subst (λ (b : Bool). IsRun order (numbered (take i samples) ++ cond b (x ∷ []) []) (next_run order run best x i)
          (at_place (next_run order run best x i).best)) (sym numbered_is)
          (run-step order o (numbered (take i samples)) x best run i at_place
          (every_filter (λ s. may_precede s x ≡ true) has_number (take i samples) (may_all samples i x ordered within at)) numbered_is has_best has_x
          (subst (λ (b : Sample). IsRun order (numbered (take i samples)) run b) has_best (is d)))
      | inr absent ↦
          subst (λ (b : Bool). IsRun order (numbered (take i samples) ++ cond b (x ∷ []) [])
          (next_by order run best x i b (nat_eq run.series 0) (same_series x.series best.series) (is_gt (order x.period best.period)))
          (at_place (next_by order run best x i b (nat_eq run.series 0) (same_series x.series best.series) (is_gt (order x.period best.period))).best))
          (sym absent)
          (subst (λ (ns : List Sample). IsRun order ns run (at_place run.best)) (sym (append-nil (numbered (take i samples)))) (is d))
    ]))

pub order_of-is : (end : End) → IsPeriodOrder (order_of end)
order_of-is Last = forwards-order
order_of-is First = backwards-order

-- ---- at the end

run_of_all : (order : PeriodName → PeriodName → Ordering) (samples : List Sample) (i : ℕ) (run : Run) (d : Sample) → length samples ≤ i
    → IsRunAt order samples i run
    → IsRun order (numbered samples) run (get_or samples run.best d)
run_of_all order samples i run d past is =
    subst (λ (ss : List Sample). IsRun order (numbered ss) run (get_or samples run.best d)) (take_all i samples past) (is d)

none_of : (order : PeriodName → PeriodName → Ordering) (ns : List Sample) (run : Run) (best : Sample) (m : ℤ) (n : ℕ) → IsRun order ns run best → run.series ≡ 0
    → None ≡ found_if_any ns m n
none_of order [] run best m n is zero_is = refl
none_of order (s ∷ ss) run best m n is zero_is =
    let held : Held order (s ∷ ss) run best = is in
    let bad : 0 ≡ suc _ = sym zero_is ∙ held.series in
    absurd (omega arith)

some_of : (order : PeriodName → PeriodName → Ordering) (ns : List Sample) (run : Run) (best : Sample) → IsRun order ns run best → (run.series ≡ 0 → ⊥)
    → Some (record { micros = run.micros; series = run.series }) ≡ found_if_any ns (total number_of (outermost order ns)) (length (series_of ns))
some_of order [] run best is some = absurd (some is.1)
some_of order (s ∷ ss) run best is some =
    let held : Held order (s ∷ ss) run best = is in
    rw (held.micros, held.series) refl

pub run-none : (order : PeriodName → PeriodName → Ordering) (samples : List Sample) (i : ℕ) (run : Run) → length samples ≤ i → IsRunAt order samples i run
    → run.series ≡ 0
    → None ≡ found_if_any (numbered samples) (total number_of (outermost order (numbered samples))) (length (series_of (numbered samples)))
run-none order [] i run past is zero_is = refl
run-none order (s ∷ ss) i run past is zero_is =
    none_of order (numbered (s ∷ ss)) run (get_or (s ∷ ss) run.best s) _ _ (run_of_all order (s ∷ ss) i run s past is) zero_is

pub run-some : (order : PeriodName → PeriodName → Ordering) (samples : List Sample) (i : ℕ) (run : Run) → length samples ≤ i → i ≤ length samples
    → IsRunAt order samples i run → run.series ≤ i → (run.series ≡ 0 → ⊥)
    → Some (record { micros = run.micros; series = run.series })
    ≡ found_if_any (numbered samples) (total number_of (outermost order (numbered samples))) (length (series_of (numbered samples)))
run-some order [] i run past within is few some = absurd (some (omega arith))
run-some order (s ∷ ss) i run past within is few some =
    some_of order (numbered (s ∷ ss)) run (get_or (s ∷ ss) run.best s) (run_of_all order (s ∷ ss) i run s past is) some

-- ---- one sample more, by what its tests say

by_false : {A : Type 0} (t : Bool) (x y : A) → t ≡ false → y ≡ cond t x y
by_false false x y is = refl
by_false true x y is = absurd cc

by_true : {A : Type 0} (t : Bool) (x y : A) → t ≡ true → x ≡ cond t x y
by_true true x y is = refl
by_true false x y is = absurd cc

-- it has no number
pub next-none : (order : PeriodName → PeriodName → Ordering) (run : Run) (best sample : Sample) (at : ℕ) → has_number sample ≡ false
    → run ≡ next_run order run best sample at
next-none order run best sample at none = by_true (not (has_number sample)) run _ (ap (λ b. not b) none)

-- the best of its series stays
pub next-same : (order : PeriodName → PeriodName → Ordering) (run : Run) (best sample : Sample) (at : ℕ) → has_number sample ≡ true
    → begins_series run best sample ≡ false → is_gt (order sample.period best.period) ≡ false
    → run ≡ next_run order run best sample at
next-same order run best sample at some goes_on below =
    by_false (is_gt (order sample.period best.period)) _ run below ∙ by_false (begins_series run best sample) _ _ goes_on
    ∙ by_false (not (has_number sample)) run _ (ap (λ b. not b) some)

-- it begins a series
pub next-begins : (order : PeriodName → PeriodName → Ordering) (run : Run) (best sample : Sample) (at : ℕ) (micros : ℤ) → has_number sample ≡ true
    → begins_series run best sample ≡ true → micros ≡ run.micros +ℤ number_of sample
    → run_with micros (run.series + 1) at ≡ next_run order run best sample at
next-begins order run best sample at micros some begins sum =
    ap (λ m. run_with m (run.series + 1) at) sum ∙ by_true (begins_series run best sample) _ _ begins
    ∙ by_false (not (has_number sample)) run _ (ap (λ b. not b) some)

-- it goes beyond the best of its series
pub next-beyond : (order : PeriodName → PeriodName → Ordering) (run : Run) (best sample : Sample) (at : ℕ) (micros : ℤ) → has_number sample ≡ true
    → begins_series run best sample ≡ false → is_gt (order sample.period best.period) ≡ true
    → micros ≡ (run.micros -ℤ number_of best) +ℤ number_of sample
    → run_with micros run.series at ≡ next_run order run best sample at
next-beyond order run best sample at micros some goes_on beyond sum =
    ap (λ m. run_with m run.series at) sum ∙ by_true (is_gt (order sample.period best.period)) _ run beyond
    ∙ by_false (begins_series run best sample) _ _ goes_on ∙ by_false (not (has_number sample)) run _ (ap (λ b. not b) some)

-- ---- numbers that come back from 128 bits

abbrev told : ℤ → ℤ
told z = to_z w128 (of_z w128 z)

comes_back : (z : ℤ) → unsigned_abs z < 2 ^ 127 → told z ≡ z
comes_back z small = to_z-of_z (fits_signed_from_abs w128 z small)

pub sum-told : (sum more number : ℤ) → unsigned_abs sum ≤ 2 ^ 90 → unsigned_abs more ≤ 2 ^ 63 → more ≡ number → told (told sum +ℤ told more) ≡ sum +ℤ number
sum-told sum more number small short is =
    ap (λ z. told (z +ℤ told more)) (comes_back sum (omega arith)) ∙ ap (λ z. told (sum +ℤ z)) (comes_back more (omega arith))
    ∙ comes_back (sum +ℤ more) (omega (arith, ints)) ∙ ap (λ z. sum +ℤ z) is

pub moved-told : (sum old new moved from to : ℤ) → unsigned_abs sum ≤ 2 ^ 90 → unsigned_abs old ≤ 2 ^ 63 → unsigned_abs new ≤ 2 ^ 63 → old ≡ from → new ≡ to
    → moved ≡ (told sum -ℤ told old) +ℤ told new → unsigned_abs moved ≤ unsigned_abs (told sum) + 2 ^ 64
    → told moved ≡ (sum -ℤ from) +ℤ to
moved-told sum old new moved from to small short brief is_old is_new is size =
    let same : told sum ≡ sum = comes_back sum (omega arith) in
    comes_back moved (omega (arith, size, ap unsigned_abs same)) ∙ is ∙ ap (λ z. (z -ℤ told old) +ℤ told new) same
    ∙ ap (λ z. (sum -ℤ z) +ℤ told new) (comes_back old (omega arith) ∙ is_old) ∙ ap (λ z. (sum -ℤ from) +ℤ z) (comes_back new (omega arith) ∙ is_new)
