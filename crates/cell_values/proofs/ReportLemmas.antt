-- Of registrations in their order those of one report stand side by side.
use Rattle.std.proofs.Common.{◌≡◌, ◌∙◌, ℕ, ◌+◌, ◌-◌, ◌<◌, Bool, true, false, not, cond, ◌&&◌, ◌||◌, List, [], ◌∷◌, ◌++◌, length, map, take, get_or, Option, Some}
use Rattle.std.proofs.Common.{None, inl, inr, refl, sym, ap, subst, arith, length-append, Ordering, Less, Equal, Greater}
use Rattle.std.specs.Prelude.{All, Contains, nat_eq, slice_get}
use Rattle.std.specs.List.{filter, list_any}
use Rattle.std.specs.Cmp.{IsTotalOrder, unsigned_ties}
use Rattle.std.specs.Ordering.{is_gt, is_eq, ordering_then, ordering_reverse, nat_cmp}
use Rattle.std.proofs.Math.Seq.{get_or-append_seam}
use Rattle.std.proofs.lemmas.Bool.{cases_Bool, false≢true, and_parts, eqb-true}
use Rattle.std.proofs.lemmas.Cmp.{on_total, then_total, nat_cmp_total}
use Rattle.std.proofs.lemmas.List.{append-nil, map-append, length-take, get_or-take}
use Rattle.std.proofs.lemmas.List.Elements.{All-push, All-map, All-filter, Contains-push, Contains-append_left, filter-append, filter_more, filter_passes}
use Rattle.std.proofs.lemmas.List.Folds.{list_any_at, list_any_none}
use Rattle.std.proofs.lemmas.Option.{slice_get-get_or}
use Rattle.dh_periods.specs.contracts.period.PeriodOrd.TheImpl.Laws as period
use Rattle.dh_periods.specs.Keys.{same_period}
use Rattle.dh_periods.proofs.KeyLemmas.{same_period-Decides}
use Rattle.table_rows.specs.declared.event.RegRow.{RegRow}
use Rattle.table_rows.specs.Events.{reg_cmp, is_reg_of}
use Rattle.table_rows.specs.Groups.{each_once}
use Rattle.table_rows.specs.Order.{period_cmp}
use Rattle.table_rows.specs.Store.{rises}
use Rattle.table_rows.proofs.RiseLemmas.{sorted_from_rises, sorted-far}
use Rattle.cell_values.specs.declared.reports.Report.{Report}
use Rattle.cell_values.specs.Reporting.{report_of, same_report}
use Rattle.cell_values.specs.Prepared.{differs_from, with_report}

-- ---- the order of reports

abbrev pub report_cmp : Report → Report → Ordering
report_cmp a b = ordering_then (period_cmp a.period b.period) (nat_cmp a.order b.order)

pub report_total : IsTotalOrder report_cmp
report_total = then_total (on_total (λ (r : Report). r.period) period.total-law) (on_total (λ (r : Report). r.order) nat_cmp_total)

both_equal : (a b : Ordering) → is_eq (ordering_then a b) ≡ (is_eq a && is_eq b)
both_equal Less b = refl
both_equal Equal b = refl
both_equal Greater b = refl

pub report_ties : (a b : Report) → same_report a b ≡ is_eq (report_cmp a b)
report_ties a b =
    ap (λ p. p && nat_eq a.order b.order) (period.matches_eq-law a.period b.period)
    ∙ ap (λ o. is_eq (period_cmp a.period b.period) && o) (unsigned_ties a.order b.order)
    ∙ sym (both_equal (period_cmp a.period b.period) (nat_cmp a.order b.order))

pub reg_total : IsTotalOrder reg_cmp
reg_total =
    then_total (on_total (λ (r : RegRow). r.set) nat_cmp_total) (then_total (on_total (λ (r : RegRow). r.period) period.total-law)
    (then_total (on_total (λ (r : RegRow). r.order) nat_cmp_total) (on_total (λ (r : RegRow). r.attribute) nat_cmp_total)))

same_parts : (a b : Report) → a.period ≡ b.period → a.order ≡ b.order → a ≡ b
same_parts a b p o =
    let made : a ≡ record { period = b.period; order = b.order } = rw (← p, ← o) refl in
    made

-- the same reports are one
same_report-true : (a b : Report) → same_report a b ≡ true → a ≡ b
same_report-true a b e =
    let x = and_parts (same_period a.period b.period) (nat_eq a.order b.order) e in
    same_parts a b ((same_period-Decides a.period b.period).0 x.0) (eqb-true _ _ x.1)

itself : (o : Ordering) → o ≡ ordering_reverse o → o ≡ Equal
itself Less e = absurd (cc)
itself Equal e = refl
itself Greater e = absurd (cc)

report_cmp-self : (a : Report) → report_cmp a a ≡ Equal
report_cmp-self a = itself (report_cmp a a) (report_total.antisymm a a)

same_report-self : (a : Report) → same_report a a ≡ true
same_report-self a = report_ties a a ∙ ap is_eq (report_cmp-self a)

tie : (o : Ordering) → is_gt o ≡ false → is_gt (ordering_reverse o) ≡ false → is_eq o ≡ true
tie Less a b = absurd (cc)
tie Equal a b = refl
tie Greater a b = absurd (cc)

-- reports of which neither stands after the other are the same
same_report-tie : (a b : Report) → is_gt (report_cmp a b) ≡ false → is_gt (report_cmp b a) ≡ false → same_report a b ≡ true
same_report-tie a b x y = report_ties a b ∙ tie (report_cmp a b) x (ap is_gt (sym (report_total.antisymm b a)) ∙ y)

-- of two registrations of one data set in order the first one's report doesn't stand after the second one's
reg_upto : (a b : RegRow) → a.set ≡ b.set → reg_cmp a b ≡ Less → is_gt (report_cmp (report_of a) (report_of b)) ≡ false
reg_upto a b same e =
    let here : nat_cmp a.set b.set ≡ Equal = ap (nat_cmp a.set) (sym same) ∙ itself (nat_cmp a.set a.set) (nat_cmp_total.antisymm a.set a.set) in
    by (nat_cmp a.set b.set) here e
  where
    front : (o rest : Ordering) → ordering_then o rest ≡ Less → is_gt o ≡ false
    front Less rest e = refl
    front Equal rest e = refl
    front Greater rest e = absurd (cc)

    front_two : (p o rest : Ordering) → ordering_then p (ordering_then o rest) ≡ Less → is_gt (ordering_then p o) ≡ false
    front_two Less o rest e = refl
    front_two Equal o rest e = front o rest e
    front_two Greater o rest e = absurd (cc)

    by : (s : Ordering) → s ≡ Equal
        → ordering_then s (ordering_then (period_cmp a.period b.period) (ordering_then (nat_cmp a.order b.order) (nat_cmp a.attribute b.attribute))) ≡ Less
        → is_gt (report_cmp (report_of a) (report_of b)) ≡ false
    by Less is e = absurd (cc)
    by Equal is e = front_two (period_cmp a.period b.period) (nat_cmp a.order b.order) (nat_cmp a.attribute b.attribute) e
    by Greater is e = absurd (cc)

-- ---- each once

filter-push_not : {X : Type 0} (same : X → X → Bool) (y x : X) (ys : List X) (b : Bool) → same y x ≡ b
    → filter (λ z. not (same y z)) (ys ++ x ∷ []) ≡ filter (λ z. not (same y z)) ys ++ cond b [] (x ∷ [])
filter-push_not same y x ys true is =
    filter-append (λ z. not (same y z)) ys (x ∷ []) ∙ ap (λ t. filter (λ z. not (same y z)) ys ++ cond (not t) (x ∷ []) []) is
filter-push_not same y x ys false is =
    filter-append (λ z. not (same y z)) ys (x ∷ []) ∙ ap (λ t. filter (λ z. not (same y z)) ys ++ cond (not t) (x ∷ []) []) is

-- what stands in the list already isn't taken again, and what doesn't comes last
each_once-push : {X : Type 0} (same : X → X → Bool) (xs : List X) (x : X)
    → each_once same (xs ++ x ∷ []) ≡ each_once same xs ++ cond (list_any (λ y. same y x) xs) [] (x ∷ [])
each_once-push same [] x = refl
each_once-push same (y ∷ ys) x =
    ap (λ zs. y ∷ filter (λ z. not (same y z)) zs) (each_once-push same ys x) ∙ by_rest (list_any (λ z. same z x) ys) (same y x) refl
  where
    kept_all : (y ∷ filter (λ z. not (same y z)) (each_once same ys ++ [])) ≡ (y ∷ filter (λ z. not (same y z)) (each_once same ys)) ++ []
    kept_all = ap (λ zs. y ∷ filter (λ z. not (same y z)) zs) (append-nil (each_once same ys))
        ∙ sym (append-nil (y ∷ filter (λ z. not (same y z)) (each_once same ys)))

    by_rest : (any here : Bool) → same y x ≡ here
        → (y ∷ filter (λ z. not (same y z)) (each_once same ys ++ cond any [] (x ∷ [])))
        ≡ (y ∷ filter (λ z. not (same y z)) (each_once same ys)) ++ cond (here || any) [] (x ∷ [])
    by_rest true true is = kept_all
    by_rest true false is = kept_all
    by_rest false true is = ap (λ zs. y ∷ zs) (filter-push_not same y x (each_once same ys) true is)
    by_rest false false is = ap (λ zs. y ∷ zs) (filter-push_not same y x (each_once same ys) false is)

-- ---- the last report

-- the last of the reports is one of these, and none of these stands after it
abbrev pub IsTop : Option Report → List Report → Type 0
IsTop None hs = hs ≡ []
IsTop (Some top) hs = Contains hs top × All (λ h. is_gt (report_cmp h top) ≡ false) hs

abbrev pub last_of : List Report → Option Report
last_of reports = slice_get reports (length reports - 1)

last_of-push : (gs : List Report) (g : Report) → last_of (gs ++ g ∷ []) ≡ Some g
last_of-push gs g =
    let longer : length (gs ++ g ∷ []) ≡ length gs + 1 = length-append gs (g ∷ []) in
    let last : length (gs ++ g ∷ []) - 1 ≡ length gs = omega arith in
    ap (slice_get (gs ++ g ∷ [])) last ∙ slice_get-get_or (gs ++ g ∷ []) (length gs) g (omega arith) ∙ ap Some (get_or-append_seam gs g [] g)

none_same : (hs : List Report) (top g : Report) → IsTop (Some top) hs → All (λ h. is_gt (report_cmp h g) ≡ false) hs → same_report g top ≡ false
    → list_any (λ h. same_report h g) hs ≡ false
none_same hs top g is_top upto differs =
    list_any_none (λ h. same_report h g) hs (λ k d within.
    elim (cases_Bool (same_report (get_or hs k d) g)) [
      | inl same ↦
          let is : get_or hs k d ≡ g = same_report-true (get_or hs k d) g same in
          let below : is_gt (report_cmp g top) ≡ false = subst (λ (v : Report). is_gt (report_cmp v top) ≡ false) is (is_top.1 k d within) in
          let there = is_top.0 in
          let top_upto : is_gt (report_cmp top g) ≡ false = subst (λ (v : Report). is_gt (report_cmp v g) ≡ false) there.2 (upto there.0 top there.1) in
          absurd (false≢true (sym differs ∙ same_report-tie g top below top_upto))
      | inr other ↦ other
    ])

some_same : (hs : List Report) (top g : Report) → Contains hs top → g ≡ top → list_any (λ h. same_report h g) hs ≡ true
some_same hs top g there is =
    list_any_at (λ h. same_report h g) hs there.0 top there.1
    (ap (λ v. same_report v g) there.2 ∙ ap (same_report top) is ∙ same_report-self top)

-- a report more
pub record Step (hs gs : List Report) : Type 0 where
  pub is : gs ≡ each_once same_report hs
  pub top : IsTop (last_of gs) hs

pub Step-start : Step [] []
Step-start = record { is = refl; top = refl }

report-new : (hs gs : List Report) (g : Report) → gs ≡ each_once same_report hs → All (λ h. is_gt (report_cmp h g) ≡ false) hs
    → list_any (λ h. same_report h g) hs ≡ false → Step (hs ++ g ∷ []) (gs ++ g ∷ [])
report-new hs gs g is upto none =
    let self : is_gt (report_cmp g g) ≡ false = ap is_gt (report_cmp-self g) in
    record {
      is = ap (λ v. v ++ g ∷ []) is ∙ ap (λ b. each_once same_report hs ++ cond b [] (g ∷ [])) (sym none) ∙ sym (each_once-push same_report hs g);
      top = subst (λ (o : Option Report). IsTop o (hs ++ g ∷ [])) (sym (last_of-push gs g))
          (Contains-push hs g, All-push (λ h. is_gt (report_cmp h g) ≡ false) hs g upto self);
    }

report-known : (hs gs : List Report) (top g : Report) → gs ≡ each_once same_report hs → last_of gs ≡ Some top → IsTop (Some top) hs → same_report g top ≡ true
    → Step (hs ++ g ∷ []) gs
report-known hs gs top g is last is_top same =
    let one : g ≡ top = same_report-true g top same in
    let upto : is_gt (report_cmp g top) ≡ false = ap (λ v. is_gt (report_cmp v top)) one ∙ ap is_gt (report_cmp-self top) in
    record {
      is = is
          ∙ sym (each_once-push same_report hs g ∙ ap (λ b. each_once same_report hs ++ cond b [] (g ∷ [])) (some_same hs top g is_top.0 one)
          ∙ append-nil (each_once same_report hs));
      top = subst (λ (o : Option Report). IsTop o (hs ++ g ∷ [])) (sym last)
          (Contains-append_left hs (g ∷ []) top is_top.0, All-push (λ h. is_gt (report_cmp h top) ≡ false) hs g is_top.1 upto);
    }

report-step : (hs gs : List Report) (g : Report) → Step hs gs → All (λ h. is_gt (report_cmp h g) ≡ false) hs → Step (hs ++ g ∷ []) (with_report true gs g)
report-step hs gs g before upto = by_last (last_of gs) refl
  where
    by_last : (o : Option Report) → last_of gs ≡ o → Step (hs ++ g ∷ []) (with_report true gs g)
    by_last None last =
        let empty : hs ≡ [] = subst (λ (o : Option Report). IsTop o hs) last before.top in
        let added : gs ++ g ∷ [] ≡ with_report true gs g = ap (λ o. cond (differs_from o g) (gs ++ g ∷ []) gs) (sym last) in
        subst (Step (hs ++ g ∷ [])) added
        (report-new hs gs g before.is upto (ap (list_any (λ h. same_report h g)) empty))
    by_last (Some top) last =
        let is_top : IsTop (Some top) hs = subst (λ (o : Option Report). IsTop o hs) last before.top in
        elim (cases_Bool (same_report g top)) [
          | inl same ↦
              let kept : gs ≡ with_report true gs g = ap (λ b. cond (not b) (gs ++ g ∷ []) gs) (sym same)
              ∙ ap (λ o. cond (differs_from o g) (gs ++ g ∷ []) gs) (sym last) in
              subst (Step (hs ++ g ∷ [])) kept (report-known hs gs top g before.is last is_top same)
          | inr other ↦
              let added : gs ++ g ∷ [] ≡ with_report true gs g = ap (λ b. cond (not b) (gs ++ g ∷ []) gs) (sym other)
              ∙ ap (λ o. cond (differs_from o g) (gs ++ g ∷ []) gs) (sym last) in
              subst (Step (hs ++ g ∷ [])) added (report-new hs gs g before.is upto (none_same hs top g is_top upto other))
        ]

-- ---- registrations

abbrev pub reports_upto : (RegRow → Bool) → List RegRow → ℕ → List Report
reports_upto counts regs i = map report_of (filter counts (take i regs))

-- the registrations that count are of the data set
unfoldable pub AreOf : (RegRow → Bool) → ℕ → Type 0
AreOf counts set = (reg : RegRow) → counts reg ≡ true → is_reg_of set reg ≡ true

earlier_upto : (counts : RegRow → Bool) (set : ℕ) (regs : List RegRow) (i : ℕ) (x : RegRow) → AreOf counts set → rises reg_cmp regs ≡ true
    → i < length regs → x ≡ get_or regs i x → counts x ≡ true → All (λ h. is_gt (report_cmp h (report_of x)) ≡ false) (reports_upto counts regs i)
unfolding AreOf
earlier_upto counts set regs i x are up within at counted =
    let sorted = sorted_from_rises reg_cmp reg_total regs up in
    let own : x.set ≡ set = eqb-true x.set set (are x counted) in
    let far : All (λ (h : RegRow). counts h ≡ true → is_gt (report_cmp (report_of h) (report_of x)) ≡ false) (take i regs) =
    λ k d short.
    (let len = length-take i regs in
    let front : get_or (take i regs) k d ≡ get_or regs k d = get_or-take i regs k d (omega arith) in
    let less : reg_cmp (get_or regs k d) (get_or regs i x) ≡ _ = sorted-far reg_cmp regs k i d x sorted (omega arith) within in
    λ here.
    (let there : counts (get_or regs k d) ≡ true = ap counts (sym front) ∙ here in
    let set_is : (get_or regs k d).set ≡ x.set = eqb-true (get_or regs k d).set set (are (get_or regs k d) there) ∙ sym own in
    ap (λ r. is_gt (report_cmp (report_of r) (report_of x))) front
    ∙ reg_upto (get_or regs k d) x set_is (ap (reg_cmp (get_or regs k d)) at ∙ less))) in
    All-map (λ h. is_gt (report_cmp h (report_of x)) ≡ false) report_of (filter counts (take i regs))
    (λ k d short.
    All-filter counts (λ (h : RegRow). counts h ≡ true → is_gt (report_cmp (report_of h) (report_of x)) ≡ false) (take i regs) far k d short
    (filter_passes counts (take i regs) k d short))

more_reports : (counts : RegRow → Bool) (regs : List RegRow) (i : ℕ) (x : RegRow) → i < length regs → x ≡ get_or regs i x
    → reports_upto counts regs (i + 1) ≡ reports_upto counts regs i ++ map report_of (cond (counts x) (x ∷ []) [])
more_reports counts regs i x within at =
    ap (map report_of) (filter_more counts regs i x within
    ∙ ap (λ y. filter counts (take i regs) ++ cond (counts y) (y ∷ []) []) (sym at))
    ∙ map-append report_of (filter counts (take i regs)) (cond (counts x) (x ∷ []) [])

pub reports-more : (counts : RegRow → Bool) (set : ℕ) (regs : List RegRow) (i : ℕ) (x : RegRow) (gs new : List Report) → AreOf counts set
    → rises reg_cmp regs ≡ true → i < length regs → x ≡ get_or regs i x → Step (reports_upto counts regs i) gs
    → new ≡ with_report (counts x) gs (report_of x) → Step (reports_upto counts regs (i + 1)) new
reports-more counts set regs i x gs new are up within at before is =
    subst (λ (hs : List Report). Step hs new) (sym (more_reports counts regs i x within at))
    (subst (Step (reports_upto counts regs i ++ map report_of (cond (counts x) (x ∷ []) []))) (sym is) (by_test (counts x) refl))
  where
    by_test : (b : Bool) → counts x ≡ b → Step (reports_upto counts regs i ++ map report_of (cond b (x ∷ []) [])) (with_report b gs (report_of x))
    by_test true counted = report-step (reports_upto counts regs i) gs (report_of x) before (earlier_upto counts set regs i x are up within at counted)
    by_test false out = subst (λ (hs : List Report). Step hs gs) (sym (append-nil (reports_upto counts regs i))) before
