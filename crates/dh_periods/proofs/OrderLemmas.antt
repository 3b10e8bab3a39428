-- The order that is derived from a period's fields is the order of periods.
use Rattle.std.proofs.Common.{◌≡◌, ℕ, zero, suc, true, refl, sym, ap, ◌∙◌, arith}
use Rattle.jiff_core.proofs.SignedLemmas.{signed_arith}
use Rattle.std.specs.Ordering.{ordering_then, nat_cmp, int_cmp}
use Rattle.std.specs.declared.cmp.Ordering.{Ordering}
use Rattle.std.specs.declared.cmp.Ordering.TheVariants.{Less, Equal, Greater}
use Rattle.std.specs.Cmp.Derive.{points}
use Rattle.std.specs.Cmp.{nat_cmp_is}
use Rattle.std.proofs.lemmas.Map.Lookups.{exact_signed, exact_unsigned}
use denote.Enum.Compared.{by}
use Rattle.dh_periods.specs.contracts.kind.PeriodType.{enum, as_values}
use Rattle.dh_periods.specs.declared.kind.PeriodType.{PeriodType}
use Rattle.dh_periods.specs.declared.kind.PeriodType.TheVariants.{Daily, Weekly, Monthly, BiMonthly, Quarterly, SixMonthly, SixMonthlyApril, Yearly}
use Rattle.dh_periods.specs.declared.kind.PeriodType.TheVariants.{FinancialApril, FinancialJuly, FinancialOct}
use Rattle.dh_periods.specs.declared.name.PeriodName.{PeriodName}
use Rattle.dh_periods.specs.Days.{is_listed, first_day, last_day}
use Rattle.dh_periods.specs.Places.{candidate}
use Rattle.dh_periods.specs.Order.{type_place, period_order}
use Rattle.dh_periods.proofs.ContainingLemmas.{candidate-is}
use Rattle.dh_periods.proofs.BoundLemmas.{day-bounds}

-- types as the order that is derived for them compares them
abbrev pub derived_types : PeriodType → PeriodType → Ordering
derived_types a b = by Less Greater enum.parts (points Equal enum.parts) (as_values a) (as_values b)

abbrev pub derived_rest : PeriodName → PeriodName → Ordering
derived_rest a b = ordering_then (nat_cmp a.year b.year) (ordering_then (nat_cmp a.number b.number) (nat_cmp a.day b.day))

abbrev pub derived_names : PeriodName → PeriodName → Ordering
derived_names a b = ordering_then (derived_types a.kind b.kind) (derived_rest a b)

abbrev pub derived_order : PeriodName → PeriodName → Ordering
derived_order a b = ordering_then (int_cmp (last_day a) (last_day b)) (ordering_then (int_cmp (first_day a) (first_day b)) (derived_names a b))

derived_types-is : (a b : PeriodType) → derived_types a b ≡ nat_cmp (type_place a) (type_place b)
derived_types-is Daily Daily = refl
derived_types-is Daily Weekly = refl
derived_types-is Daily Monthly = refl
derived_types-is Daily BiMonthly = refl
derived_types-is Daily Quarterly = refl
derived_types-is Daily SixMonthly = refl
derived_types-is Daily SixMonthlyApril = refl
derived_types-is Daily Yearly = refl
derived_types-is Daily FinancialApril = refl
derived_types-is Daily FinancialJuly = refl
derived_types-is Daily FinancialOct = refl
derived_types-is Weekly Daily = refl
derived_types-is Weekly Weekly = refl
derived_types-is Weekly Monthly = refl
derived_types-is Weekly BiMonthly = refl
derived_types-is Weekly Quarterly = refl
derived_types-is Weekly SixMonthly = refl
derived_types-is Weekly SixMonthlyApril = refl
derived_types-is Weekly Yearly = refl
derived_types-is Weekly FinancialApril = refl
derived_types-is Weekly FinancialJuly = refl
derived_types-is Weekly FinancialOct = refl
derived_types-is Monthly Daily = refl
derived_types-is Monthly Weekly = refl
derived_types-is Monthly Monthly = refl
derived_types-is Monthly BiMonthly = refl
derived_types-is Monthly Quarterly = refl
derived_types-is Monthly SixMonthly = refl
derived_types-is Monthly SixMonthlyApril = refl
derived_types-is Monthly Yearly = refl
derived_types-is Monthly FinancialApril = refl
derived_types-is Monthly FinancialJuly = refl
derived_types-is Monthly FinancialOct = refl
derived_types-is BiMonthly Daily = refl
derived_types-is BiMonthly Weekly = refl
derived_types-is BiMonthly Monthly = refl
derived_types-is BiMonthly BiMonthly = refl
derived_types-is BiMonthly Quarterly = refl
derived_types-is BiMonthly SixMonthly = refl
derived_types-is BiMonthly SixMonthlyApril = refl
derived_types-is BiMonthly Yearly = refl
derived_types-is BiMonthly FinancialApril = refl
derived_types-is BiMonthly FinancialJuly = refl
derived_types-is BiMonthly FinancialOct = refl
derived_types-is Quarterly Daily = refl
derived_types-is Quarterly Weekly = refl
derived_types-is Quarterly Monthly = refl
derived_types-is Quarterly BiMonthly = refl
derived_types-is Quarterly Quarterly = refl
derived_types-is Quarterly SixMonthly = refl
derived_types-is Quarterly SixMonthlyApril = refl
derived_types-is Quarterly Yearly = refl
derived_types-is Quarterly FinancialApril = refl
derived_types-is Quarterly FinancialJuly = refl
derived_types-is Quarterly FinancialOct = refl
derived_types-is SixMonthly Daily = refl
derived_types-is SixMonthly Weekly = refl
derived_types-is SixMonthly Monthly = refl
derived_types-is SixMonthly BiMonthly = refl
derived_types-is SixMonthly Quarterly = refl
derived_types-is SixMonthly SixMonthly = refl
derived_types-is SixMonthly SixMonthlyApril = refl
derived_types-is SixMonthly Yearly = refl
derived_types-is SixMonthly FinancialApril = refl
derived_types-is SixMonthly FinancialJuly = refl
derived_types-is SixMonthly FinancialOct = refl
derived_types-is SixMonthlyApril Daily = refl
derived_types-is SixMonthlyApril Weekly = refl
derived_types-is SixMonthlyApril Monthly = refl
derived_types-is SixMonthlyApril BiMonthly = refl
derived_types-is SixMonthlyApril Quarterly = refl
derived_types-is SixMonthlyApril SixMonthly = refl
derived_types-is SixMonthlyApril SixMonthlyApril = refl
derived_types-is SixMonthlyApril Yearly = refl
derived_types-is SixMonthlyApril FinancialApril = refl
derived_types-is SixMonthlyApril FinancialJuly = refl
derived_types-is SixMonthlyApril FinancialOct = refl
derived_types-is Yearly Daily = refl
derived_types-is Yearly Weekly = refl
derived_types-is Yearly Monthly = refl
derived_types-is Yearly BiMonthly = refl
derived_types-is Yearly Quarterly = refl
derived_types-is Yearly SixMonthly = refl
derived_types-is Yearly SixMonthlyApril = refl
derived_types-is Yearly Yearly = refl
derived_types-is Yearly FinancialApril = refl
derived_types-is Yearly FinancialJuly = refl
derived_types-is Yearly FinancialOct = refl
derived_types-is FinancialApril Daily = refl
derived_types-is FinancialApril Weekly = refl
derived_types-is FinancialApril Monthly = refl
derived_types-is FinancialApril BiMonthly = refl
derived_types-is FinancialApril Quarterly = refl
derived_types-is FinancialApril SixMonthly = refl
derived_types-is FinancialApril SixMonthlyApril = refl
derived_types-is FinancialApril Yearly = refl
derived_types-is FinancialApril FinancialApril = refl
derived_types-is FinancialApril FinancialJuly = refl
derived_types-is FinancialApril FinancialOct = refl
derived_types-is FinancialJuly Daily = refl
derived_types-is FinancialJuly Weekly = refl
derived_types-is FinancialJuly Monthly = refl
derived_types-is FinancialJuly BiMonthly = refl
derived_types-is FinancialJuly Quarterly = refl
derived_types-is FinancialJuly SixMonthly = refl
derived_types-is FinancialJuly SixMonthlyApril = refl
derived_types-is FinancialJuly Yearly = refl
derived_types-is FinancialJuly FinancialApril = refl
derived_types-is FinancialJuly FinancialJuly = refl
derived_types-is FinancialJuly FinancialOct = refl
derived_types-is FinancialOct Daily = refl
derived_types-is FinancialOct Weekly = refl
derived_types-is FinancialOct Monthly = refl
derived_types-is FinancialOct BiMonthly = refl
derived_types-is FinancialOct Quarterly = refl
derived_types-is FinancialOct SixMonthly = refl
derived_types-is FinancialOct SixMonthlyApril = refl
derived_types-is FinancialOct Yearly = refl
derived_types-is FinancialOct FinancialApril = refl
derived_types-is FinancialOct FinancialJuly = refl
derived_types-is FinancialOct FinancialOct = refl

type_at : ℕ → PeriodType
type_at zero = Daily
type_at (suc zero) = Weekly
type_at (suc (suc zero)) = Monthly
type_at (suc (suc (suc zero))) = BiMonthly
type_at (suc (suc (suc (suc zero)))) = Quarterly
type_at (suc (suc (suc (suc (suc zero))))) = SixMonthly
type_at (suc (suc (suc (suc (suc (suc zero)))))) = SixMonthlyApril
type_at (suc (suc (suc (suc (suc (suc (suc zero))))))) = Yearly
type_at (suc (suc (suc (suc (suc (suc (suc (suc zero)))))))) = FinancialApril
type_at (suc (suc (suc (suc (suc (suc (suc (suc (suc zero))))))))) = FinancialJuly
type_at n = FinancialOct

type_at-place : (a : PeriodType) → type_at (type_place a) ≡ a
unfolding type_at
type_at-place Daily = refl
type_at-place Weekly = refl
type_at-place Monthly = refl
type_at-place BiMonthly = refl
type_at-place Quarterly = refl
type_at-place SixMonthly = refl
type_at-place SixMonthlyApril = refl
type_at-place Yearly = refl
type_at-place FinancialApril = refl
type_at-place FinancialJuly = refl
type_at-place FinancialOct = refl

type_place-same : (a b : PeriodType) → nat_cmp (type_place a) (type_place b) ≡ Equal → a ≡ b
type_place-same a b e = sym (type_at-place a) ∙ ap type_at (exact_unsigned (type_place a) (type_place b) e) ∙ type_at-place b

nat_cmp-self : (n : ℕ) → nat_cmp n n ≡ Equal
nat_cmp-self n = sym (nat_cmp_is n n Equal refl)

derived_rest-self : (a : PeriodName) → derived_rest a a ≡ Equal
derived_rest-self a = rw (nat_cmp-self a.year, nat_cmp-self a.number, nat_cmp-self a.day) refl

-- two periods of one type with one first day are one
pub same_first : (a b : PeriodName) → is_listed a ≡ true → is_listed b ≡ true → a.kind ≡ b.kind → first_day a ≡ first_day b → a ≡ b
same_first a b la lb k f =
    let one = candidate-is a (first_day a) la (omega (arith, signed_arith)) (day-bounds a la).1 in
    let two = candidate-is b (first_day b) lb (omega (arith, signed_arith)) (day-bounds b lb).1 in
    let across : candidate a.kind (first_day a) ≡ candidate b.kind (first_day b) = ap (λ t. candidate t (first_day a)) k ∙ ap (candidate b.kind) f in
    sym one ∙ across ∙ two

combine : (x y k n : Ordering) → (x ≡ Equal → y ≡ Equal → k ≡ Equal → n ≡ Equal)
    → ordering_then x (ordering_then y (ordering_then k n)) ≡ ordering_then x (ordering_then y k)
combine Less y k n h = refl
combine Greater y k n h = refl
combine Equal Less k n h = refl
combine Equal Greater k n h = refl
combine Equal Equal Less n h = refl
combine Equal Equal Greater n h = refl
combine Equal Equal Equal n h = h refl refl refl

apart : (x y z : Ordering) → ordering_then x (ordering_then y z) ≡ Equal → (x ≡ Equal) × (y ≡ Equal) × (z ≡ Equal)
apart Less y z e = cc
apart Greater y z e = cc
apart Equal Less z e = cc
apart Equal Greater z e = cc
apart Equal Equal z e = (refl, refl, e)

-- nothing after the type tells two periods apart
pub derived_order-is : (a b : PeriodName) → is_listed a ≡ true → is_listed b ≡ true → derived_order a b ≡ period_order a b
unfolding period_order
derived_order-is a b la lb =
    let types = derived_types-is a.kind b.kind in
    let rest : int_cmp (last_day a) (last_day b) ≡ Equal → int_cmp (first_day a) (first_day b) ≡ Equal → nat_cmp (type_place a.kind) (type_place b.kind) ≡ Equal
    → derived_rest a b ≡ Equal =
    λ x y z. ap (derived_rest a) (sym (same_first a b la lb (type_place-same a.kind b.kind z) (exact_signed (first_day a) (first_day b) y)))
    ∙ derived_rest-self a in
    ap (λ o. ordering_then (int_cmp (last_day a) (last_day b)) (ordering_then (int_cmp (first_day a) (first_day b)) (ordering_then o (derived_rest a b)))) types
    ∙ combine (int_cmp (last_day a) (last_day b)) (int_cmp (first_day a) (first_day b)) (nat_cmp (type_place a.kind) (type_place b.kind)) (derived_rest a b)
    rest

-- two periods that stand at one place are one
pub period_order-same : (a b : PeriodName) → is_listed a ≡ true → is_listed b ≡ true → period_order a b ≡ Equal → a ≡ b
unfolding period_order
period_order-same a b la lb e =
    let parts = apart (int_cmp (last_day a) (last_day b)) (int_cmp (first_day a) (first_day b)) (nat_cmp (type_place a.kind) (type_place b.kind)) e in
    same_first a b la lb (type_place-same a.kind b.kind parts.2) (exact_signed (first_day a) (first_day b) parts.1)
