-- A type is found by its name alone.
use Rattle.std.proofs.Common.{◌≡◌, ℕ, List, [], ◌∷◌, Option, Some, None, Bool, true, inl, inr, refl, sym, ◌∙◌, ap}
use Rattle.std.proofs.lemmas.Bool.{cases_Bool, cond-true, cond-false}
use Rattle.std.proofs.lemmas.Slice.Eq.{bytes_eq-Decides}
use Rattle.std.specs.Prelude.{IfSome, IfNone, find, bytes_eq}
use Rattle.dh_periods.specs.declared.kind.PeriodType.{PeriodType}
use Rattle.dh_periods.specs.declared.kind.PeriodType.TheVariants.{Daily, Weekly, Monthly, BiMonthly, Quarterly, SixMonthly, SixMonthlyApril, Yearly}
use Rattle.dh_periods.specs.declared.kind.PeriodType.TheVariants.{FinancialApril, FinancialJuly, FinancialOct}
use Rattle.dh_periods.specs.Types.{type_name, type_named, all_types}

pub type_named-name : (kind : PeriodType) → type_named (type_name kind) ≡ Some kind
unfolding type_named
type_named-name Daily = refl
type_named-name Weekly = refl
type_named-name Monthly = refl
type_named-name BiMonthly = refl
type_named-name Quarterly = refl
type_named-name SixMonthly = refl
type_named-name SixMonthlyApril = refl
type_named-name Yearly = refl
type_named-name FinancialApril = refl
type_named-name FinancialJuly = refl
type_named-name FinancialOct = refl

pub type_named-none : (name : List ℕ) (r : Option PeriodType) → r ≡ type_named name → IfNone r ((kind : PeriodType) → type_name kind ≡ name → ⊥)
type_named-none name None e = λ kind same. let found : type_named name ≡ Some kind = ap type_named (sym same) ∙ type_named-name kind in cc
type_named-none name (Some kind) e = tt

find-true : {A : Type 0} (p : A → Bool) (xs : List A) (x : A) → find p xs ≡ Some x → p x ≡ true
find-true p [] x e = absurd (cc)
find-true p (y ∷ ys) x e =
    elim (cases_Bool (p y)) [
      | inl passes ↦ let same : Some y ≡ Some x = sym (cond-true (p y) (Some y) (find p ys) passes) ∙ e in let is : y ≡ x = cc in rw (← is) passes
      | inr fails ↦ find-true p ys x (sym (cond-false (p y) (Some y) (find p ys) fails) ∙ e)
    ]

pub type_named-found : (name : List ℕ) (r : Option PeriodType) → r ≡ type_named name → IfSome r (λ kind. type_name kind ≡ name)
unfolding type_named
type_named-found name None e = tt
type_named-found name (Some kind) e =
    (bytes_eq-Decides (type_name kind) name).0 (find-true (λ (k : PeriodType). bytes_eq (type_name k) name) all_types kind (sym e))
