-- Equality of periods decides whether they are one.
use Rattle.std.proofs.Common.{◌≡◌, true, ◌&&◌, refl, subst, rules}
use Rattle.std.specs.Prelude.{nat_eq}
use Rattle.std.specs.Ordering.{int_eq}
use Rattle.std.specs.Bool.{Decides}
use Rattle.std.proofs.lemmas.Bool.{and_parts, and_from, eqb-true, eq-eqb}
use Rattle.std.proofs.lemmas.Bool.Decides.{Decides-int_eq}
use denote.Enum.Bare.{sameb, same_true, true_same}
use Rattle.dh_periods.specs.contracts.kind.PeriodType.{the_type}
use Rattle.dh_periods.specs.declared.kind.PeriodType.{PeriodType}
use Rattle.dh_periods.specs.declared.name.PeriodName.{PeriodName}
use Rattle.dh_periods.specs.Days.{first_day, last_day}
use Rattle.dh_periods.specs.Keys.{same_name, same_period}

same_kind : (a b : PeriodType) → sameb the_type a b ≡ true → a ≡ b
same_kind a b e = same_true the_type (search rules) a b e

same_parts : (a b : PeriodName) → a.kind ≡ b.kind → a.year ≡ b.year → a.number ≡ b.number → a.day ≡ b.day → a ≡ b
same_parts a b k y n d =
    let made : a ≡ record { kind = b.kind; year = b.year; number = b.number; day = b.day } = rw (← k, ← y, ← n, ← d) refl in
    made

-- a period compares as equal to itself
same_period-self : (a : PeriodName) → same_period a a ≡ true
same_period-self a =
    let last = (Decides-int_eq (last_day a) (last_day a)).1 refl in
    let first = (Decides-int_eq (first_day a) (first_day a)).1 refl in
    let kind = true_same the_type a.kind a.kind refl in
    and_from _ _ last (and_from _ _ first (and_from _ _ kind
    (and_from _ _ (eq-eqb a.year a.year refl) (and_from _ _ (eq-eqb a.number a.number refl) (eq-eqb a.day a.day refl)))))

same_name-true : (a b : PeriodName) → same_name a b ≡ true → a ≡ b
same_name-true a b e =
    let k = and_parts (sameb the_type a.kind b.kind) (nat_eq a.year b.year && (nat_eq a.number b.number && nat_eq a.day b.day)) e in
    let y = and_parts (nat_eq a.year b.year) (nat_eq a.number b.number && nat_eq a.day b.day) k.1 in
    let n = and_parts (nat_eq a.number b.number) (nat_eq a.day b.day) y.1 in
    same_parts a b (same_kind a.kind b.kind k.0) (eqb-true _ _ y.0) (eqb-true _ _ n.0) (eqb-true _ _ n.1)

-- two periods compare as equal exactly where they are one
pub same_period-Decides : (a b : PeriodName) → Decides (same_period a b) (a ≡ b)
same_period-Decides a b = (
  λ e.
      let l = and_parts (int_eq (last_day a) (last_day b)) (int_eq (first_day a) (first_day b) && same_name a b) e in
      let f = and_parts (int_eq (first_day a) (first_day b)) (same_name a b) l.1 in
      same_name-true a b f.1,
  λ e.
      let P : PeriodName → Type 0 = λ c. same_period a c ≡ true in
      subst P e (same_period-self a),
)
