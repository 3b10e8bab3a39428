-- Equality of keys decides whether they are one.
use Rattle.std.proofs.Common.{◌≡◌, ℕ, List, true, refl, sym, subst}
use Rattle.std.specs.Prelude.{nat_eq}
use Rattle.std.specs.Bool.{Decides}
use Rattle.std.specs.Cmp.Lexicographic.{pointwise, same_text, nat_list_eq_equiv}
use Rattle.std.proofs.lemmas.Bool.{and_parts, and_from}
use Rattle.dh_periods.specs.declared.name.PeriodName.{PeriodName}
use Rattle.dh_periods.specs.Keys.{same_period}
use Rattle.dh_periods.proofs.KeyLemmas.{same_period-Decides}
use Rattle.dh_changes.specs.declared.keys.ValueKey.{ValueKey}
use Rattle.dh_changes.specs.declared.keys.ApprovalKey.{ApprovalKey}
use Rattle.dh_changes.specs.declared.keys.RegKey.{RegKey}
use Rattle.dh_changes.specs.Keys.{same_value_key, same_approval_key, same_reg_key}

ids-same : (a b : List ℕ) → pointwise nat_eq a b ≡ true → a ≡ b
ids-same a b e = same_text a b (sym e)

ids-self : (a : List ℕ) → pointwise nat_eq a a ≡ true
ids-self a = nat_list_eq_equiv.refl a

periods-same : (a b : PeriodName) → same_period a b ≡ true → a ≡ b
periods-same a b e = (same_period-Decides a b).0 e

periods-self : (a : PeriodName) → same_period a a ≡ true
periods-self a = (same_period-Decides a a).1 refl

value_keys-same : (a b : ValueKey) → same_value_key a b ≡ true → a ≡ b
value_keys-same a b e =
    let p = and_parts (pointwise nat_eq a.element b.element) _ e in
    let q = and_parts (same_period a.period b.period) _ p.1 in
    let r = and_parts (pointwise nat_eq a.unit b.unit) _ q.1 in
    let s = and_parts (pointwise nat_eq a.combo b.combo) _ r.1 in
    let element = ids-same a.element b.element p.0 in
    let period = periods-same a.period b.period q.0 in
    let unit = ids-same a.unit b.unit r.0 in
    let combo = ids-same a.combo b.combo s.0 in
    let attribute = ids-same a.attribute b.attribute s.1 in
    let made : a ≡ record { element = b.element; period = b.period; unit = b.unit; combo = b.combo; attribute = b.attribute } =
    rw (← element, ← period, ← unit, ← combo, ← attribute) refl in
    made

value_keys-self : (a : ValueKey) → same_value_key a a ≡ true
value_keys-self a =
    and_from _ _ (ids-self a.element) (and_from _ _ (periods-self a.period)
    (and_from _ _ (ids-self a.unit) (and_from _ _ (ids-self a.combo) (ids-self a.attribute))))

pub same_value_key-Decides : (a b : ValueKey) → Decides (same_value_key a b) (a ≡ b)
same_value_key-Decides a b = (value_keys-same a b, λ e. subst (λ c. same_value_key a c ≡ true) e (value_keys-self a))

approval_keys-same : (a b : ApprovalKey) → same_approval_key a b ≡ true → a ≡ b
approval_keys-same a b e =
    let p = and_parts (pointwise nat_eq a.workflow b.workflow) _ e in
    let q = and_parts (same_period a.period b.period) _ p.1 in
    let r = and_parts (pointwise nat_eq a.unit b.unit) _ q.1 in
    let workflow = ids-same a.workflow b.workflow p.0 in
    let period = periods-same a.period b.period q.0 in
    let unit = ids-same a.unit b.unit r.0 in
    let attribute = ids-same a.attribute b.attribute r.1 in
    let made : a ≡ record { workflow = b.workflow; period = b.period; unit = b.unit; attribute = b.attribute } =
    rw (← workflow, ← period, ← unit, ← attribute) refl in
    made

approval_keys-self : (a : ApprovalKey) → same_approval_key a a ≡ true
approval_keys-self a = and_from _ _ (ids-self a.workflow) (and_from _ _ (periods-self a.period) (and_from _ _ (ids-self a.unit) (ids-self a.attribute)))

pub same_approval_key-Decides : (a b : ApprovalKey) → Decides (same_approval_key a b) (a ≡ b)
same_approval_key-Decides a b = (approval_keys-same a b, λ e. subst (λ c. same_approval_key a c ≡ true) e (approval_keys-self a))

reg_keys-same : (a b : RegKey) → same_reg_key a b ≡ true → a ≡ b
reg_keys-same a b e =
    let p = and_parts (pointwise nat_eq a.set b.set) _ e in
    let q = and_parts (same_period a.period b.period) _ p.1 in
    let r = and_parts (pointwise nat_eq a.unit b.unit) _ q.1 in
    let set = ids-same a.set b.set p.0 in
    let period = periods-same a.period b.period q.0 in
    let unit = ids-same a.unit b.unit r.0 in
    let attribute = ids-same a.attribute b.attribute r.1 in
    let made : a ≡ record { set = b.set; period = b.period; unit = b.unit; attribute = b.attribute } = rw (← set, ← period, ← unit, ← attribute) refl in
    made

reg_keys-self : (a : RegKey) → same_reg_key a a ≡ true
reg_keys-self a = and_from _ _ (ids-self a.set) (and_from _ _ (periods-self a.period) (and_from _ _ (ids-self a.unit) (ids-self a.attribute)))

pub same_reg_key-Decides : (a b : RegKey) → Decides (same_reg_key a b) (a ≡ b)
same_reg_key-Decides a b = (reg_keys-same a b, λ e. subst (λ c. same_reg_key a c ≡ true) e (reg_keys-self a))
