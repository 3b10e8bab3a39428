-- The orders of groups, rows, events and registrations are total, and groups that compare as equal are one.
use Rattle.std.proofs.Common.{◌≡◌, ◌∙◌, true, false, ◌&&◌, refl, sym, ap, Ordering, Less, Equal, Greater}
use Rattle.std.specs.Prelude.{nat_eq}
use Rattle.std.specs.Cmp.{IsTotalOrder}
use Rattle.std.specs.Ordering.{is_gt, is_eq, ordering_then, ordering_reverse}
use Rattle.std.proofs.lemmas.Bool.{and_parts, eqb-true}
use Rattle.std.proofs.lemmas.Cmp.{on_total}
use Rattle.dh_periods.specs.Keys.{same_period}
use Rattle.dh_periods.proofs.KeyLemmas.{same_period-Decides}
use Rattle.table_rows.specs.contracts.row.GroupOrd.TheImpl.Laws as group
use Rattle.table_rows.specs.contracts.row.RowKeyOrd.TheImpl.Laws as key
use Rattle.table_rows.specs.declared.row.Row.{Row}
use Rattle.table_rows.specs.declared.row.Group.{Group}
use Rattle.table_rows.specs.Rows.{group_of, key_of, same_group}
use Rattle.table_rows.specs.Order.{group_cmp, key_cmp, row_cmp}

pub group_total : IsTotalOrder group_cmp
group_total = group.total-law

pub key_total : IsTotalOrder key_cmp
key_total = key.total-law

pub row_total : IsTotalOrder row_cmp
row_total = on_total key_of key_total

-- groups are the same where neither stands before the other
pub group_ties : (a b : Group) → same_group a b ≡ is_eq (group_cmp a b)
group_ties a b = group.matches_eq-law a b

same_parts : (a b : Group) → a.element ≡ b.element → a.combo ≡ b.combo → a.attribute ≡ b.attribute → a.period ≡ b.period → a ≡ b
same_parts a b e c t p =
    let made : a ≡ record { element = b.element; combo = b.combo; attribute = b.attribute; period = b.period } = rw (← e, ← c, ← t, ← p) refl in
    made

-- the same groups are one
pub same_group-true : (a b : Group) → same_group a b ≡ true → a ≡ b
same_group-true a b e =
    let x = and_parts (nat_eq a.element b.element) (nat_eq a.combo b.combo && (nat_eq a.attribute b.attribute && same_period a.period b.period)) e in
    let y = and_parts (nat_eq a.combo b.combo) (nat_eq a.attribute b.attribute && same_period a.period b.period) x.1 in
    let z = and_parts (nat_eq a.attribute b.attribute) (same_period a.period b.period) y.1 in
    same_parts a b (eqb-true _ _ x.0) (eqb-true _ _ y.0) (eqb-true _ _ z.0) ((same_period-Decides a.period b.period).0 z.1)

itself : (o : Ordering) → o ≡ ordering_reverse o → o ≡ Equal
itself Less e = absurd (cc)
itself Equal e = refl
itself Greater e = absurd (cc)

pub group_cmp-self : (a : Group) → group_cmp a a ≡ Equal
group_cmp-self a = itself (group_cmp a a) (group_total.antisymm a a)

pub same_group-self : (a : Group) → same_group a a ≡ true
same_group-self a = group_ties a a ∙ ap is_eq (group_cmp-self a)

tie : (o : Ordering) → is_gt o ≡ false → is_gt (ordering_reverse o) ≡ false → is_eq o ≡ true
tie Less a b = absurd (cc)
tie Equal a b = refl
tie Greater a b = absurd (cc)

-- groups of which neither stands after the other are the same
pub same_group-tie : (a b : Group) → is_gt (group_cmp a b) ≡ false → is_gt (group_cmp b a) ≡ false → same_group a b ≡ true
same_group-tie a b x y = group_ties a b ∙ tie (group_cmp a b) x (ap is_gt (sym (group_total.antisymm b a)) ∙ y)

front : (o rest : Ordering) → ordering_then o rest ≡ Less → is_gt o ≡ false
front Less rest e = refl
front Equal rest e = refl
front Greater rest e = absurd (cc)

-- of two rows in order the first one's group doesn't stand after the second one's
pub group_upto : (a b : Row) → row_cmp a b ≡ Less → is_gt (group_cmp (group_of a) (group_of b)) ≡ false
group_upto a b e = front (group_cmp (group_of a) (group_of b)) _ e
