-- Equality of keys, as the comparison of their fields computes it, and what a hasher gets of a key.
use Rattle.std.specs.Prelude.{Bool, ◌&&◌, ◌++◌, nat_eq}
use Rattle.std.specs.Cmp.{signed_Decides}
use Rattle.std.specs.Cmp.Lexicographic.{pointwise}
use Rattle.std.specs.Ordering.{int_eq}
use Rattle.std.specs.Hash as fed
use Rattle.std.specs.Hash.{HashWrites, Alike, same_Alike, on_Alike, and-Alike, first_alike}
use Rattle.dh_base.specs.Uid.{uid_fed, same_uids}
use Rattle.dh_periods.specs.declared.name.PeriodName.{PeriodName}
use Rattle.dh_periods.specs.Days.{first_day, last_day}
use Rattle.dh_periods.specs.Keys.{same_name, same_period}
use Rattle.dh_changes.specs.declared.keys.ValueKey.{ValueKey}
use Rattle.dh_changes.specs.declared.keys.ApprovalKey.{ApprovalKey}
use Rattle.dh_changes.specs.declared.keys.RegKey.{RegKey}

abbrev pub same_value_key : ValueKey → ValueKey → Bool
same_value_key a b =
    pointwise nat_eq a.element b.element && (same_period a.period b.period
    && (pointwise nat_eq a.unit b.unit && (pointwise nat_eq a.combo b.combo && pointwise nat_eq a.attribute b.attribute)))

abbrev pub same_approval_key : ApprovalKey → ApprovalKey → Bool
same_approval_key a b =
    pointwise nat_eq a.workflow b.workflow && (same_period a.period b.period && (pointwise nat_eq a.unit b.unit && pointwise nat_eq a.attribute b.attribute))

abbrev pub same_reg_key : RegKey → RegKey → Bool
same_reg_key a b =
    pointwise nat_eq a.set b.set && (same_period a.period b.period && (pointwise nat_eq a.unit b.unit && pointwise nat_eq a.attribute b.attribute))

-- a period, by its last day
abbrev pub period_fed : PeriodName → HashWrites
period_fed period = fed.i32 (last_day period)

abbrev pub value_key_fed : ValueKey → HashWrites
value_key_fed key = uid_fed key.element ++ (period_fed key.period ++ (uid_fed key.unit ++ (uid_fed key.combo ++ uid_fed key.attribute)))

same_periods : Alike same_period period_fed
same_periods = first_alike (λ a b. int_eq (first_day a) (first_day b) && same_name a b) (on_Alike last_day (same_Alike fed.i32 signed_Decides))

-- Keys that are equal are fed to a hasher alike.
pub same_value_keys : Alike same_value_key value_key_fed
same_value_keys =
    and-Alike (on_Alike (λ key. key.element) same_uids) (and-Alike (on_Alike (λ key. key.period) same_periods)
    (and-Alike (on_Alike (λ key. key.unit) same_uids) (and-Alike (on_Alike (λ key. key.combo) same_uids) (on_Alike (λ key. key.attribute) same_uids))))
