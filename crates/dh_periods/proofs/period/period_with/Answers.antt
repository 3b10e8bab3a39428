use Rattle.std.proofs.Common.{◌≡◌, inl, inr, arith, pos, neg_ℤ, true, to_z-of_z, FitsSigned, w32}
use Rattle.std.specs.Prelude.{int_lt}
use Rattle.jiff_core.proofs.SignedLemmas.{signed_arith}
use borrow.Author.Differences.{lt-true}
use Rattle.dh_periods.proofs.ContainingLemmas.{containing_of-outside}
use Rattle.dh_periods.proofs.period.period_with.Goals.{then-first-lt-FIRST_DAY-via-then-first-lt-FIRST_DAY}
use Rattle.dh_periods.proofs.period.period_with.Goals.{then-first-lt-FIRST_DAY-via-else-first-lt-FIRST_DAY+then-first-gt-LAST_DAY}
use Rattle.dh_periods.proofs.period.period_with.Goals as goal

pub returns-then-first-lt-FIRST_DAY : goal.returns-then-first-lt-FIRST_DAY
returns-then-first-lt-FIRST_DAY c =
    let f : FitsSigned w32 c.args.first = c.ranges.first in
    let back = to_z-of_z f in
    elim c.then-first-lt-FIRST_DAY.branch [
      | then-first-lt-FIRST_DAY-via-then-first-lt-FIRST_DAY w ↦
          let e : int_lt c.args.first (neg_ℤ (pos 25567)) ≡ true = rw back at w.if-first-lt-FIRST_DAY.true in
          let h = lt-true c.args.first (neg_ℤ (pos 25567)) e in
          containing_of-outside c.args.kind c.args.first c.args.last (inl (omega (arith, signed_arith)))
      | then-first-lt-FIRST_DAY-via-else-first-lt-FIRST_DAY+then-first-gt-LAST_DAY w ↦
          let e : int_lt (pos 48119) c.args.first ≡ true = rw back at w.if-first-gt-LAST_DAY.true in
          let h = lt-true (pos 48119) c.args.first e in
          containing_of-outside c.args.kind c.args.first c.args.last (inr (omega (arith, signed_arith)))
    ]
