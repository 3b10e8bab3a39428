use Rattle.std.proofs.Common.{◌∙◌, ap, ◌+◌, ◌*◌, ◌<◌, ◌≤◌, ◌^◌, length, get_or, arith}
use Rattle.std.specs.Prelude.{ℕ}
use Rattle.dh_base.proofs.DecimalLemmas.{IsDigit, digit_at, power_within, power_more, value_step}
use Rattle.http_wire.proofs.plan.digits_value.Goals as goal

small : (v i n : ℕ) → v < 10 ^ i → i < n → n ≤ 18 → v < 10 ^ 17
small v i n bound within short = omega (arith, power_within i 17 (omega arith))

pub overflow_mul-value : goal.overflow_mul-value
overflow_mul-value c =
    record {
      fits =
          omega (
            arith,
            small c.loop-byte.value c.loop-byte.byte-index (length c.args.text.now) c.loop-byte.invariant.bound c.loop-byte-test.true
                c.requires.short,
          );
    }

digit : (c : goal.After-from) → IsDigit (get_or c.args.text.now c.loop-byte.byte-index 0)
digit c = digit_at c.args.text.now c.loop-byte.byte-index c.requires.digits c.loop-byte-test.true

pub overflow_add-value : goal.overflow_add-value
overflow_add-value c =
    let d = digit c in
    record {
      fits =
          omega (
            arith,
            d.low,
            d.high,
            c.from.ensures,
            small c.loop-byte.value c.loop-byte.byte-index (length c.args.text.now) c.loop-byte.invariant.bound c.loop-byte-test.true c.requires.short,
          );
    }

pub loop-byte-preserved : goal.loop-byte-preserved
loop-byte-preserved c =
    let d = digit c in
    record {
      value = ap (λ n. c.loop-byte.value * 10 + n) c.from.ensures
          ∙ value_step c.args.text.now c.loop-byte.byte-index c.loop-byte.value c.requires.digits c.loop-byte-test.true c.loop-byte.invariant.value;
      bound = omega (arith, d.low, d.high, c.from.ensures, power_more c.loop-byte.byte-index, c.loop-byte.invariant.bound);
    }
