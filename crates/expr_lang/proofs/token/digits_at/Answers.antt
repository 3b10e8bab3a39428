use Rattle.std.proofs.Common.{◌≡◌, ℕ, get_or, take, ap, ◌∙◌, sym, arith}
use Rattle.std.specs.Str.Parse.{digits_value}
use Rattle.std.proofs.lemmas.Int.Digits.{digits_value_more}
use Rattle.expr_lang.specs.Token.{digit_count}
use Rattle.expr_lang.proofs.Digits.{digit_is, count_at, count_stop, count_end, ten_more, tens_below}
use Rattle.expr_lang.proofs.token.digits_at.Goals as goal

pub overflow_mul-value : goal.overflow_mul-value
overflow_mul-value c = omega (arith, tens_below c.loop-count.count 12 (omega arith))

pub overflow_add-value : goal.overflow_add-value
overflow_add-value c =
    omega (
      arith,
      tens_below c.loop-count.count 12 (omega arith),
      (digit_is (get_or c.args.bytes.now c.loop-count.count 0) (sym c.is_ascii_digit.ensures.value ∙ c.if-is_ascii_digit.true)).1,
    )

pub loop-count-preserved : goal.loop-count-preserved
loop-count-preserved c =
    let n = c.loop-count.count in
    let bytes = c.args.bytes.now in
    let is = sym c.is_ascii_digit.ensures.value ∙ c.if-is_ascii_digit.true in
    let digit = digit_is (get_or bytes n 0) is in
    let step = count_at c.args.most n bytes (omega arith) (omega arith) is in
    let value = digits_value_more 10 bytes n (omega arith) in
    (omega (arith, step), omega (arith, value, digit.0), omega (arith, ten_more n, digit.1), omega arith, omega arith)

pub returns-else-is_ascii_digit-clause-count : goal.returns-else-is_ascii_digit-clause-count
returns-else-is_ascii_digit-clause-count c =
    omega (arith, count_stop c.args.most c.loop-count.count c.args.bytes.now (omega arith) (sym c.is_ascii_digit.ensures.value ∙ c.if-is_ascii_digit.false))

pub returns-else-is_ascii_digit-clause-value : goal.returns-else-is_ascii_digit-clause-value
returns-else-is_ascii_digit-clause-value c =
    let n : c.loop-count.count ≡ digit_count c.args.most c.args.bytes.now =
    omega (arith, count_stop c.args.most c.loop-count.count c.args.bytes.now (omega arith) (sym c.is_ascii_digit.ensures.value ∙ c.if-is_ascii_digit.false))
    in
    c.loop-count.invariant.1 ∙ ap (λ (k : ℕ). digits_value 10 (take k c.args.bytes.now)) n

pub returns-else-is_ascii_digit-clause-small : goal.returns-else-is_ascii_digit-clause-small
returns-else-is_ascii_digit-clause-small c = omega (arith, tens_below c.loop-count.count c.args.most (omega arith))

pub returns-else-count-bytes-clause-count : goal.returns-else-count-bytes-clause-count
returns-else-count-bytes-clause-count c = omega (arith, count_end c.args.most c.loop-count.count c.args.bytes.now (omega arith))

pub returns-else-count-bytes-clause-small : goal.returns-else-count-bytes-clause-small
returns-else-count-bytes-clause-small c = omega (arith, tens_below c.loop-count.count c.args.most (omega arith))
