use Rattle.std.proofs.Common.{◌≡◌, ℕ, ◌+◌, ◌-◌, ◌≤◌, List, length, get_or, drop, refl, ◌∙◌, arith}
use Rattle.std.specs.Prelude.{slice_index}
use Rattle.std.proofs.lemmas.List.{length-drop, take_all, get_or_past}
use Rattle.expr_lang.specs.Token.{digit_count, digits_of_front}
use Rattle.expr_lang.proofs.NumberLemmas.{number_is, number_none, number_whole, number_cut, number_parted}
use Rattle.expr_lang.proofs.token.number_at.Goals.{else-len-bytes-via-then-len-bytes+else-bytes-len-eq46, else-len-bytes-via-else-len-bytes}
use Rattle.expr_lang.proofs.token.number_at.Goals as goal

nothing_past : (bytes : List ℕ) (n : ℕ) → length bytes ≤ n → ¬ (slice_index bytes n ≡ 46)
nothing_past bytes n past point = let none : slice_index bytes n ≡ 0 = get_or_past bytes n 0 past in cc

pub returns-then-len-eq0-clause-value : goal.returns-then-len-eq0-clause-value
returns-then-len-eq0-clause-value c =
    let rest = drop (c.digits_at-whole.result.1 + 1) c.args.bytes.now in
    number_none c.digits_at-whole.result.1 (slice_index c.args.bytes.now c.digits_at-whole.result.1) c.digits_at-whole.result.0 (digit_count 6 rest)
    (digits_of_front 6 rest) c.if-len-eq0.true
    ∙ number_is c.args.bytes.now rest c.digits_at-whole.result.1 c.digits_at-whole.result.0 (digit_count 6 rest) (digits_of_front 6 rest)
    c.digits_at-whole.ensures.count c.digits_at-whole.ensures.value refl refl refl

pub returns-else-len-bytes-clause-value : goal.returns-else-len-bytes-clause-value
returns-else-len-bytes-clause-value c =
    let rest = drop (c.digits_at-whole.result.1 + 1) c.args.bytes.now in
    let ends : ¬ (get_or c.args.bytes.now c.digits_at-whole.result.1 0 ≡ 46) =
    elim c.else-len-bytes.branch [
      | else-len-bytes-via-then-len-bytes+else-bytes-len-eq46 w ↦ w.if-bytes-len-eq46.false
      | else-len-bytes-via-else-len-bytes w ↦ nothing_past c.args.bytes.now c.digits_at-whole.result.1 w.if-len-bytes.false
    ]
    in
    number_whole c.digits_at-whole.result.1 (slice_index c.args.bytes.now c.digits_at-whole.result.1) c.digits_at-whole.result.0 (digit_count 6 rest)
    (digits_of_front 6 rest) c.if-len-eq0.false ends
    ∙ number_is c.args.bytes.now rest c.digits_at-whole.result.1 c.digits_at-whole.result.0 (digit_count 6 rest) (digits_of_front 6 rest)
    c.digits_at-whole.ensures.count c.digits_at-whole.ensures.value refl refl refl

pub returns-then-decimals-eq0-clause-value : goal.returns-then-decimals-eq0-clause-value
returns-then-decimals-eq0-clause-value c =
    let tail = drop (c.digits_at-whole.result.1 + 1) c.args.bytes.now in
    number_cut c.digits_at-whole.result.1 (slice_index c.args.bytes.now c.digits_at-whole.result.1) c.digits_at-whole.result.0 c.digits_at-part.result.1 c.digits_at-part.result.0 c.if-len-eq0.false
    c.if-bytes-len-eq46.true c.if-decimals-eq0.true
    ∙ number_is c.args.bytes.now _ c.digits_at-whole.result.1 c.digits_at-whole.result.0 c.digits_at-part.result.1 c.digits_at-part.result.0
    c.digits_at-whole.ensures.count c.digits_at-whole.ensures.value
    (take_all (length c.args.bytes.now - (c.digits_at-whole.result.1 + 1)) tail
    (omega (arith, length-drop (c.digits_at-whole.result.1 + 1) c.args.bytes.now)))
    c.digits_at-part.ensures.count c.digits_at-part.ensures.value

pub returns-else-decimals-eq0-clause-value : goal.returns-else-decimals-eq0-clause-value
returns-else-decimals-eq0-clause-value c =
    let tail = drop (c.digits_at-whole.result.1 + 1) c.args.bytes.now in
    number_parted c.digits_at-whole.result.1 (slice_index c.args.bytes.now c.digits_at-whole.result.1) c.digits_at-whole.result.0 c.digits_at-part.result.1 c.digits_at-part.result.0 c.scale.result
    c.if-len-eq0.false c.if-bytes-len-eq46.true c.if-decimals-eq0.false c.scale.ensures
    ∙ number_is c.args.bytes.now _ c.digits_at-whole.result.1 c.digits_at-whole.result.0 c.digits_at-part.result.1 c.digits_at-part.result.0
    c.digits_at-whole.ensures.count c.digits_at-whole.ensures.value
    (take_all (length c.args.bytes.now - (c.digits_at-whole.result.1 + 1)) tail
    (omega (arith, length-drop (c.digits_at-whole.result.1 + 1) c.args.bytes.now)))
    c.digits_at-part.ensures.count c.digits_at-part.ensures.value
