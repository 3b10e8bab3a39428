-- Texts that fit a value type have at most 1,024 bytes.
use Rattle.std.proofs.Common.{◌≡◌, ◌∙◌, ℕ, ◌<◌, ◌≤◌, Bool, true, false, cond, List, [], length, Option, Some, None, refl, sym, ap, arith}
use Rattle.std.specs.Prelude.{pos, int_lt, int_le, is_some, ◌&&◌, ◌||◌, ◌==◌, nat_le, unwrap_or, bytes_eq, codes, option_map, option_and_then}
use Rattle.std.specs.Option.{option_map_or}
use Rattle.std.specs.List.{list_any}
use Rattle.std.proofs.lemmas.Bool.Decides.{nat_tests}
use Rattle.std.proofs.lemmas.Slice.Eq.{bytes_eq-Decides}
use Rattle.dh_base.specs.Decimals.{decimal_of, is_point}
use Rattle.dh_base.proofs.DecimalLemmas.{decimal_of-long}
use Rattle.dh_periods.specs.Civil.{civil_of, read_date}
use Rattle.dh_periods.specs.Days.{first_day, listed}
use Rattle.dh_metadata.specs.declared.names.ValueType.{ValueType}
use Rattle.dh_metadata.specs.declared.names.ValueType.TheVariants as value_type
use Rattle.dh_metadata.specs.declared.records.Element.{Element}
use Rattle.dh_records.specs.Values.{integer_of, number_if, is_up_to, is_true, is_false, is_short, fits}

integer_of-long : (text : List ℕ) → 1024 < length text → integer_of text ≡ None
unfolding integer_of
integer_of-long text long =
    elim (list_any is_point text) as (λ b. cond b None (decimal_of text) ≡ None) [ true ↦ refl | false ↦ decimal_of-long text (omega arith) ]

-- a text that is longer than another is another
other : (text short : List ℕ) → length short < length text → bytes_eq text short ≡ false
other text short longer =
    elim (bytes_eq text short) as (λ b. bytes_eq text short ≡ b → b ≡ false) [
      | true ↦ λ same.
          let equal : length text ≡ length short = ap length ((bytes_eq-Decides text short).0 same) in
          absurd (omega (arith, equal))
      | false ↦ λ differs. refl
    ] refl

not_ten : (n : ℕ) → 1024 < n → (n == 10) ≡ false
not_ten n more = grind (arith, nat_tests)

not_small : (n : ℕ) → 1024 < n → nat_le n 1024 ≡ false
not_small n more = grind (arith, nat_tests)

either : (a b : Bool) → a ≡ false → b ≡ false → (a || b) ≡ false
either true b is none = is
either false b is none = none

and_not : (a b : Bool) → b ≡ false → (a && b) ≡ false
and_not true b is = is
and_not false b is = refl

read_date-long : (text : List ℕ) → 1024 < length text → read_date text ≡ None
unfolding read_date
read_date-long text long = rw (not_ten (length text) long) refl

civil_of-long : (text : List ℕ) → 1024 < length text → civil_of text ≡ None
unfolding civil_of
civil_of-long text long = ap (λ o. option_map first_day (option_and_then listed o)) (read_date-long text long)

is_true-long : (text : List ℕ) → 1024 < length text → is_true text ≡ false
is_true-long text long =
    either (bytes_eq text (codes "true")) (bytes_eq text (codes "1")) (other text (codes "true") (omega arith)) (other text (codes "1") (omega arith))

is_false-long : (text : List ℕ) → 1024 < length text → is_false text ≡ false
is_false-long text long =
    either (bytes_eq text (codes "false")) (bytes_eq text (codes "0")) (other text (codes "false") (omega arith)) (other text (codes "0") (omega arith))

is_short-long : (text : List ℕ) → 1024 < length text → is_short text ≡ false
unfolding is_short
is_short-long text long = and_not (nat_le 1 (length text)) (nat_le (length text) 1024) (not_small (length text) long)

fits-long : (kind : ValueType) (text : List ℕ) → 1024 < length text → fits kind text ≡ false
fits-long value_type.Number text long = ap is_some (decimal_of-long text (omega arith))
fits-long value_type.Integer text long = ap is_some (integer_of-long text long)
fits-long value_type.IntegerPositive text long = ap (λ o. is_some (number_if (int_lt (pos 0)) o)) (integer_of-long text long)
fits-long value_type.IntegerNegative text long = ap (λ o. is_some (number_if (λ number. int_lt number (pos 0)) o)) (integer_of-long text long)
fits-long value_type.IntegerZeroOrPositive text long = ap (λ o. is_some (number_if (int_le (pos 0)) o)) (integer_of-long text long)
fits-long value_type.Percentage text long = ap (λ o. is_some (number_if (is_up_to (pos 100000000)) o)) (decimal_of-long text (omega arith))
fits-long value_type.UnitInterval text long = ap (λ o. is_some (number_if (is_up_to (pos 1000000)) o)) (decimal_of-long text (omega arith))
fits-long value_type.Boolean text long = either (is_true text) (is_false text) (is_true-long text long) (is_false-long text long)
fits-long value_type.TrueOnly text long = is_true-long text long
fits-long value_type.Date text long = ap is_some (civil_of-long text long)
fits-long value_type.Text text long = is_short-long text long

small_or_long : (n : ℕ) (fit : Bool) → (1024 < n → fit ≡ false) → fit ≡ true → n ≤ 1024
small_or_long n fit long is =
    elim (nat_le n 1024) as (λ b. nat_le n 1024 ≡ b → n ≤ 1024) [
      | true ↦ λ small. grind (arith, nat_tests)
      | false ↦ λ big.
          let more : 1024 < n = grind (arith, nat_tests) in
          let never : true ≡ false = sym is ∙ long more in
          cc
    ] refl

pub fits-small : (kind : ValueType) (text : List ℕ) → fits kind text ≡ true → length text ≤ 1024
fits-small kind text is = small_or_long (length text) (fits kind text) (fits-long kind text) is

-- a text that an element may have
pub value-small : (found : Option Element) (text : Option (List ℕ))
    → option_map_or (λ (element : Element). option_map_or (λ own. fits element.value_type own) text false) found false ≡ true
    → length (unwrap_or text []) ≤ 1024
value-small None text is = cc
value-small (Some element) None is = cc
value-small (Some element) (Some own) is = fits-small element.value_type own is
