use Rattle.std.proofs.Common.{◌≡◌, ◌∙◌, ◌<◌, ◌^◌, ◌%◌, ◌++◌, ℕ, List, [], ◌+◌, ◌/◌, sym, ap, subst, decimal}
use Rattle.std.specs.Prelude.{unsigned_abs, ℤ}
use Rattle.std.specs.Int.{w128, cast_signed as to_z, cast_unsigned as of_z}
use Rattle.std.specs.Int.RustNames.{FitsSigned}
use Rattle.std.proofs.lemmas.Int.{to_z-of_z}
use Rattle.dh_base.specs.Fractions.{Fraction, fraction_of}
use Rattle.dh_base.specs.Decimals.{printed, rounded, sign_of, decimals, with_point, decimal_of}
use Rattle.dh_base.proofs.DecimalLemmas.{rest_below}
use Rattle.dh_base.proofs.RoundingLemmas.{printed_by_parts}
use Rattle.dh_base.proofs.ReadBackLemmas.{read_back}
use Rattle.dh_base.proofs.print.print_rounded.Goals as goal

pub push_decimals-requires-clause-below : goal.push_decimals-requires-clause-below
push_decimals-requires-clause-below c = subst (λ n. n < 10 ^ c.args.decimals) (sym c.round-number.ensures.rest) (rest_below c.args.decimals _)

-- the text that the steps write is the one of the definition
written : (f : Fraction) (places whole rest size den : ℕ) (num : ℤ) (start signed pointed last : List ℕ)
    → num ≡ f.num → size ≡ unsigned_abs f.num → den ≡ f.den → whole ≡ rounded size den places / 10 ^ places → rest ≡ rounded size den places % 10 ^ places
    → start ≡ [] → signed ≡ start ++ sign_of num (whole + rest) → pointed ≡ signed ++ decimal whole → last ≡ pointed ++ with_point (decimals places rest)
    → last ≡ printed f places
written f places whole rest size den num start signed pointed last en es ed ew er e0 e1 e2 e3 =
    e3 ∙ ap (λ t. t ++ with_point (decimals places rest)) (e2
    ∙ ap (λ t. t ++ decimal whole) (e1 ∙ ap (λ t. t ++ sign_of num (whole + rest)) e0 ∙ ap (λ z. sign_of z (whole + rest)) en))
    ∙ printed_by_parts f places whole rest
    (ew ∙ ap (λ n. rounded n den places / 10 ^ places) es ∙ ap (λ n. rounded (unsigned_abs f.num) n places / 10 ^ places) ed)
    (er ∙ ap (λ n. rounded n den places % 10 ^ places) es ∙ ap (λ n. rounded (unsigned_abs f.num) n places % 10 ^ places) ed)

text : (c : goal.In_ok-push_decimals) → c.push_decimals.new.text.items ≡ printed c.args.value c.args.decimals
text c =
    let fits : FitsSigned w128 c.num-num.result = record { sfits = c.num-num.type_inv } in
    let plain : to_z w128 (of_z w128 c.num-num.result) ≡ c.num-num.result = to_z-of_z w128 c.num-num.result fits in
    let den_fits : FitsSigned w128 c.den.result = record { sfits = c.den.type_inv } in
    let den_plain : to_z w128 (of_z w128 c.den.result) ≡ c.den.result = to_z-of_z w128 c.den.result den_fits in
    written c.args.value c.args.decimals c.round-number.result.whole c.round-number.result.rest c.unsigned_abs.result c.unsigned_abs-2.result
    (to_z w128 (of_z w128 c.num-num.result)) c.new-text.result.items c.push_sign.new.text.items c.push_whole.new.text.items c.push_decimals.new.text.items
    (plain ∙ c.num-num.ensures.value) (c.unsigned_abs.ensures.value ∙ ap unsigned_abs (plain ∙ c.num-num.ensures.value))
    (c.unsigned_abs-2.ensures.value ∙ ap unsigned_abs (den_plain ∙ c.den.ensures.value))
    c.round-number.ensures.whole c.round-number.ensures.rest c.new-text.ensures.items
    c.in_ok-push_sign.ensures c.in_ok-push_whole.ensures c.in_ok-push_decimals.ensures

pub returns-clause-text : goal.returns-clause-text
returns-clause-text c = text c

pub returns-clause-read_back : goal.returns-clause-read_back
returns-clause-read_back c micros small value six =
    ap decimal_of (text c ∙ ap (λ f. printed f c.args.decimals) value ∙ ap (printed (fraction_of micros 1000000)) six) ∙ read_back micros small
