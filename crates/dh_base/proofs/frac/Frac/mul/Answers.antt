use Rattle.std.proofs.Common.{◌≡◌, ◌∙◌, ℕ, ◌*◌, ◌/◌, sym, ap, subst, rules}
use Rattle.std.specs.Prelude.{ℤ, pos, ◌*ℤ◌, unsigned_abs, int_div, Ok, Err}
use Rattle.std.specs.Int.{w128, cast_signed as to_z, cast_unsigned as of_z}
use Rattle.std.specs.Int.RustNames.{FitsSigned}
use Rattle.std.proofs.lemmas.Int.{to_z-of_z}
use Rattle.dh_base.specs.declared.plain.NumFault.TheVariants.{Wide}
use Rattle.dh_base.specs.Fractions.{Fraction, ratio, gcd, product_of, IsFitting, mul_of, fitting}
use Rattle.dh_base.proofs.FractionLemmas.{product-crossed, product_of-IsReduced, parts_answer, wide_num_answer, wide_den_answer}
use Rattle.dh_base.proofs.frac.Frac.mul.Goals as goal

-- the two numbers that the body computes are those of the product
told : (x y : Fraction) (s r g h : ℕ) (a b : ℤ) → IsFitting x → IsFitting y → FitsSigned w128 x.num → FitsSigned w128 y.num
    → s ≡ unsigned_abs (to_z w128 (of_z w128 x.num)) → g ≡ gcd s y.den → r ≡ unsigned_abs (to_z w128 (of_z w128 y.num)) → h ≡ gcd r x.den
    → FitsSigned w128 a → a ≡ int_div (to_z w128 (of_z w128 x.num)) (pos g) → FitsSigned w128 b → b ≡ int_div (to_z w128 (of_z w128 y.num)) (pos h)
    → ratio (to_z w128 (of_z w128 a) *ℤ to_z w128 (of_z w128 b)) (x.den / h * (y.den / g)) ≡ product_of x y
told x y s r g h a b left right fx fy es eg er eh fa ea fb eb =
    let px : to_z w128 (of_z w128 x.num) ≡ x.num = to_z-of_z w128 x.num fx in
    let py : to_z w128 (of_z w128 y.num) ≡ y.num = to_z-of_z w128 y.num fy in
    let across : g ≡ gcd (unsigned_abs x.num) y.den = eg ∙ ap (λ n. gcd n y.den) (es ∙ ap unsigned_abs px) in
    let back : h ≡ gcd (unsigned_abs y.num) x.den = eh ∙ ap (λ n. gcd n x.den) (er ∙ ap unsigned_abs py) in
    let pa : to_z w128 (of_z w128 a) ≡ int_div x.num (pos g) = to_z-of_z w128 a fa ∙ ea ∙ ap (λ z. int_div z (pos g)) px in
    let pb : to_z w128 (of_z w128 b) ≡ int_div y.num (pos h) = to_z-of_z w128 b fb ∙ eb ∙ ap (λ z. int_div z (pos h)) py in
    ap (λ z. ratio (z *ℤ to_z w128 (of_z w128 b)) (x.den / h * (y.den / g))) pa
    ∙ ap (λ z. ratio (int_div x.num (pos g) *ℤ z) (x.den / h * (y.den / g))) pb
    ∙ product-crossed x y left.reduced right.reduced g h across back

numbers-In_default : (c : goal.In_default)
    → ratio (to_z w128 (of_z w128 c.divided.result) *ℤ to_z w128 (of_z w128 c.divided-2.result))
    (c.self.inside.den / c.common_divisor-back.result * (c.other.inside.den / c.common_divisor-across.result))
    ≡ product_of (ratio c.self.inside.num c.self.inside.den) (ratio c.other.inside.num c.other.inside.den)
numbers-In_default c =
    told (ratio c.self.inside.num c.self.inside.den) (ratio c.other.inside.num c.other.inside.den) c.unsigned_abs.result c.unsigned_abs-2.result
    c.common_divisor-across.result c.common_divisor-back.result c.divided.result c.divided-2.result
    c.self.invariant c.other.invariant (search rules) (search rules) c.unsigned_abs.ensures.value c.common_divisor-across.ensures.value
    c.unsigned_abs-2.ensures.value c.common_divisor-back.ensures.value
    (record { sfits = c.divided.type_inv }) c.divided.ensures (record { sfits = c.divided-2.type_inv }) c.divided-2.ensures

numbers-In_default-size_product : (c : goal.In_default-size_product)
    → ratio (to_z w128 (of_z w128 c.divided.result) *ℤ to_z w128 (of_z w128 c.divided-2.result))
    (c.self.inside.den / c.common_divisor-back.result * (c.other.inside.den / c.common_divisor-across.result))
    ≡ product_of (ratio c.self.inside.num c.self.inside.den) (ratio c.other.inside.num c.other.inside.den)
numbers-In_default-size_product c =
    told (ratio c.self.inside.num c.self.inside.den) (ratio c.other.inside.num c.other.inside.den) c.unsigned_abs.result c.unsigned_abs-2.result
    c.common_divisor-across.result c.common_divisor-back.result c.divided.result c.divided-2.result
    c.self.invariant c.other.invariant (search rules) (search rules) c.unsigned_abs.ensures.value c.common_divisor-across.ensures.value
    c.unsigned_abs-2.ensures.value c.common_divisor-back.ensures.value
    (record { sfits = c.divided.type_inv }) c.divided.ensures (record { sfits = c.divided-2.type_inv }) c.divided-2.ensures

numbers-In-Some-size_product : (c : goal.In-Some-size_product)
    → ratio (to_z w128 (of_z w128 c.divided.result) *ℤ to_z w128 (of_z w128 c.divided-2.result))
    (c.self.inside.den / c.common_divisor-back.result * (c.other.inside.den / c.common_divisor-across.result))
    ≡ product_of (ratio c.self.inside.num c.self.inside.den) (ratio c.other.inside.num c.other.inside.den)
numbers-In-Some-size_product c =
    told (ratio c.self.inside.num c.self.inside.den) (ratio c.other.inside.num c.other.inside.den) c.unsigned_abs.result c.unsigned_abs-2.result
    c.common_divisor-across.result c.common_divisor-back.result c.divided.result c.divided-2.result
    c.self.invariant c.other.invariant (search rules) (search rules) c.unsigned_abs.ensures.value c.common_divisor-across.ensures.value
    c.unsigned_abs-2.ensures.value c.common_divisor-back.ensures.value
    (record { sfits = c.divided.type_inv }) c.divided.ensures (record { sfits = c.divided-2.type_inv }) c.divided-2.ensures

pub returns-in_default : goal.returns-in_default
returns-in_default c =
    subst (λ (f : Fraction). Err Wide ≡ mul_of f c.args.other) c.self.view_is
    (subst (λ (f : Fraction). Err Wide ≡ mul_of (ratio c.self.inside.num c.self.inside.den) f) c.other.view_is
    (wide_num_answer _ _ _ (numbers-In_default c) (sym c.in_default.is ∙ c.product.ensures)))

pub returns-in_default-size_product : goal.returns-in_default-size_product
returns-in_default-size_product c =
    subst (λ (f : Fraction). Err Wide ≡ mul_of f c.args.other) c.self.view_is
    (subst (λ (f : Fraction). Err Wide ≡ mul_of (ratio c.self.inside.num c.self.inside.den) f) c.other.view_is
    (wide_den_answer _ _ _ (numbers-In_default-size_product c) (sym c.in_default-size_product.is ∙ c.size_product.ensures)))

computed : (c : goal.In-Some-size_product)
    → IsFitting (ratio c.in-Some.num c.in-Some-size_product.den)
    × (Ok (ratio c.in-Some.num c.in-Some-size_product.den)
    ≡ fitting (product_of (ratio c.self.inside.num c.self.inside.den) (ratio c.other.inside.num c.other.inside.den)))
computed c =
    parts_answer _ _ _ (numbers-In-Some-size_product c) (product_of-IsReduced _ _ c.self.invariant.reduced.positive c.other.invariant.reduced.positive)
    c.in-Some.num c.in-Some-size_product.den (sym c.in-Some.is ∙ c.product.ensures) (sym c.in-Some-size_product.is ∙ c.size_product.ensures)

plain : (c : goal.In-Some-size_product) → to_z w128 (of_z w128 c.in-Some.num) ≡ c.in-Some.num
plain c = let fits : FitsSigned w128 c.in-Some.num = search rules in to_z-of_z w128 c.in-Some.num fits

pub invariant_of-result : goal.invariant_of-result
invariant_of-result c = subst (λ n. IsFitting (ratio n c.in-Some-size_product.den)) (sym (plain c)) (computed c).0

pub returns : goal.returns
returns c =
    subst (λ (f : Fraction). Ok (ratio (to_z w128 (of_z w128 c.in-Some.num)) c.in-Some-size_product.den) ≡ mul_of f c.args.other) c.self.view_is
    (subst (λ (f : Fraction). Ok (ratio (to_z w128 (of_z w128 c.in-Some.num)) c.in-Some-size_product.den)
    ≡ mul_of (ratio c.self.inside.num c.self.inside.den) f) c.other.view_is
    (ap (λ n. Ok (ratio n c.in-Some-size_product.den)) (plain c) ∙ (computed c).1))
