-- Sums of numbers times days.
use Rattle.std.proofs.Common.{◌≡◌, ◌∙◌, ℕ, ◌+◌, ◌*◌, ◌<◌, ◌≤◌, List, length, drop, get_or, ℤ, pos, ◌+ℤ◌, ◌*ℤ◌, unsigned_abs, sym, ap, arith}
use Rattle.std.proofs.Math.Nat.{mul-le-mul_left}
use Rattle.std.proofs.Math.IntN.{+ℤ_assoc, +ℤ_idl, +ℤ_idr}
use Rattle.std.proofs.lemmas.List.{drop_more, drop_all}
use Rattle.dh_base.proofs.FractionLemmas.{abs_times}
use Rattle.table_rows.specs.Samples.{total}

pub record WeightSoFar {X : Type 0} (f : X → ℤ) (xs : List X) (i : ℕ) (sum : ℤ) : Type 0 where
  pub is : total f xs ≡ sum +ℤ total f (drop i xs)

pub weights-start : {X : Type 0} (f : X → ℤ) (xs : List X) → WeightSoFar f xs 0 (pos 0)
weights-start f xs = record { is = sym (+ℤ_idl (total f xs)) }

pub weights-more : {X : Type 0} (f : X → ℤ) (xs : List X) (i : ℕ) (x : X) (sum more new : ℤ) → i < length xs → x ≡ get_or xs i x → more ≡ f x
    → new ≡ sum +ℤ more
    → WeightSoFar f xs i sum → WeightSoFar f xs (i + 1) new
weights-more f xs i x sum more new within at of is before = record {
  is = before.is ∙ ap (λ ys. sum +ℤ total f ys) (drop_more xs i x within)
      ∙ sym (+ℤ_assoc sum (f (get_or xs i x)) (total f (drop (i + 1) xs)))
      ∙ ap (λ z. (sum +ℤ z) +ℤ total f (drop (i + 1) xs)) (ap f (sym at) ∙ sym of)
      ∙ ap (λ z. z +ℤ total f (drop (i + 1) xs)) (sym is);
}

pub weights-end : {X : Type 0} (f : X → ℤ) (xs : List X) (i : ℕ) (sum : ℤ) → length xs ≤ i → WeightSoFar f xs i sum → sum ≡ total f xs
weights-end f xs i sum past done = sym (done.is ∙ ap (λ ys. sum +ℤ total f ys) (drop_all i xs past) ∙ +ℤ_idr sum)

-- a sum of so many numbers times the days of a period
times_small : (m c d : ℕ) → m ≤ 9223372036854775808 * c → d ≤ 4294967296 → m * d ≤ 39614081257132168796771975168 * c
times_small m c d small short =
    let one : m * d ≤ m * 4294967296 = mul-le-mul_left m short in
    omega (arith, one, small)

pub weight-small : (micros : ℤ) (count days : ℕ) → unsigned_abs micros ≤ 9223372036854775808 * count → days ≤ 4294967296
    → unsigned_abs (micros *ℤ pos days) ≤ 39614081257132168796771975168 * count
weight-small micros count days small short =
    let size = abs_times micros days in
    let fits = times_small (unsigned_abs micros) count days small short in
    omega (arith, size, fits)
