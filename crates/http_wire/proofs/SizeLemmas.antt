-- Sizes of so many digits.
use Rattle.std.proofs.Common.{◌≡◌, ◌≤◌, ◌<◌, ◌+◌, ◌*◌, ◌^◌, ℕ, add-one, arith}
use Rattle.std.proofs.Math.Nat.{pow-le-pow_right, pow-suc}

-- one more digit
pub one_more : (count size digit : ℕ) → size < 16 ^ count → digit < 16 → size * 16 + digit < 16 ^ (count + 1)
one_more count size digit sized small =
    let next : 16 ^ (count + 1) ≡ 16 ^ count * 16 = rw add-one (pow-suc 16 count) in
    omega arith

-- so few digits fit
pub few_digits : (count size digit : ℕ) → size < 16 ^ count → count < 16 → digit < 16 → size * 16 + digit < 18446744073709551616
few_digits count size digit sized short small =
    let below : 16 ^ count ≤ 16 ^ 15 = pow-le-pow_right {n = 16} (omega arith) {i = count} {j = 15} (omega arith) in
    omega arith
