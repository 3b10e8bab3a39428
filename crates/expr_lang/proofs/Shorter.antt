-- A word of which the text has less than of another has no part in what is read.
use Rattle.std.proofs.Common.{◌≡◌, ℕ, zero, suc, ◌-◌, ◌<◌, ◌≤◌, Bool, true, false, cond, List, [], ◌∷◌, length, refl, sym, ap, true≢false, arith}
use Rattle.std.specs.Prelude.{◌||◌, ◌&&◌, not, nat_eq, nat_lt, nat_le, slice_index}
use Rattle.std.proofs.lemmas.Bool.Decides.{nat_tests}
use Rattle.expr_lang.specs.declared.words.Symbol.{Symbol}
use Rattle.expr_lang.specs.declared.token.Front.{Front}
use Rattle.expr_lang.specs.Token.{fits_of, front_of, better_of}
use Rattle.expr_lang.specs.Short.{falls_short_of}
use Rattle.expr_lang.specs.Words.{text_of}

one_more : (t : Bool) (f n : ℕ) → f ≤ n → cond t (suc f) 0 ≤ suc n
one_more true f n h = omega (arith, h)
one_more false f n h = omega arith

front_below : (word bytes : List ℕ) (n : ℕ) → n < length word → n < length bytes → fits_of (slice_index word n) (slice_index bytes n) ≡ false
    → front_of word bytes ≤ n
front_below [] bytes n lt lu e = absurd (omega (arith, lt))
front_below (c ∷ cs) [] n lt lu e = absurd (omega (arith, lu))
front_below (c ∷ cs) (b ∷ bs) zero lt lu e =
    let z : front_of (c ∷ cs) (b ∷ bs) ≡ 0 = ap (λ (t : Bool). cond t (suc (front_of cs bs)) 0) e in omega (arith, z)
front_below (c ∷ cs) (b ∷ bs) (suc n) lt lu e =
    one_more (fits_of c b) (front_of cs bs) n (front_below cs bs n (omega (arith, lt)) (omega (arith, lu)) e)

record Four (a b c d : Bool) : Type 0 where
  one : a ≡ true
  two : b ≡ true
  three : c ≡ true
  four : d ≡ true

four_of : (a b c d : Bool) → (a && b && c && d) ≡ true → Four a b c d
four_of true true true true e = record { one = refl; two = refl; three = refl; four = refl }
four_of true true true false e = absurd (true≢false (sym e))
four_of true true false d e = absurd (true≢false (sym e))
four_of true false c d e = absurd (true≢false (sym e))
four_of false b c d e = absurd (true≢false (sym e))

unless_true : (x : Bool) → not x ≡ true → x ≡ false
unless_true true e = absurd (true≢false (sym e))
unless_true false e = refl

before : (n k : ℕ) → nat_lt 0 n ≡ true → nat_le n k ≡ true → n - 1 < k
before n k some most = grind (arith, nat_tests)

less : (n f : ℕ) → nat_lt 0 n ≡ true → f ≤ n - 1 → f < n
less n f some most = grind (arith, nat_tests)

no_longer : (best found : Front) (f n : ℕ) → f < best.len → cond (nat_lt best.len f || (nat_eq best.len f && nat_eq f n)) found best ≡ best
no_longer best found f n short =
    by_test (nat_lt best.len f || (nat_eq best.len f && nat_eq f n)) (grind (arith, nat_tests))
  where
    by_test : (t : Bool) → t ≡ false → cond t found best ≡ best
    by_test true e = absurd cc
    by_test false e = refl

short_by : (len : ℕ) (word bytes : List ℕ)
    → (nat_lt 0 len && nat_le len (length word) && nat_le len (length bytes)
    && not (fits_of (slice_index word (len - 1)) (slice_index bytes (len - 1)))) ≡ true → front_of word bytes < len
short_by len word bytes e =
    let is =
    four_of (nat_lt 0 len) (nat_le len (length word)) (nat_le len (length bytes))
    (not (fits_of (slice_index word (len - 1)) (slice_index bytes (len - 1)))) e in
    less len (front_of word bytes) is.one
    (front_below word bytes (len - 1) (before len (length word) is.one is.two) (before len (length bytes) is.one is.three)
    (unless_true (fits_of (slice_index word (len - 1)) (slice_index bytes (len - 1))) is.four))

-- what is best so far stays so
pub short_stays : (best : Front) (w : Symbol) (bytes : List ℕ) → falls_short_of best.len (text_of w) bytes ≡ true → best ≡ better_of best w bytes
unfolding falls_short_of
short_stays best w bytes e =
    sym (no_longer best _ (front_of (text_of w) bytes) (length (text_of w)) (short_by best.len (text_of w) bytes e))
