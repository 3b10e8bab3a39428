-- A number at the front of a text, by what its two runs of digits give, and runs of bytes that are counted one by one.
use Rattle.std.proofs.Common.{◌≡◌, ℕ, suc, ◌+◌, ◌-◌, ◌*◌, ◌^◌, ◌<◌, ◌≤◌, Bool, true, false, cond, List, ◌∷◌, length, get_or, drop, Result, Ok, Err, refl, sym, ap, ◌∙◌}
use Rattle.std.proofs.Common.{add-one, arith}
use Rattle.std.specs.Prelude.{nat_eq, slice_index, if◌then◌else◌}
use Rattle.std.proofs.Math.Seq.{drop-cons}
use Rattle.std.proofs.lemmas.List.{drop_all}
use Rattle.expr_lang.specs.Reading.{is_blank_of, blank_count}
use Rattle.expr_lang.specs.Token.{digit_count, digits_of_front, number_of, fits_of, front_of}
use Rattle.expr_lang.proofs.Letters.{differ}

-- what a test gives whose answer is known
pub by_true : {A : Type 0} (t : Bool) (x y : A) → t ≡ true → x ≡ cond t x y
by_true true x y e = refl
by_true false x y e = absurd cc

pub by_false : {A : Type 0} (t : Bool) (x y : A) → t ≡ false → y ≡ cond t x y
by_false false x y e = refl
by_false true x y e = absurd cc

-- by the number of digits before the point, the byte after them, their value, and the number and the value of those after the point
abbrev pub number_by : ℕ → ℕ → ℕ → ℕ → ℕ → Result (ℕ × ℕ) ℕ
number_by len byte whole decimals part =
    if nat_eq len 0 then Err 0
    else if nat_eq byte 46
    then (if nat_eq decimals 0 then Err (len + 1) else Ok (whole * 1000000 + part * 10 ^ (6 - decimals), len + 1 + decimals))
    else Ok (whole * 1000000, len)

pub number_is : (bytes rest : List ℕ) (len whole decimals part : ℕ) → len ≡ digit_count 12 bytes → whole ≡ digits_of_front 12 bytes
    → rest ≡ drop (len + 1) bytes → decimals ≡ digit_count 6 rest → part ≡ digits_of_front 6 rest
    → number_by len (slice_index bytes len) whole decimals part ≡ number_of bytes
unfolding number_of
number_is bytes rest len whole decimals part long counted after few parted =
    let all : List ℕ = drop (digit_count 12 bytes + 1) bytes in
    let same : rest ≡ all = after ∙ ap (λ (k : ℕ). drop (k + 1) bytes) long in
    ap (λ (k : ℕ). number_by k (slice_index bytes k) whole decimals part) long
    ∙ ap (λ (k : ℕ). number_by (digit_count 12 bytes) (slice_index bytes (digit_count 12 bytes)) k decimals part) counted
    ∙ ap (λ (k : ℕ). number_by (digit_count 12 bytes) (slice_index bytes (digit_count 12 bytes)) (digits_of_front 12 bytes) k part)
    (few ∙ ap (digit_count 6) same)
    ∙ ap (λ (k : ℕ). number_by (digit_count 12 bytes) (slice_index bytes (digit_count 12 bytes)) (digits_of_front 12 bytes) (digit_count 6 all) k)
    (parted ∙ ap (digits_of_front 6) same)

pub number_none : (len byte whole decimals part : ℕ) → len ≡ 0 → Err 0 ≡ number_by len byte whole decimals part
number_none len byte whole decimals part none = by_true (nat_eq len 0) _ _ (ap (λ (k : ℕ). nat_eq k 0) none)

pub number_whole : (len byte whole decimals part : ℕ) → (¬ (len ≡ 0)) → (¬ (byte ≡ 46)) → Ok (whole * 1000000, len) ≡ number_by len byte whole decimals part
number_whole len byte whole decimals part some ends =
    by_false (nat_eq byte 46) _ _ (differ byte 46 ends) ∙ by_false (nat_eq len 0) _ _ (differ len 0 some)

pub number_cut : (len byte whole decimals part : ℕ) → (¬ (len ≡ 0)) → byte ≡ 46 → decimals ≡ 0 → Err (len + 1) ≡ number_by len byte whole decimals part
number_cut len byte whole decimals part some point none =
    by_true (nat_eq decimals 0) _ _ (ap (λ (k : ℕ). nat_eq k 0) none) ∙ by_true (nat_eq byte 46) _ _ (ap (λ (k : ℕ). nat_eq k 46) point)
    ∙ by_false (nat_eq len 0) _ _ (differ len 0 some)

pub number_parted : (len byte whole decimals part unit : ℕ) → (¬ (len ≡ 0)) → byte ≡ 46 → (¬ (decimals ≡ 0)) → unit ≡ 10 ^ (6 - decimals)
    → Ok (whole * 1000000 + part * unit, len + 1 + decimals) ≡ number_by len byte whole decimals part
number_parted len byte whole decimals part unit some point more is =
    ap (λ (k : ℕ). Ok (whole * 1000000 + part * k, len + 1 + decimals)) is ∙ by_false (nat_eq decimals 0) _ _ (differ decimals 0 more)
    ∙ by_true (nat_eq byte 46) _ _ (ap (λ (k : ℕ). nat_eq k 46) point) ∙ by_false (nat_eq len 0) _ _ (differ len 0 some)

-- one blank more, no blank, and the end of the text
pub blank_more : (bytes : List ℕ) (n : ℕ) → n < length bytes → is_blank_of (get_or bytes n 0) ≡ true
    → blank_count (drop n bytes) ≡ 1 + blank_count (drop (n + 1) bytes)
blank_more bytes n within blank =
    ap blank_count (drop-cons bytes n 0 within) ∙ sym (by_true (is_blank_of (get_or bytes n 0)) (suc (blank_count (drop (suc n) bytes))) 0 blank)
    ∙ ap (λ (k : ℕ). suc (blank_count (drop k bytes))) (sym (add-one n)) ∙ omega arith

pub blank_stop : (bytes : List ℕ) (n : ℕ) → n < length bytes → is_blank_of (get_or bytes n 0) ≡ false → blank_count (drop n bytes) ≡ 0
blank_stop bytes n within other =
    ap blank_count (drop-cons bytes n 0 within) ∙ sym (by_false (is_blank_of (get_or bytes n 0)) (suc (blank_count (drop (suc n) bytes))) 0 other)

pub blank_end : (bytes : List ℕ) (n : ℕ) → length bytes ≤ n → blank_count (drop n bytes) ≡ 0
blank_end bytes n past = ap blank_count (drop_all n bytes past)

-- one byte more of a word, and one that doesn't fit
pub front_more : (word bytes : List ℕ) (n : ℕ) → n < length word → n < length bytes → fits_of (get_or word n 0) (get_or bytes n 0) ≡ true
    → front_of (drop n word) (drop n bytes) ≡ 1 + front_of (drop (n + 1) word) (drop (n + 1) bytes)
front_more word bytes n in_word within fits =
    ap (λ (w : List ℕ). front_of w (drop n bytes)) (drop-cons word n 0 in_word)
    ∙ ap (front_of (get_or word n 0 ∷ drop (suc n) word)) (drop-cons bytes n 0 within)
    ∙ sym (by_true (fits_of (get_or word n 0) (get_or bytes n 0)) (suc (front_of (drop (suc n) word) (drop (suc n) bytes))) 0 fits)
    ∙ ap (λ (k : ℕ). suc (front_of (drop k word) (drop k bytes))) (sym (add-one n)) ∙ omega arith

pub front_stop : (word bytes : List ℕ) (n : ℕ) → n < length word → n < length bytes → fits_of (get_or word n 0) (get_or bytes n 0) ≡ false
    → front_of (drop n word) (drop n bytes) ≡ 0
front_stop word bytes n in_word within other =
    ap (λ (w : List ℕ). front_of w (drop n bytes)) (drop-cons word n 0 in_word)
    ∙ ap (front_of (get_or word n 0 ∷ drop (suc n) word)) (drop-cons bytes n 0 within)
    ∙ sym (by_false (fits_of (get_or word n 0) (get_or bytes n 0)) (suc (front_of (drop (suc n) word) (drop (suc n) bytes))) 0 other)

pub front_end : (word bytes : List ℕ) (n : ℕ) → length word ≤ n → front_of (drop n word) (drop n bytes) ≡ 0
front_end word bytes n past = ap (λ (w : List ℕ). front_of w (drop n bytes)) (drop_all n word past)
