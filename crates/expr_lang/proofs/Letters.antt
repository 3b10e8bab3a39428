-- A word whose first letter isn't the text's first byte has no part in what is read.
use Rattle.std.proofs.Common.{◌≡◌, ℕ, zero, suc, ◌+◌, ◌<◌, Bool, true, false, cond, List, [], ◌∷◌, length, map, drop, refl, sym, ap, ◌∙◌, arith}
use Rattle.std.specs.Prelude.{⊤, ◌||◌, ◌&&◌, not, nat_eq, nat_lt, slice_index}
use Rattle.std.proofs.lemmas.Bool.Decides.{nat_tests}
use Rattle.std.proofs.lemmas.List.{length-map}
use Rattle.dh_base.specs.declared.plain.Rate.TheVariants as rates
use Rattle.expr_lang.specs.declared.tree.Binary.TheVariants as binary
use Rattle.expr_lang.specs.declared.words.Symbol.{Symbol}
use Rattle.expr_lang.specs.declared.words.Symbol.TheVariants as symbol
use Rattle.expr_lang.specs.declared.words.Call.TheVariants as call
use Rattle.expr_lang.specs.declared.words.ItemForm.TheVariants as form
use Rattle.expr_lang.specs.declared.token.Allowed.{Allowed}
use Rattle.expr_lang.specs.declared.token.Front.{Front}
use Rattle.expr_lang.specs.Token.{is_allowed_of, fits_of, front_of, better_of, longest_from}
use Rattle.expr_lang.specs.Words.{text_of, letter_of, start_of, operands_of, items_of_place, followers, marks_of, bracket_of, nothing_of}

-- what is unfolded to compute the lists of words and their letters
unfoldable pub all_words : ⊤
unfolding text_of start_of operands_of items_of_place followers marks_of bracket_of nothing_of
all_words = tt

-- whether a word begins with a letter of its own
abbrev literal : List ℕ → Bool
literal [] = false
literal (c ∷ cs) = not (nat_eq c 64) && not (nat_eq c 36)

all_literal : (w : Symbol) → literal (text_of w) ≡ true
unfolding text_of
all_literal symbol.Open = refl
all_literal symbol.Close = refl
all_literal symbol.Comma = refl
all_literal symbol.Quote = refl
all_literal symbol.Caret = refl
all_literal symbol.Minus = refl
all_literal symbol.Bang = refl
all_literal (symbol.Operator binary.Or) = refl
all_literal (symbol.Operator binary.And) = refl
all_literal (symbol.Operator binary.Equal) = refl
all_literal (symbol.Operator binary.NotEqual) = refl
all_literal (symbol.Operator binary.Less) = refl
all_literal (symbol.Operator binary.AtMost) = refl
all_literal (symbol.Operator binary.Greater) = refl
all_literal (symbol.Operator binary.AtLeast) = refl
all_literal (symbol.Operator binary.Add) = refl
all_literal (symbol.Operator binary.Subtract) = refl
all_literal (symbol.Operator binary.Multiply) = refl
all_literal (symbol.Operator binary.Divide) = refl
all_literal (symbol.Operator binary.Remainder) = refl
all_literal (symbol.Operator binary.DaysBetween) = refl
all_literal (symbol.Operator binary.Comma) = refl
all_literal (symbol.Call call.If) = refl
all_literal (symbol.Call call.Condition) = refl
all_literal (symbol.Call call.IsNull) = refl
all_literal (symbol.Call call.IsNotNull) = refl
all_literal (symbol.Call call.FirstNonNull) = refl
all_literal (symbol.Call call.Greatest) = refl
all_literal (symbol.Call call.Least) = refl
all_literal (symbol.Call call.DaysBetween) = refl
all_literal (symbol.Call call.HasValue) = refl
all_literal (symbol.Call call.Zing) = refl
all_literal (symbol.Call call.Oizp) = refl
all_literal (symbol.Item form.Element) = refl
all_literal (symbol.Item form.ElementCombo) = refl
all_literal (symbol.Item form.ElementCombos) = refl
all_literal (symbol.Item form.Constant) = refl
all_literal (symbol.Item form.Group) = refl
all_literal (symbol.Item form.Days) = refl
all_literal (symbol.Item (form.Rate rates.Expected)) = refl
all_literal (symbol.Item (form.Rate rates.Actual)) = refl
all_literal (symbol.Item (form.Rate rates.OnTime)) = refl
all_literal (symbol.Item (form.Rate rates.Reported)) = refl
all_literal (symbol.Item (form.Rate rates.ReportedOnTime)) = refl
all_literal (symbol.Item form.StageElement) = refl
all_literal (symbol.Item form.Attribute) = refl
all_literal (symbol.Item form.EventDate) = refl
all_literal (symbol.Item form.EnrollmentDate) = refl
all_literal (symbol.Item form.EventCount) = refl
all_literal (symbol.Item form.EnrollmentCount) = refl
all_literal (symbol.Item form.EntityCount) = refl

record Apart (t bytes : List ℕ) : Type 0 where
  none : front_of t bytes ≡ 0
  some : 0 < length t

letter_apart : (c b : ℕ) (x y : Bool) → nat_eq c 64 ≡ x → nat_eq c 36 ≡ y → not x && not y ≡ true → nat_eq c b ≡ false → fits_of c b ≡ false
letter_apart c b false false e f g h = rw (e, f) h
letter_apart c b true y e f g h = absurd cc
letter_apart c b false true e f g h = absurd cc

apart : (t bytes : List ℕ) → literal t ≡ true → nat_eq (slice_index t 0) (slice_index bytes 0) ≡ false → Apart t bytes
apart [] bytes e h = absurd cc
apart (c ∷ cs) [] e h = record { none = refl; some = omega arith }
apart (c ∷ cs) (b ∷ bs) e h = record {
  none = ap (λ (t : Bool). cond t (suc (front_of cs bs)) 0) (letter_apart c b (nat_eq c 64) (nat_eq c 36) refl refl e h);
  some = omega arith;
}

no_better : (best found : Front) (f n : ℕ) → f ≡ 0 → 0 < n → cond (nat_lt best.len f || (nat_eq best.len f && nat_eq f n)) found best ≡ best
no_better best found f n none some =
    by_test (nat_lt best.len f || (nat_eq best.len f && nat_eq f n)) (grind (arith, nat_tests))
  where
    by_test : (t : Bool) → t ≡ false → cond t found best ≡ best
    by_test true e = absurd cc
    by_test false e = refl

better_stays : (best : Front) (w : Symbol) (bytes : List ℕ) → nat_eq (letter_of w) (slice_index bytes 0) ≡ false → better_of best w bytes ≡ best
better_stays best w bytes h =
    let a = apart (text_of w) bytes (all_literal w) h in
    no_better best _ (front_of (text_of w) bytes) (length (text_of w)) a.none a.some

pub stays : (allowed : Allowed) (best : Front) (w : Symbol) (bytes : List ℕ) → nat_eq (letter_of w) (slice_index bytes 0) ≡ false
    → cond (is_allowed_of allowed w) (better_of best w bytes) best ≡ best
stays allowed best w bytes h = by_test (is_allowed_of allowed w)
  where
    by_test : (t : Bool) → cond t (better_of best w bytes) best ≡ best
    by_test true = better_stays best w bytes h
    by_test false = refl

-- one word further in the list
pub skip_at : (allowed : Allowed) (best : Front) (bytes : List ℕ) (words : List Symbol) (n : ℕ) → n < length words
    → nat_eq (slice_index (map letter_of words) n) (slice_index bytes 0) ≡ false
    → longest_from best allowed (drop (n + 1) words) bytes ≡ longest_from best allowed (drop n words) bytes
skip_at allowed best bytes [] n lt h = absurd (omega arith)
skip_at allowed best bytes (w ∷ ws) zero lt h = ap (λ (f : Front). longest_from f allowed ws bytes) (sym (stays allowed best w bytes h))
skip_at allowed best bytes (w ∷ ws) (suc n) lt h =
    let e : suc n + 1 ≡ suc (n + 1) = omega arith in
    ap (λ (k : ℕ). longest_from best allowed (drop k (w ∷ ws)) bytes) e ∙ skip_at allowed best bytes ws n (omega arith) h

pub differ : (x y : ℕ) → ¬ (x ≡ y) → nat_eq x y ≡ false
differ x y h =
    (elim (nat_eq x y) as (λ t. nat_eq x y ≡ t → t ≡ false) [ true ↦ λ e. absurd (h (grind (arith, nat_tests))) | false ↦ λ e. refl ]) refl

-- the same by the list of first letters
pub skip_by : (allowed : Allowed) (best : Front) (bytes letters : List ℕ) (words : List Symbol) (n first : ℕ) → letters ≡ map letter_of words
    → n < length letters → first ≡ slice_index bytes 0 → ¬ (slice_index letters n ≡ first)
    → longest_from best allowed (drop (n + 1) words) bytes ≡ longest_from best allowed (drop n words) bytes
skip_by allowed best bytes letters words n first are lt is h =
    skip_at allowed best bytes words n (omega (arith, lt, ap length are, length-map words letter_of))
    (ap (λ (l : List ℕ). nat_eq (slice_index l n) (slice_index bytes 0)) (sym are)
    ∙ ap (λ (k : ℕ). nat_eq (slice_index letters n) k) (sym is) ∙ differ (slice_index letters n) first h)
