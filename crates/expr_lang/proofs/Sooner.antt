-- A word that its first bytes tell is the longest one that stands there.
use Rattle.std.proofs.Common.{◌≡◌, ℕ, zero, suc, ◌+◌, ◌-◌, ◌<◌, ◌≤◌, Bool, true, false, cond, List, [], ◌∷◌, ◌++◌, length, get_or, drop, refl, sym, ap, ◌∙◌}
use Rattle.std.proofs.Common.{subst, true≢false, arith, Option, Some, None, Result, Ok}
use Rattle.std.specs.Prelude.{◌||◌, ◌&&◌, not, nat_eq, nat_lt, nat_le, slice_index}
use Rattle.std.specs.Char.{is_ascii_alphanumeric, is_ascii_digit}
use Rattle.std.specs.Cmp.{unsigned_Decides}
use Rattle.expr_lang.specs.declared.tree.Place.{Place}
use Rattle.expr_lang.specs.declared.tree.Place.TheVariants as place
use Rattle.expr_lang.specs.declared.words.Call.{Call}
use Rattle.expr_lang.specs.declared.words.Call.TheVariants as call
use Rattle.expr_lang.specs.declared.words.ItemForm.{ItemForm}
use Rattle.std.proofs.Math.Seq.{drop-cons}
use Rattle.std.proofs.lemmas.Bool.Decides.{nat_tests}
use Rattle.std.proofs.lemmas.List.{length-drop, drop-drop}
use Rattle.expr_lang.specs.declared.words.Symbol.{Symbol}
use Rattle.expr_lang.specs.declared.words.Symbol.TheVariants as symbol
use Rattle.expr_lang.specs.declared.words.ItemForm.TheVariants as form
use Rattle.expr_lang.specs.declared.tree.Binary.{Binary}
use Rattle.expr_lang.specs.declared.tree.Binary.TheVariants as binary
use Rattle.expr_lang.specs.declared.reading.Frame.{Frame}
use Rattle.expr_lang.specs.declared.reading.Expect.{Expect}
use Rattle.expr_lang.specs.declared.reading.Expect.TheVariants as expect
use Rattle.expr_lang.specs.declared.reading.Found.{Found}
use Rattle.expr_lang.specs.declared.reading.Token.TheVariants as token
use Rattle.expr_lang.specs.declared.token.Allowed.{Allowed}
use Rattle.expr_lang.specs.declared.token.Front.{Front}
use Rattle.expr_lang.specs.Short.{falls_short_of}
use Rattle.expr_lang.specs.Words.{text_of, call_text_of, letter_of, start_of, operands_of, items_of_place, followers, bracket_of}
use Rattle.expr_lang.specs.Token.{fits_of, front_of, is_allowed_of, is_comparison_of, better_of, longest_from, longest_of, no_front, number_of}
use Rattle.expr_lang.specs.Reading.{all_allowed, allowed_after, token_from, found, word_found, number_found}
use Rattle.expr_lang.specs.Quick.{dollars, identifier, is_identifier_of, pair_form, pair_of, sole_operator_of, element_alone, element_of, attribute_alone, closed_of, braced_of}
use Rattle.expr_lang.specs.Quick.{item_at_of, item_word, mark_after, follower_by, follower_of, operand_of, bracket_of_call, quick_by, quick_word_of}
use Rattle.expr_lang.specs.Quick.{list_call, likely_call_of, whole_call_of, call_by, call_at_of, name_by, name_of}
use Rattle.expr_lang.proofs.Letters.{stays}
use Rattle.expr_lang.proofs.Shorter.{short_stays}

-- ---- letters and digits, one after the other

pub more_at : (m n : ℕ) (bs : List ℕ) → n < m → n < length bs → is_ascii_alphanumeric (get_or bs n 0) ≡ true
    → front_of (dollars (m - n)) (drop n bs) ≡ suc (front_of (dollars (m - (n + 1))) (drop (n + 1) bs))
more_at m n bs below within fits =
    let e : m - n ≡ suc (m - (n + 1)) = omega arith in
    let f : suc n ≡ n + 1 = omega arith in
    rw (e, drop-cons bs n 0 within, fits, f) refl

pub stops_at : (m n : ℕ) (bs : List ℕ) → n < length bs → is_ascii_alphanumeric (get_or bs n 0) ≡ false → front_of (dollars (m - n)) (drop n bs) ≡ 0
stops_at m n bs within other = stop (m - n)
  where
    stop : (k : ℕ) → front_of (dollars k) (drop n bs) ≡ 0
    stop zero = refl
    stop (suc k) = rw (drop-cons bs n 0 within, other) refl

pub ends_at : (m n : ℕ) (bs : List ℕ) → length bs ≤ n → front_of (dollars (m - n)) (drop n bs) ≡ 0
ends_at m n bs past = none (m - n) (drop n bs) (omega (arith, length-drop n bs))
  where
    none : (k : ℕ) (xs : List ℕ) → length xs ≡ 0 → front_of (dollars k) xs ≡ 0
    none zero xs h = refl
    none (suc k) [] h = refl
    none (suc k) (x ∷ xs) h = absurd (omega arith)

pub all_at : (m n : ℕ) (bs : List ℕ) → m ≤ n → front_of (dollars (m - n)) (drop n bs) ≡ 0
all_at m n bs past = let e : m - n ≡ 0 = omega arith in rw e refl

-- ---- only words of the text's first byte count

abbrev beginning : ℕ → List Symbol → List Symbol
beginning b [] = []
beginning b (w ∷ ws) = cond (nat_eq (letter_of w) b) (w ∷ beginning b ws) (beginning b ws)

only : (allowed : Allowed) (best : Front) (words : List Symbol) (bytes : List ℕ)
    → longest_from best allowed words bytes ≡ longest_from best allowed (beginning (slice_index bytes 0) words) bytes
only allowed best [] bytes = refl
only allowed best (w ∷ ws) bytes = by (nat_eq (letter_of w) (slice_index bytes 0)) refl (λ f. only allowed f ws bytes)
  where
    by : (t : Bool) → nat_eq (letter_of w) (slice_index bytes 0) ≡ t
        → ((f : Front) → longest_from f allowed ws bytes ≡ longest_from f allowed (beginning (slice_index bytes 0) ws) bytes)
        → longest_from best allowed (w ∷ ws) bytes
        ≡ longest_from best allowed (cond t (w ∷ beginning (slice_index bytes 0) ws) (beginning (slice_index bytes 0) ws)) bytes
    by true e next = next (cond (is_allowed_of allowed w) (better_of best w bytes) best)
    by false e next = ap (λ (f : Front). longest_from f allowed ws bytes) (stays allowed best w bytes e) ∙ next best

-- ---- how much of a word stands there

inner_front : (t : Bool) (n k : ℕ) → cond t (suc n) 0 ≡ suc k → (t ≡ true) × (n ≡ k)
inner_front true n k e = (refl, omega (arith, e))
inner_front false n k e = absurd (omega (arith, e))

front_over : (p q bytes : List ℕ) → front_of p bytes ≡ length p → front_of (p ++ q) bytes ≡ length p + front_of q (drop (length p) bytes)
front_over [] q bytes e = omega arith
front_over (c ∷ cs) q [] e = absurd (omega (arith, e))
front_over (c ∷ cs) q (b ∷ bs) e =
    let inner = inner_front (fits_of c b) (front_of cs bs) (length cs) e in
    ap (λ (t : Bool). cond t (suc (front_of (cs ++ q) bs)) 0) inner.0 ∙ omega (arith, front_over cs q bs inner.1)

-- a word of which so many bytes stand there, against the best so far
abbrev better_with : Front → Symbol → ℕ → Front
better_with best w n =
    cond (nat_lt best.len n || (nat_eq best.len n && nat_eq n (length (text_of w))))
    (record { len = n; symbol = cond (nat_eq n (length (text_of w))) (Some w) None }) best

better_at : (best : Front) (w : Symbol) (bytes : List ℕ) (n : ℕ) → front_of (text_of w) bytes ≡ n → better_of best w bytes ≡ better_with best w n
better_at best w bytes n is = ap (better_with best w) is

abbrev whole : Symbol → ℕ → Front
whole w n = record { len = n; symbol = Some w }

-- ---- a word of one byte

record IsSole (c : ℕ) (w : Symbol) (words : List Symbol) : Type 0 where
  alone : beginning c words ≡ w ∷ []
  text : text_of w ≡ c ∷ []
  fits : fits_of c c ≡ true
  other : is_ascii_digit c ≡ false

front_one : (c : ℕ) (bytes : List ℕ) → 0 < length bytes → slice_index bytes 0 ≡ c → fits_of c c ≡ true → front_of (c ∷ []) bytes ≡ 1
front_one c [] some is fits = absurd (omega (arith, some))
front_one c (b ∷ bs) some is fits =
    ap (λ (x : ℕ). cond (fits_of c x) (suc 0) 0) is ∙ ap (λ (t : Bool). cond t (suc 0) 0) fits

sole_with : (w : Symbol) (c : ℕ) → text_of w ≡ c ∷ [] → better_with no_front w 1 ≡ whole w 1
sole_with w c is = ap (λ (t : List ℕ). cond (nat_lt 0 1 || (nat_eq 0 1 && nat_eq 1 (length t)))
    (record { len = 1; symbol = cond (nat_eq 1 (length t)) (Some w) None }) no_front) is

sole_longest : (allowed : Allowed) (words : List Symbol) (w : Symbol) (c : ℕ) (bytes : List ℕ) → IsSole c w words → 0 < length bytes
    → slice_index bytes 0 ≡ c → is_allowed_of allowed w ≡ true → longest_from no_front allowed words bytes ≡ whole w 1
sole_longest allowed words w c bytes sole some is may =
    only allowed no_front words bytes
    ∙ ap (λ (x : ℕ). longest_from no_front allowed (beginning x words) bytes) is
    ∙ ap (λ (l : List Symbol). longest_from no_front allowed l bytes) sole.alone
    ∙ ap (λ (t : Bool). cond t (better_of no_front w bytes) no_front) may
    ∙ better_at no_front w bytes 1 (ap (λ (t : List ℕ). front_of t bytes) sole.text ∙ front_one c bytes some is sole.fits)
    ∙ sole_with w c sole.text

-- ---- items

record IsFront (c : ℕ) (bytes : List ℕ) : Type 0 where
  first : slice_index bytes 0 ≡ c
  brace : slice_index bytes 1 ≡ 123
  long : 14 ≤ length bytes
  named : front_of identifier (drop 2 bytes) ≡ 11

two_more : (k n : ℕ) → suc (suc (k + n)) ≡ (k + 2) + n
two_more k n = omega arith

braced_front : (c : ℕ) (bytes rest : List ℕ) → fits_of c c ≡ true → IsFront c bytes
    → front_of (c ∷ 123 ∷ (identifier ++ rest)) bytes ≡ 13 + front_of rest (drop 13 bytes)
braced_front c [] rest fits is = absurd (omega (arith, is.long))
braced_front c (b ∷ []) rest fits is = absurd (omega (arith, is.long))
braced_front c (b ∷ d ∷ bs) rest fits is =
    ap (λ (x : ℕ). cond (fits_of c x) (suc (front_of (123 ∷ (identifier ++ rest)) (d ∷ bs))) 0) is.first
    ∙ ap (λ (t : Bool). cond t (suc (front_of (123 ∷ (identifier ++ rest)) (d ∷ bs))) 0) fits
    ∙ ap (λ (x : ℕ). suc (cond (fits_of 123 x) (suc (front_of (identifier ++ rest) bs)) 0)) is.brace
    ∙ ap (λ (n : ℕ). suc (suc n)) (front_over identifier rest bs is.named)
    ∙ two_more 11 (front_of rest (drop 11 bs))

byte_front : (c d n : ℕ) (rest bytes : List ℕ) → n < length bytes → slice_index bytes n ≡ d
    → front_of (c ∷ rest) (drop n bytes) ≡ cond (fits_of c d) (suc (front_of rest (drop (suc n) bytes))) 0
byte_front c d n rest bytes within is =
    ap (front_of (c ∷ rest)) (drop-cons bytes n 0 within) ∙ ap (λ (x : ℕ). cond (fits_of c x) (suc (front_of rest (drop (suc n) bytes))) 0) is

closed_front : (c d : ℕ) (bytes : List ℕ) → fits_of c c ≡ true → IsFront c bytes → slice_index bytes 13 ≡ d
    → front_of (c ∷ 123 ∷ (identifier ++ 125 ∷ [])) bytes ≡ 13 + cond (fits_of 125 d) 1 0
closed_front c d bytes fits is ends =
    braced_front c bytes (125 ∷ []) fits is ∙ ap (λ (n : ℕ). 13 + n) (byte_front 125 d 13 [] bytes (omega (arith, is.long)) ends)

record IsPair (bytes : List ℕ) : Type 0 where
  front : IsFront 35 bytes
  point : slice_index bytes 13 ≡ 46
  ends : slice_index bytes 25 ≡ 125
  long : 26 ≤ length bytes
  named : front_of identifier (drop 14 bytes) ≡ 11

pair_front : (bytes : List ℕ) → IsPair bytes → front_of (35 ∷ 123 ∷ (identifier ++ 46 ∷ (identifier ++ 125 ∷ []))) bytes ≡ 26
pair_front bytes is =
    let all = braced_front 35 bytes (46 ∷ (identifier ++ 125 ∷ [])) refl is.front in
    let point : front_of (46 ∷ (identifier ++ 125 ∷ [])) (drop 13 bytes) ≡ suc (front_of (identifier ++ 125 ∷ []) (drop 14 bytes)) =
    byte_front 46 46 13 (identifier ++ 125 ∷ []) bytes (omega (arith, is.long)) is.point in
    let name : front_of (identifier ++ 125 ∷ []) (drop 14 bytes) ≡ 11 + front_of (125 ∷ []) (drop 11 (drop 14 bytes)) =
    front_over identifier (125 ∷ []) (drop 14 bytes) is.named in
    let moved : front_of (125 ∷ []) (drop 11 (drop 14 bytes)) ≡ front_of (125 ∷ []) (drop 25 bytes) =
    ap (front_of (125 ∷ [])) (drop-drop 11 14 bytes) in
    let brace : front_of (125 ∷ []) (drop 25 bytes) ≡ 1 = byte_front 125 125 25 [] bytes (omega (arith, is.long)) is.ends in
    all ∙ omega (arith, point, name, moved, brace)

-- a word of which the text has less
short_so : (len c d : ℕ) (word bytes : List ℕ) → nat_lt 0 len ≡ true → nat_le len (length word) ≡ true → nat_le len (length bytes) ≡ true
    → slice_index word (len - 1) ≡ c → slice_index bytes (len - 1) ≡ d → fits_of c d ≡ false → falls_short_of len word bytes ≡ true
unfolding falls_short_of
short_so len c d word bytes some a b is there apart =
    ap (λ (t : Bool). t && nat_le len (length word) && nat_le len (length bytes) && not (fits_of (slice_index word (len - 1)) (slice_index bytes (len - 1))))
    some
    ∙ ap (λ (t : Bool). true && t && nat_le len (length bytes) && not (fits_of (slice_index word (len - 1)) (slice_index bytes (len - 1)))) a
    ∙ ap (λ (t : Bool). true && true && t && not (fits_of (slice_index word (len - 1)) (slice_index bytes (len - 1)))) b
    ∙ ap (λ (x : ℕ). not (fits_of x (slice_index bytes (len - 1)))) is
    ∙ ap (λ (x : ℕ). not (fits_of c x)) there
    ∙ ap not apart

abbrev E : Symbol
E = symbol.Item form.Element

abbrev EC : Symbol
EC = symbol.Item form.ElementCombo

abbrev ECs : Symbol
ECs = symbol.Item form.ElementCombos

within_so : (n m : ℕ) → n ≤ m → nat_le n m ≡ true
within_so n m le = grind (arith, nat_tests)

element_longest : (bytes : List ℕ) → IsFront 35 bytes → slice_index bytes 13 ≡ 125
    → longest_from no_front all_allowed (E ∷ EC ∷ ECs ∷ []) bytes ≡ whole E 14
unfolding text_of
element_longest bytes is ends =
    let le = within_so 14 (length bytes) is.long in
    ap (λ (f : Front). better_of (better_of f EC bytes) ECs bytes) (better_at no_front E bytes 14 (closed_front 35 125 bytes refl is ends))
    ∙ ap (λ (f : Front). better_of f ECs bytes) (sym (short_stays (whole E 14) EC bytes (short_so 14 46 125 (text_of EC) bytes refl refl le refl ends refl)))
    ∙ sym (short_stays (whole E 14) ECs bytes (short_so 14 46 125 (text_of ECs) bytes refl refl le refl ends refl))

pair_longest : (bytes : List ℕ) → IsPair bytes → longest_from no_front all_allowed (E ∷ EC ∷ ECs ∷ []) bytes ≡ whole EC 26
unfolding text_of
pair_longest bytes is =
    ap (λ (f : Front). better_of (better_of f EC bytes) ECs bytes) (better_at no_front E bytes 13 (closed_front 35 46 bytes refl is.front is.point))
    ∙ ap (λ (f : Front). better_of f ECs bytes) (better_at (record { len = 13; symbol = None }) EC bytes 26 (pair_front bytes is))
    ∙ sym (short_stays (whole EC 26) ECs bytes
    (short_so 26 46 125 (text_of ECs) bytes refl refl (within_so 26 (length bytes) is.long) refl is.ends refl))

stage_longest : (bytes : List ℕ) → IsPair bytes
    → longest_from no_front all_allowed (symbol.Item form.StageElement ∷ []) bytes ≡ whole (symbol.Item form.StageElement) 26
unfolding text_of
stage_longest bytes is = better_at no_front (symbol.Item form.StageElement) bytes 26 (pair_front bytes is)

constant_longest : (bytes : List ℕ) → IsFront 67 bytes → slice_index bytes 13 ≡ 125
    → longest_from no_front all_allowed (symbol.Item form.Constant ∷ []) bytes ≡ whole (symbol.Item form.Constant) 14
unfolding text_of
constant_longest bytes is ends = better_at no_front (symbol.Item form.Constant) bytes 14 (closed_front 67 125 bytes refl is ends)

attribute_longest : (bytes : List ℕ) → IsFront 65 bytes → slice_index bytes 13 ≡ 125
    → longest_from no_front all_allowed (symbol.Item form.Attribute ∷ []) bytes ≡ whole (symbol.Item form.Attribute) 14
unfolding text_of
attribute_longest bytes is ends = better_at no_front (symbol.Item form.Attribute) bytes 14 (closed_front 65 125 bytes refl is ends)

-- ---- what the quick way finds

some_is : {A : Type 0} (x y : A) → Some x ≡ Some y → x ≡ y
some_is x y e = cc

given : {A : Type 0} (t : Bool) (x : Option A) (y : A) → cond t x None ≡ Some y → (t ≡ true) × (x ≡ Some y)
given true x y e = (refl, e)
given false x y e = absurd cc

denied : {A : Type 0} (t : Bool) (x : Option A) (y : A) → cond t None x ≡ Some y → (t ≡ false) × (x ≡ Some y)
denied true x y e = absurd cc
denied false x y e = (refl, e)

same_byte : (a b : ℕ) → nat_eq a b ≡ true → a ≡ b
same_byte a b e = (unsigned_Decides a b).0 e

no_less : (a b : ℕ) → nat_lt a b ≡ false → b ≤ a
no_less a b e = grind (arith, nat_tests)

identifier_front : (bytes : List ℕ) → is_identifier_of bytes ≡ true → front_of identifier bytes ≡ 11
unfolding is_identifier_of
identifier_front bytes e = same_byte (front_of identifier bytes) 11 e

-- an item that is the longest word of each list in which it stands
record IsItem (place : Place) (bytes : List ℕ) (r : ItemForm × ℕ) : Type 0 where
  start : longest_from no_front all_allowed (start_of place) bytes ≡ whole (symbol.Item r.0) r.1
  operand : longest_from no_front all_allowed (operands_of place) bytes ≡ whole (symbol.Item r.0) r.1
  item : longest_from no_front all_allowed (items_of_place place) bytes ≡ whole (symbol.Item r.0) r.1
  within : r.1 ≤ length bytes
  other : is_ascii_digit (slice_index bytes 0) ≡ false

by_first : (words few : List Symbol) (c : ℕ) (bytes : List ℕ) (f : Front) → slice_index bytes 0 ≡ c → beginning c words ≡ few
    → longest_from no_front all_allowed few bytes ≡ f → longest_from no_front all_allowed words bytes ≡ f
by_first words few c bytes f is are e =
    only all_allowed no_front words bytes
    ∙ ap (λ (x : ℕ). longest_from no_front all_allowed (beginning x words) bytes) is
    ∙ ap (λ (l : List Symbol). longest_from no_front all_allowed l bytes) are
    ∙ e

item_so : (place : Place) (bytes : List ℕ) (r : ItemForm × ℕ) (few : List Symbol) (c : ℕ) → slice_index bytes 0 ≡ c → is_ascii_digit c ≡ false
    → r.1 ≤ length bytes → beginning c (start_of place) ≡ few → beginning c (operands_of place) ≡ few → beginning c (items_of_place place) ≡ few
    → longest_from no_front all_allowed few bytes ≡ whole (symbol.Item r.0) r.1 → IsItem place bytes r
item_so place bytes r few c is other within a b d e = record {
  start = by_first (start_of place) few c bytes (whole (symbol.Item r.0) r.1) is a e;
  operand = by_first (operands_of place) few c bytes (whole (symbol.Item r.0) r.1) is b e;
  item = by_first (items_of_place place) few c bytes (whole (symbol.Item r.0) r.1) is d e;
  within = within;
  other = ap is_ascii_digit is ∙ other;
}

pair_item : (p : Place) (bytes : List ℕ) → IsPair bytes → IsItem p bytes (pair_form p, 26)
unfolding start_of operands_of items_of_place text_of
pair_item place.Aggregate bytes is =
    item_so place.Aggregate bytes (form.ElementCombo, 26) (E ∷ EC ∷ ECs ∷ []) 35 is.front.first refl is.long refl refl refl (pair_longest bytes is)
pair_item place.Program bytes is =
    item_so place.Program bytes (form.StageElement, 26) (symbol.Item form.StageElement ∷ []) 35 is.front.first refl is.long refl refl refl
    (stage_longest bytes is)

pair_so : (p : Place) (bytes : List ℕ) (r : ItemForm × ℕ) → IsFront 35 bytes → slice_index bytes 13 ≡ 46 → pair_of p bytes ≡ Some r → IsItem p bytes r
unfolding pair_of
pair_so p bytes r front point e =
    let long = denied (nat_lt (length bytes) 26) _ r e in
    let ends = given (nat_eq (slice_index bytes 25) 125) _ r long.1 in
    let named = given (is_identifier_of (drop 14 bytes)) _ r ends.1 in
    subst (IsItem p bytes) (some_is (pair_form p, 26) r named.1)
    (pair_item p bytes
    (record {
      front = front;
      point = point;
      ends = same_byte (slice_index bytes 25) 125 ends.0;
      long = no_less (length bytes) 26 long.0;
      named = identifier_front (drop 14 bytes) named.0;
    }))

element_alone_so : (p : Place) (bytes : List ℕ) (r : ItemForm × ℕ) → IsFront 35 bytes → slice_index bytes 13 ≡ 125 → element_alone p ≡ Some r
    → IsItem p bytes r
unfolding start_of operands_of items_of_place text_of
element_alone_so place.Aggregate bytes r front ends e =
    subst (IsItem place.Aggregate bytes) (some_is (form.Element, 14) r e)
    (item_so place.Aggregate bytes (form.Element, 14) (E ∷ EC ∷ ECs ∷ []) 35 front.first refl front.long refl refl refl (element_longest bytes front ends))
element_alone_so place.Program bytes r front ends e = absurd cc

element_so : (p : Place) (bytes : List ℕ) (r : ItemForm × ℕ) → IsFront 35 bytes → element_of p bytes ≡ Some r → IsItem p bytes r
unfolding element_of
element_so p bytes r front e =
    by (nat_eq (slice_index bytes 13) 125) refl e
  where
    by : (t : Bool) → nat_eq (slice_index bytes 13) 125 ≡ t
        → cond t (element_alone p) (cond (nat_eq (slice_index bytes 13) 46) (pair_of p bytes) None) ≡ Some r → IsItem p bytes r
    by true is f = element_alone_so p bytes r front (same_byte (slice_index bytes 13) 125 is) f
    by false is f =
        let point = given (nat_eq (slice_index bytes 13) 46) (pair_of p bytes) r f in
        pair_so p bytes r front (same_byte (slice_index bytes 13) 46 point.0) point.1

constant_item : (p : Place) (bytes : List ℕ) → IsFront 67 bytes → slice_index bytes 13 ≡ 125 → IsItem p bytes (form.Constant, 14)
unfolding start_of operands_of items_of_place text_of
constant_item place.Aggregate bytes front ends =
    item_so place.Aggregate bytes (form.Constant, 14) (symbol.Item form.Constant ∷ []) 67 front.first refl front.long refl refl refl
    (constant_longest bytes front ends)
constant_item place.Program bytes front ends =
    item_so place.Program bytes (form.Constant, 14) (symbol.Item form.Constant ∷ []) 67 front.first refl front.long refl refl refl
    (constant_longest bytes front ends)

attribute_so : (p : Place) (bytes : List ℕ) (r : ItemForm × ℕ) → IsFront 65 bytes → slice_index bytes 13 ≡ 125 → attribute_alone p ≡ Some r
    → IsItem p bytes r
unfolding start_of operands_of items_of_place text_of
attribute_so place.Aggregate bytes r front ends e = absurd cc
attribute_so place.Program bytes r front ends e =
    subst (IsItem place.Program bytes) (some_is (form.Attribute, 14) r e)
    (item_so place.Program bytes (form.Attribute, 14) (symbol.Item form.Attribute ∷ []) 65 front.first refl front.long refl refl refl
    (attribute_longest bytes front ends))

closed_so : (p : Place) (bytes : List ℕ) (r : ItemForm × ℕ) → ((c : ℕ) → nat_eq (slice_index bytes 0) c ≡ true → IsFront c bytes)
    → slice_index bytes 13 ≡ 125 → closed_of p (slice_index bytes 0) ≡ Some r → IsItem p bytes r
unfolding closed_of
closed_so p bytes r front ends e =
    by (nat_eq (slice_index bytes 0) 67) refl e
  where
    by : (t : Bool) → nat_eq (slice_index bytes 0) 67 ≡ t
        → cond t (Some (form.Constant, 14)) (cond (nat_eq (slice_index bytes 0) 65) (attribute_alone p) None) ≡ Some r → IsItem p bytes r
    by true is f = subst (IsItem p bytes) (some_is (form.Constant, 14) r f) (constant_item p bytes (front 67 is) ends)
    by false is f =
        let first = given (nat_eq (slice_index bytes 0) 65) (attribute_alone p) r f in
        attribute_so p bytes r (front 65 first.0) ends first.1

braced_so : (p : Place) (bytes : List ℕ) (r : ItemForm × ℕ) → slice_index bytes 1 ≡ 123 → 14 ≤ length bytes
    → front_of identifier (drop 2 bytes) ≡ 11 → braced_of p bytes ≡ Some r → IsItem p bytes r
unfolding braced_of
braced_so p bytes r brace long named e =
    by (nat_eq (slice_index bytes 0) 35) refl e
  where
    front : (c : ℕ) → nat_eq (slice_index bytes 0) c ≡ true → IsFront c bytes
    front c is = record { first = same_byte (slice_index bytes 0) c is; brace = brace; long = long; named = named }

    by : (t : Bool) → nat_eq (slice_index bytes 0) 35 ≡ t
        → cond t (element_of p bytes) (cond (nat_eq (slice_index bytes 13) 125) (closed_of p (slice_index bytes 0)) None) ≡ Some r → IsItem p bytes r
    by true is f = element_so p bytes r (front 35 is) f
    by false is f =
        let ends = given (nat_eq (slice_index bytes 13) 125) (closed_of p (slice_index bytes 0)) r f in
        closed_so p bytes r front (same_byte (slice_index bytes 13) 125 ends.0) ends.1

item_at_so : (p : Place) (bytes : List ℕ) (r : ItemForm × ℕ) → item_at_of p bytes ≡ Some r → IsItem p bytes r
unfolding item_at_of
item_at_so p bytes r e =
    let long = denied (nat_lt (length bytes) 14) _ r e in
    let brace = given (nat_eq (slice_index bytes 1) 123) _ r long.1 in
    let named = given (is_identifier_of (drop 2 bytes)) (braced_of p bytes) r brace.1 in
    braced_so p bytes r (same_byte (slice_index bytes 1) 123 brace.0) (no_less (length bytes) 14 long.0) (identifier_front (drop 2 bytes) named.0) named.1

-- ---- what follows an operand

record IsPlain (b : ℕ) (operator : Binary) : Type 0 where
  sole : IsSole b (symbol.Operator operator) followers
  plain : is_comparison_of operator ≡ false

plain_so : (b c : ℕ) (o operator : Binary) (rest : Option Binary) → IsPlain c o → (rest ≡ Some operator → IsPlain b operator) → (t : Bool) → nat_eq b c ≡ t
    → cond t (Some o) rest ≡ Some operator → IsPlain b operator
plain_so b c o operator rest is next true same e =
    subst (λ (x : ℕ). IsPlain x operator) (sym (same_byte b c same)) (subst (IsPlain c) (some_is o operator e) is)
plain_so b c o operator rest is next false same e = next e

plain_add : IsPlain 43 binary.Add
unfolding followers text_of
plain_add = record { sole = record { alone = refl; text = refl; fits = refl; other = refl }; plain = refl }

plain_subtract : IsPlain 45 binary.Subtract
unfolding followers text_of
plain_subtract = record { sole = record { alone = refl; text = refl; fits = refl; other = refl }; plain = refl }

plain_multiply : IsPlain 42 binary.Multiply
unfolding followers text_of
plain_multiply = record { sole = record { alone = refl; text = refl; fits = refl; other = refl }; plain = refl }

plain_divide : IsPlain 47 binary.Divide
unfolding followers text_of
plain_divide = record { sole = record { alone = refl; text = refl; fits = refl; other = refl }; plain = refl }

plain_remainder : IsPlain 37 binary.Remainder
unfolding followers text_of
plain_remainder = record { sole = record { alone = refl; text = refl; fits = refl; other = refl }; plain = refl }

sole_operator_so : (b : ℕ) (operator : Binary) → sole_operator_of b ≡ Some operator → IsPlain b operator
unfolding sole_operator_of
sole_operator_so b operator e =
    plain_so b 43 binary.Add operator _ plain_add
    (plain_so b 45 binary.Subtract operator _ plain_subtract
    (plain_so b 42 binary.Multiply operator _ plain_multiply
    (plain_so b 47 binary.Divide operator _ plain_divide
    (plain_so b 37 binary.Remainder operator None plain_remainder (λ none. absurd cc) (nat_eq b 37) refl) (nat_eq b 47) refl) (nat_eq b 42) refl)
    (nat_eq b 45) refl) (nat_eq b 43) refl e

sole_close : IsSole 41 symbol.Close followers
unfolding followers text_of
sole_close = record { alone = refl; text = refl; fits = refl; other = refl }

sole_comma : IsSole 44 symbol.Comma followers
unfolding followers text_of
sole_comma = record { alone = refl; text = refl; fits = refl; other = refl }

-- a word that is the longest one after an operand
record IsAfter (allowed : Allowed) (bytes : List ℕ) (r : Symbol × ℕ) : Type 0 where
  longest : longest_from no_front allowed followers bytes ≡ whole r.0 r.1
  within : r.1 ≤ length bytes

after_so : (allowed : Allowed) (bytes : List ℕ) (w : Symbol) (r : Symbol × ℕ) (c : ℕ) → IsSole c w followers → 0 < length bytes
    → slice_index bytes 0 ≡ c → is_allowed_of allowed w ≡ true → Some (w, 1) ≡ Some r → IsAfter allowed bytes r
after_so allowed bytes w r c sole some is may e =
    subst (IsAfter allowed bytes) (some_is (w, 1) r e)
    (record { longest = sole_longest allowed followers w c bytes sole some is may; within = omega (arith, some) })

mark_so : (frames : List Frame) (with_caret : Bool) (bytes : List ℕ) (r : Symbol × ℕ) → 0 < length bytes
    → mark_after frames with_caret (slice_index bytes 0) ≡ Some r → IsAfter (allowed_after frames with_caret) bytes r
unfolding mark_after
mark_so frames with_caret bytes r some e =
    by (nat_eq (slice_index bytes 0) 41) refl e
  where
    by : (t : Bool) → nat_eq (slice_index bytes 0) 41 ≡ t
        → cond t (cond (allowed_after frames with_caret).close (Some (symbol.Close, 1)) None)
        (cond (nat_eq (slice_index bytes 0) 44) (cond (allowed_after frames with_caret).comma (Some (symbol.Comma, 1)) None) None) ≡ Some r
        → IsAfter (allowed_after frames with_caret) bytes r
    by true is f =
        let may = given (allowed_after frames with_caret).close _ r f in
        after_so (allowed_after frames with_caret) bytes symbol.Close r 41 sole_close some (same_byte (slice_index bytes 0) 41 is) may.0 may.1
    by false is f =
        let first = given (nat_eq (slice_index bytes 0) 44) _ r f in
        let may = given (allowed_after frames with_caret).comma _ r first.1 in
        after_so (allowed_after frames with_caret) bytes symbol.Comma r 44 sole_comma some (same_byte (slice_index bytes 0) 44 first.0) may.0 may.1

plain_may : (allowed : Allowed) (operator : Binary) → is_comparison_of operator ≡ false → is_allowed_of allowed (symbol.Operator operator) ≡ true
plain_may allowed operator is = ap (λ (t : Bool). allowed.comparison || not t) is ∙ either allowed.comparison
  where
    either : (t : Bool) → (t || not false) ≡ true
    either true = refl
    either false = refl

follower_so : (frames : List Frame) (with_caret : Bool) (bytes : List ℕ) (r : Symbol × ℕ) → 0 < length bytes
    → follower_of frames with_caret (slice_index bytes 0) ≡ Some r → IsAfter (allowed_after frames with_caret) bytes r
unfolding follower_of
follower_so frames with_caret bytes r some e =
    by (sole_operator_of (slice_index bytes 0)) refl e
  where
    by : (o : Option Binary) → sole_operator_of (slice_index bytes 0) ≡ o → follower_by o (mark_after frames with_caret (slice_index bytes 0)) ≡ Some r
        → IsAfter (allowed_after frames with_caret) bytes r
    by (Some operator) is f =
        let plain = sole_operator_so (slice_index bytes 0) operator is in
        after_so (allowed_after frames with_caret) bytes (symbol.Operator operator) r (slice_index bytes 0) plain.sole some refl
        (plain_may (allowed_after frames with_caret) operator plain.plain) f
    by None is f = mark_so frames with_caret bytes r some f

-- ---- the next token

pub record TakesWord (e : Expect) (frames : List Frame) (quoted : Bool) (place : Place) (bytes : List ℕ) (r : Symbol × ℕ) : Type 0 where
  pub next : token_from e frames quoted place bytes ≡ Ok (found (token.Word r.0) r.1)
  pub within : r.1 ≤ length bytes

no_digit : (takes digit : Bool) (a b : Result Found ℕ) → digit ≡ false → cond (takes && digit) a b ≡ b
no_digit true true a b e = absurd cc
no_digit true false a b e = refl
no_digit false d a b e = refl

word_of : (allowed : Allowed) (words : List Symbol) (bytes : List ℕ) (r : Symbol × ℕ) (takes : Bool) → is_ascii_digit (slice_index bytes 0) ≡ false
    → longest_from no_front allowed words bytes ≡ whole r.0 r.1
    → cond (takes && is_ascii_digit (slice_index bytes 0)) (number_found (number_of bytes))
    (word_found (longest_of allowed words bytes).symbol (longest_of allowed words bytes).len)
    ≡ Ok (found (token.Word r.0) r.1)
unfolding longest_of
word_of allowed words bytes r takes other is =
    no_digit takes (is_ascii_digit (slice_index bytes 0)) _ _ other ∙ ap (λ (f : Front). word_found f.symbol f.len) is

item_split : (o : Option (ItemForm × ℕ)) (r : Symbol × ℕ) (P : Symbol × ℕ → Type 0) → ((i : ItemForm × ℕ) → o ≡ Some i → P (symbol.Item i.0, i.1))
    → item_word o ≡ Some r → P r
item_split None r P so e = absurd cc
item_split (Some i) r P so e = subst P (some_is (symbol.Item i.0, i.1) r e) (so i refl)

sole_start : (p : Place) → IsSole 40 symbol.Open (start_of p)
unfolding start_of text_of
sole_start place.Aggregate = record { alone = refl; text = refl; fits = refl; other = refl }
sole_start place.Program = record { alone = refl; text = refl; fits = refl; other = refl }

sole_operand : (p : Place) → IsSole 40 symbol.Open (operands_of p)
unfolding operands_of text_of
sole_operand place.Aggregate = record { alone = refl; text = refl; fits = refl; other = refl }
sole_operand place.Program = record { alone = refl; text = refl; fits = refl; other = refl }

minus_start : (p : Place) → IsSole 45 symbol.Minus (start_of p)
unfolding start_of text_of
minus_start place.Aggregate = record { alone = refl; text = refl; fits = refl; other = refl }
minus_start place.Program = record { alone = refl; text = refl; fits = refl; other = refl }

minus_operand : (p : Place) → IsSole 45 symbol.Minus (operands_of p)
unfolding operands_of text_of
minus_operand place.Aggregate = record { alone = refl; text = refl; fits = refl; other = refl }
minus_operand place.Program = record { alone = refl; text = refl; fits = refl; other = refl }

sole_bracket : IsSole 40 symbol.Open bracket_of
unfolding bracket_of text_of
sole_bracket = record { alone = refl; text = refl; fits = refl; other = refl }

-- one word of one byte, whatever else may stand there
sole_word : (words : List Symbol) (w : Symbol) (c : ℕ) (bytes : List ℕ) (r : Symbol × ℕ) (takes : Bool) → IsSole c w words → is_allowed_of all_allowed w ≡ true
    → 0 < length bytes → slice_index bytes 0 ≡ c → Some (w, 1) ≡ Some r
    → (cond (takes && is_ascii_digit (slice_index bytes 0)) (number_found (number_of bytes))
    (word_found (longest_of all_allowed words bytes).symbol (longest_of all_allowed words bytes).len)
    ≡ Ok (found (token.Word r.0) r.1)) × (r.1 ≤ length bytes)
sole_word words w c bytes r takes sole may some is e =
    subst (λ (q : Symbol × ℕ). (cond (takes && is_ascii_digit (slice_index bytes 0)) (number_found (number_of bytes))
    (word_found (longest_of all_allowed words bytes).symbol (longest_of all_allowed words bytes).len)
    ≡ Ok (found (token.Word q.0) q.1)) × (q.1 ≤ length bytes)) (some_is (w, 1) r e) (
      word_of all_allowed words bytes (w, 1) takes (ap is_ascii_digit is ∙ sole.other)
          (sole_longest all_allowed words w c bytes sole some is may),
      omega (arith, some),
    )

-- ---- calls

one_further : (t : Bool) (f n : ℕ) → f ≤ n → cond t (suc f) 0 ≤ suc n
one_further true f n h = omega (arith, h)
one_further false f n h = omega arith

front_within : (word bytes : List ℕ) → front_of word bytes ≤ length bytes
front_within [] bytes = omega arith
front_within (c ∷ cs) [] = omega arith
front_within (c ∷ cs) (b ∷ bs) = one_further (fits_of c b) (front_of cs bs) (length bs) (front_within cs bs)

both_so : (a b : Bool) → (a && b) ≡ true → (a ≡ true) × (b ≡ true)
both_so true true e = (refl, refl)
both_so true false e = absurd (true≢false (sym e))
both_so false b e = absurd (true≢false (sym e))

-- a call that is the longest word of each list in which it stands, where all of it is there
record IsNamed (p : Place) (bytes : List ℕ) (name : Call) : Type 0 where
  start : longest_from no_front all_allowed (start_of p) bytes ≡ whole (symbol.Call name) (length (call_text_of name))
  operand : longest_from no_front all_allowed (operands_of p) bytes ≡ whole (symbol.Call name) (length (call_text_of name))
  other : is_ascii_digit (slice_index bytes 0) ≡ false

named_so : (p : Place) (bytes : List ℕ) (name : Call) (few : List Symbol) (c : ℕ) → slice_index bytes 0 ≡ c → is_ascii_digit c ≡ false
    → beginning c (start_of p) ≡ few → beginning c (operands_of p) ≡ few
    → longest_from no_front all_allowed few bytes ≡ whole (symbol.Call name) (length (call_text_of name)) → IsNamed p bytes name
named_so p bytes name few c is other a b e = record {
  start = by_first (start_of p) few c bytes (whole (symbol.Call name) (length (call_text_of name))) is a e;
  operand = by_first (operands_of p) few c bytes (whole (symbol.Call name) (length (call_text_of name))) is b e;
  other = ap is_ascii_digit is ∙ other;
}

greatest_longest : (bytes : List ℕ) → front_of (call_text_of call.Greatest) bytes ≡ 8
    → longest_from no_front all_allowed (symbol.Call call.Greatest ∷ []) bytes ≡ whole (symbol.Call call.Greatest) 8
unfolding text_of
greatest_longest bytes all = better_at no_front (symbol.Call call.Greatest) bytes 8 all

greatest_so : (p : Place) (bytes : List ℕ) → slice_index bytes 0 ≡ 103 → front_of (call_text_of call.Greatest) bytes ≡ 8 → IsNamed p bytes call.Greatest
unfolding start_of operands_of text_of
greatest_so place.Aggregate bytes is all =
    named_so place.Aggregate bytes call.Greatest (symbol.Call call.Greatest ∷ []) 103 is refl refl refl (greatest_longest bytes all)
greatest_so place.Program bytes is all =
    named_so place.Program bytes call.Greatest (symbol.Call call.Greatest ∷ []) 103 is refl refl refl (greatest_longest bytes all)

least_longest : (bytes : List ℕ) → front_of (call_text_of call.Least) bytes ≡ 5
    → longest_from no_front all_allowed (symbol.Call call.Least ∷ []) bytes ≡ whole (symbol.Call call.Least) 5
unfolding text_of
least_longest bytes all = better_at no_front (symbol.Call call.Least) bytes 5 all

least_so : (p : Place) (bytes : List ℕ) → slice_index bytes 0 ≡ 108 → front_of (call_text_of call.Least) bytes ≡ 5 → IsNamed p bytes call.Least
unfolding start_of operands_of text_of
least_so place.Aggregate bytes is all =
    named_so place.Aggregate bytes call.Least (symbol.Call call.Least ∷ []) 108 is refl refl refl (least_longest bytes all)
least_so place.Program bytes is all =
    named_so place.Program bytes call.Least (symbol.Call call.Least ∷ []) 108 is refl refl refl (least_longest bytes all)

first_so : (bytes : List ℕ) → slice_index bytes 0 ≡ 102 → front_of (call_text_of call.FirstNonNull) bytes ≡ 12
    → IsNamed place.Aggregate bytes call.FirstNonNull
unfolding start_of operands_of text_of
first_so bytes is all =
    named_so place.Aggregate bytes call.FirstNonNull (symbol.Call call.FirstNonNull ∷ []) 102 is refl refl refl
    (better_at no_front (symbol.Call call.FirstNonNull) bytes 12 all)

abbrev If : Symbol
If = symbol.Call call.If

abbrev IsNull : Symbol
IsNull = symbol.Call call.IsNull

abbrev IsNotNull : Symbol
IsNotNull = symbol.Call call.IsNotNull

-- the second letter tells `if` from `isNull` and `isNotNull`
if_longest : (bytes : List ℕ) → 2 ≤ length bytes → slice_index bytes 1 ≡ 102 → front_of (call_text_of call.If) bytes ≡ 2
    → longest_from no_front all_allowed (If ∷ IsNull ∷ IsNotNull ∷ []) bytes ≡ whole If 2
unfolding text_of
if_longest bytes long second all =
    let le = within_so 2 (length bytes) long in
    ap (λ (f : Front). better_of (better_of f IsNull bytes) IsNotNull bytes) (better_at no_front If bytes 2 all)
    ∙ ap (λ (f : Front). better_of f IsNotNull bytes) (sym (short_stays (whole If 2) IsNull bytes
    (short_so 2 115 102 (text_of IsNull) bytes refl refl le refl second refl)))
    ∙ sym (short_stays (whole If 2) IsNotNull bytes (short_so 2 115 102 (text_of IsNotNull) bytes refl refl le refl second refl))

if_so : (p : Place) (bytes : List ℕ) → 2 ≤ length bytes → slice_index bytes 0 ≡ 105 → slice_index bytes 1 ≡ 102
    → front_of (call_text_of call.If) bytes ≡ 2 → IsNamed p bytes call.If
unfolding start_of operands_of text_of
if_so place.Aggregate bytes long is second all =
    named_so place.Aggregate bytes call.If (If ∷ IsNull ∷ IsNotNull ∷ []) 105 is refl refl refl (if_longest bytes long second all)
if_so place.Program bytes long is second all =
    named_so place.Program bytes call.If (If ∷ []) 105 is refl refl refl (better_at no_front If bytes 2 all)

-- what the first two letters say of a call
abbrev IsLikely : Place → List ℕ → Call → Type 0
IsLikely p bytes name = front_of (call_text_of name) bytes ≡ length (call_text_of name) → IsNamed p bytes name

list_likely : (p : Place) (bytes : List ℕ) (name : Call) → slice_index bytes 0 ≡ 102 → list_call p ≡ Some name → IsLikely p bytes name
list_likely place.Aggregate bytes name is e = subst (IsLikely place.Aggregate bytes) (some_is call.FirstNonNull name e) (λ all. first_so bytes is all)
list_likely place.Program bytes name is e = absurd cc

likely_so : (p : Place) (bytes : List ℕ) (name : Call) → 2 ≤ length bytes → likely_call_of p (slice_index bytes 0) (slice_index bytes 1) ≡ Some name
    → IsLikely p bytes name
unfolding likely_call_of
likely_so p bytes name long e =
    by (nat_eq (slice_index bytes 0) 103) refl (nat_eq (slice_index bytes 0) 108) refl
    (nat_eq (slice_index bytes 0) 105 && nat_eq (slice_index bytes 1) 102) refl e
  where
    by : (g : Bool) → nat_eq (slice_index bytes 0) 103 ≡ g → (l : Bool) → nat_eq (slice_index bytes 0) 108 ≡ l
        → (i : Bool) → (nat_eq (slice_index bytes 0) 105 && nat_eq (slice_index bytes 1) 102) ≡ i
        → cond g (Some call.Greatest) (cond l (Some call.Least) (cond i (Some call.If) (cond (nat_eq (slice_index bytes 0) 102) (list_call p) None))) ≡ Some
        name
        → IsLikely p bytes name
    by true is l ll i ii f = subst (IsLikely p bytes) (some_is call.Greatest name f) (λ all. greatest_so p bytes (same_byte (slice_index bytes 0) 103 is) all)
    by false is true ll i ii f = subst (IsLikely p bytes) (some_is call.Least name f) (λ all. least_so p bytes (same_byte (slice_index bytes 0) 108 ll) all)
    by false is false ll true ii f =
        let two = both_so (nat_eq (slice_index bytes 0) 105) (nat_eq (slice_index bytes 1) 102) ii in
        subst (IsLikely p bytes) (some_is call.If name f)
        (λ all. if_so p bytes long (same_byte (slice_index bytes 0) 105 two.0) (same_byte (slice_index bytes 1) 102 two.1) all)
    by false is false ll false ii f =
        let last = given (nat_eq (slice_index bytes 0) 102) (list_call p) name f in
        list_likely p bytes name (same_byte (slice_index bytes 0) 102 last.0) last.1

call_split : (o : Option Call) (bytes : List ℕ) (r : Symbol × ℕ) (P : Symbol × ℕ → Type 0)
    → ((name : Call) → o ≡ Some name → front_of (call_text_of name) bytes ≡ length (call_text_of name) → P (symbol.Call name, length (call_text_of name)))
    → call_by o bytes ≡ Some r → P r
unfolding whole_call_of
call_split None bytes r P so e = absurd cc
call_split (Some name) bytes r P so e =
    let all = given (nat_eq (front_of (call_text_of name) bytes) (length (call_text_of name))) (Some (symbol.Call name, length (call_text_of name))) r e in
    subst P (some_is (symbol.Call name, length (call_text_of name)) r all.1)
    (so name refl (same_byte (front_of (call_text_of name) bytes) (length (call_text_of name)) all.0))

abbrev Next : Bool → List Symbol → List ℕ → Symbol × ℕ → Type 0
Next takes words bytes r =
    (cond (takes && is_ascii_digit (slice_index bytes 0)) (number_found (number_of bytes))
    (word_found (longest_of all_allowed words bytes).symbol (longest_of all_allowed words bytes).len)
    ≡ Ok (found (token.Word r.0) r.1)) × (r.1 ≤ length bytes)

item_next : (takes : Bool) (words : List Symbol) (p : Place) (bytes : List ℕ) (r : Symbol × ℕ)
    → ((i : ItemForm × ℕ) → IsItem p bytes i → longest_from no_front all_allowed words bytes ≡ whole (symbol.Item i.0) i.1)
    → item_word (item_at_of p bytes) ≡ Some r → Next takes words bytes r
item_next takes words p bytes r longest e =
    item_split (item_at_of p bytes) r (Next takes words bytes) (λ i is. of_item i (item_at_so p bytes i is)) e
  where
    of_item : (i : ItemForm × ℕ) → IsItem p bytes i → Next takes words bytes (symbol.Item i.0, i.1)
    of_item i it = (word_of all_allowed words bytes (symbol.Item i.0, i.1) takes it.other (longest i it), it.within)

call_next : (takes : Bool) (words : List Symbol) (p : Place) (bytes : List ℕ) (r : Symbol × ℕ)
    → ((name : Call) → IsNamed p bytes name → longest_from no_front all_allowed words bytes ≡ whole (symbol.Call name) (length (call_text_of name)))
    → call_at_of p bytes ≡ Some r → Next takes words bytes r
unfolding call_at_of
call_next takes words p bytes r longest e =
    let long = denied (nat_lt (length bytes) 2) (call_by (likely_call_of p (slice_index bytes 0) (slice_index bytes 1)) bytes) r e in
    call_split (likely_call_of p (slice_index bytes 0) (slice_index bytes 1)) bytes r (Next takes words bytes)
    (λ name is all. of_call name (likely_so p bytes name (no_less (length bytes) 2 long.0) is all) all) long.1
  where
    of_call : (name : Call) → IsNamed p bytes name → front_of (call_text_of name) bytes ≡ length (call_text_of name)
        → Next takes words bytes (symbol.Call name, length (call_text_of name))
    of_call name it all = (
      word_of all_allowed words bytes (symbol.Call name, length (call_text_of name)) takes it.other (longest name it),
      omega (arith, all, front_within (call_text_of name) bytes),
    )

operand_next : (takes : Bool) (words : List Symbol) (p : Place) (bytes : List ℕ) (r : Symbol × ℕ) → IsSole 40 symbol.Open words
    → IsSole 45 symbol.Minus words
    → ((name : Call) → IsNamed p bytes name → longest_from no_front all_allowed words bytes ≡ whole (symbol.Call name) (length (call_text_of name)))
    → 0 < length bytes
    → operand_of p bytes ≡ Some r → Next takes words bytes r
unfolding operand_of
operand_next takes words p bytes r open_sole minus_sole call_longest some e =
    by (nat_eq (slice_index bytes 0) 40) refl (nat_eq (slice_index bytes 0) 45) refl e
  where
    by : (t : Bool) → nat_eq (slice_index bytes 0) 40 ≡ t → (m : Bool) → nat_eq (slice_index bytes 0) 45 ≡ m
        → cond t (Some (symbol.Open, 1)) (cond m (Some (symbol.Minus, 1)) (call_at_of p bytes)) ≡ Some r → Next takes words bytes r
    by true is m other f = sole_word words symbol.Open 40 bytes r takes open_sole refl some (same_byte (slice_index bytes 0) 40 is) f
    by false is true other f = sole_word words symbol.Minus 45 bytes r takes minus_sole refl some (same_byte (slice_index bytes 0) 45 other) f
    by false is false other f = call_next takes words p bytes r call_longest f

name_next : (takes : Bool) (words : List Symbol) (p : Place) (bytes : List ℕ) (r : Symbol × ℕ)
    → ((i : ItemForm × ℕ) → IsItem p bytes i → longest_from no_front all_allowed words bytes ≡ whole (symbol.Item i.0) i.1)
    → (other : Option (Symbol × ℕ)) → (other ≡ Some r → Next takes words bytes r) → name_by (item_word (item_at_of p bytes)) other ≡ Some r
    → Next takes words bytes r
name_next takes words p bytes r longest other so e = by (item_word (item_at_of p bytes)) refl e
  where
    by : (o : Option (Symbol × ℕ)) → item_word (item_at_of p bytes) ≡ o → name_by o other ≡ Some r → Next takes words bytes r
    by (Some s) is f = item_next takes words p bytes r longest (is ∙ f)
    by None is f = so f

bracket_next : (bytes : List ℕ) (r : Symbol × ℕ) → 0 < length bytes → bracket_of_call (slice_index bytes 0) ≡ Some r → Next false bracket_of bytes r
unfolding bracket_of_call
bracket_next bytes r some e =
    let first = given (nat_eq (slice_index bytes 0) 40) _ r e in
    sole_word bracket_of symbol.Open 40 bytes r false sole_bracket refl some (same_byte (slice_index bytes 0) 40 first.0) first.1

quick_next : (e : Expect) (frames : List Frame) (quoted : Bool) (p : Place) (bytes : List ℕ) (r : Symbol × ℕ) → 0 < length bytes
    → quick_by e frames p bytes ≡ Some r → TakesWord e frames quoted p bytes r
unfolding token_from longest_of name_of
quick_next expect.Start frames quoted p bytes r some e =
    let n = name_next true (start_of p) p bytes r (λ i it. it.start) (operand_of p bytes)
    (λ f. operand_next true (start_of p) p bytes r (sole_start p) (minus_start p) (λ name it. it.start) some f) e in
    record { next = n.0; within = n.1 }
quick_next expect.Operand frames quoted p bytes r some e =
    let n = name_next true (operands_of p) p bytes r (λ i it. it.operand) (operand_of p bytes)
    (λ f. operand_next true (operands_of p) p bytes r (sole_operand p) (minus_operand p) (λ name it. it.operand) some f) e in
    record { next = n.0; within = n.1 }
quick_next expect.Item frames quoted p bytes r some e =
    let n = name_next false (items_of_place p) p bytes r (λ i it. it.item) None (λ f. absurd cc) e in record { next = n.0; within = n.1 }
quick_next expect.Plain frames quoted p bytes r some e =
    let n = name_next true (items_of_place p) p bytes r (λ i it. it.item) None (λ f. absurd cc) e in record { next = n.0; within = n.1 }
quick_next expect.Bracket frames quoted p bytes r some e = let n = bracket_next bytes r some e in record { next = n.0; within = n.1 }
quick_next expect.Quote frames quoted p bytes r some e = absurd cc
quick_next (expect.Exponent at) frames quoted p bytes r some e = absurd cc
quick_next (expect.Operator with_caret) frames quoted p bytes r some e =
    let a = follower_so frames with_caret bytes r some e in record { next = ap (λ (f : Front). word_found f.symbol f.len) a.longest; within = a.within }
quick_next expect.Comma frames quoted p bytes r some e = absurd cc
quick_next expect.Close frames quoted p bytes r some e = absurd cc
quick_next expect.More frames quoted p bytes r some e = absurd cc
quick_next expect.End frames quoted p bytes r some e = absurd cc

not_empty : (n : ℕ) → nat_eq n 0 ≡ false → 0 < n
not_empty n e = grind (arith, nat_tests)

-- the word that its first bytes tell is the next token
pub quick_so : (e : Expect) (frames : List Frame) (quoted : Bool) (p : Place) (bytes : List ℕ) (r : Symbol × ℕ)
    → quick_word_of e frames p bytes ≡ Some r → TakesWord e frames quoted p bytes r
unfolding quick_word_of
quick_so e frames quoted p bytes r is =
    let some = denied (nat_eq (length bytes) 0) (quick_by e frames p bytes) r is in
    quick_next e frames quoted p bytes r (not_empty (length bytes) some.0) some.1
