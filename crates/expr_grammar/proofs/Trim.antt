-- A form with shorter lists of arguments, whose first 4,096 bytes are the same.
use Rattle.std.proofs.Common.{◌≡◌, ℕ, zero, suc, ◌+◌, ◌≤◌, Bool, true, false, cond, List, [], ◌∷◌, ◌++◌, length, take, drop, refl, sym, ap, subst, ◌∙◌}
use Rattle.std.proofs.Common.{length-append, arith}
use Rattle.std.specs.Prelude.{nat_le}
use Rattle.std.proofs.lemmas.Bool.Decides.{nat_tests}
use Rattle.std.proofs.lemmas.List.{take-append-le, take-append-drop}
use Rattle.expr_lang.specs.declared.tree.Place.{Place}
use Rattle.expr_lang.specs.declared.words.Symbol.{Symbol}
use Rattle.expr_lang.specs.declared.words.Symbol.TheVariants as symbol
use Rattle.expr_lang.specs.declared.words.Call.{Call}
use Rattle.expr_lang.specs.declared.words.Call.TheVariants as call
use Rattle.expr_lang.specs.Print.{left_level_of, right_level_of}
use Rattle.expr_lang.specs.Words.{text_of}
use Rattle.expr_grammar.specs.Grammar.{Form, Number, Item, Bracket, Power, Sign, Chain, Arguments, If, Condition, DaysBetween, Apply, IsForm, IsWhole}
use Rattle.expr_grammar.specs.Grammar.{Takes, is_item, is_plain, all_plain, arguments_level, sign_text, after_blanks, symbol_text, behind_point, spelled}
use Rattle.expr_grammar.proofs.Words.{both, take_front}
use Rattle.expr_grammar.proofs.Quoted.{Longer, long_form}
use Rattle.expr_grammar.proofs.Opening.{last_dark, is_closed, form_last}
use Rattle.expr_grammar.proofs.Few.{argument_count, Few}

-- with at most 2,050 arguments in each list
abbrev pub trim : Form → Form
trim (Number b digits decimals) = Number b digits decimals
trim (Item b f word) = Item b f word
trim (Bracket b inner c) = Bracket b (trim inner) c
trim (Power atom b c digits) = Power (trim atom) b c digits
trim (Sign b sign operand) = Sign b sign (trim operand)
trim (Chain left b op right) = Chain (trim left) b op (trim right)
trim (Arguments first b last) = cond (nat_le 2050 (argument_count first)) (trim first) (Arguments (trim first) b (trim last))
trim (If b c test d one e other f) = If b c (trim test) d (trim one) e (trim other) f
trim (Condition b c d test e f one g other h) = Condition b c d (trim test) e f (trim one) g (trim other) h
trim (DaysBetween b c one d other e) = DaysBetween b c (trim one) d (trim other) e
trim (Apply b name c arguments d) = Apply b name c (trim arguments) d

count_trim : (F : Form) → (argument_count (trim F) ≤ 2050) × (argument_count (trim F) ≤ argument_count F)
count_trim (Arguments first b last) =
    let h = count_trim first in
    (elim (nat_le 2050 (argument_count first)) as (λ t. nat_le 2050 (argument_count first) ≡ t
    → (argument_count (cond t (trim first) (Arguments (trim first) b (trim last))) ≤ 2050)
    × (argument_count (cond t (trim first) (Arguments (trim first) b (trim last))) ≤ argument_count first + 1)) [
      | true ↦ λ e. (h.0, omega (arith, h.1))
      | false ↦ λ e. (let less : argument_count first ≤ 2049 = grind (arith, nat_tests) in (omega (arith, h.1, less), omega (arith, h.1)))
    ]) refl
count_trim F = (omega arith, omega arith)

pub few_trim : (F : Form) → Few (trim F)
few_trim (Number b digits decimals) = tt
few_trim (Item b f word) = tt
few_trim (Bracket b inner c) = few_trim inner
few_trim (Power atom b c digits) = few_trim atom
few_trim (Sign b sign operand) = few_trim operand
few_trim (Chain left b op right) = (few_trim left, few_trim right)
few_trim (Arguments first b last) =
    elim (nat_le 2050 (argument_count first)) as (λ t. Few (cond t (trim first) (Arguments (trim first) b (trim last)))) [
      | true ↦ few_trim first
      | false ↦ (omega (arith, (count_trim first).0), few_trim first, few_trim last)
    ]
few_trim (If b c test d one e other f) = (few_trim test, few_trim one, few_trim other)
few_trim (Condition b c d test e f one g other h) = (few_trim test, few_trim one, few_trim other)
few_trim (DaysBetween b c one d other e) = (few_trim one, few_trim other)
few_trim (Apply b name c arguments d) = few_trim arguments

item_trim : (F : Form) → is_item F ≡ true → is_item (trim F) ≡ true
item_trim (Item b f word) e = refl
item_trim F e = absurd cc

one_plain : (F : Form) → is_plain F ≡ true → is_plain (trim F) ≡ true
one_plain (Number b digits decimals) e = refl
one_plain (Item b f word) e = refl
one_plain F e = absurd cc

plain_trim : (F : Form) → all_plain F ≡ true → all_plain (trim F) ≡ true
plain_trim (Number b digits decimals) e = refl
plain_trim (Item b f word) e = refl
plain_trim (Arguments first b last) e =
    let h = both (all_plain first) (is_plain last) e in
    elim (nat_le 2050 (argument_count first)) as (λ t. all_plain (cond t (trim first) (Arguments (trim first) b (trim last))) ≡ true)
    [ true ↦ plain_trim first h.0 | false ↦ rw (plain_trim first h.0, one_plain last h.1) refl ]
plain_trim F e = absurd cc

takes_trim : (name : Call) (F : Form) → Takes name F → Takes name (trim F)
takes_trim call.IsNull F h = item_trim F h
takes_trim call.IsNotNull F h = item_trim F h
takes_trim call.HasValue F h = item_trim F h
takes_trim call.FirstNonNull F h = plain_trim F h
takes_trim call.Greatest F h = tt
takes_trim call.Least F h = tt
takes_trim call.Zing F h = tt
takes_trim call.Oizp F h = tt
takes_trim name F h = absurd h

pub trim_is : (p : Place) (q : Bool) (L : ℕ) (F : Form) → IsForm p q L F → IsForm p q L (trim F)
trim_is p q L (Number b digits decimals) is = is
trim_is p q L (Item b f word) is = is
trim_is p q L (Bracket b inner c) is = (is.0, trim_is p q 1 inner is.1, is.2)
trim_is p q L (Power atom b c digits) is = (is.0, trim_is p q 8 atom is.1, is.2, is.3, is.4)
trim_is p q L (Sign b sign operand) is = (is.0, is.1, is.2, trim_is p q 6 operand is.3)
trim_is p q L (Chain left b op right) is =
    (is.0, is.1, trim_is p q (left_level_of op) left is.2, is.3, trim_is p q (right_level_of op) right is.4)
trim_is p q L (Arguments first b last) is =
    elim (nat_le 2050 (argument_count first)) as (λ t. IsForm p q L (cond t (trim first) (Arguments (trim first) b (trim last)))) [
      | true ↦ subst (λ (n : ℕ). IsForm p q n (trim first)) (sym is.0) (trim_is p q 0 first is.1)
      | false ↦ (is.0, trim_is p q 0 first is.1, is.2, trim_is p q 1 last is.3)
    ]
trim_is p q L (If b c test d one e other f) is =
    (is.0, is.1, is.2, trim_is p q 1 test is.3, is.4, trim_is p q 1 one is.5, is.6, trim_is p q 1 other is.7, is.8)
trim_is p q L (Condition b c d test e f one g other h) is = (
  is.0,
  is.1,
  is.2,
  is.3,
  is.4,
  trim_is p true 1 test is.5,
  is.6,
  is.7,
  trim_is p q 1 one is.8,
  is.9,
  trim_is p q 1 other is.10,
  is.11,
)
trim_is p q L (DaysBetween b c one d other e) is = (is.0, is.1, is.2, trim_is p q 1 one is.3, is.4, trim_is p q 1 other is.5, is.6)
trim_is p q L (Apply b name c arguments d) is =
    (is.0, is.1, is.2, trim_is p q (arguments_level name) arguments is.3, takes_trim name arguments is.4, is.5)

pub trim_whole : (p : Place) (F : Form) → IsWhole p F → IsWhole p (trim F)
trim_whole p (Item b f word) is = is
trim_whole p (Number b digits decimals) is = is
trim_whole p (Bracket b inner c) is = trim_is p false 1 (Bracket b inner c) is
trim_whole p (Power atom b c digits) is = trim_is p false 1 (Power atom b c digits) is
trim_whole p (Sign b sign operand) is = trim_is p false 1 (Sign b sign operand) is
trim_whole p (Chain left b op right) is = trim_is p false 1 (Chain left b op right) is
trim_whole p (Arguments first b last) is = absurd (omega (arith, is.0))
trim_whole p (If b c test d one e other f) is = trim_is p false 1 (If b c test d one e other f) is
trim_whole p (Condition b c d test e f one g other h) is = trim_is p false 1 (Condition b c d test e f one g other h) is
trim_whole p (DaysBetween b c one d other e) is = trim_is p false 1 (DaysBetween b c one d other e) is
trim_whole p (Apply b name c arguments d) is = trim_is p false 1 (Apply b name c arguments d) is

-- ---- the bytes that stay

some_bytes : (l : List ℕ) → ((d : ℕ) → is_closed (last_dark d l) ≡ true) → 1 ≤ length l
some_bytes [] h = (let no : false ≡ true = h 40 in absurd cc)
some_bytes (x ∷ xs) h = omega arith

comma_one : length (text_of symbol.Comma) ≡ 1
unfolding text_of
comma_one = refl

apart : (F : Form) (xs : List ℕ) → spelled F xs ≡ spelled F [] ++ xs
apart F xs = (let start : Longer xs xs [] = record { is = refl } in (long_form xs F start).is)

-- each argument takes a byte, and each comma
count_long : (p : Place) (q : Bool) (L : ℕ) (F : Form) → IsForm p q L F → argument_count F + argument_count F ≤ length (spelled F []) + 1
count_long p q L (Arguments first b last) is =
    let h = count_long p q 0 first is.1 in
    let more = some_bytes (spelled last []) (form_last p q 1 last is.3) in
    let end = symbol_text b symbol.Comma (spelled last []) in
    omega (
      arith,
      h,
      more,
      ap length (apart first end),
      length-append (spelled first []) end,
      length-append b (text_of symbol.Comma ++ spelled last []),
      length-append (text_of symbol.Comma) (spelled last []),
      comma_one,
    )
count_long p q L F is = omega (arith, some_bytes (spelled F []) (form_last p q L F is))

pub take_short : (m n : ℕ) (xs : List ℕ) → n ≤ m → take n (take m xs) ≡ take n xs
take_short m zero xs le = refl
take_short zero (suc n) xs le = absurd (omega arith)
take_short (suc m) (suc n) [] le = refl
take_short (suc m) (suc n) (x ∷ xs) le = ap (λ (l : List ℕ). x ∷ l) (take_short m n xs (omega arith))

after_take : (k : ℕ) (w xs ys : List ℕ) → take k xs ≡ take k ys → take k (w ++ xs) ≡ take k (w ++ ys)
after_take k [] xs ys h = h
after_take zero (x ∷ w) xs ys h = refl
after_take (suc k) (x ∷ w) xs ys h =
    let less : take k xs ≡ take k ys = sym (take_short (suc k) k xs (omega arith)) ∙ ap (take k) h ∙ take_short (suc k) k ys (omega arith) in
    ap (λ (l : List ℕ). x ∷ l) (after_take k w xs ys less)

module _ (p : Place) (k : ℕ) (few : k ≤ 4096) where
  -- both have the same bytes up to a place
  abbrev Same : List ℕ → List ℕ → Type 0
  Same xs ys = take k xs ≡ take k ys

  word_same : (b word xs ys : List ℕ) → Same xs ys → Same (after_blanks b word xs) (after_blanks b word ys)
  word_same b word xs ys h = after_take k b (word ++ xs) (word ++ ys) (after_take k word xs ys h)

  symbol_same : (b : List ℕ) (w : Symbol) (xs ys : List ℕ) → Same xs ys → Same (symbol_text b w xs) (symbol_text b w ys)
  symbol_same b w xs ys h = word_same b (text_of w) xs ys h

  call_same : (name : Call) (b c xs ys : List ℕ) → Same xs ys
      → Same (symbol_text b (symbol.Call name) (symbol_text c symbol.Open xs)) (symbol_text b (symbol.Call name) (symbol_text c symbol.Open ys))
  call_same name b c xs ys h =
      symbol_same b (symbol.Call name) (symbol_text c symbol.Open xs) (symbol_text c symbol.Open ys) (symbol_same c symbol.Open xs ys h)

  -- beyond so many arguments
  cut_off : (q : Bool) (F : Form) → IsForm p q 0 F → 2050 ≤ argument_count F → (xs ys : List ℕ) → Same (spelled F xs) (spelled F ys)
  cut_off q F is many xs ys =
      let long : k ≤ length (spelled F []) = omega (arith, count_long p q 0 F is, many, few) in
      ap (take k) (apart F xs) ∙ take-append-le k (spelled F []) xs long ∙ sym (take-append-le k (spelled F []) ys long) ∙ sym (ap (take k) (apart F ys))

  keeps : (q : Bool) (L : ℕ) (F : Form) → IsForm p q L F → (xs ys : List ℕ) → Same xs ys → Same (spelled F xs) (spelled (trim F) ys)
  keeps q L (Number b digits decimals) is xs ys h = word_same b (digits ++ behind_point decimals) xs ys h
  keeps q L (Item b f word) is xs ys h = word_same b word xs ys h
  keeps q L (Bracket b inner c) is xs ys h =
      symbol_same b symbol.Open (spelled inner (symbol_text c symbol.Close xs)) (spelled (trim inner) (symbol_text c symbol.Close ys))
      (keeps q 1 inner is.1 (symbol_text c symbol.Close xs) (symbol_text c symbol.Close ys) (symbol_same c symbol.Close xs ys h))
  keeps q L (Power atom b c digits) is xs ys h =
      keeps q 8 atom is.1 (symbol_text b symbol.Caret (after_blanks c digits xs)) (symbol_text b symbol.Caret (after_blanks c digits ys))
      (symbol_same b symbol.Caret (after_blanks c digits xs) (after_blanks c digits ys) (word_same c digits xs ys h))
  keeps q L (Sign b sign operand) is xs ys h =
      word_same b (sign_text sign) (spelled operand xs) (spelled (trim operand) ys) (keeps q 6 operand is.3 xs ys h)
  keeps q L (Chain left b op right) is xs ys h =
      keeps q (left_level_of op) left is.2 (symbol_text b (symbol.Operator op) (spelled right xs))
      (symbol_text b (symbol.Operator op) (spelled (trim right) ys))
      (symbol_same b (symbol.Operator op) (spelled right xs) (spelled (trim right) ys) (keeps q (right_level_of op) right is.4 xs ys h))
  keeps q L (Arguments first b last) is xs ys h =
      let u = symbol_text b symbol.Comma (spelled last xs) in
      let v = symbol_text b symbol.Comma (spelled (trim last) ys) in
      (elim (nat_le 2050 (argument_count first)) as (λ t. nat_le 2050 (argument_count first) ≡ t
      → Same (spelled first u) (spelled (cond t (trim first) (Arguments (trim first) b (trim last))) ys)) [
        | true ↦ λ e.
            let many : 2050 ≤ argument_count first = grind (arith, nat_tests) in
            cut_off q first is.1 many u ys ∙ keeps q 0 first is.1 ys ys refl
        | false ↦ λ e.
            keeps q 0 first is.1 u v (symbol_same b symbol.Comma (spelled last xs) (spelled (trim last) ys) (keeps q 1 last is.3 xs ys h))
      ]) refl
  keeps q L (If b c test d one e other f) is xs ys h =
      call_same call.If b c _ _
      (keeps q 1 test is.3 _ _ (symbol_same d symbol.Comma _ _
      (keeps q 1 one is.5 _ _ (symbol_same e symbol.Comma _ _
      (keeps q 1 other is.7 _ _ (symbol_same f symbol.Close xs ys h))))))
  keeps q L (Condition b c d test e f one g other i) is xs ys h =
      call_same call.Condition b c _ _ (symbol_same d symbol.Quote _ _
      (keeps true 1 test is.5 _ _ (symbol_same e symbol.Quote _ _ (symbol_same f symbol.Comma _ _
      (keeps q 1 one is.8 _ _ (symbol_same g symbol.Comma _ _
      (keeps q 1 other is.10 _ _ (symbol_same i symbol.Close xs ys h))))))))
  keeps q L (DaysBetween b c one d other e) is xs ys h =
      call_same call.DaysBetween b c _ _
      (keeps q 1 one is.3 _ _ (symbol_same d symbol.Comma _ _ (keeps q 1 other is.5 _ _ (symbol_same e symbol.Close xs ys h))))
  keeps q L (Apply b name c arguments d) is xs ys h =
      call_same name b c _ _ (keeps q (arguments_level name) arguments is.3 _ _ (symbol_same d symbol.Close xs ys h))

  whole_keeps : (F : Form) → IsWhole p F → (xs : List ℕ) → Same (spelled F xs) (spelled (trim F) xs)
  whole_keeps (Item b f word) is xs = refl
  whole_keeps (Number b digits decimals) is xs = refl
  whole_keeps (Bracket b inner c) is xs = keeps false 1 (Bracket b inner c) is xs xs refl
  whole_keeps (Power atom b c digits) is xs = keeps false 1 (Power atom b c digits) is xs xs refl
  whole_keeps (Sign b sign operand) is xs = keeps false 1 (Sign b sign operand) is xs xs refl
  whole_keeps (Chain left b op right) is xs = keeps false 1 (Chain left b op right) is xs xs refl
  whole_keeps (Arguments first b last) is xs = absurd (omega (arith, is.0))
  whole_keeps (If b c test d one e other f) is xs = keeps false 1 (If b c test d one e other f) is xs xs refl
  whole_keeps (Condition b c d test e f one g other h) is xs = keeps false 1 (Condition b c d test e f one g other h) is xs xs refl
  whole_keeps (DaysBetween b c one d other e) is xs = keeps false 1 (DaysBetween b c one d other e) is xs xs refl
  whole_keeps (Apply b name c arguments d) is xs = keeps false 1 (Apply b name c arguments d) is xs xs refl

-- bytes that begin a form's text begin the trimmed one's
abbrev Begin : List ℕ → List ℕ → Type 0
Begin front text = (more : List ℕ) × (front ++ more ≡ text)

begin_same : (front more text other : List ℕ) → front ++ more ≡ text → take (length front) text ≡ take (length front) other → Begin front other
begin_same front more text other e same =
    let k = length front in
    let head : front ≡ take k other = sym (take_front front more) ∙ ap (take k) e ∙ same in
    (drop k other, ap (λ (l : List ℕ). l ++ drop k other) head ∙ take-append-drop k other)

pub trim_begins : (p : Place) (F : Form) (front more blanks : List ℕ) → length front ≤ 4096 → IsForm p false 1 F → front ++ more ≡ spelled F blanks
    → (rest : List ℕ) × (front ++ rest ≡ spelled (trim F) blanks)
trim_begins p F front more blanks few is e =
    begin_same front more (spelled F blanks) (spelled (trim F) blanks) e (keeps p (length front) few false 1 F is blanks blanks refl)

pub trim_starts : (p : Place) (F : Form) (front more blanks : List ℕ) → length front ≤ 4096 → IsWhole p F → front ++ more ≡ spelled F blanks
    → (rest : List ℕ) × (front ++ rest ≡ spelled (trim F) blanks)
trim_starts p F front more blanks few is e =
    begin_same front more (spelled F blanks) (spelled (trim F) blanks) e (whole_keeps p (length front) few F is blanks)
