-- No text of the grammar is shorter than what is printed of its tree.
use Rattle.std.proofs.Common.{◌≡◌, ℕ, zero, suc, ◌+◌, ◌-◌, ◌*◌, ◌/◌, ◌%◌, ◌^◌, ◌<◌, ◌≤◌, Bool, true, false, cond, List, [], ◌∷◌, ◌++◌, length, refl, sym, ap}
use Rattle.std.proofs.Common.{subst, ◌∙◌, length-append, arith}
use Rattle.std.specs.Prelude.{nat_eq, nat_lt, codes}
use Rattle.std.specs.Char.{digit_value}
use Rattle.std.specs.Fmt.{decimal}
use Rattle.std.specs.Str.Parse.{digits_value}
use Rattle.std.proofs.lemmas.Bool.Decides.{nat_tests}
use Rattle.std.proofs.lemmas.Fmt.{length-decimal-le}
use Rattle.std.proofs.lemmas.Int.Digits.{digits_value-lt}
use Rattle.std.proofs.lemmas.Nat.{mod-mul-add}
use Rattle.expr_lang.specs.declared.tree.Place.{Place}
use Rattle.expr_lang.specs.declared.tree.Unary.{Unary}
use Rattle.expr_lang.specs.declared.tree.Unary.TheVariants as unary
use Rattle.expr_lang.specs.declared.tree.Binary.{Binary}
use Rattle.expr_lang.specs.declared.words.Symbol.TheVariants as symbol
use Rattle.expr_lang.specs.declared.words.Call.{Call}
use Rattle.expr_lang.specs.Print.{number_text, decimals_text, exponent_text, text_from, in_brackets, unary_level_of, binary_level_of, inner_level_of}
use Rattle.expr_lang.specs.Print.{before_of, behind_of, opening_of, between_of, closing_of, left_level_of, right_level_of}
use Rattle.expr_lang.specs.Reading.{level_of}
use Rattle.expr_lang.specs.Shape.{Shape, Operand, One, Two, Choice}
use Rattle.expr_lang.specs.Words.{text_of, operator_text_of, call_text_of}
use Rattle.expr_grammar.specs.Grammar.{Form, Number, Item, Bracket, Power, Sign, Chain, Arguments, If, Condition, DaysBetween, Apply, spelled, symbol_text}
use Rattle.expr_grammar.specs.Grammar.{after_blanks, behind_point, IsDigits, IsNumber, IsExponent, IsSign, arguments_level, IsForm, IsWhole, number_value}
use Rattle.expr_grammar.proofs.Stored.{applied, tree_of}
use Rattle.expr_grammar.proofs.PrintedNumbers.{all_digits, tens_apart, value_behind, no_place, one_place, whole_digits, part_digits, number_is, whole_below}
use Rattle.expr_grammar.proofs.PrintedNumbers.{part_small}
use Rattle.expr_grammar.proofs.PrintedItems.{item_written}
use Rattle.expr_grammar.proofs.Printed.{chain_level, chain_words, call_level, call_inside, call_behind, call_before, sign_level, in_level, not_below}
use Rattle.expr_grammar.proofs.Printed.{left_small, right_small}

-- ---- numbers

part_short_by : (t : Bool) (k n : ℕ) (d : ℕ) (ds : List ℕ) → nat_eq n 0 ≡ t → length (decimals_text k (n % 10 ^ k)) ≤ length ds
    → length (decimals_text (suc k) n) ≤ length (d ∷ ds)
part_short_by true k n d ds e h = subst (λ (l : List ℕ). length l ≤ length (d ∷ ds)) (sym (no_place k n e)) (omega arith)
part_short_by false k n d ds e h = subst (λ (l : List ℕ). length l ≤ length (d ∷ ds)) (sym (one_place k n e)) (omega arith)

part_short : (k n : ℕ) (ds : List ℕ) → length ds ≤ k → IsDigits ds → n ≡ digits_value 10 ds * 10 ^ (k - length ds) → length (decimals_text k n) ≤ length ds
part_short zero n ds few h is = omega arith
part_short (suc k) n [] few h is =
    let z : n ≡ 0 = omega arith in
    let e : nat_eq n 0 ≡ true = grind (arith, nat_tests) in
    subst (λ (l : List ℕ). length l ≤ 0) (sym (no_place k n e)) (omega arith)
part_short (suc k) n (d ∷ ds) few h is =
    let less : length ds ≤ k = omega arith in
    let e : suc k - suc (length ds) ≡ k - length ds = omega arith in
    let v : digits_value 10 (d ∷ ds) ≡ digit_value d * 10 ^ length ds + digits_value 10 ds = value_behind (0 * 10 + digit_value d) ds
    ∙ ap (λ (x : ℕ). x * 10 ^ length ds + digits_value 10 ds) (zero_more (digit_value d)) in
    let whole : n ≡ digit_value d * 10 ^ k + digits_value 10 ds * 10 ^ (k - length ds) =
    is ∙ ap (λ (x : ℕ). digits_value 10 (d ∷ ds) * 10 ^ x) e
    ∙ ap (λ (x : ℕ). x * 10 ^ (k - length ds)) v
    ∙ omega (arith, ap (λ (x : ℕ). digit_value d * x) (tens_apart k (length ds) less)) in
    let rest : n % 10 ^ k ≡ digits_value 10 ds * 10 ^ (k - length ds) =
    ap (λ (x : ℕ). x % 10 ^ k) whole ∙ mod-mul-add (digit_value d) (10 ^ k) (digits_value 10 ds * 10 ^ (k - length ds)) (part_small k ds less h.1) in
    part_short_by (nat_eq n 0) k n d ds refl (part_short k (n % 10 ^ k) ds less h.1 rest)
  where
    zero_more : (m : ℕ) → 0 * 10 + m ≡ m
    zero_more m = omega arith

point_long : (xs ys : List ℕ) → length xs ≤ length ys → length (behind_point xs) ≤ length (behind_point ys)
point_long [] ys h = omega arith
point_long (x ∷ xs) [] h = absurd (omega arith)
point_long (x ∷ xs) (y ∷ ys) h = omega arith

whole_short : (ds : List ℕ) (n : ℕ) → 1 ≤ length ds → length ds ≤ 12 → IsDigits ds → n ≡ digits_value 10 ds → length (decimal n) ≤ length ds
whole_short ds n some few h is =
    length-decimal-le (length ds) n (omega arith) (omega (arith, digits_value-lt 10 ds (all_digits ds h))) (omega (arith, whole_below ds few h))

number_short : (digits decimals : List ℕ) → IsNumber digits decimals
    → length (number_text (number_value digits decimals)) ≤ length (digits ++ behind_point decimals)
number_short digits decimals h =
    let n = number_value digits decimals in
    let part = part_small 6 decimals h.short h.part in
    let k = apart (digits_value 10 digits) (digits_value 10 decimals * 10 ^ (6 - length decimals)) part in
    let one = whole_short digits (n / 1000000) h.some h.few h.whole k.0 in
    let other = point_long (part_digits n) decimals (part_short 6 (n % 1000000) decimals h.short h.part k.1) in
    omega (arith, ap length (number_is n), length-append (whole_digits n) (behind_point (part_digits n)), length-append digits (behind_point decimals))
  where
    apart : (a b : ℕ) → b < 1000000 → ((a * 1000000 + b) / 1000000 ≡ a) × ((a * 1000000 + b) % 1000000 ≡ b)
    apart a b h = (omega arith, omega arith)

exponent_short_by : (t : Bool) (ds : List ℕ) → nat_lt (digits_value 10 ds) 10 ≡ t → IsExponent ds → length (exponent_text (digits_value 10 ds)) ≤ length ds
exponent_short_by true ds e h =
    subst (λ (b : Bool). length (cond b ((48 + digits_value 10 ds) ∷ []) ((48 + digits_value 10 ds / 10 % 10) ∷ (48 + digits_value 10 ds % 10) ∷ [])) ≤ length
    ds) (sym e) (omega (arith, h.some))
exponent_short_by false ds e h =
    let large : 10 ≤ digits_value 10 ds = grind (arith, nat_tests) in
    let two : 2 ≤ length ds = two_digits ds (digits_value-lt 10 ds (all_digits ds h.whole)) large h.some in
    subst (λ (b : Bool). length (cond b ((48 + digits_value 10 ds) ∷ []) ((48 + digits_value 10 ds / 10 % 10) ∷ (48 + digits_value 10 ds % 10) ∷ [])) ≤ length
    ds) (sym e) (omega arith)
  where
    two_digits : (l : List ℕ) → digits_value 10 l < 10 ^ length l → 10 ≤ digits_value 10 l → 1 ≤ length l → 2 ≤ length l
    two_digits [] lt large some = absurd (omega arith)
    two_digits (d ∷ []) lt large some = absurd (omega arith)
    two_digits (d ∷ c ∷ ds) lt large some = omega arith

exponent_short : (ds : List ℕ) → IsExponent ds → length (exponent_text (digits_value 10 ds)) ≤ length ds
exponent_short ds h = exponent_short_by (nat_lt (digits_value 10 ds) 10) ds refl h

-- ---- forms

abbrev Fits : List ℕ → Form → Type 0
Fits text form = (rest : List ℕ) → length text + length rest ≤ length (spelled form rest)

blanks_long : (b word rest : List ℕ) → length (after_blanks b word rest) ≡ length b + (length word + length rest)
blanks_long b word rest = omega (arith, length-append b (word ++ rest), length-append word rest)

in_long : (s t : Bool) (text : List ℕ) → length (in_brackets s text) ≤ length (in_brackets t text) + 2
in_long true true text = omega arith
in_long true false text = omega (arith, length-append text (codes ")"))
in_long false true text = omega (arith, length-append text (codes ")"))
in_long false false text = omega arith

-- brackets around a tree take two bytes
from_long : (m n : ℕ) (s : Shape) → length (text_from m s) ≤ length (text_from n s) + 2
from_long m n (Operand it) = omega arith
from_long m n (One operator operand) =
    in_long (nat_lt (unary_level_of operator) m) (nat_lt (unary_level_of operator) n)
    (before_of operator ++ text_from (inner_level_of operator) operand ++ behind_of operator)
from_long m n (Two operator left right) =
    in_long (nat_lt (binary_level_of operator) m) (nat_lt (binary_level_of operator) n)
    (opening_of operator ++ text_from (left_level_of operator) left ++ between_of operator ++ text_from (right_level_of operator) right ++ closing_of operator)
from_long m n (Choice test one other) = omega arith

three_long : (w a v b u c x : List ℕ) → length (w ++ a ++ v ++ b ++ u ++ c ++ x) ≡ length w + length a + length v + length b + length u + length c + length x
three_long w a v b u c x =
    omega (
      arith,
      length-append (w ++ a ++ v ++ b ++ u ++ c) x,
      length-append (w ++ a ++ v ++ b ++ u) c,
      length-append (w ++ a ++ v ++ b) u,
      length-append (w ++ a ++ v) b,
      length-append (w ++ a) v,
      length-append w a,
    )

two_long : (w a v b x : List ℕ) → length (w ++ a ++ v ++ b ++ x) ≡ length w + length a + length v + length b + length x
two_long w a v b x =
    omega (arith, length-append (w ++ a ++ v ++ b) x, length-append (w ++ a ++ v) b, length-append (w ++ a) v, length-append w a)

one_long : (w a x : List ℕ) → length (w ++ a ++ x) ≡ length w + length a + length x
one_long w a x = omega (arith, length-append (w ++ a) x, length-append w a)

bracket_fits : (b c : List ℕ) (text less : List ℕ) (inner : Form) → length text ≤ length less + 2 → Fits less inner → Fits text (Bracket b inner c)
unfolding text_of
bracket_fits b c text less inner h f rest =
    omega (
      arith,
      f (symbol_text c symbol.Close rest),
      blanks_long c (codes ")") rest,
      blanks_long b (codes "(") (spelled inner (symbol_text c symbol.Close rest)),
    )

power_fits : (b c digits written text : List ℕ) (atom : Form) → length written ≤ length digits → Fits text atom
    → Fits (text ++ (codes "^" ++ written)) (Power atom b c digits)
unfolding text_of
power_fits b c digits written text atom h f rest =
    omega (
      arith,
      length-append text (codes "^" ++ written),
      f (symbol_text b symbol.Caret (after_blanks c digits rest)),
      blanks_long b (codes "^") (after_blanks c digits rest),
      blanks_long c digits rest,
    )

sign_fits : (b text : List ℕ) (sign : Unary) (operand : Form) → IsSign sign → Fits text operand
    → Fits (before_of sign ++ text ++ behind_of sign) (Sign b sign operand)
sign_fits b text unary.Negate operand s f rest = omega (arith, f rest, blanks_long b (codes "-") (spelled operand rest), one_long (codes "-") text [])
sign_fits b text unary.Not operand s f rest = omega (arith, f rest, blanks_long b (codes "!") (spelled operand rest), one_long (codes "!") text [])
sign_fits b text _ operand s f rest = absurd s

chain_fits : (b one other : List ℕ) (operator : Binary) (left right : Form) → 1 ≤ level_of operator → Fits one left → Fits other right
    → Fits (opening_of operator ++ one ++ between_of operator ++ other ++ closing_of operator) (Chain left b operator right)
unfolding text_of
chain_fits b one other operator left right h f g rest =
    let w = chain_words operator h in
    omega (
      arith,
      f (symbol_text b (symbol.Operator operator) (spelled right rest)),
      g rest,
      blanks_long b (operator_text_of operator) (spelled right rest),
      two_long (opening_of operator) one (between_of operator) other (closing_of operator),
      ap length w.0,
      ap length w.1,
      ap length w.2,
    )

arguments_fit : (b one other : List ℕ) (first last : Form) → Fits one first → Fits other last
    → Fits ((one ++ codes ",") ++ other ++ []) (Arguments first b last)
unfolding text_of
arguments_fit b one other first last f g rest =
    omega (
      arith,
      f (symbol_text b symbol.Comma (spelled last rest)),
      g rest,
      blanks_long b (codes ",") (spelled last rest),
      two_long [] one (codes ",") other [],
    )

if_fits : (b c d e i x y z : List ℕ) (test one other : Form) → Fits x test → Fits y one → Fits z other
    → Fits (codes "if(" ++ x ++ codes "," ++ y ++ codes "," ++ z ++ codes ")") (If b c test d one e other i)
unfolding text_of
if_fits b c d e i x y z test one other f g h rest =
    let r3 = symbol_text i symbol.Close rest in
    let r2 = symbol_text e symbol.Comma (spelled other r3) in
    let r1 = symbol_text d symbol.Comma (spelled one r2) in
    omega (
      arith,
      three_long (codes "if(") x (codes ",") y (codes ",") z (codes ")"),
      f r1,
      g r2,
      h r3,
      blanks_long i (codes ")") rest,
      blanks_long e (codes ",") (spelled other r3),
      blanks_long d (codes ",") (spelled one r2),
      blanks_long c (codes "(") (spelled test r1),
      blanks_long b (codes "if") (symbol_text c symbol.Open (spelled test r1)),
    )

condition_fits : (b c d e i j k l x y z : List ℕ) (test one other : Form) → Fits x test → Fits y one → Fits z other
    → Fits (codes "if(" ++ x ++ codes "," ++ y ++ codes "," ++ z ++ codes ")") (Condition b c d test e i one j other k)
unfolding text_of
condition_fits b c d e i j k l x y z test one other f g h rest =
    let r3 = symbol_text k symbol.Close rest in
    let r2 = symbol_text j symbol.Comma (spelled other r3) in
    let r1 = symbol_text i symbol.Comma (spelled one r2) in
    let r0 = symbol_text e symbol.Quote r1 in
    let q = symbol_text d symbol.Quote (spelled test r0) in
    omega (
      arith,
      three_long (codes "if(") x (codes ",") y (codes ",") z (codes ")"),
      f r0,
      g r2,
      h r3,
      blanks_long k (codes ")") rest,
      blanks_long j (codes ",") (spelled other r3),
      blanks_long i (codes ",") (spelled one r2),
      blanks_long e (codes "'") r1,
      blanks_long d (codes "'") (spelled test r0),
      blanks_long c (codes "(") q,
      blanks_long b (codes "d2:condition") (symbol_text c symbol.Open q),
    )

days_fit : (b c d e x y : List ℕ) (one other : Form) → Fits x one → Fits y other
    → Fits (codes "d2:daysBetween(" ++ x ++ codes "," ++ y ++ codes ")") (DaysBetween b c one d other e)
unfolding text_of
days_fit b c d e x y one other f g rest =
    let r2 = symbol_text e symbol.Close rest in
    let r1 = symbol_text d symbol.Comma (spelled other r2) in
    omega (
      arith,
      two_long (codes "d2:daysBetween(") x (codes ",") y (codes ")"),
      f r1,
      g r2,
      blanks_long e (codes ")") rest,
      blanks_long d (codes ",") (spelled other r2),
      blanks_long c (codes "(") (spelled one r1),
      blanks_long b (codes "d2:daysBetween") (symbol_text c symbol.Open (spelled one r1)),
    )

apply_fits : (b c d text : List ℕ) (name : Call) (arguments : Form)
    → before_of (applied name) ≡ call_text_of name ++ codes "(" → Fits text arguments
    → Fits (before_of (applied name) ++ text ++ behind_of (applied name)) (Apply b name c arguments d)
unfolding text_of
apply_fits b c d text name arguments e f rest =
    let r = symbol_text d symbol.Close rest in
    omega (
      arith,
      one_long (before_of (applied name)) text (behind_of (applied name)),
      ap length e,
      ap length (call_behind name),
      length-append (call_text_of name) (codes "("),
      f r,
      blanks_long d (codes ")") rest,
      blanks_long c (codes "(") (spelled arguments r),
      blanks_long b (call_text_of name) (symbol_text c symbol.Open (spelled arguments r)),
    )

pub shortest_form : (days : List (List ℕ)) (p : Place) (form : Form) (quoted : Bool) (level least : ℕ) → IsForm p quoted level form → least ≤ level → least ≤ 8
    → Fits (text_from least (tree_of days form)) form
shortest_form days p (Number b digits decimals) quoted level least h le small rest =
    omega (arith, number_short digits decimals h.1, blanks_long b (digits ++ behind_point decimals) rest)
shortest_form days p (Item b form word) quoted level least h le small rest = omega (arith, ap length (item_written days form word h.2), blanks_long b word rest)
shortest_form days p (Bracket b inner c) quoted level least h le small rest =
    bracket_fits b c (text_from least (tree_of days inner)) (text_from 1 (tree_of days inner)) inner (from_long least 1 (tree_of days inner))
    (shortest_form days p inner quoted 1 1 h.1 (omega arith) (omega arith)) rest
shortest_form days p (Power atom b c digits) quoted level least h le small rest =
    let text = text_from 8 (tree_of days atom) in
    subst (λ (l : List ℕ). length l + length rest ≤ length (spelled (Power atom b c digits) rest))
    (sym (in_level 7 least (text ++ (codes "^" ++ exponent_text (digits_value 10 digits))) (not_below 7 least (omega (arith, h.0)))))
    (power_fits b c digits (exponent_text (digits_value 10 digits)) text atom (exponent_short digits h.4)
    (shortest_form days p atom quoted 8 8 h.1 (omega arith) (omega arith)) rest)
shortest_form days p (Sign b sign operand) quoted level least h le small rest =
    let e = sign_level sign h.2 in
    let s = tree_of days operand in
    let text = before_of sign ++ text_from 6 s ++ behind_of sign in
    subst (λ (l : List ℕ). length l + length rest ≤ length (spelled (Sign b sign operand) rest))
    (sym (ap (λ (n : ℕ). in_brackets (nat_lt (unary_level_of sign) least) (before_of sign ++ text_from n s ++ behind_of sign)) e.1
    ∙ in_level (unary_level_of sign) least text (not_below (unary_level_of sign) least (omega (arith, h.0)))))
    (sign_fits b (text_from 6 s) sign operand h.2 (shortest_form days p operand quoted 6 6 h.3 (omega arith) (omega arith)) rest)
shortest_form days p (Chain left b operator right) quoted level least h le small rest =
    let one = text_from (left_level_of operator) (tree_of days left) in
    let other = text_from (right_level_of operator) (tree_of days right) in
    let text = opening_of operator ++ one ++ between_of operator ++ other ++ closing_of operator in
    subst (λ (l : List ℕ). length l + length rest ≤ length (spelled (Chain left b operator right) rest))
    (sym (in_level (binary_level_of operator) least text (not_below (binary_level_of operator) least (omega (arith, h.1, chain_level operator h.0)))))
    (chain_fits b one other operator left right h.0
    (shortest_form days p left quoted (left_level_of operator) (left_level_of operator) h.2 (omega arith) (left_small operator))
    (shortest_form days p right quoted (right_level_of operator) (right_level_of operator) h.4 (omega arith) (right_small operator)) rest)
shortest_form days p (Arguments first b last) quoted level least h le small rest =
    let none : least ≡ 0 = omega (arith, h.0) in
    subst (λ (n : ℕ). length (text_from n (tree_of days (Arguments first b last))) + length rest ≤ length (spelled (Arguments first b last) rest)) (sym none)
    (arguments_fit b (text_from 0 (tree_of days first)) (text_from 1 (tree_of days last)) first last
    (shortest_form days p first quoted 0 0 h.1 (omega arith) (omega arith)) (shortest_form days p last quoted 1 1 h.3 (omega arith) (omega arith)) rest)
shortest_form days p (If b c test d one e other f) quoted level least h le small rest =
    if_fits b c d e f (text_from 0 (tree_of days test)) (text_from 0 (tree_of days one)) (text_from 0 (tree_of days other)) test one other
    (shortest_form days p test quoted 1 0 h.3 (omega arith) (omega arith)) (shortest_form days p one quoted 1 0 h.5 (omega arith) (omega arith))
    (shortest_form days p other quoted 1 0 h.7 (omega arith) (omega arith)) rest
shortest_form days p (Condition b c d test e f one g other i) quoted level least h le small rest =
    condition_fits b c d e f g i [] (text_from 0 (tree_of days test)) (text_from 0 (tree_of days one)) (text_from 0 (tree_of days other)) test one other
    (shortest_form days p test true 1 0 h.5 (omega arith) (omega arith)) (shortest_form days p one quoted 1 0 h.8 (omega arith) (omega arith))
    (shortest_form days p other quoted 1 0 h.10 (omega arith) (omega arith)) rest
shortest_form days p (DaysBetween b c one d other e) quoted level least h le small rest =
    let text = codes "d2:daysBetween(" ++ text_from 0 (tree_of days one) ++ codes "," ++ text_from 0 (tree_of days other) ++ codes ")" in
    subst (λ (l : List ℕ). length l + length rest ≤ length (spelled (DaysBetween b c one d other e) rest))
    (sym (in_level 8 least text (not_below 8 least small)))
    (days_fit b c d e (text_from 0 (tree_of days one)) (text_from 0 (tree_of days other)) one other
    (shortest_form days p one quoted 1 0 h.3 (omega arith) (omega arith)) (shortest_form days p other quoted 1 0 h.5 (omega arith) (omega arith)) rest)
shortest_form days p (Apply b name c arguments d) quoted level least h le small rest =
    let s = tree_of days arguments in
    let text = before_of (applied name) ++ text_from 0 s ++ behind_of (applied name) in
    subst (λ (l : List ℕ). length l + length rest ≤ length (spelled (Apply b name c arguments d) rest))
    (sym (ap (λ (n : ℕ). in_brackets (nat_lt (unary_level_of (applied name)) least) (before_of (applied name) ++ text_from n s ++ behind_of (applied name)))
    (call_inside name)
    ∙ in_level (unary_level_of (applied name)) least text (not_below (unary_level_of (applied name)) least (omega (arith, call_level name)))))
    (apply_fits b c d (text_from 0 s) name arguments (call_before name arguments h.4)
    (shortest_form days p arguments quoted (arguments_level name) 0 h.3 (omega arith) (omega arith)) rest)

shortest_of : (days : List (List ℕ)) (p : Place) (form : Form) (rest : List ℕ) → IsForm p false 1 form
    → length (text_from 0 (tree_of days form)) ≤ length (spelled form rest)
shortest_of days p form rest h = omega (arith, shortest_form days p form false 1 0 h (omega arith) (omega arith) rest)

pub shortest_whole : (days : List (List ℕ)) (p : Place) (form : Form) (rest : List ℕ) → IsWhole p form
    → length (text_from 0 (tree_of days form)) ≤ length (spelled form rest)
shortest_whole days p (Item b form word) rest h = omega (arith, ap length (item_written days form word h.2), blanks_long b word rest)
shortest_whole days p (Number b digits decimals) rest h = shortest_of days p (Number b digits decimals) rest h
shortest_whole days p (Bracket b inner c) rest h = shortest_of days p (Bracket b inner c) rest h
shortest_whole days p (Power atom b c digits) rest h = shortest_of days p (Power atom b c digits) rest h
shortest_whole days p (Sign b sign operand) rest h = shortest_of days p (Sign b sign operand) rest h
shortest_whole days p (Chain left b operator right) rest h = shortest_of days p (Chain left b operator right) rest h
shortest_whole days p (Arguments first b last) rest h = shortest_of days p (Arguments first b last) rest h
shortest_whole days p (If b c test d one e other f) rest h = shortest_of days p (If b c test d one e other f) rest h
shortest_whole days p (Condition b c d test e f one g other i) rest h = shortest_of days p (Condition b c d test e f one g other i) rest h
shortest_whole days p (DaysBetween b c one d other e) rest h = shortest_of days p (DaysBetween b c one d other e) rest h
shortest_whole days p (Apply b name c arguments d) rest h = shortest_of days p (Apply b name c arguments d) rest h
