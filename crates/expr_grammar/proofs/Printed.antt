-- What is printed of a form's tree is written as a form of the grammar, with the same tree.
use Rattle.std.proofs.Common.{◌≡◌, ℕ, ◌*◌, ◌≤◌, Bool, true, false, cond, List, [], ◌∷◌, ◌++◌, take, drop, refl, sym, ap, ◌∙◌, inl, inr, append_assoc}
use Rattle.std.proofs.Common.{append-nil, arith}
use Rattle.std.specs.Prelude.{◌&&◌, nat_lt, codes}
use Rattle.std.specs.Str.Parse.{digits_value}
use Rattle.std.proofs.lemmas.Bool.Decides.{nat_tests}
use Rattle.expr_lang.specs.declared.tree.Place.{Place}
use Rattle.expr_lang.specs.declared.tree.Place.TheVariants as place
use Rattle.expr_lang.specs.declared.tree.Leaf.TheVariants as leaf
use Rattle.expr_lang.specs.declared.tree.Unary.{Unary}
use Rattle.expr_lang.specs.declared.tree.Unary.TheVariants as unary
use Rattle.expr_lang.specs.declared.tree.Binary.{Binary}
use Rattle.expr_lang.specs.declared.tree.Binary.TheVariants as binary
use Rattle.expr_lang.specs.declared.words.Symbol.{Symbol}
use Rattle.expr_lang.specs.declared.words.Symbol.TheVariants as symbol
use Rattle.expr_lang.specs.declared.words.Call.{Call}
use Rattle.expr_lang.specs.declared.words.Call.TheVariants as call
use Rattle.expr_lang.specs.Print.{exponent_text, text_from, in_brackets, unary_level_of, binary_level_of, inner_level_of, before_of, behind_of, opening_of}
use Rattle.expr_lang.specs.Print.{between_of, closing_of, left_level_of, right_level_of}
use Rattle.expr_lang.specs.Reading.{level_of}
use Rattle.expr_lang.specs.Shape.{Shape, Operand, One, Two, Choice}
use Rattle.expr_lang.specs.Words.{text_of, operands_of, items_of_place, start_of, operator_text_of, call_text_of}
use Rattle.expr_grammar.specs.Grammar.{Form, Number, Item, Bracket, Power, Sign, Chain, Arguments, If, Condition, DaysBetween, Apply, spelled, IsSign}
use Rattle.expr_grammar.specs.Grammar.{IsAmong, IsCall, is_item, is_plain, all_plain, arguments_level, Takes, IsForm, IsWhole, IsTextOf, number_value}
use Rattle.expr_grammar.proofs.Stored.{applied, tree_of}
use Rattle.expr_grammar.proofs.PrintedNumbers.{whole_digits, part_digits, number_is, value_below, number_written, number_again, exponent_is}
use Rattle.expr_grammar.proofs.PrintedItems.{item_written}

-- ---- the printed form

abbrev pub bracketed : Bool → Form → Form
bracketed needed form = cond needed (Bracket [] form []) form

-- the form that is printed where it has to bind at least so tightly
abbrev pub shown : ℕ → Form → Form
shown least (Number b digits decimals) = Number [] (whole_digits (number_value digits decimals)) (part_digits (number_value digits decimals))
shown least (Item b form word) = Item [] form word
shown least (Bracket b inner c) = shown least inner
shown least (Power atom b c digits) = bracketed (nat_lt 7 least) (Power (shown 8 atom) [] [] (exponent_text (digits_value 10 digits)))
shown least (Sign b sign operand) = bracketed (nat_lt 6 least) (Sign [] sign (shown 6 operand))
shown least (Chain left b operator right) =
    bracketed (nat_lt (level_of operator) least) (Chain (shown (left_level_of operator) left) [] operator (shown (right_level_of operator) right))
shown least (Arguments first b last) = Arguments (shown 0 first) [] (shown 1 last)
shown least (If b c test d one e other f) = If [] [] (shown 1 test) [] (shown 1 one) [] (shown 1 other) []
shown least (Condition b c d test e f one g other h) = If [] [] (shown 1 test) [] (shown 1 one) [] (shown 1 other) []
shown least (DaysBetween b c one d other e) = DaysBetween [] [] (shown 1 one) [] (shown 1 other) []
shown least (Apply b name c arguments d) = Apply [] name [] (shown (arguments_level name) arguments) []

-- ---- levels

pub chain_level : (operator : Binary) → 1 ≤ level_of operator → binary_level_of operator ≡ level_of operator
chain_level binary.DaysBetween h = absurd (omega arith)
chain_level _ h = refl

pub left_small : (operator : Binary) → left_level_of operator ≤ 8
left_small binary.Or = omega arith
left_small binary.And = omega arith
left_small binary.Equal = omega arith
left_small binary.NotEqual = omega arith
left_small binary.Less = omega arith
left_small binary.AtMost = omega arith
left_small binary.Greater = omega arith
left_small binary.AtLeast = omega arith
left_small binary.Add = omega arith
left_small binary.Subtract = omega arith
left_small binary.Multiply = omega arith
left_small binary.Divide = omega arith
left_small binary.Remainder = omega arith
left_small binary.DaysBetween = omega arith
left_small binary.Comma = omega arith

pub right_small : (operator : Binary) → right_level_of operator ≤ 8
right_small binary.Or = omega arith
right_small binary.And = omega arith
right_small binary.Equal = omega arith
right_small binary.NotEqual = omega arith
right_small binary.Less = omega arith
right_small binary.AtMost = omega arith
right_small binary.Greater = omega arith
right_small binary.AtLeast = omega arith
right_small binary.Add = omega arith
right_small binary.Subtract = omega arith
right_small binary.Multiply = omega arith
right_small binary.Divide = omega arith
right_small binary.Remainder = omega arith
right_small binary.DaysBetween = omega arith
right_small binary.Comma = omega arith

pub arguments_small : (name : Call) → arguments_level name ≤ 8
arguments_small call.If = omega arith
arguments_small call.Condition = omega arith
arguments_small call.IsNull = omega arith
arguments_small call.IsNotNull = omega arith
arguments_small call.FirstNonNull = omega arith
arguments_small call.Greatest = omega arith
arguments_small call.Least = omega arith
arguments_small call.DaysBetween = omega arith
arguments_small call.HasValue = omega arith
arguments_small call.Zing = omega arith
arguments_small call.Oizp = omega arith

pub call_level : (name : Call) → unary_level_of (applied name) ≡ 8
call_level call.IsNull = refl
call_level call.IsNotNull = refl
call_level call.FirstNonNull = refl
call_level call.Greatest = refl
call_level call.Least = refl
call_level call.HasValue = refl
call_level call.Zing = refl
call_level _ = refl

pub call_inside : (name : Call) → inner_level_of (applied name) ≡ 0
call_inside call.IsNull = refl
call_inside call.IsNotNull = refl
call_inside call.FirstNonNull = refl
call_inside call.Greatest = refl
call_inside call.Least = refl
call_inside call.HasValue = refl
call_inside call.Zing = refl
call_inside _ = refl

pub call_behind : (name : Call) → behind_of (applied name) ≡ codes ")"
call_behind call.IsNull = refl
call_behind call.IsNotNull = refl
call_behind call.FirstNonNull = refl
call_behind call.Greatest = refl
call_behind call.Least = refl
call_behind call.HasValue = refl
call_behind call.Zing = refl
call_behind _ = refl

pub call_before : (name : Call) (arguments : Form) → Takes name arguments → before_of (applied name) ≡ call_text_of name ++ codes "("
call_before call.If arguments h = absurd h
call_before call.Condition arguments h = absurd h
call_before call.DaysBetween arguments h = absurd h
call_before call.IsNull arguments h = refl
call_before call.IsNotNull arguments h = refl
call_before call.FirstNonNull arguments h = refl
call_before call.Greatest arguments h = refl
call_before call.Least arguments h = refl
call_before call.HasValue arguments h = refl
call_before call.Zing arguments h = refl
call_before call.Oizp arguments h = refl

-- ---- the printed form is of the grammar

-- each place has `if`
pub if_call : (p : Place) → IsCall p call.If
unfolding operands_of
if_call place.Aggregate = inr (inr (inr (inl refl)))
if_call place.Program = inr (inr (inr (inl refl)))

shown_item : (least : ℕ) (form : Form) → is_item form ≡ true → is_item (shown least form) ≡ true
shown_item least (Item b form word) h = refl
shown_item least _ h = absurd cc

shown_plain : (least : ℕ) (form : Form) → is_plain form ≡ true → is_plain (shown least form) ≡ true
shown_plain least (Number b digits decimals) h = refl
shown_plain least (Item b form word) h = refl
shown_plain least _ h = absurd cc

both : (a b : Bool) → a && b ≡ true → (a ≡ true) × (b ≡ true)
both true true e = (refl, refl)
both true false e = absurd cc
both false b e = absurd cc

plain_all : (form : Form) → is_plain form ≡ true → all_plain form ≡ true
plain_all (Number b digits decimals) h = refl
plain_all (Item b form word) h = refl
plain_all _ h = absurd cc

shown_all_plain : (least : ℕ) (form : Form) → all_plain form ≡ true → all_plain (shown least form) ≡ true
shown_all_plain least (Arguments first b last) h =
    let k = both (all_plain first) (is_plain last) h in
    rw (shown_all_plain 0 first k.0, shown_plain 1 last k.1) refl
shown_all_plain least (Number b digits decimals) h = refl
shown_all_plain least (Item b form word) h = refl
shown_all_plain least _ h = absurd cc

shown_takes : (name : Call) (least : ℕ) (arguments : Form) → Takes name arguments → Takes name (shown least arguments)
shown_takes call.IsNull least arguments h = shown_item least arguments h
shown_takes call.IsNotNull least arguments h = shown_item least arguments h
shown_takes call.HasValue least arguments h = shown_item least arguments h
shown_takes call.FirstNonNull least arguments h = shown_all_plain least arguments h
shown_takes call.Greatest least arguments h = tt
shown_takes call.Least least arguments h = tt
shown_takes call.Zing least arguments h = tt
shown_takes call.Oizp least arguments h = tt
shown_takes _ least arguments h = absurd h

bracketed_is : (p : Place) (t : Bool) (level least : ℕ) (form : Form) → nat_lt level least ≡ t → IsForm p false 1 form
    → (least ≤ level → IsForm p false least form) → IsForm p false least (bracketed t form)
bracketed_is p true level least form e one own = (tt, one, tt)
bracketed_is p false level least form e one own = own (grind (arith, nat_tests))

pub shown_is : (p : Place) (form : Form) (quoted : Bool) (level least : ℕ) → IsForm p quoted level form → least ≤ 8 * level → least ≤ 8
    → IsForm p false least (shown least form)
shown_is p (Number b digits decimals) quoted level least h le small = (tt, number_written (number_value digits decimals) (value_below digits decimals h.1))
shown_is p (Item b form word) quoted level least h le small = (tt, h.1, h.2)
shown_is p (Bracket b inner c) quoted level least h le small = shown_is p inner quoted 1 least h.1 (omega arith) small
shown_is p (Power atom b c digits) quoted level least h le small =
    let inner = shown_is p atom quoted 8 8 h.1 (omega arith) (omega arith) in
    let e = (exponent_is (digits_value 10 digits) h.4.small).0 in
    bracketed_is p (nat_lt 7 least) 7 least (Power (shown 8 atom) [] [] (exponent_text (digits_value 10 digits))) refl
    (omega arith, inner, tt, tt, e) (λ near. (near, inner, tt, tt, e))
shown_is p (Sign b sign operand) quoted level least h le small =
    let inner = shown_is p operand quoted 6 6 h.3 (omega arith) (omega arith) in
    bracketed_is p (nat_lt 6 least) 6 least (Sign [] sign (shown 6 operand)) refl (omega arith, tt, h.2, inner) (λ near. (near, tt, h.2, inner))
shown_is p (Chain left b operator right) quoted level least h le small =
    let one = shown_is p left quoted (left_level_of operator) (left_level_of operator) h.2 (omega arith) (left_small operator) in
    let other = shown_is p right quoted (right_level_of operator) (right_level_of operator) h.4 (omega arith) (right_small operator) in
    bracketed_is p (nat_lt (level_of operator) least) (level_of operator) least
    (Chain (shown (left_level_of operator) left) [] operator (shown (right_level_of operator) right)) refl
    (h.0, h.0, one, tt, other) (λ near. (h.0, near, one, tt, other))
shown_is p (Arguments first b last) quoted level least h le small =
    (omega (arith, h.0), shown_is p first quoted 0 0 h.1 (omega arith) (omega arith), tt, shown_is p last quoted 1 1 h.3 (omega arith) (omega arith))
shown_is p (If b c test d one e other f) quoted level least h le small = (
  h.0,
  tt,
  tt,
  shown_is p test quoted 1 1 h.3 (omega arith) (omega arith),
  tt,
  shown_is p one quoted 1 1 h.5 (omega arith) (omega arith),
  tt,
  shown_is p other quoted 1 1 h.7 (omega arith) (omega arith),
  tt,
)
shown_is p (Condition b c d test e f one g other i) quoted level least h le small = (
  if_call p,
  tt,
  tt,
  shown_is p test true 1 1 h.5 (omega arith) (omega arith),
  tt,
  shown_is p one quoted 1 1 h.8 (omega arith) (omega arith),
  tt,
  shown_is p other quoted 1 1 h.10 (omega arith) (omega arith),
  tt,
)
shown_is p (DaysBetween b c one d other e) quoted level least h le small =
    (h.0, tt, tt, shown_is p one quoted 1 1 h.3 (omega arith) (omega arith), tt, shown_is p other quoted 1 1 h.5 (omega arith) (omega arith), tt)
shown_is p (Apply b name c arguments d) quoted level least h le small = (
  h.0,
  tt,
  tt,
  shown_is p arguments quoted (arguments_level name) (arguments_level name) h.3 (omega arith) (arguments_small name),
  shown_takes name (arguments_level name) arguments h.4,
  tt,
)

-- ---- and has the same tree

bracketed_tree : (days : List (List ℕ)) (t : Bool) (form : Form) → tree_of days (bracketed t form) ≡ tree_of days form
bracketed_tree days true form = refl
bracketed_tree days false form = refl

three_same : {a b c d e f : Shape} → a ≡ d → b ≡ e → c ≡ f → Choice a b c ≡ Choice d e f
three_same p q r = λ i. Choice (p i) (q i) (r i)

two_same : (operator : Binary) {a b c d : Shape} → a ≡ c → b ≡ d → Two operator a b ≡ Two operator c d
two_same operator p q = λ i. Two operator (p i) (q i)

pub shown_tree : (days : List (List ℕ)) (p : Place) (form : Form) (quoted : Bool) (level least : ℕ) → IsForm p quoted level form
    → tree_of days (shown least form) ≡ tree_of days form
shown_tree days p (Number b digits decimals) quoted level least h =
    ap (λ (n : ℕ). Operand (leaf.Number n)) (number_again (number_value digits decimals) (value_below digits decimals h.1))
shown_tree days p (Item b form word) quoted level least h = refl
shown_tree days p (Bracket b inner c) quoted level least h = shown_tree days p inner quoted 1 least h.1
shown_tree days p (Power atom b c digits) quoted level least h =
    bracketed_tree days (nat_lt 7 least) (Power (shown 8 atom) [] [] (exponent_text (digits_value 10 digits)))
    ∙ ap (λ (n : ℕ). One (unary.Power n) (tree_of days (shown 8 atom))) (exponent_is (digits_value 10 digits) h.4.small).1
    ∙ ap (One (unary.Power (digits_value 10 digits))) (shown_tree days p atom quoted 8 8 h.1)
shown_tree days p (Sign b sign operand) quoted level least h =
    bracketed_tree days (nat_lt 6 least) (Sign [] sign (shown 6 operand)) ∙ ap (One sign) (shown_tree days p operand quoted 6 6 h.3)
shown_tree days p (Chain left b operator right) quoted level least h =
    bracketed_tree days (nat_lt (level_of operator) least) (Chain (shown (left_level_of operator) left) [] operator (shown (right_level_of operator) right))
    ∙ two_same operator (shown_tree days p left quoted (left_level_of operator) (left_level_of operator) h.2)
    (shown_tree days p right quoted (right_level_of operator) (right_level_of operator) h.4)
shown_tree days p (Arguments first b last) quoted level least h =
    two_same binary.Comma (shown_tree days p first quoted 0 0 h.1) (shown_tree days p last quoted 1 1 h.3)
shown_tree days p (If b c test d one e other f) quoted level least h =
    three_same (shown_tree days p test quoted 1 1 h.3) (shown_tree days p one quoted 1 1 h.5) (shown_tree days p other quoted 1 1 h.7)
shown_tree days p (Condition b c d test e f one g other i) quoted level least h =
    three_same (shown_tree days p test true 1 1 h.5) (shown_tree days p one quoted 1 1 h.8) (shown_tree days p other quoted 1 1 h.10)
shown_tree days p (DaysBetween b c one d other e) quoted level least h =
    two_same binary.DaysBetween (shown_tree days p one quoted 1 1 h.3) (shown_tree days p other quoted 1 1 h.5)
shown_tree days p (Apply b name c arguments d) quoted level least h =
    ap (One (applied name)) (shown_tree days p arguments quoted (arguments_level name) (arguments_level name) h.3)

-- ---- and is what is printed

pub in_level : (a b : ℕ) (text : List ℕ) → nat_lt a b ≡ false → in_brackets (nat_lt a b) text ≡ text
in_level a b text e = ap (λ (t : Bool). in_brackets t text) e

pub not_below : (a b : ℕ) → b ≤ a → nat_lt a b ≡ false
not_below a b h = grind (arith, nat_tests)

-- one expression is printed the same where a list of them may stand
pub lowest : (days : List (List ℕ)) (p : Place) (form : Form) (quoted : Bool) → IsForm p quoted 1 form
    → text_from 0 (tree_of days form) ≡ text_from 1 (tree_of days form)
lowest days p (Number b digits decimals) quoted h = refl
lowest days p (Item b form word) quoted h = refl
lowest days p (Bracket b inner c) quoted h = lowest days p inner quoted h.1
lowest days p (Power atom b c digits) quoted h = refl
lowest days p (Sign b unary.Negate operand) quoted h = refl
lowest days p (Sign b unary.Not operand) quoted h = refl
lowest days p (Sign b _ operand) quoted h = absurd h.2
lowest days p (Chain left b operator right) quoted h =
    let e = chain_level operator h.0 in
    let text =
    opening_of operator ++ text_from (left_level_of operator) (tree_of days left) ++ between_of operator
    ++ text_from (right_level_of operator) (tree_of days right) ++ closing_of operator in
    in_level (binary_level_of operator) 0 text (not_below (binary_level_of operator) 0 (omega arith))
    ∙ sym (in_level (binary_level_of operator) 1 text (not_below (binary_level_of operator) 1 (omega arith)))
lowest days p (Arguments first b last) quoted h = absurd (omega (arith, h.0))
lowest days p (If b c test d one e other f) quoted h = refl
lowest days p (Condition b c d test e f one g other i) quoted h = refl
lowest days p (DaysBetween b c one d other e) quoted h = refl
lowest days p (Apply b name c arguments d) quoted h =
    let e = call_level name in
    let text = before_of (applied name) ++ text_from (inner_level_of (applied name)) (tree_of days arguments) ++ behind_of (applied name) in
    in_level (unary_level_of (applied name)) 0 text (not_below (unary_level_of (applied name)) 0 (omega arith))
    ∙ sym (in_level (unary_level_of (applied name)) 1 text (not_below (unary_level_of (applied name)) 1 (omega arith)))

argument_text : (days : List (List ℕ)) (p : Place) (name : Call) (arguments : Form) (quoted : Bool) → IsForm p quoted (arguments_level name) arguments
    → text_from 0 (tree_of days arguments) ≡ text_from (arguments_level name) (tree_of days arguments)
argument_text days p call.FirstNonNull arguments quoted h = refl
argument_text days p call.Greatest arguments quoted h = refl
argument_text days p call.Least arguments quoted h = refl
argument_text days p _ arguments quoted h = lowest days p arguments quoted h

abbrev Spells : List ℕ → Form → Type 0
Spells text form = (rest : List ℕ) → text ++ rest ≡ spelled form rest

bracketed_text : (t : Bool) (text : List ℕ) (form : Form) → Spells text form → Spells (in_brackets t text) (bracketed t form)
unfolding text_of
bracketed_text true text form h rest = ap (λ (l : List ℕ). 40 ∷ l) (append_assoc text (codes ")") rest ∙ h (41 ∷ rest))
bracketed_text false text form h rest = h rest

bracketed_by : (s t : Bool) (text : List ℕ) (form : Form) → s ≡ t → Spells text form → Spells (in_brackets s text) (bracketed t form)
bracketed_by s t text form e h rest = ap (λ (b : Bool). in_brackets b text ++ rest) e ∙ bracketed_text t text form h rest

power_text : (text digits : List ℕ) (form : Form) → Spells text form → Spells (text ++ (codes "^" ++ digits)) (Power form [] [] digits)
unfolding text_of
power_text text digits form h rest = append_assoc text (codes "^" ++ digits) rest ∙ h (94 ∷ (digits ++ rest))

sign_text_is : (text : List ℕ) (sign : Unary) (form : Form) → IsSign sign → Spells text form
    → Spells (before_of sign ++ text ++ behind_of sign) (Sign [] sign form)
sign_text_is text unary.Negate form s h rest = ap (λ (l : List ℕ). 45 ∷ (l ++ rest)) (append-nil text) ∙ ap (λ (l : List ℕ). 45 ∷ l) (h rest)
sign_text_is text unary.Not form s h rest = ap (λ (l : List ℕ). 33 ∷ (l ++ rest)) (append-nil text) ∙ ap (λ (l : List ℕ). 33 ∷ l) (h rest)
sign_text_is text _ form s h rest = absurd s

pub sign_level : (sign : Unary) → IsSign sign → (unary_level_of sign ≡ 6) × (inner_level_of sign ≡ 6)
sign_level unary.Negate s = (refl, refl)
sign_level unary.Not s = (refl, refl)
sign_level _ s = absurd s

pub chain_words : (operator : Binary) → 1 ≤ level_of operator
    → (opening_of operator ≡ []) × (between_of operator ≡ operator_text_of operator) × (closing_of operator ≡ [])
chain_words binary.DaysBetween h = absurd (omega arith)
chain_words _ h = (refl, refl, refl)

chain_text : (operator : Binary) (one other : List ℕ) (left right : Form) → 1 ≤ level_of operator → Spells one left → Spells other right
    → Spells (opening_of operator ++ one ++ between_of operator ++ other ++ closing_of operator) (Chain left [] operator right)
unfolding text_of
chain_text operator one other left right h f g rest =
    let w = chain_words operator h in
    ap (λ (o : List ℕ). (o ++ one ++ between_of operator ++ other ++ closing_of operator) ++ rest) w.0
    ∙ ap (λ (b : List ℕ). (one ++ b ++ other ++ closing_of operator) ++ rest) w.1
    ∙ ap (λ (c : List ℕ). (one ++ operator_text_of operator ++ other ++ c) ++ rest) w.2
    ∙ ap (λ (l : List ℕ). l ++ rest) (append-nil (one ++ operator_text_of operator ++ other))
    ∙ append_assoc (one ++ operator_text_of operator) other rest
    ∙ append_assoc one (operator_text_of operator) (other ++ rest)
    ∙ ap (λ (l : List ℕ). one ++ (operator_text_of operator ++ l)) (g rest)
    ∙ f (operator_text_of operator ++ spelled right rest)

arguments_text : (one other : List ℕ) (first last : Form) → Spells one first → Spells other last
    → Spells ((one ++ codes ",") ++ other) (Arguments first [] last)
unfolding text_of
arguments_text one other first last f g rest =
    append_assoc (one ++ codes ",") other rest ∙ append_assoc one (codes ",") (other ++ rest)
    ∙ ap (λ (l : List ℕ). one ++ 44 ∷ l) (g rest) ∙ f (44 ∷ spelled last rest)

if_text : (a b c : List ℕ) (test one other : Form) → Spells a test → Spells b one → Spells c other
    → Spells (codes "if(" ++ a ++ codes "," ++ b ++ codes "," ++ c ++ codes ")") (If [] [] test [] one [] other [])
unfolding text_of
if_text a b c test one other f g h rest =
    ap (λ (l : List ℕ). codes "if(" ++ l)
    (append_assoc ((((a ++ codes ",") ++ b) ++ codes ",") ++ c) (codes ")") rest
    ∙ append_assoc (((a ++ codes ",") ++ b) ++ codes ",") c (41 ∷ rest)
    ∙ append_assoc ((a ++ codes ",") ++ b) (codes ",") (c ++ 41 ∷ rest)
    ∙ append_assoc (a ++ codes ",") b (44 ∷ (c ++ 41 ∷ rest))
    ∙ append_assoc a (codes ",") (b ++ 44 ∷ (c ++ 41 ∷ rest))
    ∙ ap (λ (l : List ℕ). a ++ 44 ∷ (b ++ 44 ∷ l)) (h (41 ∷ rest))
    ∙ ap (λ (l : List ℕ). a ++ 44 ∷ l) (g (44 ∷ spelled other (41 ∷ rest)))
    ∙ f (44 ∷ spelled one (44 ∷ spelled other (41 ∷ rest))))

days_text : (b c : List ℕ) (one other : Form) → Spells b one → Spells c other
    → Spells (codes "d2:daysBetween(" ++ b ++ codes "," ++ c ++ codes ")") (DaysBetween [] [] one [] other [])
unfolding text_of
days_text b c one other g h rest =
    ap (λ (l : List ℕ). codes "d2:daysBetween(" ++ l)
    (append_assoc ((b ++ codes ",") ++ c) (codes ")") rest
    ∙ append_assoc (b ++ codes ",") c (41 ∷ rest)
    ∙ append_assoc b (codes ",") (c ++ 41 ∷ rest)
    ∙ ap (λ (l : List ℕ). b ++ 44 ∷ l) (h (41 ∷ rest))
    ∙ g (44 ∷ spelled other (41 ∷ rest)))

apply_text : (name : Call) (text : List ℕ) (arguments taken : Form) → Takes name taken → Spells text arguments
    → Spells (before_of (applied name) ++ text ++ behind_of (applied name)) (Apply [] name [] arguments [])
unfolding text_of
apply_text name text arguments taken t h rest =
    ap (λ (l : List ℕ). (l ++ text ++ behind_of (applied name)) ++ rest) (call_before name taken t)
    ∙ ap (λ (l : List ℕ). ((call_text_of name ++ codes "(") ++ text ++ l) ++ rest) (call_behind name)
    ∙ append_assoc ((call_text_of name ++ codes "(") ++ text) (codes ")") rest
    ∙ append_assoc (call_text_of name ++ codes "(") text (41 ∷ rest)
    ∙ append_assoc (call_text_of name) (codes "(") (text ++ 41 ∷ rest)
    ∙ ap (λ (l : List ℕ). call_text_of name ++ 40 ∷ l) (h (41 ∷ rest))

pub as_one : (days : List (List ℕ)) (p : Place) (form : Form) (quoted : Bool) → IsForm p quoted 1 form → Spells (text_from 1 (tree_of days form)) (shown 1 form)
    → Spells (text_from 0 (tree_of days form)) (shown 1 form)
as_one days p form quoted h f rest = ap (λ (l : List ℕ). l ++ rest) (lowest days p form quoted h) ∙ f rest

pub shown_text : (days : List (List ℕ)) (p : Place) (form : Form) (quoted : Bool) (level least : ℕ) → IsForm p quoted level form → least ≤ 8 * level → least ≤ 8
    → Spells (text_from least (tree_of days form)) (shown least form)
shown_text days p (Number b digits decimals) quoted level least h le small rest = ap (λ (l : List ℕ). l ++ rest) (number_is (number_value digits decimals))
shown_text days p (Item b form word) quoted level least h le small rest = ap (λ (l : List ℕ). l ++ rest) (item_written days form word h.2)
shown_text days p (Bracket b inner c) quoted level least h le small rest = shown_text days p inner quoted 1 least h.1 (omega arith) small rest
shown_text days p (Power atom b c digits) quoted level least h le small rest =
    let n = digits_value 10 digits in
    bracketed_text (nat_lt 7 least) (text_from 8 (tree_of days atom) ++ (codes "^" ++ exponent_text n)) (Power (shown 8 atom) [] [] (exponent_text n))
    (power_text (text_from 8 (tree_of days atom)) (exponent_text n) (shown 8 atom) (shown_text days p atom quoted 8 8 h.1 (omega arith) (omega arith))) rest
shown_text days p (Sign b sign operand) quoted level least h le small rest =
    let e = sign_level sign h.2 in
    let s = tree_of days operand in
    ap (λ (n : ℕ). in_brackets (nat_lt (unary_level_of sign) least) (before_of sign ++ text_from n s ++ behind_of sign) ++ rest) e.1
    ∙ bracketed_by (nat_lt (unary_level_of sign) least) (nat_lt 6 least) (before_of sign ++ text_from 6 s ++ behind_of sign) (Sign [] sign (shown 6 operand))
    (ap (λ (n : ℕ). nat_lt n least) e.0)
    (sign_text_is (text_from 6 s) sign (shown 6 operand) h.2 (shown_text days p operand quoted 6 6 h.3 (omega arith) (omega arith))) rest
shown_text days p (Chain left b operator right) quoted level least h le small rest =
    let one = text_from (left_level_of operator) (tree_of days left) in
    let other = text_from (right_level_of operator) (tree_of days right) in
    bracketed_by (nat_lt (binary_level_of operator) least) (nat_lt (level_of operator) least)
    (opening_of operator ++ one ++ between_of operator ++ other ++ closing_of operator)
    (Chain (shown (left_level_of operator) left) [] operator (shown (right_level_of operator) right))
    (ap (λ (n : ℕ). nat_lt n least) (chain_level operator h.0))
    (chain_text operator one other (shown (left_level_of operator) left) (shown (right_level_of operator) right) h.0
    (shown_text days p left quoted (left_level_of operator) (left_level_of operator) h.2 (omega arith) (left_small operator))
    (shown_text days p right quoted (right_level_of operator) (right_level_of operator) h.4 (omega arith) (right_small operator))) rest
shown_text days p (Arguments first b last) quoted level least h le small rest =
    let none : least ≡ 0 = omega (arith, h.0) in
    let one = text_from 0 (tree_of days first) in
    let other = text_from 1 (tree_of days last) in
    ap (λ (n : ℕ). text_from n (Two binary.Comma (tree_of days first) (tree_of days last)) ++ rest) none
    ∙ ap (λ (l : List ℕ). l ++ rest) (append-nil ((one ++ codes ",") ++ other))
    ∙ arguments_text one other (shown 0 first) (shown 1 last) (shown_text days p first quoted 0 0 h.1 (omega arith) (omega arith))
    (shown_text days p last quoted 1 1 h.3 (omega arith) (omega arith)) rest
shown_text days p (If b c test d one e other f) quoted level least h le small rest =
    if_text (text_from 0 (tree_of days test)) (text_from 0 (tree_of days one)) (text_from 0 (tree_of days other)) (shown 1 test) (shown 1 one) (shown 1 other)
    (as_one days p test quoted h.3 (shown_text days p test quoted 1 1 h.3 (omega arith) (omega arith)))
    (as_one days p one quoted h.5 (shown_text days p one quoted 1 1 h.5 (omega arith) (omega arith)))
    (as_one days p other quoted h.7 (shown_text days p other quoted 1 1 h.7 (omega arith) (omega arith))) rest
shown_text days p (Condition b c d test e f one g other i) quoted level least h le small rest =
    if_text (text_from 0 (tree_of days test)) (text_from 0 (tree_of days one)) (text_from 0 (tree_of days other)) (shown 1 test) (shown 1 one) (shown 1 other)
    (as_one days p test true h.5 (shown_text days p test true 1 1 h.5 (omega arith) (omega arith)))
    (as_one days p one quoted h.8 (shown_text days p one quoted 1 1 h.8 (omega arith) (omega arith)))
    (as_one days p other quoted h.10 (shown_text days p other quoted 1 1 h.10 (omega arith) (omega arith))) rest
shown_text days p (DaysBetween b c one d other e) quoted level least h le small rest =
    let text = codes "d2:daysBetween(" ++ text_from 0 (tree_of days one) ++ codes "," ++ text_from 0 (tree_of days other) ++ codes ")" in
    ap (λ (l : List ℕ). l ++ rest) (in_level 8 least text (not_below 8 least small))
    ∙ days_text (text_from 0 (tree_of days one)) (text_from 0 (tree_of days other)) (shown 1 one) (shown 1 other)
    (as_one days p one quoted h.3 (shown_text days p one quoted 1 1 h.3 (omega arith) (omega arith)))
    (as_one days p other quoted h.5 (shown_text days p other quoted 1 1 h.5 (omega arith) (omega arith))) rest
shown_text days p (Apply b name c arguments d) quoted level least h le small rest =
    let s = tree_of days arguments in
    let k = arguments_level name in
    let text = before_of (applied name) ++ text_from (inner_level_of (applied name)) s ++ behind_of (applied name) in
    let e : nat_lt (unary_level_of (applied name)) least ≡ false = not_below (unary_level_of (applied name)) least (omega (arith, call_level name)) in
    ap (λ (l : List ℕ). l ++ rest) (in_level (unary_level_of (applied name)) least text e)
    ∙ ap (λ (n : ℕ). (before_of (applied name) ++ text_from n s ++ behind_of (applied name)) ++ rest) (call_inside name)
    ∙ ap (λ (l : List ℕ). (before_of (applied name) ++ l ++ behind_of (applied name)) ++ rest) (argument_text days p name arguments quoted h.3)
    ∙ apply_text name (text_from k s) (shown k arguments) arguments h.4 (shown_text days p arguments quoted k k h.3 (omega arith) (arguments_small name)) rest

-- ---- whole texts

among_before : (word : Symbol) (xs ys : List Symbol) → IsAmong word xs → IsAmong word (xs ++ ys)
among_before word [] ys h = absurd h
among_before word (x ∷ xs) ys (inl e) = inl e
among_before word (x ∷ xs) ys (inr h) = inr (among_before word xs ys h)

among_behind : (word : Symbol) (xs ys : List Symbol) → IsAmong word ys → IsAmong word (xs ++ ys)
among_behind word [] ys h = h
among_behind word (x ∷ xs) ys h = inr (among_behind word xs ys h)

pub item_may_start : (p : Place) (word : Symbol) → IsAmong word (items_of_place p) → IsAmong word (start_of p)
unfolding items_of_place start_of
item_may_start place.Aggregate word h = among_behind word (take 9 (start_of place.Aggregate)) (items_of_place place.Aggregate) h
item_may_start place.Program word h =
    among_behind word (take 11 (start_of place.Program)) (drop 11 (start_of place.Program))
    (among_before word (items_of_place place.Program) (drop 16 (start_of place.Program)) h)

whole_form : (p : Place) (form : Form) → IsForm p false 1 form → IsWhole p form
whole_form p (Item b form word) h = (h.0, item_may_start p (symbol.Item form) h.1, h.2)
whole_form p (Number b digits decimals) h = h
whole_form p (Bracket b inner c) h = h
whole_form p (Power atom b c digits) h = h
whole_form p (Sign b sign operand) h = h
whole_form p (Chain left b operator right) h = h
whole_form p (Arguments first b last) h = h
whole_form p (If b c test d one e other f) h = h
whole_form p (Condition b c d test e f one g other i) h = h
whole_form p (DaysBetween b c one d other e) h = h
whole_form p (Apply b name c arguments d) h = h

abbrev IsPrintedAs : Place → List (List ℕ) → Form → Type 0
IsPrintedAs p days form =
    IsTextOf p (text_from 0 (tree_of days form)) (shown 1 form) × (tree_of days (shown 1 form) ≡ tree_of days form)

printed_form : (days : List (List ℕ)) (p : Place) (form : Form) → IsForm p false 1 form → IsPrintedAs p days form
printed_form days p form h = (
  (
    whole_form p (shown 1 form) (shown_is p form false 1 1 h (omega arith) (omega arith)),
    [],
    tt,
    sym (append-nil (text_from 0 (tree_of days form)))
        ∙ as_one days p form false h (shown_text days p form false 1 1 h (omega arith) (omega arith)) [],
  ),
  shown_tree days p form false 1 1 h,
)

-- what is printed of the tree of a whole text is a whole text with this tree
pub printed_whole : (days : List (List ℕ)) (p : Place) (form : Form) → IsWhole p form → IsPrintedAs p days form
printed_whole days p (Item b form word) h =
    (((tt, h.1, h.2), [], tt, item_written days form word h.2 ∙ sym (append-nil word)), refl)
printed_whole days p (Number b digits decimals) h = printed_form days p (Number b digits decimals) h
printed_whole days p (Bracket b inner c) h = printed_form days p (Bracket b inner c) h
printed_whole days p (Power atom b c digits) h = printed_form days p (Power atom b c digits) h
printed_whole days p (Sign b sign operand) h = printed_form days p (Sign b sign operand) h
printed_whole days p (Chain left b operator right) h = printed_form days p (Chain left b operator right) h
printed_whole days p (Arguments first b last) h = printed_form days p (Arguments first b last) h
printed_whole days p (If b c test d one e other f) h = printed_form days p (If b c test d one e other f) h
printed_whole days p (Condition b c d test e f one g other i) h = printed_form days p (Condition b c d test e f one g other i) h
printed_whole days p (DaysBetween b c one d other e) h = printed_form days p (DaysBetween b c one d other e) h
printed_whole days p (Apply b name c arguments d) h = printed_form days p (Apply b name c arguments d) h
