-- The printed form has the fewest brackets of the forms with its tree.
use Rattle.std.proofs.Common.{◌≡◌, ℕ, suc, ◌+◌, ◌*◌, ◌≤◌, Bool, true, false, cond, List, [], length, refl, sym, ap, subst, ◌∙◌, arith}
use Rattle.std.specs.Prelude.{nat_lt, max}
use Rattle.std.specs.Str.Parse.{digits_value}
use Rattle.expr_lang.specs.declared.tree.Place.{Place}
use Rattle.expr_lang.specs.declared.tree.Unary.{Unary}
use Rattle.expr_lang.specs.declared.tree.Unary.TheVariants as unary
use Rattle.expr_lang.specs.declared.tree.Binary.{Binary}
use Rattle.expr_lang.specs.declared.tree.Binary.TheVariants as binary
use Rattle.expr_lang.specs.declared.words.Call.{Call}
use Rattle.expr_lang.specs.declared.words.Call.TheVariants as call
use Rattle.expr_lang.specs.Print.{exponent_text, text_from, unary_level_of, binary_level_of, left_level_of, right_level_of}
use Rattle.expr_lang.specs.Reading.{level_of}
use Rattle.expr_lang.specs.Shape.{Shape, Operand, One, Two, Choice}
use Rattle.expr_grammar.specs.Fewest.{brackets_by}
use Rattle.expr_grammar.proofs.Stored.{IsPrinted, IsPrintedAgain}
use Rattle.expr_grammar.specs.Grammar.{Form, Number, Item, Bracket, Power, Sign, Chain, Arguments, If, Condition, DaysBetween, Apply, IsSign}
use Rattle.expr_grammar.specs.Grammar.{arguments_level, IsForm, IsWhole, IsTextOf}
use Rattle.expr_grammar.proofs.Stored.{applied, tree_of}
use Rattle.expr_grammar.proofs.Printed.{bracketed, shown, chain_level, call_level, sign_level, not_below, left_small, right_small, arguments_small}
use Rattle.expr_grammar.proofs.Printed.{printed_whole}
use Rattle.expr_grammar.proofs.PrintedShortest.{shortest_whole}

-- what stands around the operands of a tree where it is printed, and how tightly each has to bind
abbrev operand_level : Unary → ℕ
operand_level unary.Negate = 6
operand_level unary.Not = 6
operand_level (unary.Power n) = 8
operand_level unary.FirstNonNull = 0
operand_level unary.Greatest = 0
operand_level unary.Least = 0
operand_level _ = 1

abbrev around_one : ℕ → Unary → ℕ
around_one of_call unary.Negate = 0
around_one of_call unary.Not = 0
around_one of_call (unary.Power n) = 0
around_one of_call _ = of_call

abbrev first_level : Binary → ℕ
first_level binary.DaysBetween = 1
first_level operator = left_level_of operator

abbrev second_level : Binary → ℕ
second_level binary.DaysBetween = 1
second_level operator = right_level_of operator

abbrev around_two : ℕ → Binary → ℕ
around_two of_call binary.DaysBetween = of_call
around_two of_call _ = 0

abbrev with_one : Bool → ℕ → ℕ
with_one needed n = cond needed (suc n) n

module _ (join : ℕ → ℕ → ℕ) (of_call : ℕ) where
  -- what the brackets come to where a tree is printed
  abbrev in_tree : ℕ → Shape → ℕ
  in_tree least (Operand it) = 0
  in_tree least (One operator operand) =
      with_one (nat_lt (unary_level_of operator) least) (around_one of_call operator + in_tree (operand_level operator) operand)
  in_tree least (Two operator left right) =
      with_one (nat_lt (binary_level_of operator) least)
      (around_two of_call operator + join (in_tree (first_level operator) left) (in_tree (second_level operator) right))
  in_tree least (Choice test one other) = of_call + join (in_tree 1 test) (join (in_tree 1 one) (in_tree 1 other))

abbrev Rises : (ℕ → ℕ → ℕ) → Type 0
Rises join = (a b c d : ℕ) → a ≤ c → b ≤ d → join a b ≤ join c d

-- ---- facts of the operators

chain_around : (of_call : ℕ) (operator : Binary) → 1 ≤ level_of operator
    → (around_two of_call operator ≡ 0) × (first_level operator ≡ left_level_of operator) × (second_level operator ≡ right_level_of operator)
chain_around of_call binary.DaysBetween h = absurd (omega arith)
chain_around of_call _ h = (refl, refl, refl)

sign_around : (of_call : ℕ) (sign : Unary) → IsSign sign → (around_one of_call sign ≡ 0) × (operand_level sign ≡ 6)
sign_around of_call unary.Negate s = (refl, refl)
sign_around of_call unary.Not s = (refl, refl)
sign_around of_call _ s = absurd s

call_around : (of_call : ℕ) (name : Call) → around_one of_call (applied name) ≡ of_call
call_around of_call call.IsNull = refl
call_around of_call call.IsNotNull = refl
call_around of_call call.FirstNonNull = refl
call_around of_call call.Greatest = refl
call_around of_call call.Least = refl
call_around of_call call.HasValue = refl
call_around of_call call.Zing = refl
call_around of_call _ = refl

call_operand : (name : Call) → operand_level (applied name) ≡ arguments_level name
call_operand call.IsNull = refl
call_operand call.IsNotNull = refl
call_operand call.FirstNonNull = refl
call_operand call.Greatest = refl
call_operand call.Least = refl
call_operand call.HasValue = refl
call_operand call.Zing = refl
call_operand _ = refl

-- ---- the printed form has as many as its tree

shown_by : (join : ℕ → ℕ → ℕ) (of_call : ℕ) (t : Bool) (form : Form) → brackets_by join of_call (bracketed t form) ≡ with_one t (brackets_by join of_call form)
shown_by join of_call true form = refl
shown_by join of_call false form = refl

two_same : (join : ℕ → ℕ → ℕ) {a b c d : ℕ} → a ≡ c → b ≡ d → join a b ≡ join c d
two_same join p q = λ i. join (p i) (q i)

plus_zero : (n : ℕ) → 0 + n ≡ n
plus_zero n = omega arith

shown_count : (join : ℕ → ℕ → ℕ) (of_call : ℕ) (days : List (List ℕ)) (p : Place) (form : Form) (quoted : Bool) (level least : ℕ) → IsForm p quoted level form
    → least ≤ 8 * level → least ≤ 8 → brackets_by join of_call (shown least form) ≡ in_tree join of_call least (tree_of days form)
shown_count join of_call days p (Number b digits decimals) quoted level least h le small = refl
shown_count join of_call days p (Item b form word) quoted level least h le small = refl
shown_count join of_call days p (Bracket b inner c) quoted level least h le small = shown_count join of_call days p inner quoted 1 least h.1 (omega arith) small
shown_count join of_call days p (Power atom b c digits) quoted level least h le small =
    shown_by join of_call (nat_lt 7 least) (Power (shown 8 atom) [] [] (exponent_text (digits_value 10 digits)))
    ∙ ap (λ (n : ℕ). with_one (nat_lt 7 least) n) (shown_count join of_call days p atom quoted 8 8 h.1 (omega arith) (omega arith)
    ∙ sym (plus_zero (in_tree join of_call 8 (tree_of days atom))))
shown_count join of_call days p (Sign b sign operand) quoted level least h le small =
    let s = tree_of days operand in
    let a = sign_around of_call sign h.2 in
    let e = sign_level sign h.2 in
    shown_by join of_call (nat_lt 6 least) (Sign [] sign (shown 6 operand))
    ∙ ap (λ (n : ℕ). with_one (nat_lt 6 least) n) (shown_count join of_call days p operand quoted 6 6 h.3 (omega arith) (omega arith)
    ∙ sym (plus_zero (in_tree join of_call 6 s)))
    ∙ (λ i. with_one (nat_lt (sym e.0 i) least) (sym a.0 i + in_tree join of_call (sym a.1 i) s))
shown_count join of_call days p (Chain left b operator right) quoted level least h le small =
    let a = chain_around of_call operator h.0 in
    let e = chain_level operator h.0 in
    let one = in_tree join of_call (left_level_of operator) (tree_of days left) in
    let other = in_tree join of_call (right_level_of operator) (tree_of days right) in
    shown_by join of_call (nat_lt (level_of operator) least) (Chain (shown (left_level_of operator) left) [] operator (shown (right_level_of operator) right))
    ∙ ap (λ (n : ℕ). with_one (nat_lt (level_of operator) least) n)
    (two_same join (shown_count join of_call days p left quoted (left_level_of operator) (left_level_of operator) h.2 (omega arith) (left_small operator))
    (shown_count join of_call days p right quoted (right_level_of operator) (right_level_of operator) h.4 (omega arith) (right_small operator))
    ∙ sym (plus_zero (join one other)))
    ∙ (λ i. with_one (nat_lt (sym e i) least) (sym a.0 i
    + join (in_tree join of_call (sym a.1 i) (tree_of days left)) (in_tree join of_call (sym a.2 i) (tree_of days right))))
shown_count join of_call days p (Arguments first b last) quoted level least h le small =
    let none : least ≡ 0 = omega (arith, h.0) in
    let n = join (in_tree join of_call 0 (tree_of days first)) (in_tree join of_call 1 (tree_of days last)) in
    two_same join (shown_count join of_call days p first quoted 0 0 h.1 (omega arith) (omega arith))
    (shown_count join of_call days p last quoted 1 1 h.3 (omega arith) (omega arith))
    ∙ sym (plus_zero n) ∙ ap (λ (m : ℕ). with_one (nat_lt 0 m) (0 + n)) (sym none)
shown_count join of_call days p (If b c test d one e other f) quoted level least h le small =
    ap (λ (n : ℕ). of_call + n)
    (two_same join (shown_count join of_call days p test quoted 1 1 h.3 (omega arith) (omega arith))
    (two_same join (shown_count join of_call days p one quoted 1 1 h.5 (omega arith) (omega arith))
    (shown_count join of_call days p other quoted 1 1 h.7 (omega arith) (omega arith))))
shown_count join of_call days p (Condition b c d test e f one g other i) quoted level least h le small =
    ap (λ (n : ℕ). of_call + n)
    (two_same join (shown_count join of_call days p test true 1 1 h.5 (omega arith) (omega arith))
    (two_same join (shown_count join of_call days p one quoted 1 1 h.8 (omega arith) (omega arith))
    (shown_count join of_call days p other quoted 1 1 h.10 (omega arith) (omega arith))))
shown_count join of_call days p (DaysBetween b c one d other e) quoted level least h le small =
    let n = of_call + join (in_tree join of_call 1 (tree_of days one)) (in_tree join of_call 1 (tree_of days other)) in
    ap (λ (m : ℕ). of_call + m)
    (two_same join (shown_count join of_call days p one quoted 1 1 h.3 (omega arith) (omega arith))
    (shown_count join of_call days p other quoted 1 1 h.5 (omega arith) (omega arith)))
    ∙ ap (λ (t : Bool). with_one t n) (sym (not_below 8 least small))
shown_count join of_call days p (Apply b name c arguments d) quoted level least h le small =
    let s = tree_of days arguments in
    let k = arguments_level name in
    ap (λ (n : ℕ). of_call + n) (shown_count join of_call days p arguments quoted k k h.3 (omega arith) (arguments_small name))
    ∙ (λ i. sym (call_around of_call name) i + in_tree join of_call (sym (call_operand name) i) s)
    ∙ ap (λ (t : Bool). with_one t (around_one of_call (applied name) + in_tree join of_call (operand_level (applied name)) s))
    (sym (not_below (unary_level_of (applied name)) least (omega (arith, call_level name))))

-- ---- and no form with this tree has fewer

one_apart : (s t : Bool) (n : ℕ) → with_one s n ≤ suc (with_one t n)
one_apart true true n = omega arith
one_apart true false n = omega arith
one_apart false true n = omega arith
one_apart false false n = omega arith

-- a pair of brackets around a tree is one more
level_apart : (join : ℕ → ℕ → ℕ) (of_call m n : ℕ) (s : Shape) → in_tree join of_call m s ≤ suc (in_tree join of_call n s)
level_apart join of_call m n (Operand it) = omega arith
level_apart join of_call m n (One operator operand) =
    one_apart (nat_lt (unary_level_of operator) m) (nat_lt (unary_level_of operator) n)
    (around_one of_call operator + in_tree join of_call (operand_level operator) operand)
level_apart join of_call m n (Two operator left right) =
    one_apart (nat_lt (binary_level_of operator) m) (nat_lt (binary_level_of operator) n)
    (around_two of_call operator + join (in_tree join of_call (first_level operator) left) (in_tree join of_call (second_level operator) right))
level_apart join of_call m n (Choice test one other) = omega arith

none_needed : (t : Bool) (n : ℕ) → t ≡ false → with_one t n ≡ n
none_needed t n e = ap (λ (b : Bool). with_one b n) e

three_up : (join : ℕ → ℕ → ℕ) (of_call : ℕ) → Rises join → (test one other : Shape) (a b c : ℕ) → in_tree join of_call 1 test ≤ a
    → in_tree join of_call 1 one ≤ b → in_tree join of_call 1 other ≤ c → in_tree join of_call 1 (Choice test one other) ≤ of_call + join a (join b c)
three_up join of_call up test one other a b c h k l =
    let m = in_tree join of_call 1 one in
    let n = in_tree join of_call 1 other in
    omega (arith, up (in_tree join of_call 1 test) (join m n) a (join b c) h (up m n b c k l))

fewest_form : (join : ℕ → ℕ → ℕ) (of_call : ℕ) → Rises join → (days : List (List ℕ)) (p : Place) (form : Form) (quoted : Bool) (level least : ℕ)
    → IsForm p quoted level form → least ≤ level → least ≤ 8 → in_tree join of_call least (tree_of days form) ≤ brackets_by join of_call form
fewest_form join of_call up days p (Number b digits decimals) quoted level least h le small = omega arith
fewest_form join of_call up days p (Item b form word) quoted level least h le small = omega arith
fewest_form join of_call up days p (Bracket b inner c) quoted level least h le small =
    omega (arith, level_apart join of_call least 1 (tree_of days inner), fewest_form join of_call up days p inner quoted 1 1 h.1 (omega arith) (omega arith))
fewest_form join of_call up days p (Power atom b c digits) quoted level least h le small =
    let n = in_tree join of_call 8 (tree_of days atom) in
    omega (
      arith,
      none_needed (nat_lt 7 least) (0 + n) (not_below 7 least (omega (arith, h.0))),
      fewest_form join of_call up days p atom quoted 8 8 h.1 (omega arith) (omega arith),
    )
fewest_form join of_call up days p (Sign b sign operand) quoted level least h le small =
    let s = tree_of days operand in
    let a = sign_around of_call sign h.2 in
    let e = sign_level sign h.2 in
    let is : in_tree join of_call least (tree_of days (Sign b sign operand)) ≡ in_tree join of_call 6 s =
    none_needed (nat_lt (unary_level_of sign) least) (around_one of_call sign + in_tree join of_call (operand_level sign) s)
    (not_below (unary_level_of sign) least (omega (arith, h.0)))
    ∙ (λ i. a.0 i + in_tree join of_call (a.1 i) s) ∙ plus_zero (in_tree join of_call 6 s) in
    omega (arith, is, fewest_form join of_call up days p operand quoted 6 6 h.3 (omega arith) (omega arith))
fewest_form join of_call up days p (Chain left b operator right) quoted level least h le small =
    let a = chain_around of_call operator h.0 in
    let one = in_tree join of_call (left_level_of operator) (tree_of days left) in
    let other = in_tree join of_call (right_level_of operator) (tree_of days right) in
    let is : in_tree join of_call least (tree_of days (Chain left b operator right)) ≡ join one other =
    none_needed (nat_lt (binary_level_of operator) least)
    (around_two of_call operator + join (in_tree join of_call (first_level operator) (tree_of days left))
    (in_tree join of_call (second_level operator) (tree_of days right)))
    (not_below (binary_level_of operator) least (omega (arith, h.1, chain_level operator h.0)))
    ∙ (λ i. a.0 i + join (in_tree join of_call (a.1 i) (tree_of days left)) (in_tree join of_call (a.2 i) (tree_of days right)))
    ∙ plus_zero (join one other) in
    omega (
      arith,
      is,
      up one other (brackets_by join of_call left) (brackets_by join of_call right)
          (fewest_form join of_call up days p left quoted (left_level_of operator) (left_level_of operator) h.2 (omega arith) (left_small operator))
          (fewest_form join of_call up days p right quoted (right_level_of operator) (right_level_of operator) h.4 (omega arith) (right_small operator)),
    )
fewest_form join of_call up days p (Arguments first b last) quoted level least h le small =
    let none : least ≡ 0 = omega (arith, h.0) in
    let one = in_tree join of_call 0 (tree_of days first) in
    let other = in_tree join of_call 1 (tree_of days last) in
    let is : in_tree join of_call least (tree_of days (Arguments first b last)) ≡ join one other =
    ap (λ (m : ℕ). with_one (nat_lt 0 m) (0 + join one other)) none ∙ plus_zero (join one other) in
    omega (
      arith,
      is,
      up one other (brackets_by join of_call first) (brackets_by join of_call last)
          (fewest_form join of_call up days p first quoted 0 0 h.1 (omega arith) (omega arith))
          (fewest_form join of_call up days p last quoted 1 1 h.3 (omega arith) (omega arith)),
    )
fewest_form join of_call up days p (If b c test d one e other f) quoted level least h le small =
    three_up join of_call up (tree_of days test) (tree_of days one) (tree_of days other) (brackets_by join of_call test) (brackets_by join of_call one)
    (brackets_by join of_call other)
    (fewest_form join of_call up days p test quoted 1 1 h.3 (omega arith) (omega arith))
    (fewest_form join of_call up days p one quoted 1 1 h.5 (omega arith) (omega arith))
    (fewest_form join of_call up days p other quoted 1 1 h.7 (omega arith) (omega arith))
fewest_form join of_call up days p (Condition b c d test e f one g other i) quoted level least h le small =
    three_up join of_call up (tree_of days test) (tree_of days one) (tree_of days other) (brackets_by join of_call test) (brackets_by join of_call one)
    (brackets_by join of_call other)
    (fewest_form join of_call up days p test true 1 1 h.5 (omega arith) (omega arith))
    (fewest_form join of_call up days p one quoted 1 1 h.8 (omega arith) (omega arith))
    (fewest_form join of_call up days p other quoted 1 1 h.10 (omega arith) (omega arith))
fewest_form join of_call up days p (DaysBetween b c one d other e) quoted level least h le small =
    let m = in_tree join of_call 1 (tree_of days one) in
    let n = in_tree join of_call 1 (tree_of days other) in
    omega (
      arith,
      none_needed (nat_lt 8 least) (of_call + join m n) (not_below 8 least small),
      up m n (brackets_by join of_call one) (brackets_by join of_call other)
          (fewest_form join of_call up days p one quoted 1 1 h.3 (omega arith) (omega arith))
          (fewest_form join of_call up days p other quoted 1 1 h.5 (omega arith) (omega arith)),
    )
fewest_form join of_call up days p (Apply b name c arguments d) quoted level least h le small =
    let s = tree_of days arguments in
    let k = arguments_level name in
    let is : in_tree join of_call least (tree_of days (Apply b name c arguments d)) ≡ of_call + in_tree join of_call k s =
    none_needed (nat_lt (unary_level_of (applied name)) least) (around_one of_call (applied name) + in_tree join of_call (operand_level (applied name)) s)
    (not_below (unary_level_of (applied name)) least (omega (arith, call_level name)))
    ∙ (λ i. call_around of_call name i + in_tree join of_call (call_operand name i) s) in
    omega (arith, is, fewest_form join of_call up days p arguments quoted k k h.3 (omega arith) (arguments_small name))

whole_count : (join : ℕ → ℕ → ℕ) (of_call : ℕ) (days : List (List ℕ)) (p : Place) (form : Form) → IsWhole p form
    → brackets_by join of_call (shown 1 form) ≡ in_tree join of_call 1 (tree_of days form)
whole_count join of_call days p (Item b form word) h = refl
whole_count join of_call days p (Number b digits decimals) h =
    shown_count join of_call days p (Number b digits decimals) false 1 1 h (omega arith) (omega arith)
whole_count join of_call days p (Bracket b inner c) h = shown_count join of_call days p (Bracket b inner c) false 1 1 h (omega arith) (omega arith)
whole_count join of_call days p (Power atom b c digits) h = shown_count join of_call days p (Power atom b c digits) false 1 1 h (omega arith) (omega arith)
whole_count join of_call days p (Sign b sign operand) h = shown_count join of_call days p (Sign b sign operand) false 1 1 h (omega arith) (omega arith)
whole_count join of_call days p (Chain left b operator right) h =
    shown_count join of_call days p (Chain left b operator right) false 1 1 h (omega arith) (omega arith)
whole_count join of_call days p (Arguments first b last) h = shown_count join of_call days p (Arguments first b last) false 1 1 h (omega arith) (omega arith)
whole_count join of_call days p (If b c test d one e other f) h =
    shown_count join of_call days p (If b c test d one e other f) false 1 1 h (omega arith) (omega arith)
whole_count join of_call days p (Condition b c d test e f one g other i) h =
    shown_count join of_call days p (Condition b c d test e f one g other i) false 1 1 h (omega arith) (omega arith)
whole_count join of_call days p (DaysBetween b c one d other e) h =
    shown_count join of_call days p (DaysBetween b c one d other e) false 1 1 h (omega arith) (omega arith)
whole_count join of_call days p (Apply b name c arguments d) h =
    shown_count join of_call days p (Apply b name c arguments d) false 1 1 h (omega arith) (omega arith)

whole_fewest : (join : ℕ → ℕ → ℕ) (of_call : ℕ) → Rises join → (days : List (List ℕ)) (p : Place) (form : Form) → IsWhole p form
    → in_tree join of_call 1 (tree_of days form) ≤ brackets_by join of_call form
whole_fewest join of_call up days p (Item b form word) h = omega arith
whole_fewest join of_call up days p (Number b digits decimals) h =
    fewest_form join of_call up days p (Number b digits decimals) false 1 1 h (omega arith) (omega arith)
whole_fewest join of_call up days p (Bracket b inner c) h = fewest_form join of_call up days p (Bracket b inner c) false 1 1 h (omega arith) (omega arith)
whole_fewest join of_call up days p (Power atom b c digits) h =
    fewest_form join of_call up days p (Power atom b c digits) false 1 1 h (omega arith) (omega arith)
whole_fewest join of_call up days p (Sign b sign operand) h = fewest_form join of_call up days p (Sign b sign operand) false 1 1 h (omega arith) (omega arith)
whole_fewest join of_call up days p (Chain left b operator right) h =
    fewest_form join of_call up days p (Chain left b operator right) false 1 1 h (omega arith) (omega arith)
whole_fewest join of_call up days p (Arguments first b last) h =
    fewest_form join of_call up days p (Arguments first b last) false 1 1 h (omega arith) (omega arith)
whole_fewest join of_call up days p (If b c test d one e other f) h =
    fewest_form join of_call up days p (If b c test d one e other f) false 1 1 h (omega arith) (omega arith)
whole_fewest join of_call up days p (Condition b c d test e f one g other i) h =
    fewest_form join of_call up days p (Condition b c d test e f one g other i) false 1 1 h (omega arith) (omega arith)
whole_fewest join of_call up days p (DaysBetween b c one d other e) h =
    fewest_form join of_call up days p (DaysBetween b c one d other e) false 1 1 h (omega arith) (omega arith)
whole_fewest join of_call up days p (Apply b name c arguments d) h =
    fewest_form join of_call up days p (Apply b name c arguments d) false 1 1 h (omega arith) (omega arith)

fewest_by : (join : ℕ → ℕ → ℕ) (of_call : ℕ) → Rises join → (days : List (List ℕ)) (p : Place) (form other : Form) → IsWhole p form → IsWhole p other
    → tree_of days other ≡ tree_of days form → brackets_by join of_call (shown 1 form) ≤ brackets_by join of_call other
fewest_by join of_call up days p form other h k same =
    omega (arith, whole_count join of_call days p form h, whole_fewest join of_call up days p other k, ap (in_tree join of_call 1) same)

sums_rise : Rises (λ m n. m + n)
sums_rise a b c d h k = omega arith

deepest_rises : Rises (λ m n. max m n)
deepest_rises a b c d h k = omega arith

-- what is printed of the tree of a text of the grammar
pub printed_is : (days : List (List ℕ)) (p : Place) (form : Form) → IsWhole p form → IsPrinted p days (tree_of days form) (text_from 0 (tree_of days form))
printed_is days p form h =
    let r = printed_whole days p form h in
    record {
      form = shown 1 form;
      again = r.0;
      same = r.1;
      fewest = λ other k same. fewest_by (λ m n. m + n) 0 sums_rise days p form other h k same;
      flattest = λ other k same. fewest_by (λ m n. max m n) 1 deepest_rises days p form other h k same;
      shortest = λ other others k same. shortest_by other others k same;
    }
  where
    shortest_by : (other : Form) (others : List ℕ) → IsTextOf p others other → tree_of days other ≡ tree_of days form
        → length (text_from 0 (tree_of days form)) ≤ length others
    shortest_by other others k same = omega (arith, ap (λ (s : Shape). length (text_from 0 s)) same, shortest_whole days p other k.1 k.0, ap length k.3)

pub printed_again : (tree : Shape) (text : List ℕ) → text ≡ text_from 0 tree → IsPrintedAgain tree text
printed_again tree text is p days form h same =
    subst (λ (l : List ℕ). IsPrinted p days tree l) (ap (text_from 0) same ∙ sym is)
    (subst (λ (s : Shape). IsPrinted p days s (text_from 0 (tree_of days form))) same (printed_is days p form h))
