-- The value of a tree is that of what lies in memory for it.
use Rattle.std.proofs.Common.{◌≡◌, Bool, true, false, cond, not, List, [], ◌∷◌, ◌++◌, Option, Some, None, Result, Ok, Err, refl, sym, ap, ◌∙◌, append_assoc}
use Rattle.std.specs.Prelude.{unwrap_or}
use Rattle.std.specs.Option.{option_or}
use Rattle.std.proofs.lemmas.List.{append-nil}
use Rattle.dh_base.specs.Fractions.{Fraction}
use Rattle.expr_lang.specs.declared.tree.Item.{Item}
use Rattle.expr_lang.specs.declared.tree.Leaf.TheVariants as leaf
use Rattle.expr_lang.specs.declared.tree.Unary.{Unary}
use Rattle.expr_lang.specs.declared.tree.Unary.TheVariants as unary
use Rattle.expr_lang.specs.declared.tree.Binary.{Binary}
use Rattle.expr_lang.specs.declared.tree.Binary.TheVariants as binary
use Rattle.expr_lang.specs.Shape.{Shape, Operand, One, Two, Choice}
use Rattle.expr_lang.specs.Stored.{after_comma, plain_arguments, of_one, of_two, trees_in, syntax_of}
use Rattle.expr_lang.specs.Syntax as syntax
use Rattle.expr_lang.specs.Syntax.{Syntax, Arguments, End, Argument, and_more, single}
use Rattle.expr_eval.specs.declared.value.Value.{Value}
use Rattle.expr_eval.specs.declared.value.Cell.{Cell}
use Rattle.expr_eval.specs.declared.value.Cell.TheVariants as cell
use Rattle.expr_eval.specs.Applied.{hides_items, plain_items}
use Rattle.expr_eval.specs.Meaning.{zero_fraction, then_with, signed, value_between, best_of, is_there, present, first_present, in_order, chosen_value}
use Rattle.expr_eval.specs.Meaning.{value_of, values_of, plain_leaf, plain_of, plain_of_all}
use Rattle.expr_eval.proofs.Stored as old
use Rattle.expr_eval.proofs.Stored.{Values}

-- ---- lists of arguments

abbrev pub IsSome : Arguments → Type 0
IsSome End = ⊥
IsSome (Argument x xs) = Unit {0}

some_more : (xs ys : Arguments) → IsSome xs → IsSome (and_more xs ys)
some_more End ys h = absurd h
some_more (Argument x xs) ys h = tt

some_two : (operator : Binary) (xs ys : Arguments) → IsSome xs → IsSome (of_two operator xs ys)
some_two binary.Or xs ys h = tt
some_two binary.And xs ys h = tt
some_two binary.Equal xs ys h = tt
some_two binary.NotEqual xs ys h = tt
some_two binary.Less xs ys h = tt
some_two binary.AtMost xs ys h = tt
some_two binary.Greater xs ys h = tt
some_two binary.AtLeast xs ys h = tt
some_two binary.Add xs ys h = tt
some_two binary.Subtract xs ys h = tt
some_two binary.Multiply xs ys h = tt
some_two binary.Divide xs ys h = tt
some_two binary.Remainder xs ys h = tt
some_two binary.DaysBetween xs ys h = tt
some_two binary.Comma xs ys h = some_more xs (syntax.alone (single ys)) h

pub trees_some : (t : Shape) → IsSome (trees_in t)
trees_some (Operand it) = tt
trees_some (One operator operand) = tt
trees_some (Two operator left right) = some_two operator (trees_in left) (trees_in right) (trees_some left)
trees_some (Choice test one other) = tt

pub too_many : (xs : Arguments) (y : Syntax) → IsSome xs → single (and_more xs (syntax.alone y)) ≡ syntax.Call syntax.Zing (and_more xs (syntax.alone y))
too_many End y h = absurd h
too_many (Argument x End) y h = refl
too_many (Argument x (Argument z zs)) y h = refl

-- ---- values

in_order_step : (x : Cell) (r : Result (List Cell) Value) (w : Result Cell Value)
    → then_with (then_with r (λ cs. then_with w (λ c. Ok (cs ++ c ∷ [])))) (λ cs. Ok (x ∷ cs))
    ≡ then_with (then_with r (λ cs. Ok (x ∷ cs))) (λ cs. then_with w (λ c. Ok (cs ++ c ∷ [])))
in_order_step x (Err e) w = refl
in_order_step x (Ok cs) (Err e) = refl
in_order_step x (Ok cs) (Ok c) = refl

in_order_more : (vs : List (Result Cell Value)) (w : Result Cell Value)
    → in_order (vs ++ w ∷ []) ≡ then_with (in_order vs) (λ cs. then_with w (λ c. Ok (cs ++ c ∷ [])))
in_order_more [] w = refl
in_order_more (Err e ∷ vs) w = refl
in_order_more (Ok x ∷ vs) w = ap (λ (r : Result (List Cell) Value). then_with r (λ cs. Ok (x ∷ cs))) (in_order_more vs w) ∙ in_order_step x (in_order vs) w

module _ (given : Item → Option Fraction) where
  values_more : (xs ys : Arguments) → values_of given (and_more xs ys) ≡ values_of given xs ++ values_of given ys
  values_more End ys = refl
  values_more (Argument x xs) ys = ap (λ (vs : List (Result Cell Value)). value_of given x ∷ vs) (values_more xs ys)

  no_value : (xs : Arguments) (y : Syntax) → IsSome xs
      → value_of given (syntax.Call syntax.Zing (and_more xs (syntax.alone y))) ≡ Ok (cell.Number zero_fraction)
  no_value End y h = absurd h
  no_value (Argument x End) y h = refl
  no_value (Argument x (Argument z zs)) y h = refl

  -- an item that is asked for
  there_one : (operator : Unary) (operand : Shape) (xs : Arguments) → is_there given (of_one operator operand xs) ≡ true
  there_one unary.Negate operand xs = refl
  there_one unary.Not operand xs = refl
  there_one (unary.Power n) operand xs = refl
  there_one unary.IsNull operand xs = refl
  there_one unary.IsNotNull operand xs = refl
  there_one unary.FirstNonNull operand xs = refl
  there_one unary.Greatest operand xs = refl
  there_one unary.Least operand xs = refl
  there_one unary.HasValue operand xs = refl
  there_one unary.Zing operand xs = refl
  there_one unary.Oizp operand xs = refl

  there_two : (operator : Binary) (xs ys : Arguments) → IsSome xs → is_there given (single (of_two operator xs ys)) ≡ true
  there_two binary.Or xs ys h = refl
  there_two binary.And xs ys h = refl
  there_two binary.Equal xs ys h = refl
  there_two binary.NotEqual xs ys h = refl
  there_two binary.Less xs ys h = refl
  there_two binary.AtMost xs ys h = refl
  there_two binary.Greater xs ys h = refl
  there_two binary.AtLeast xs ys h = refl
  there_two binary.Add xs ys h = refl
  there_two binary.Subtract xs ys h = refl
  there_two binary.Multiply xs ys h = refl
  there_two binary.Divide xs ys h = refl
  there_two binary.Remainder xs ys h = refl
  there_two binary.DaysBetween xs ys h = refl
  there_two binary.Comma xs ys h = ap (λ (x : Syntax). is_there given x) (too_many xs (single ys) h)

  there : (t : Shape) → is_there given (syntax_of t) ≡ old.asked given t
  there (Operand (leaf.Number n)) = refl
  there (Operand (leaf.Item i)) = refl
  there (Operand (leaf.Day i)) = refl
  there (One operator operand) = there_one operator operand (trees_in operand)
  there (Two operator left right) = there_two operator (trees_in left) (trees_in right) (trees_some left)
  there (Choice test one other) = refl

  -- the first of a list
  or_assoc : (o p q : Option Fraction) → option_or (option_or o p) q ≡ option_or o (option_or p q)
  or_assoc None p q = refl
  or_assoc (Some x) p q = refl

  or_none : (o : Option Fraction) → option_or o None ≡ o
  or_none None = refl
  or_none (Some x) = refl

  first_more : (xs ys : Arguments) → first_present given (and_more xs ys) ≡ option_or (first_present given xs) (first_present given ys)
  first_more End ys = refl
  first_more (Argument x xs) ys =
      ap (option_or (present given x)) (first_more xs ys) ∙ sym (or_assoc (present given x) (first_present given xs) (first_present given ys))

  first_after : (t : Shape) (xs : Arguments) → first_present given (after_comma t xs) ≡ first_present given xs
  first_after (Operand it) xs = refl
  first_after (One operator operand) xs = refl
  first_after (Two binary.Comma left right) xs = refl
  first_after (Two operator left right) xs = refl
  first_after (Choice test one other) xs = refl

  first : (t : Shape) → first_present given (plain_arguments t) ≡ old.first_present given t
  first (Operand (leaf.Number n)) = refl
  first (Operand (leaf.Item i)) = or_none (given i)
  first (Operand (leaf.Day i)) = refl
  first (Two binary.Comma left right) =
      first_more (plain_arguments left) (after_comma right (plain_arguments right))
      ∙ ap (option_or (first_present given (plain_arguments left))) (first_after right (plain_arguments right) ∙ first right)
      ∙ ap (λ (o : Option Fraction). option_or o (old.first_present given right)) (first left)
  first (Two operator left right) = refl
  first (One operator operand) = refl
  first (Choice test one other) = refl

  -- the value of one tree, and the values of a list
  record Agrees (xs : Arguments) (values : Values) : Type 0 where
    one : value_of given (single xs) ≡ values.one
    all : in_order (values_of given xs) ≡ values.all

  alone_agrees : (x : Syntax) (v : Result Cell Value) → value_of given x ≡ v → Agrees (syntax.alone x) (old.alone v)
  alone_agrees x v e = record { one = e; all = ap (λ (r : Result Cell Value). then_with r (λ c. Ok (c ∷ []))) e }

  one_is : (operator : Unary) (t : Shape) (xs : Arguments) (v : Values) → Agrees xs v → is_there given (single xs) ≡ old.asked given t
      → value_of given (of_one operator t xs) ≡ old.valued_one given operator t v
  one_is unary.Negate t xs v h is = ap (λ (r : Result Cell Value). then_with r (signed syntax.Minus)) h.one
  one_is unary.Not t xs v h is = ap (λ (r : Result Cell Value). then_with r (signed syntax.Not)) h.one
  one_is (unary.Power n) t xs v h is = ap (λ (r : Result Cell Value). old.valued_one given (unary.Power n) t (old.alone r)) h.one
  one_is unary.IsNull t xs v h is = ap (λ (b : Bool). Ok (cell.Truth (not b))) is
  one_is unary.IsNotNull t xs v h is = ap (λ (b : Bool). Ok (cell.Truth b)) is
  one_is unary.HasValue t xs v h is = ap (λ (b : Bool). Ok (cell.Truth b)) is
  one_is unary.FirstNonNull t xs v h is = ap (λ (o : Option Fraction). Ok (cell.Number (unwrap_or o zero_fraction))) (first t)
  one_is unary.Greatest t xs v h is = ap (λ (r : Result (List Cell) Value). then_with r (best_of true)) h.all
  one_is unary.Least t xs v h is = ap (λ (r : Result (List Cell) Value). then_with r (best_of false)) h.all
  one_is unary.Zing t xs v h is = ap (λ (r : Result Cell Value). old.valued_one given unary.Zing t (old.alone r)) h.one
  one_is unary.Oizp t xs v h is = ap (λ (r : Result Cell Value). old.valued_one given unary.Oizp t (old.alone r)) h.one

  two_is : (o : syntax.Operator) (xs ys : Arguments) (v w : Values) → Agrees xs v → Agrees ys w
      → value_of given (syntax.Between o (single xs) (single ys)) ≡ value_between o v.one w.one
  two_is o xs ys v w h k =
      ap (λ (r : Result Cell Value). value_between o r (value_of given (single ys))) h.one ∙ ap (λ (r : Result Cell Value). value_between o v.one r) k.one

  comma_agrees : (xs ys : Arguments) (v w : Values) → Agrees xs v → Agrees ys w → IsSome xs → Agrees (and_more xs (syntax.alone (single ys))) (old.joined v w)
  comma_agrees xs ys v w h k some = record {
    one = ap (λ (x : Syntax). value_of given x) (too_many xs (single ys) some) ∙ no_value xs (single ys) some;
    all =
        ap (λ (vs : List (Result Cell Value)). in_order vs) (values_more xs (syntax.alone (single ys)))
        ∙ in_order_more (values_of given xs) (value_of given (single ys))
        ∙ ap (λ (r : Result (List Cell) Value). then_with r (λ cs. then_with (value_of given (single ys)) (λ c. Ok (cs ++ c ∷ [])))) h.all
        ∙ ap (λ (r : Result Cell Value). then_with v.all (λ cs. then_with r (λ c. Ok (cs ++ c ∷ [])))) k.one;
  }

  pair_agrees : (operator : Binary) (xs ys : Arguments) (v w : Values) → Agrees xs v → Agrees ys w → IsSome xs
      → Agrees (of_two operator xs ys) (old.valued_pair operator v w)
  pair_agrees binary.Or xs ys v w h k some = alone_agrees _ _ (two_is syntax.Or xs ys v w h k)
  pair_agrees binary.And xs ys v w h k some = alone_agrees _ _ (two_is syntax.And xs ys v w h k)
  pair_agrees binary.Equal xs ys v w h k some = alone_agrees _ _ (two_is syntax.Equal xs ys v w h k)
  pair_agrees binary.NotEqual xs ys v w h k some = alone_agrees _ _ (two_is syntax.NotEqual xs ys v w h k)
  pair_agrees binary.Less xs ys v w h k some = alone_agrees _ _ (two_is syntax.Less xs ys v w h k)
  pair_agrees binary.AtMost xs ys v w h k some = alone_agrees _ _ (two_is syntax.AtMost xs ys v w h k)
  pair_agrees binary.Greater xs ys v w h k some = alone_agrees _ _ (two_is syntax.Greater xs ys v w h k)
  pair_agrees binary.AtLeast xs ys v w h k some = alone_agrees _ _ (two_is syntax.AtLeast xs ys v w h k)
  pair_agrees binary.Add xs ys v w h k some = alone_agrees _ _ (two_is syntax.Add xs ys v w h k)
  pair_agrees binary.Subtract xs ys v w h k some = alone_agrees _ _ (two_is syntax.Subtract xs ys v w h k)
  pair_agrees binary.Multiply xs ys v w h k some = alone_agrees _ _ (two_is syntax.Multiply xs ys v w h k)
  pair_agrees binary.Divide xs ys v w h k some = alone_agrees _ _ (two_is syntax.Divide xs ys v w h k)
  pair_agrees binary.Remainder xs ys v w h k some = alone_agrees _ _ (two_is syntax.Remainder xs ys v w h k)
  pair_agrees binary.DaysBetween xs ys v w h k some =
      alone_agrees _ _ (ap (λ (r : Result Cell Value). old.valued_two binary.DaysBetween r (value_of given (single ys))) h.one
      ∙ ap (λ (r : Result Cell Value). old.valued_two binary.DaysBetween v.one r) k.one)
  pair_agrees binary.Comma xs ys v w h k some = comma_agrees xs ys v w h k some

  agrees : (t : Shape) → Agrees (trees_in t) (old.values_of given t)
  agrees (Operand it) = alone_agrees (syntax.Operand it) _ refl
  agrees (One operator operand) =
      alone_agrees _ _ (one_is operator operand (trees_in operand) (old.values_of given operand) (agrees operand) (there operand))
  agrees (Two operator left right) =
      pair_agrees operator (trees_in left) (trees_in right) (old.values_of given left) (old.values_of given right) (agrees left) (agrees right)
      (trees_some left)
  agrees (Choice test one other) =
      alone_agrees _ _ (ap (λ (r : Result Cell Value). chosen_value r (value_of given (syntax_of one)) (value_of given (syntax_of other))) (agrees test).one
      ∙ ap (λ (r : Result Cell Value). chosen_value (old.values_of given test).one r (value_of given (syntax_of other))) (agrees one).one
      ∙ ap (λ (r : Result Cell Value). chosen_value (old.values_of given test).one (old.values_of given one).one r) (agrees other).one)

  pub value_agrees : (t : Shape) → value_of given (syntax_of t) ≡ (old.values_of given t).one
  value_agrees t = (agrees t).one

-- ---- plain items

plain_single : (xs : Arguments) → plain_of (single xs) ≡ plain_of_all xs
plain_single End = refl
plain_single (Argument x End) = sym (append-nil (plain_of x))
plain_single (Argument x (Argument y ys)) = refl

plain_alone : (xs : Arguments) (items : List Item) → plain_of_all xs ≡ items → plain_of_all (syntax.alone (single xs)) ≡ items
plain_alone xs items h = append-nil (plain_of (single xs)) ∙ plain_single xs ∙ h

plain_more : (xs ys : Arguments) → plain_of_all (and_more xs ys) ≡ plain_of_all xs ++ plain_of_all ys
plain_more End ys = refl
plain_more (Argument x xs) ys =
    ap (λ (l : List Item). plain_of x ++ l) (plain_more xs ys) ∙ sym (append_assoc (plain_of x) (plain_of_all xs) (plain_of_all ys))

plain_one : (operator : Unary) (t : Shape) (xs : Arguments) → plain_of_all xs ≡ plain_items t
    → plain_of (of_one operator t xs) ≡ cond (hides_items operator) [] (plain_items t)
plain_one unary.Negate t xs h = plain_single xs ∙ h
plain_one unary.Not t xs h = plain_single xs ∙ h
plain_one (unary.Power n) t xs h = plain_single xs ∙ h
plain_one unary.IsNull t xs h = refl
plain_one unary.IsNotNull t xs h = refl
plain_one unary.FirstNonNull t xs h = refl
plain_one unary.HasValue t xs h = refl
plain_one unary.Greatest t xs h = h
plain_one unary.Least t xs h = h
plain_one unary.Zing t xs h = plain_alone xs (plain_items t) h
plain_one unary.Oizp t xs h = plain_alone xs (plain_items t) h

module _ (xs ys : Arguments) (s t : Shape) (h : plain_of_all xs ≡ plain_items s) (k : plain_of_all ys ≡ plain_items t) where
  abbrev Both : Type 0
  Both = plain_of (single xs) ++ plain_of (single ys) ≡ plain_items s ++ plain_items t

  both_plain : Both
  both_plain =
      ap (λ (l : List Item). l ++ plain_of (single ys)) (plain_single xs ∙ h) ∙ ap (λ (l : List Item). plain_items s ++ l) (plain_single ys ∙ k)

  between_plain : (plain_of (single xs) ++ plain_of (single ys)) ++ [] ≡ plain_items s ++ plain_items t
  between_plain = append-nil (plain_of (single xs) ++ plain_of (single ys)) ∙ both_plain

  plain_two : (operator : Binary) → plain_of_all (of_two operator xs ys) ≡ plain_items s ++ plain_items t
  plain_two binary.Or = between_plain
  plain_two binary.And = between_plain
  plain_two binary.Equal = between_plain
  plain_two binary.NotEqual = between_plain
  plain_two binary.Less = between_plain
  plain_two binary.AtMost = between_plain
  plain_two binary.Greater = between_plain
  plain_two binary.AtLeast = between_plain
  plain_two binary.Add = between_plain
  plain_two binary.Subtract = between_plain
  plain_two binary.Multiply = between_plain
  plain_two binary.Divide = between_plain
  plain_two binary.Remainder = between_plain
  plain_two binary.DaysBetween =
      append-nil (plain_of (single xs) ++ (plain_of (single ys) ++ []))
      ∙ ap (λ (l : List Item). plain_of (single xs) ++ l) (append-nil (plain_of (single ys)))
      ∙ both_plain
  plain_two binary.Comma =
      plain_more xs (syntax.alone (single ys))
      ∙ ap (λ (l : List Item). plain_of_all xs ++ l) (plain_alone ys (plain_items t) k)
      ∙ ap (λ (l : List Item). l ++ plain_items t) h

plain_all : (t : Shape) → plain_of_all (trees_in t) ≡ plain_items t
plain_all (Operand it) = append-nil (plain_leaf it)
plain_all (One operator operand) =
    append-nil (plain_of (of_one operator operand (trees_in operand))) ∙ plain_one operator operand (trees_in operand) (plain_all operand)
plain_all (Two operator left right) = plain_two (trees_in left) (trees_in right) left right (plain_all left) (plain_all right) operator
plain_all (Choice test one other) =
    append-nil (plain_of (syntax_of test) ++ (plain_of (syntax_of one) ++ (plain_of (syntax_of other) ++ [])))
    ∙ ap (λ (l : List Item). l ++ (plain_of (syntax_of one) ++ (plain_of (syntax_of other) ++ []))) (plain_single (trees_in test) ∙ plain_all test)
    ∙ ap (λ (l : List Item). plain_items test ++ (l ++ (plain_of (syntax_of other) ++ []))) (plain_single (trees_in one) ∙ plain_all one)
    ∙ ap (λ (l : List Item). plain_items test ++ (plain_items one ++ l)) (plain_alone (trees_in other) (plain_items other) (plain_all other))

pub plain_agrees : (t : Shape) → plain_of (syntax_of t) ≡ plain_items t
plain_agrees t = plain_single (trees_in t) ∙ plain_all t
