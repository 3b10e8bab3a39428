-- An expression as plain data.
use Rattle.std.specs.Prelude.{◌≡◌, ℕ, ◌-◌, List, refl, nat_eq, if◌then◌else◌}
use Rattle.std.specs.Coded.{Coded, code_by, coded×, coded_list, coded_ℕ}
use base.Stored.{Gv, gnil, gnum, gcons, num}
use mathlib.Core.Path.{sym, ap}
use native.Mathlib.Nat.{suc-ne-zero}
use Rattle.expr_lang.specs.declared.tree.Item.{Item}
use Rattle.expr_lang.specs.declared.tree.Leaf.{Leaf}
use Rattle.expr_lang.specs.Syntax.{Syntax, Arguments, Operand, Signed, Power, Between, Call, End, Argument, Sign, Operator, Function}
use Rattle.expr_lang.specs.Syntax as syntax

-- its tree, the different items in order of their first occurrence, and the first byte of the first occurrence of each
pub record Expression : Type 0 where
  pub tree : Syntax
  pub items : List Item
  pub places : List ℕ

-- ---- how the logic stores an expression

abbrev sign_number : Sign → ℕ
sign_number syntax.Minus = 0
sign_number syntax.Not = 1

abbrev sign_at : ℕ → Sign
sign_at n =
    if nat_eq n 0 then syntax.Minus
    else syntax.Not

pub sign_back : (it : Sign) → sign_at (sign_number it) ≡ it
sign_back syntax.Minus = refl
sign_back syntax.Not = refl

abbrev signs : Coded Sign
signs = code_by ℕ coded_ℕ sign_number sign_at sign_back

abbrev operator_number : Operator → ℕ
operator_number syntax.Or = 0
operator_number syntax.And = 1
operator_number syntax.Equal = 2
operator_number syntax.NotEqual = 3
operator_number syntax.Less = 4
operator_number syntax.AtMost = 5
operator_number syntax.Greater = 6
operator_number syntax.AtLeast = 7
operator_number syntax.Add = 8
operator_number syntax.Subtract = 9
operator_number syntax.Multiply = 10
operator_number syntax.Divide = 11
operator_number syntax.Remainder = 12

abbrev operator_at : ℕ → Operator
operator_at n =
    if nat_eq n 0 then syntax.Or
    else if nat_eq n 1 then syntax.And
    else if nat_eq n 2 then syntax.Equal
    else if nat_eq n 3 then syntax.NotEqual
    else if nat_eq n 4 then syntax.Less
    else if nat_eq n 5 then syntax.AtMost
    else if nat_eq n 6 then syntax.Greater
    else if nat_eq n 7 then syntax.AtLeast
    else if nat_eq n 8 then syntax.Add
    else if nat_eq n 9 then syntax.Subtract
    else if nat_eq n 10 then syntax.Multiply
    else if nat_eq n 11 then syntax.Divide
    else syntax.Remainder

pub operator_back : (it : Operator) → operator_at (operator_number it) ≡ it
operator_back syntax.Or = refl
operator_back syntax.And = refl
operator_back syntax.Equal = refl
operator_back syntax.NotEqual = refl
operator_back syntax.Less = refl
operator_back syntax.AtMost = refl
operator_back syntax.Greater = refl
operator_back syntax.AtLeast = refl
operator_back syntax.Add = refl
operator_back syntax.Subtract = refl
operator_back syntax.Multiply = refl
operator_back syntax.Divide = refl
operator_back syntax.Remainder = refl

abbrev operators : Coded Operator
operators = code_by ℕ coded_ℕ operator_number operator_at operator_back

abbrev function_number : Function → ℕ
function_number syntax.IsNull = 0
function_number syntax.IsNotNull = 1
function_number syntax.FirstNonNull = 2
function_number syntax.Greatest = 3
function_number syntax.Least = 4
function_number syntax.HasValue = 5
function_number syntax.Zing = 6
function_number syntax.Oizp = 7
function_number syntax.DaysBetween = 8
function_number syntax.If = 9

abbrev function_at : ℕ → Function
function_at n =
    if nat_eq n 0 then syntax.IsNull
    else if nat_eq n 1 then syntax.IsNotNull
    else if nat_eq n 2 then syntax.FirstNonNull
    else if nat_eq n 3 then syntax.Greatest
    else if nat_eq n 4 then syntax.Least
    else if nat_eq n 5 then syntax.HasValue
    else if nat_eq n 6 then syntax.Zing
    else if nat_eq n 7 then syntax.Oizp
    else if nat_eq n 8 then syntax.DaysBetween
    else syntax.If

pub function_back : (it : Function) → function_at (function_number it) ≡ it
function_back syntax.IsNull = refl
function_back syntax.IsNotNull = refl
function_back syntax.FirstNonNull = refl
function_back syntax.Greatest = refl
function_back syntax.Least = refl
function_back syntax.HasValue = refl
function_back syntax.Zing = refl
function_back syntax.Oizp = refl
function_back syntax.DaysBetween = refl
function_back syntax.If = refl

abbrev functions : Coded Function
functions = code_by ℕ coded_ℕ function_number function_at function_back

abbrev left : Gv → Gv
left gnil = gnil
left (gnum n) = gnil
left (gcons a b) = a

abbrev right : Gv → Gv
right gnil = gnil
right (gnum n) = gnil
right (gcons a b) = b

abbrev kind : Gv → ℕ
kind g = num (left g)

module _ (leaves : Coded Leaf) where
  abbrev mutual
    pub tree_code : Syntax → Gv
    tree_code (Operand it) = gcons (gnum 0) (leaves.code it)
    tree_code (Signed sign x) = gcons (gnum 1) (gcons (signs.code sign) (tree_code x))
    tree_code (Power x n) = gcons (gnum 2) (gcons (gnum n) (tree_code x))
    tree_code (Between operator x y) = gcons (gnum 3) (gcons (operators.code operator) (gcons (tree_code x) (tree_code y)))
    tree_code (Call function xs) = gcons (gnum 4) (gcons (functions.code function) (list_code xs))

    pub list_code : Arguments → Gv
    list_code End = gcons (gnum 0) gnil
    list_code (Argument x xs) = gcons (gnum 1) (gcons (tree_code x) (list_code xs))

  mutual
    pub tree_inj : (x y : Syntax) → tree_code x ≡ tree_code y → x ≡ y
    tree_inj (Operand a) (Operand b) p = ap Operand (leaves.inj a b (ap right p))
    tree_inj (Signed a x) (Signed b y) p = λ i.
        Signed (signs.inj a b (ap (λ g. left (right g)) p) i) (tree_inj x y (ap (λ g. right (right g)) p) i)
    tree_inj (Power x a) (Power y b) p = λ i.
        Power (tree_inj x y (ap (λ g. right (right g)) p) i) (ap (λ g. num (left (right g))) p i)
    tree_inj (Between a x s) (Between b y t) p = λ i.
        Between (operators.inj a b (ap (λ g. left (right g)) p) i) (tree_inj x y (ap (λ g. left (right (right g))) p) i)
        (tree_inj s t (ap (λ g. right (right (right g))) p) i)
    tree_inj (Call a xs) (Call b ys) p = λ i.
        Call (functions.inj a b (ap (λ g. left (right g)) p) i) (list_inj xs ys (ap (λ g. right (right g)) p) i)
    tree_inj (Operand a) (Signed b y) p = absurd (suc-ne-zero 0 (sym (ap kind p)))
    tree_inj (Operand a) (Power y b) p = absurd (suc-ne-zero 1 (sym (ap kind p)))
    tree_inj (Operand a) (Between b y t) p = absurd (suc-ne-zero 2 (sym (ap kind p)))
    tree_inj (Operand a) (Call b ys) p = absurd (suc-ne-zero 3 (sym (ap kind p)))
    tree_inj (Signed a x) (Operand b) p = absurd (suc-ne-zero 0 (ap kind p))
    tree_inj (Signed a x) (Power y b) p = absurd (suc-ne-zero 0 (sym (ap (λ g. kind g - 1) p)))
    tree_inj (Signed a x) (Between b y t) p = absurd (suc-ne-zero 1 (sym (ap (λ g. kind g - 1) p)))
    tree_inj (Signed a x) (Call b ys) p = absurd (suc-ne-zero 2 (sym (ap (λ g. kind g - 1) p)))
    tree_inj (Power x a) (Operand b) p = absurd (suc-ne-zero 1 (ap kind p))
    tree_inj (Power x a) (Signed b y) p = absurd (suc-ne-zero 0 (ap (λ g. kind g - 1) p))
    tree_inj (Power x a) (Between b y t) p = absurd (suc-ne-zero 0 (sym (ap (λ g. kind g - 2) p)))
    tree_inj (Power x a) (Call b ys) p = absurd (suc-ne-zero 1 (sym (ap (λ g. kind g - 2) p)))
    tree_inj (Between a x s) (Operand b) p = absurd (suc-ne-zero 2 (ap kind p))
    tree_inj (Between a x s) (Signed b y) p = absurd (suc-ne-zero 1 (ap (λ g. kind g - 1) p))
    tree_inj (Between a x s) (Power y b) p = absurd (suc-ne-zero 0 (ap (λ g. kind g - 2) p))
    tree_inj (Between a x s) (Call b ys) p = absurd (suc-ne-zero 0 (sym (ap (λ g. kind g - 3) p)))
    tree_inj (Call a xs) (Operand b) p = absurd (suc-ne-zero 3 (ap kind p))
    tree_inj (Call a xs) (Signed b y) p = absurd (suc-ne-zero 2 (ap (λ g. kind g - 1) p))
    tree_inj (Call a xs) (Power y b) p = absurd (suc-ne-zero 1 (ap (λ g. kind g - 2) p))
    tree_inj (Call a xs) (Between b y t) p = absurd (suc-ne-zero 0 (ap (λ g. kind g - 3) p))

    pub list_inj : (xs ys : Arguments) → list_code xs ≡ list_code ys → xs ≡ ys
    list_inj End End p = refl
    list_inj (Argument x xs) (Argument y ys) p = λ i.
        Argument (tree_inj x y (ap (λ g. left (right g)) p) i) (list_inj xs ys (ap (λ g. right (right g)) p) i)
    list_inj End (Argument y ys) p = absurd (suc-ne-zero 0 (sym (ap kind p)))
    list_inj (Argument x xs) End p = absurd (suc-ne-zero 0 (ap kind p))

  abbrev pub expression_code : Coded Item → Coded Expression
  expression_code items =
      code_by (Syntax × (List Item × List ℕ)) (coded× (record { code = tree_code; inj = tree_inj }) (coded× (coded_list items) (coded_list coded_ℕ)))
      (λ e. (e.tree, (e.items, e.places))) (λ p. record { tree = p.0; items = p.1.0; places = p.1.1 }) (λ _. refl)
