-- The grammar of expressions, by its productions.
--
--     text      := expr | count                                        (count: an item that is a whole text alone)
--     expr      := expr "||" conj | conj                               level 1
--     conj      := conj "&&" comp | comp                               level 2
--     comp      := sum ( "==" | "!=" | "<" | "<=" | ">" | ">=" ) sum | sum     level 3
--     sum       := sum ( "+" | "-" ) term | term                       level 4
--     term      := term ( "*" | "/" | "%" ) sign | sign                level 5
--     sign      := "-" sign | "!" sign | power                         level 6
--     power     := atom "^" digits | atom                              level 7
--     atom      := number | item | "(" expr ")" | call                 level 8
--     call      := "if" "(" expr "," expr "," expr ")"
--                | "d2:condition" "(" "'" expr "'" "," expr "," expr ")"
--                | "d2:daysBetween" "(" expr "," expr ")"
--                | name "(" arguments ")"
--     arguments := arguments "," expr | expr                           level 0
--     number    := 1 to 12 digits, and after a point 1 to 6 digits if a point stands there
--
-- Blanks may stand before each word and after the last. Which items and calls there are depends on the place.
use Rattle.std.specs.Prelude.{◌≡◌, ℕ, ◌+◌, ◌-◌, ◌*◌, ◌^◌, ◌≤◌, Bool, true, false, ◌&&◌, ◌⊎◌, List, [], ◌∷◌, ◌++◌, codes, length}
use Rattle.std.specs.Char.{is_ascii_digit}
use Rattle.std.specs.Str.Parse.{digits_value}
use Rattle.expr_lang.specs.declared.tree.Place.{Place}
use Rattle.expr_lang.specs.declared.tree.Leaf.TheVariants as leaf
use Rattle.expr_lang.specs.declared.tree.Unary.{Unary}
use Rattle.expr_lang.specs.declared.tree.Unary.TheVariants as unary
use Rattle.expr_lang.specs.declared.tree.Binary.{Binary}
use Rattle.expr_lang.specs.declared.tree.Binary.TheVariants as binary
use Rattle.expr_lang.specs.declared.words.Symbol.{Symbol}
use Rattle.expr_lang.specs.declared.words.Symbol.TheVariants as symbol
use Rattle.expr_lang.specs.declared.words.Call.{Call}
use Rattle.expr_lang.specs.declared.words.Call.TheVariants as call
use Rattle.expr_lang.specs.declared.words.ItemForm.{ItemForm}
use Rattle.expr_lang.specs.Item.{item_from}
use Rattle.expr_lang.specs.Leaves.{item_leaf}
use Rattle.expr_lang.specs.Print.{left_level_of, right_level_of}
use Rattle.expr_lang.specs.Reading.{level_of, is_blank_of}
use Rattle.expr_lang.specs.Syntax as syntax
use Rattle.expr_lang.specs.Syntax.{Syntax, Arguments as Trees, Argument, alone, and_more, single}
use Rattle.expr_lang.specs.Token.{fits_of}
use Rattle.expr_lang.specs.Words.{text_of, operands_of, items_of_place, start_of}

-- A production with all that stands in it, from left to right. A list of numbers is the blanks before the word that follows,
-- or what is written by digits or as an item.
pub data Form : Type 0 where
  Number : List ℕ → List ℕ → List ℕ → Form
  Item : List ℕ → ItemForm → List ℕ → Form
  Bracket : List ℕ → Form → List ℕ → Form
  Power : Form → List ℕ → List ℕ → List ℕ → Form
  Sign : List ℕ → Unary → Form → Form
  Chain : Form → List ℕ → Binary → Form → Form
  Arguments : Form → List ℕ → Form → Form
  If : List ℕ → List ℕ → Form → List ℕ → Form → List ℕ → Form → List ℕ → Form
  Condition : List ℕ → List ℕ → List ℕ → Form → List ℕ → List ℕ → Form → List ℕ → Form → List ℕ → Form
  DaysBetween : List ℕ → List ℕ → Form → List ℕ → Form → List ℕ → Form
  Apply : List ℕ → Call → List ℕ → Form → List ℕ → Form

-- the decimals after their point, if there are any
abbrev pub behind_point : List ℕ → List ℕ
behind_point [] = []
behind_point (d ∷ ds) = 46 ∷ d ∷ ds

abbrev pub sign_text : Unary → List ℕ
sign_text unary.Not = codes "!"
sign_text _ = codes "-"

-- a word with blanks before it and a rest after it
abbrev pub after_blanks : List ℕ → List ℕ → List ℕ → List ℕ
after_blanks blanks word rest = blanks ++ (word ++ rest)

abbrev pub symbol_text : List ℕ → Symbol → List ℕ → List ℕ
symbol_text blanks word rest = after_blanks blanks (text_of word) rest

-- how a form is written, with a rest after it
abbrev pub spelled : Form → List ℕ → List ℕ
spelled (Number b digits decimals) rest = after_blanks b (digits ++ behind_point decimals) rest
spelled (Item b form word) rest = after_blanks b word rest
spelled (Bracket b inner c) rest = symbol_text b symbol.Open (spelled inner (symbol_text c symbol.Close rest))
spelled (Power atom b c digits) rest = spelled atom (symbol_text b symbol.Caret (after_blanks c digits rest))
spelled (Sign b sign operand) rest = after_blanks b (sign_text sign) (spelled operand rest)
spelled (Chain left b operator right) rest = spelled left (symbol_text b (symbol.Operator operator) (spelled right rest))
spelled (Arguments first b last) rest = spelled first (symbol_text b symbol.Comma (spelled last rest))
spelled (If b c test d one e other f) rest =
    symbol_text b (symbol.Call call.If) (symbol_text c symbol.Open
    (spelled test (symbol_text d symbol.Comma (spelled one (symbol_text e symbol.Comma (spelled other (symbol_text f symbol.Close rest)))))))
spelled (Condition b c d test e f one g other h) rest =
    symbol_text b (symbol.Call call.Condition) (symbol_text c symbol.Open (symbol_text d symbol.Quote (spelled test (symbol_text e symbol.Quote
    (symbol_text f symbol.Comma (spelled one (symbol_text g symbol.Comma (spelled other (symbol_text h symbol.Close rest)))))))))
spelled (DaysBetween b c one d other e) rest =
    symbol_text b (symbol.Call call.DaysBetween) (symbol_text c symbol.Open
    (spelled one (symbol_text d symbol.Comma (spelled other (symbol_text e symbol.Close rest)))))
spelled (Apply b name c arguments d) rest =
    symbol_text b (symbol.Call name) (symbol_text c symbol.Open (spelled arguments (symbol_text d symbol.Close rest)))

-- spaces, tabs, CR and LF
abbrev pub IsBlank : List ℕ → Type 0
IsBlank [] = Unit {0}
IsBlank (b ∷ bs) = (is_blank_of b ≡ true) × IsBlank bs

abbrev pub IsDigits : List ℕ → Type 0
IsDigits [] = Unit {0}
IsDigits (b ∷ bs) = (is_ascii_digit b ≡ true) × IsDigits bs

-- 1 to 12 digits, and up to 6 decimals
pub record IsNumber (digits decimals : List ℕ) : Type 0 where
  pub some : 1 ≤ length digits
  pub few : length digits ≤ 12
  pub whole : IsDigits digits
  pub short : length decimals ≤ 6
  pub part : IsDigits decimals

-- 0 to 64, in one or two digits
pub record IsExponent (digits : List ℕ) : Type 0 where
  pub some : 1 ≤ length digits
  pub few : length digits ≤ 2
  pub whole : IsDigits digits
  pub small : digits_value 10 digits ≤ 64

-- whether bytes are written as a word has it, where `@` stands for a letter and `$` for a letter or a digit
abbrev pub IsWord : List ℕ → List ℕ → Type 0
IsWord [] [] = Unit {0}
IsWord (c ∷ cs) (b ∷ bs) = (fits_of c b ≡ true) × IsWord cs bs
IsWord _ _ = ⊥

abbrev pub IsAmong : Symbol → List Symbol → Type 0
IsAmong word [] = ⊥
IsAmong word (w ∷ ws) = (word ≡ w) ⊎ IsAmong word ws

abbrev pub IsSign : Unary → Type 0
IsSign unary.Negate = Unit {0}
IsSign unary.Not = Unit {0}
IsSign _ = ⊥

abbrev pub is_item : Form → Bool
is_item (Item b form word) = true
is_item _ = false

abbrev pub is_plain : Form → Bool
is_plain (Number b digits decimals) = true
is_plain (Item b form word) = true
is_plain _ = false

abbrev pub all_plain : Form → Bool
all_plain (Arguments first b last) = all_plain first && is_plain last
all_plain form = is_plain form

-- Level 0 are one or more arguments, and level 1 is one.
abbrev pub arguments_level : Call → ℕ
arguments_level call.FirstNonNull = 0
arguments_level call.Greatest = 0
arguments_level call.Least = 0
arguments_level _ = 1

-- What the calls of one argument or list take: an item; items and numbers; or any expressions.
abbrev pub Takes : Call → Form → Type 0
Takes call.IsNull arguments = is_item arguments ≡ true
Takes call.IsNotNull arguments = is_item arguments ≡ true
Takes call.HasValue arguments = is_item arguments ≡ true
Takes call.FirstNonNull arguments = all_plain arguments ≡ true
Takes call.Greatest arguments = Unit {0}
Takes call.Least arguments = Unit {0}
Takes call.Zing arguments = Unit {0}
Takes call.Oizp arguments = Unit {0}
Takes _ arguments = ⊥

abbrev pub IsCall : Place → Call → Type 0
IsCall place name = IsAmong (symbol.Call name) (operands_of place)

-- Whether a form is of the grammar in a place, and stands where it has to bind at least so tightly. A quoted text has no
-- quote in it.
abbrev pub IsForm : Place → Bool → ℕ → Form → Type 0
IsForm place quoted least (Number b digits decimals) = IsBlank b × IsNumber digits decimals
IsForm place quoted least (Item b form word) =
    IsBlank b × IsAmong (symbol.Item form) (items_of_place place) × IsWord (text_of (symbol.Item form)) word
IsForm place quoted least (Bracket b inner c) = IsBlank b × IsForm place quoted 1 inner × IsBlank c
IsForm place quoted least (Power atom b c digits) = (least ≤ 7) × IsForm place quoted 8 atom × IsBlank b × IsBlank c × IsExponent digits
IsForm place quoted least (Sign b sign operand) = (least ≤ 6) × IsBlank b × IsSign sign × IsForm place quoted 6 operand
IsForm place quoted least (Chain left b operator right) =
    (1 ≤ level_of operator) × (least ≤ level_of operator)
    × IsForm place quoted (left_level_of operator) left × IsBlank b × IsForm place quoted (right_level_of operator) right
IsForm place quoted least (Arguments first b last) =
    (least ≡ 0) × IsForm place quoted 0 first × IsBlank b × IsForm place quoted 1 last
IsForm place quoted least (If b c test d one e other f) =
    IsCall place call.If × IsBlank b × IsBlank c × IsForm place quoted 1 test × IsBlank d
    × IsForm place quoted 1 one × IsBlank e × IsForm place quoted 1 other × IsBlank f
IsForm place quoted least (Condition b c d test e f one g other h) =
    IsCall place call.Condition × (quoted ≡ false) × IsBlank b × IsBlank c × IsBlank d × IsForm place true 1 test × IsBlank e × IsBlank f
    × IsForm place quoted 1 one × IsBlank g × IsForm place quoted 1 other × IsBlank h
IsForm place quoted least (DaysBetween b c one d other e) =
    IsCall place call.DaysBetween × IsBlank b × IsBlank c × IsForm place quoted 1 one × IsBlank d × IsForm place quoted 1 other × IsBlank e
IsForm place quoted least (Apply b name c arguments d) =
    IsCall place name × IsBlank b × IsBlank c × IsForm place quoted (arguments_level name) arguments × Takes name arguments × IsBlank d

-- an expression, or an item that may be a whole text
abbrev pub IsWhole : Place → Form → Type 0
IsWhole place (Item b form word) = IsBlank b × IsAmong (symbol.Item form) (start_of place) × IsWord (text_of (symbol.Item form)) word
IsWhole place form = IsForm place false 1 form

-- a text is a form of the grammar, with blanks after it
abbrev pub IsTextOf : Place → List ℕ → Form → Type 0
IsTextOf place text form = IsWhole place form × (blanks : List ℕ) × IsBlank blanks × (text ≡ spelled form blanks)

-- millionths
abbrev pub number_value : List ℕ → List ℕ → ℕ
number_value digits decimals = digits_value 10 digits * 1000000 + digits_value 10 decimals * 10 ^ (6 - length decimals)

abbrev pub sign_of : Unary → syntax.Sign
sign_of unary.Not = syntax.Not
sign_of _ = syntax.Minus

abbrev pub operator_of : Binary → syntax.Operator
operator_of binary.Or = syntax.Or
operator_of binary.And = syntax.And
operator_of binary.Equal = syntax.Equal
operator_of binary.NotEqual = syntax.NotEqual
operator_of binary.Less = syntax.Less
operator_of binary.AtMost = syntax.AtMost
operator_of binary.Greater = syntax.Greater
operator_of binary.AtLeast = syntax.AtLeast
operator_of binary.Add = syntax.Add
operator_of binary.Subtract = syntax.Subtract
operator_of binary.Multiply = syntax.Multiply
operator_of binary.Divide = syntax.Divide
operator_of _ = syntax.Remainder

abbrev pub function_of : Call → syntax.Function
function_of call.IsNull = syntax.IsNull
function_of call.IsNotNull = syntax.IsNotNull
function_of call.FirstNonNull = syntax.FirstNonNull
function_of call.Greatest = syntax.Greatest
function_of call.Least = syntax.Least
function_of call.HasValue = syntax.HasValue
function_of call.Zing = syntax.Zing
function_of call.Oizp = syntax.Oizp
function_of call.DaysBetween = syntax.DaysBetween
function_of _ = syntax.If

-- the calls with a number of arguments of their own
abbrev pub call_of_two : syntax.Function → Trees → Trees → Trees
call_of_two function xs ys = alone (syntax.Call function (Argument (single xs) (alone (single ys))))

abbrev pub call_of_three : syntax.Function → Trees → Trees → Trees → Trees
call_of_three function xs ys zs = alone (syntax.Call function (Argument (single xs) (Argument (single ys) (alone (single zs)))))

-- The tree of a form, or those of a list of arguments; `days` has the elements and attributes whose values are days.
abbrev pub trees_of : List (List ℕ) → Form → Trees
trees_of days (Number b digits decimals) = alone (syntax.Operand (leaf.Number (number_value digits decimals)))
trees_of days (Item b form word) = alone (syntax.Operand (item_leaf days (item_from form word)))
trees_of days (Bracket b inner c) = trees_of days inner
trees_of days (Power atom b c digits) = alone (syntax.Power (single (trees_of days atom)) (digits_value 10 digits))
trees_of days (Sign b sign operand) = alone (syntax.Signed (sign_of sign) (single (trees_of days operand)))
trees_of days (Chain left b operator right) =
    alone (syntax.Between (operator_of operator) (single (trees_of days left)) (single (trees_of days right)))
trees_of days (Arguments first b last) = and_more (trees_of days first) (alone (single (trees_of days last)))
trees_of days (If b c test d one e other f) = call_of_three syntax.If (trees_of days test) (trees_of days one) (trees_of days other)
trees_of days (Condition b c d test e f one g other h) = call_of_three syntax.If (trees_of days test) (trees_of days one) (trees_of days other)
trees_of days (DaysBetween b c one d other e) = call_of_two syntax.DaysBetween (trees_of days one) (trees_of days other)
trees_of days (Apply b name c arguments d) = alone (syntax.Call (function_of name) (trees_of days arguments))

abbrev pub tree_of : List (List ℕ) → Form → Syntax
tree_of days form = single (trees_of days form)
