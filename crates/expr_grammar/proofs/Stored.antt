-- What the public clauses say of trees, said of trees as they lie in memory: what is read and printed is proved by these words.
use Rattle.std.proofs.Common.{◌≡◌, ℕ, suc, ◌≤◌, Bool, true, false, List, [], ◌∷◌, ◌++◌, length, Option, Some, None, Result, Ok, Err}
use Rattle.std.specs.Prelude.{◌&&◌, max, nat_lt, if◌then◌else◌}
use Rattle.std.specs.Str.Parse.{digits_value}
use Rattle.expr_lang.specs.declared.tree.Item.{Item as AnyItem}
use Rattle.expr_lang.specs.declared.tree.Leaf.TheVariants as leaf
use Rattle.expr_lang.specs.declared.tree.Place.{Place}
use Rattle.expr_lang.specs.declared.tree.Sort.{Sort}
use Rattle.expr_lang.specs.declared.tree.Sort.TheVariants as sort
use Rattle.expr_lang.specs.declared.tree.Unary.{Unary}
use Rattle.expr_lang.specs.declared.tree.Unary.TheVariants as unary
use Rattle.expr_lang.specs.declared.tree.Binary.{Binary}
use Rattle.expr_lang.specs.declared.tree.Binary.TheVariants as binary
use Rattle.expr_lang.specs.declared.fault.ExprFault.{ExprFault}
use Rattle.expr_lang.specs.declared.fault.ExprFault.TheVariants as fault
use Rattle.expr_lang.specs.declared.words.Symbol.TheVariants as symbol
use Rattle.expr_lang.specs.declared.words.Call.{Call}
use Rattle.expr_lang.specs.declared.words.Call.TheVariants as call
use Rattle.expr_lang.specs.Expression.{Expression}
use Rattle.expr_lang.specs.Item.{item_from}
use Rattle.expr_lang.specs.Leaves.{item_leaf}
use Rattle.expr_lang.specs.Shape.{Shape, Operand, One, Two, Choice}
use Rattle.expr_lang.specs.Stored.{syntax_of}
use Rattle.expr_lang.specs.Survey.{same_sort, leaf_sort_of, taken_by_of, given_by_of, taken_by_two, given_by_two}
use Rattle.expr_grammar.specs.Brackets.{crowded_bracket}
use Rattle.expr_grammar.specs.Fewest.{brackets_of, open_of}
use Rattle.expr_grammar.specs.Grammar.{Form, Number, Item, Bracket, Power, Sign, Chain, Arguments, If, Condition, DaysBetween, Apply, IsTextOf, IsWhole}
use Rattle.expr_grammar.specs.Grammar.{number_value, symbol_text, spelled, after_blanks}
use Rattle.expr_grammar.specs.Items.{items_of_leaf}
use Rattle.expr_grammar.specs.Limits.{IsWritten}
use Rattle.expr_grammar.specs.Misfits.{place_of, least_of}

abbrev pub applied : Call → Unary
applied call.IsNull = unary.IsNull
applied call.IsNotNull = unary.IsNotNull
applied call.FirstNonNull = unary.FirstNonNull
applied call.Greatest = unary.Greatest
applied call.Least = unary.Least
applied call.HasValue = unary.HasValue
applied call.Zing = unary.Zing
applied _ = unary.Oizp

-- the tree of a form; `days` has the elements and attributes whose values are days
abbrev pub tree_of : List (List ℕ) → Form → Shape
tree_of days (Number b digits decimals) = Operand (leaf.Number (number_value digits decimals))
tree_of days (Item b form word) = Operand (item_leaf days (item_from form word))
tree_of days (Bracket b inner c) = tree_of days inner
tree_of days (Power atom b c digits) = One (unary.Power (digits_value 10 digits)) (tree_of days atom)
tree_of days (Sign b sign operand) = One sign (tree_of days operand)
tree_of days (Chain left b operator right) = Two operator (tree_of days left) (tree_of days right)
tree_of days (Arguments first b last) = Two binary.Comma (tree_of days first) (tree_of days last)
tree_of days (If b c test d one e other f) = Choice (tree_of days test) (tree_of days one) (tree_of days other)
tree_of days (Condition b c d test e f one g other h) = Choice (tree_of days test) (tree_of days one) (tree_of days other)
tree_of days (DaysBetween b c one d other e) = Two binary.DaysBetween (tree_of days one) (tree_of days other)
tree_of days (Apply b name c arguments d) = One (applied name) (tree_of days arguments)

-- A list of arguments is as deep as the deepest of them.
abbrev pub above_two : Binary → ℕ → ℕ
above_two binary.Comma depth = depth
above_two _ depth = suc depth

abbrev pub depth_of : Shape → ℕ
depth_of (Operand it) = 1
depth_of (One operator operand) = suc (depth_of operand)
depth_of (Two operator left right) = above_two operator (max (depth_of left) (depth_of right))
depth_of (Choice test one other) = suc (max (max (depth_of test) (depth_of one)) (depth_of other))

abbrev pub sort_of : Shape → Sort
sort_of (Operand it) = leaf_sort_of it
sort_of (One operator operand) = given_by_of operator
sort_of (Two operator left right) = given_by_two operator
sort_of (Choice test one other) = sort.Number

-- whether a tree has a sort, where one is wanted
abbrev pub has_sort : Option Sort → Shape → Bool
has_sort (Some wanted) tree = same_sort (sort_of tree) wanted
has_sort None tree = true

-- whether each operand has the sort that is taken there
abbrev pub sorts_fit : Shape → Bool
sorts_fit (Operand it) = true
sorts_fit (One operator operand) = has_sort (taken_by_of operator) operand && sorts_fit operand
sorts_fit (Two operator left right) =
    (has_sort (Some (taken_by_two operator)) left && has_sort (Some (taken_by_two operator)) right) && (sorts_fit left && sorts_fit right)
sorts_fit (Choice test one other) =
    (has_sort (Some sort.Truth) test && (has_sort (Some sort.Number) one && has_sort (Some sort.Number) other))
    && (sorts_fit test && (sorts_fit one && sorts_fit other))

-- each occurrence of an item, from left to right
abbrev pub items_of : Shape → List AnyItem
items_of (Operand it) = items_of_leaf it
items_of (One operator operand) = items_of operand
items_of (Two operator left right) = items_of left ++ items_of right
items_of (Choice test one other) = (items_of test ++ items_of one) ++ items_of other

abbrev pub is_number : Shape → Bool
is_number (Operand (leaf.Number n)) = true
is_number _ = false

-- Where an operand has another sort than is taken, neither what takes it fits nor, unless it is a number, the operand.
abbrev pub clash_of : ℕ → ℕ → Option Sort → Shape → List ℕ
clash_of taker place taken tree = if has_sort taken tree then [] else (if is_number tree then taker ∷ [] else taker ∷ place ∷ [])

-- The places that don't fit in an operand, in a text of so many bytes and with a rest after it: what stands at `taker` takes it
-- at a sort, or at any. A call takes each of a list of arguments.
abbrev pub misfits_of : List (List ℕ) → ℕ → ℕ → Option Sort → Form → List ℕ → List ℕ
misfits_of days total taker taken (Number b digits decimals) rest =
    clash_of taker (place_of total (Number b digits decimals) rest) taken (tree_of days (Number b digits decimals))
misfits_of days total taker taken (Item b form word) rest =
    clash_of taker (place_of total (Item b form word) rest) taken (tree_of days (Item b form word))
misfits_of days total taker taken (Bracket b inner c) rest = misfits_of days total taker taken inner (symbol_text c symbol.Close rest)
misfits_of days total taker taken (Power atom b c digits) rest =
    let at = place_of total (Power atom b c digits) rest in
    clash_of taker at taken (tree_of days (Power atom b c digits))
    ++ misfits_of days total at (Some sort.Number) atom (symbol_text b symbol.Caret (after_blanks c digits rest))
misfits_of days total taker taken (Sign b sign operand) rest =
    let at = place_of total (Sign b sign operand) rest in
    clash_of taker at taken (tree_of days (Sign b sign operand)) ++ misfits_of days total at (taken_by_of sign) operand rest
misfits_of days total taker taken (Chain left b operator right) rest =
    let at = place_of total (Chain left b operator right) rest in
    clash_of taker at taken (tree_of days (Chain left b operator right))
    ++ (misfits_of days total at (Some (taken_by_two operator)) left (symbol_text b (symbol.Operator operator) (spelled right rest))
    ++ misfits_of days total at (Some (taken_by_two operator)) right rest)
misfits_of days total taker taken (Arguments first b last) rest =
    misfits_of days total taker (Some sort.Number) first (symbol_text b symbol.Comma (spelled last rest))
    ++ misfits_of days total taker (Some sort.Number) last rest
misfits_of days total taker taken (If b c test d one e other f) rest =
    let at = place_of total (If b c test d one e other f) rest in
    let third = spelled other (symbol_text f symbol.Close rest) in
    clash_of taker at taken (tree_of days (If b c test d one e other f))
    ++ (misfits_of days total at (Some sort.Truth) test (symbol_text d symbol.Comma (spelled one (symbol_text e symbol.Comma third)))
    ++ (misfits_of days total at (Some sort.Number) one (symbol_text e symbol.Comma third)
    ++ misfits_of days total at (Some sort.Number) other (symbol_text f symbol.Close rest)))
misfits_of days total taker taken (Condition b c d test e f one g other h) rest =
    let at = place_of total (Condition b c d test e f one g other h) rest in
    let third = spelled other (symbol_text h symbol.Close rest) in
    let second = spelled one (symbol_text g symbol.Comma third) in
    clash_of taker at taken (tree_of days (Condition b c d test e f one g other h))
    ++ (misfits_of days total at (Some sort.Truth) test (symbol_text e symbol.Quote (symbol_text f symbol.Comma second))
    ++ (misfits_of days total at (Some sort.Number) one (symbol_text g symbol.Comma third)
    ++ misfits_of days total at (Some sort.Number) other (symbol_text h symbol.Close rest)))
misfits_of days total taker taken (DaysBetween b c one d other e) rest =
    let at = place_of total (DaysBetween b c one d other e) rest in
    clash_of taker at taken (tree_of days (DaysBetween b c one d other e))
    ++ (misfits_of days total at (Some sort.Day) one (symbol_text d symbol.Comma (spelled other (symbol_text e symbol.Close rest)))
    ++ misfits_of days total at (Some sort.Day) other (symbol_text e symbol.Close rest))
misfits_of days total taker taken (Apply b name c arguments d) rest =
    let at = place_of total (Apply b name c arguments d) rest in
    clash_of taker at taken (tree_of days (Apply b name c arguments d))
    ++ misfits_of days total at (taken_by_of (applied name)) arguments (symbol_text d symbol.Close rest)

-- the first place that doesn't fit in a whole text, which has to have a sort or may have any
abbrev pub first_misfit : List (List ℕ) → Option Sort → List ℕ → Form → List ℕ → Option ℕ
first_misfit days wanted text form blanks =
    least_of (misfits_of days (length text) (place_of (length text) form blanks) wanted form blanks)

-- at most 64 brackets open at once, and a tree of a depth of at most 512
abbrev pub IsFlat : List (List ℕ) → Form → Type 0
IsFlat days form = (open_of form ≤ 64) × (depth_of (tree_of days form) ≤ 512)

-- A text whose tree is too deep is so from its first byte on; else its first bracket inside 64 others is too deep.
abbrev pub deep_place : List (List ℕ) → List ℕ → Form → Option ℕ
deep_place days text form = if nat_lt 512 (depth_of (tree_of days form)) then Some 0 else crowded_bracket text

abbrev pub is_sorted : Option Sort → Shape → Bool
is_sorted wanted tree = has_sort wanted tree && sorts_fit tree

-- An answer is the tree of a form of the text that is flat and whose sorts fit. A fault of syntax says that the text has no
-- form, one of depth or of sorts that it has a form, which is the first of these that fails, and where.
abbrev pub AnswersBy : Place → List (List ℕ) → Option Sort → List ℕ → Result Expression ExprFault → Type 0
AnswersBy place days wanted text (Ok expr) =
    (form : Form) × IsWritten place text form × IsFlat days form × (is_sorted wanted (tree_of days form) ≡ true) × (syntax_of (tree_of days form) ≡ expr.tree)
AnswersBy place days wanted text (Err (fault.Syntax at)) = (form : Form) → ¬ (IsWritten place text form)
AnswersBy place days wanted text (Err (fault.TooDeep at)) =
    (form : Form) × IsWritten place text form × (¬ (IsFlat days form)) × (deep_place days text form ≡ Some at)
AnswersBy place days wanted text (Err (fault.Sort at)) =
    (form : Form) × (is : IsWritten place text form) × IsFlat days form × (is_sorted wanted (tree_of days form) ≡ false)
    × (first_misfit days wanted text form is.0.1 ≡ Some at)
AnswersBy place days wanted text (Err fault.Memory) = ⊥

-- a text is a shortest one with this tree, with the fewest brackets
pub record IsPrinted (place : Place) (days : List (List ℕ)) (tree : Shape) (text : List ℕ) : Type 0 where
  pub form : Form
  pub again : IsTextOf place text form
  pub same : tree_of days form ≡ tree
  pub fewest : (other : Form) → IsWhole place other → tree_of days other ≡ tree → brackets_of form ≤ brackets_of other
  pub flattest : (other : Form) → IsWhole place other → tree_of days other ≡ tree → open_of form ≤ open_of other
  pub shortest : (other : Form) (others : List ℕ) → IsTextOf place others other → tree_of days other ≡ tree → length text ≤ length others

-- It is so in each place, and for each reading of which items are days, where the grammar has a text with this tree.
abbrev pub IsPrintedAgain : Shape → List ℕ → Type 0
IsPrintedAgain tree text =
    (place : Place) (days : List (List ℕ)) (form : Form) → IsWhole place form → tree_of days form ≡ tree → IsPrinted place days tree text
