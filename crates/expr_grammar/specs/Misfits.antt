-- Where the sorts of a form don't fit.
use Rattle.std.specs.Prelude.{ℕ, ◌-◌, Bool, true, false, List, [], ◌∷◌, ◌++◌, length, Option, Some, None, if◌then◌else◌}
use Rattle.expr_lang.specs.declared.tree.Leaf.TheVariants as leaf
use Rattle.expr_lang.specs.declared.tree.Sort.{Sort}
use Rattle.expr_lang.specs.declared.tree.Sort.TheVariants as sort
use Rattle.expr_lang.specs.declared.words.Symbol.TheVariants as symbol
use Rattle.expr_lang.specs.Survey.{first_of_two}
use Rattle.expr_lang.specs.Syntax as syntax
use Rattle.expr_lang.specs.Syntax.{Syntax}
use Rattle.expr_grammar.specs.Grammar.{Form, Number, Item, Bracket, Power, Sign, Chain, Arguments, If, Condition, DaysBetween, Apply, after_blanks}
use Rattle.expr_grammar.specs.Grammar.{symbol_text, spelled, sign_of, operator_of, function_of, tree_of}
use Rattle.expr_grammar.specs.Sorts.{taken_signed, taken_between, taken_called, has_sort}

-- The place of a word in a text of so many bytes, from the word and all that is left after it.
abbrev pub place_from : ℕ → List ℕ → ℕ
place_from total bytes = total - length bytes

-- The place of the operator, the call, the item or the number that a form's value comes from.
abbrev pub place_of : ℕ → Form → List ℕ → ℕ
place_of total (Number b digits decimals) rest = place_from total (spelled (Number [] digits decimals) rest)
place_of total (Item b form word) rest = place_from total (spelled (Item [] form word) rest)
place_of total (Bracket b inner c) rest = place_of total inner (symbol_text c symbol.Close rest)
place_of total (Power atom b c digits) rest = place_from total (symbol_text [] symbol.Caret (after_blanks c digits rest))
place_of total (Sign b sign operand) rest = place_from total (spelled (Sign [] sign operand) rest)
place_of total (Chain left b operator right) rest = place_from total (symbol_text [] (symbol.Operator operator) (spelled right rest))
place_of total (Arguments first b last) rest = place_from total (symbol_text [] symbol.Comma (spelled last rest))
place_of total (If b c test d one e other f) rest = place_from total (spelled (If [] c test d one e other f) rest)
place_of total (Condition b c d test e f one g other h) rest = place_from total (spelled (Condition [] c d test e f one g other h) rest)
place_of total (DaysBetween b c one d other e) rest = place_from total (spelled (DaysBetween [] c one d other e) rest)
place_of total (Apply b name c arguments d) rest = place_from total (spelled (Apply [] name c arguments d) rest)

abbrev pub is_number : Syntax → Bool
is_number (syntax.Operand (leaf.Number n)) = true
is_number _ = false

-- Where an operand has another sort than is taken, neither what takes it fits nor, unless it is a number, the operand.
abbrev pub clash_of : ℕ → ℕ → Option Sort → Syntax → List ℕ
clash_of taker place taken tree = if has_sort taken tree then [] else (if is_number tree then taker ∷ [] else taker ∷ place ∷ [])

-- The places that don't fit in an operand, in a text of so many bytes and with a rest after it: what stands at `taker` takes it
-- at a sort, or at any. A call takes each of a list of arguments.
abbrev pub misfits_of : List (List ℕ) → ℕ → ℕ → Option Sort → Form → List ℕ → List ℕ
misfits_of days total taker taken (Number b digits decimals) rest =
    clash_of taker (place_of total (Number b digits decimals) rest) taken (tree_of days (Number b digits decimals))
misfits_of days total taker taken (Item b form word) rest =
    clash_of taker (place_of total (Item b form word) rest) taken (tree_of days (Item b form word))
misfits_of days total taker taken (Bracket b inner c) rest = misfits_of days total taker taken inner (symbol_text c symbol.Close rest)
misfits_of days total taker taken (Power atom b c digits) rest =
    let at = place_of total (Power atom b c digits) rest in
    clash_of taker at taken (tree_of days (Power atom b c digits))
    ++ misfits_of days total at (Some sort.Number) atom (symbol_text b symbol.Caret (after_blanks c digits rest))
misfits_of days total taker taken (Sign b sign operand) rest =
    let at = place_of total (Sign b sign operand) rest in
    clash_of taker at taken (tree_of days (Sign b sign operand)) ++ misfits_of days total at (Some (taken_signed (sign_of sign))) operand rest
misfits_of days total taker taken (Chain left b operator right) rest =
    let at = place_of total (Chain left b operator right) rest in
    clash_of taker at taken (tree_of days (Chain left b operator right))
    ++ (misfits_of days total at (Some (taken_between (operator_of operator))) left (symbol_text b (symbol.Operator operator) (spelled right rest))
    ++ misfits_of days total at (Some (taken_between (operator_of operator))) right rest)
misfits_of days total taker taken (Arguments first b last) rest =
    misfits_of days total taker (Some sort.Number) first (symbol_text b symbol.Comma (spelled last rest))
    ++ misfits_of days total taker (Some sort.Number) last rest
misfits_of days total taker taken (If b c test d one e other f) rest =
    let at = place_of total (If b c test d one e other f) rest in
    let third = spelled other (symbol_text f symbol.Close rest) in
    clash_of taker at taken (tree_of days (If b c test d one e other f))
    ++ (misfits_of days total at (Some sort.Truth) test (symbol_text d symbol.Comma (spelled one (symbol_text e symbol.Comma third)))
    ++ (misfits_of days total at (Some sort.Number) one (symbol_text e symbol.Comma third)
    ++ misfits_of days total at (Some sort.Number) other (symbol_text f symbol.Close rest)))
misfits_of days total taker taken (Condition b c d test e f one g other h) rest =
    let at = place_of total (Condition b c d test e f one g other h) rest in
    let third = spelled other (symbol_text h symbol.Close rest) in
    let second = spelled one (symbol_text g symbol.Comma third) in
    clash_of taker at taken (tree_of days (Condition b c d test e f one g other h))
    ++ (misfits_of days total at (Some sort.Truth) test (symbol_text e symbol.Quote (symbol_text f symbol.Comma second))
    ++ (misfits_of days total at (Some sort.Number) one (symbol_text g symbol.Comma third)
    ++ misfits_of days total at (Some sort.Number) other (symbol_text h symbol.Close rest)))
misfits_of days total taker taken (DaysBetween b c one d other e) rest =
    let at = place_of total (DaysBetween b c one d other e) rest in
    clash_of taker at taken (tree_of days (DaysBetween b c one d other e))
    ++ (misfits_of days total at (Some sort.Day) one (symbol_text d symbol.Comma (spelled other (symbol_text e symbol.Close rest)))
    ++ misfits_of days total at (Some sort.Day) other (symbol_text e symbol.Close rest))
misfits_of days total taker taken (Apply b name c arguments d) rest =
    let at = place_of total (Apply b name c arguments d) rest in
    clash_of taker at taken (tree_of days (Apply b name c arguments d))
    ++ misfits_of days total at (taken_called (function_of name)) arguments (symbol_text d symbol.Close rest)

-- the least of places
abbrev pub least_of : List ℕ → Option ℕ
least_of [] = None
least_of (place ∷ places) = first_of_two (Some place) (least_of places)

-- the first place that doesn't fit in a whole text, which has to have a sort or may have any
abbrev pub first_misfit : List (List ℕ) → Option Sort → List ℕ → Form → List ℕ → Option ℕ
first_misfit days wanted text form blanks =
    least_of (misfits_of days (length text) (place_of (length text) form blanks) wanted form blanks)
