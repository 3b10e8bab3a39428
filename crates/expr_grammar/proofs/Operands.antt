-- What is known of a form as an operand: its depth, its sort, the place of its word, and the first place in it that doesn't fit.
use Rattle.std.proofs.Common.{◌≡◌, ℕ, ◌≤◌, Bool, List, refl, arith}
use Rattle.expr_lang.specs.declared.tree.Place.{Place}
use Rattle.expr_lang.specs.declared.tree.Leaf.TheVariants as leaf
use Rattle.expr_lang.specs.declared.tree.Unary.TheVariants as unary
use Rattle.expr_lang.specs.declared.tree.Binary.TheVariants as binary
use Rattle.expr_lang.specs.declared.words.Symbol.TheVariants as symbol
use Rattle.expr_lang.specs.declared.survey.Known.{Known}
use Rattle.expr_lang.specs.Item.{item_from}
use Rattle.expr_lang.specs.Leaves.{item_leaf}
use Rattle.expr_lang.specs.Survey.{leaf_known_of, unary_known_of, binary_known_of, if_known_of}
use Rattle.std.specs.Str.Parse.{digits_value}
use Rattle.expr_grammar.specs.Grammar.{Form, Number, Item, Bracket, Power, Sign, Chain, Arguments, If, Condition, DaysBetween, Apply, IsForm, after_blanks}
use Rattle.expr_grammar.specs.Grammar.{symbol_text, spelled, number_value}
use Rattle.expr_grammar.proofs.Stored.{applied}
use Rattle.expr_grammar.specs.Misfits.{place_of}

-- A list of arguments stands where its call does, at `k`.
abbrev pub known_of : List (List ℕ) → ℕ → ℕ → Form → List ℕ → Known
known_of days total k (Number b digits decimals) rest =
    leaf_known_of (place_of total (Number b digits decimals) rest) (leaf.Number (number_value digits decimals))
known_of days total k (Item b form word) rest = leaf_known_of (place_of total (Item b form word) rest) (item_leaf days (item_from form word))
known_of days total k (Bracket b inner c) rest = known_of days total 0 inner (symbol_text c symbol.Close rest)
known_of days total k (Power atom b c digits) rest =
    unary_known_of (place_of total (Power atom b c digits) rest) (unary.Power (digits_value 10 digits))
    (known_of days total 0 atom (symbol_text b symbol.Caret (after_blanks c digits rest)))
known_of days total k (Sign b sign operand) rest = unary_known_of (place_of total (Sign b sign operand) rest) sign (known_of days total 0 operand rest)
known_of days total k (Chain left b operator right) rest =
    binary_known_of (place_of total (Chain left b operator right) rest) operator
    (known_of days total 0 left (symbol_text b (symbol.Operator operator) (spelled right rest))) (known_of days total 0 right rest)
known_of days total k (Arguments first b last) rest =
    binary_known_of k binary.Comma (known_of days total k first (symbol_text b symbol.Comma (spelled last rest))) (known_of days total 0 last rest)
known_of days total k (If b c test d one e other f) rest =
    if_known_of (place_of total (If b c test d one e other f) rest)
    (known_of days total 0 test (symbol_text d symbol.Comma (spelled one (symbol_text e symbol.Comma (spelled other (symbol_text f symbol.Close rest))))))
    (known_of days total 0 one (symbol_text e symbol.Comma (spelled other (symbol_text f symbol.Close rest))))
    (known_of days total 0 other (symbol_text f symbol.Close rest))
known_of days total k (Condition b c d test e f one g other h) rest =
    if_known_of (place_of total (Condition b c d test e f one g other h) rest)
    (known_of days total 0 test (symbol_text e symbol.Quote
    (symbol_text f symbol.Comma (spelled one (symbol_text g symbol.Comma (spelled other (symbol_text h symbol.Close rest)))))))
    (known_of days total 0 one (symbol_text g symbol.Comma (spelled other (symbol_text h symbol.Close rest))))
    (known_of days total 0 other (symbol_text h symbol.Close rest))
known_of days total k (DaysBetween b c one d other e) rest =
    binary_known_of (place_of total (DaysBetween b c one d other e) rest) binary.DaysBetween
    (known_of days total 0 one (symbol_text d symbol.Comma (spelled other (symbol_text e symbol.Close rest))))
    (known_of days total 0 other (symbol_text e symbol.Close rest))
known_of days total k (Apply b name c arguments d) rest =
    unary_known_of (place_of total (Apply b name c arguments d) rest) (applied name)
    (known_of days total (place_of total (Apply b name c arguments d) rest) arguments (symbol_text d symbol.Close rest))

-- what isn't a list stands where its own word does
pub known_any : (p : Place) (q : Bool) (L : ℕ) (F : Form) → 1 ≤ L → IsForm p q L F → (days : List (List ℕ)) (total k : ℕ) (rest : List ℕ)
    → known_of days total k F rest ≡ known_of days total 0 F rest
known_any p q L (Number b digits decimals) some is days total k rest = refl
known_any p q L (Item b form word) some is days total k rest = refl
known_any p q L (Bracket b inner c) some is days total k rest = refl
known_any p q L (Power atom b c digits) some is days total k rest = refl
known_any p q L (Sign b sign operand) some is days total k rest = refl
known_any p q L (Chain left b operator right) some is days total k rest = refl
known_any p q L (Arguments first b last) some is days total k rest = absurd (omega (arith, is.0))
known_any p q L (If b c test d one e other f) some is days total k rest = refl
known_any p q L (Condition b c d test e f one g other h) some is days total k rest = refl
known_any p q L (DaysBetween b c one d other e) some is days total k rest = refl
known_any p q L (Apply b name c arguments d) some is days total k rest = refl
