-- What is meant by a text, by the grammar alone.
use Rattle.std.specs.Prelude.{◌≡◌, ℕ, ◌≤◌, Bool, true, false, ◌&&◌, List, length, Option, Some, Result, Ok, Err, nat_lt, if◌then◌else◌}
use Rattle.expr_lang.specs.declared.tree.Place.{Place}
use Rattle.expr_lang.specs.declared.tree.Sort.{Sort}
use Rattle.expr_lang.specs.Expression.{Expression}
use Rattle.expr_lang.specs.declared.fault.ExprFault.{ExprFault}
use Rattle.expr_lang.specs.declared.fault.ExprFault.TheVariants as fault
use Rattle.expr_lang.specs.Syntax.{Syntax}
use Rattle.expr_grammar.specs.Brackets.{crowded_bracket}
use Rattle.expr_grammar.specs.Fewest.{open_of}
use Rattle.expr_grammar.specs.Grammar.{Form, IsTextOf, tree_of}
use Rattle.expr_grammar.specs.Misfits.{first_misfit}
use Rattle.expr_grammar.specs.Sorts.{depth_of, has_sort, sorts_fit}

-- a text of the grammar, and of at most 4,096 bytes
abbrev pub IsWritten : Place → List ℕ → Form → Type 0
IsWritten place text form = IsTextOf place text form × (length text ≤ 4096)

-- at most 64 brackets open at once, and a tree of a depth of at most 512
abbrev pub IsFlat : List (List ℕ) → Form → Type 0
IsFlat days form = (open_of form ≤ 64) × (depth_of (tree_of days form) ≤ 512)

-- A text whose tree is too deep is so from its first byte on; else its first bracket inside 64 others is too deep.
abbrev pub deep_place : List (List ℕ) → List ℕ → Form → Option ℕ
deep_place days text form = if nat_lt 512 (depth_of (tree_of days form)) then Some 0 else crowded_bracket text

abbrev pub is_sorted : Option Sort → Syntax → Bool
is_sorted wanted tree = has_sort wanted tree && sorts_fit tree

-- An answer is the tree of a form of the text that is flat and whose sorts fit. A fault of syntax says that the text has no
-- form, one of depth or of sorts that it has a form, which is the first of these that fails, and where.
abbrev pub AnswersBy : Place → List (List ℕ) → Option Sort → List ℕ → Result Expression ExprFault → Type 0
AnswersBy place days wanted text (Ok expr) =
    (form : Form) × IsWritten place text form × IsFlat days form × (is_sorted wanted (tree_of days form) ≡ true) × (tree_of days form ≡ expr.tree)
AnswersBy place days wanted text (Err (fault.Syntax at)) = (form : Form) → ¬ (IsWritten place text form)
AnswersBy place days wanted text (Err (fault.TooDeep at)) =
    (form : Form) × IsWritten place text form × (¬ (IsFlat days form)) × (deep_place days text form ≡ Some at)
AnswersBy place days wanted text (Err (fault.Sort at)) =
    (form : Form) × (is : IsWritten place text form) × IsFlat days form × (is_sorted wanted (tree_of days form) ≡ false)
    × (first_misfit days wanted text form is.0.1 ≡ Some at)
AnswersBy place days wanted text (Err fault.Memory) = ⊥
