-- The postfix form of an expression, and what a machine with one stack makes of it.
use Rattle.std.specs.Prelude.{◌≡◌, ℕ, zero, suc, ◌+◌, Bool, true, false, not, List, [], ◌∷◌, ◌++◌, length, take, drop, reverse, Option, Some, None}
use Rattle.std.specs.Prelude.{Result, Ok, Err, is_some, is_none, unwrap_or, min, if◌then◌else◌}
use Rattle.dh_base.specs.declared.plain.Strategy.{Strategy}
use Rattle.dh_base.specs.Fractions.{Fraction}
use Rattle.expr_lang.specs.declared.tree.Item.{Item}
use Rattle.expr_lang.specs.declared.tree.Leaf.{Leaf}
use Rattle.expr_lang.specs.declared.tree.Leaf.TheVariants as leaf
use Rattle.expr_lang.specs.declared.tree.Unary.{Unary}
use Rattle.expr_lang.specs.declared.tree.Unary.TheVariants as unary
use Rattle.expr_lang.specs.declared.tree.Binary.{Binary}
use Rattle.expr_lang.specs.declared.tree.Binary.TheVariants as binary
use Rattle.expr_lang.specs.Shape.{Shape, Operand, One, Two, Choice}
use Rattle.expr_eval.specs.declared.value.Value.{Value}
use Rattle.expr_eval.specs.declared.value.Value.TheVariants as value
use Rattle.expr_eval.specs.declared.value.Cell.{Cell}
use Rattle.expr_eval.specs.declared.value.Cell.TheVariants as cell
use Rattle.expr_eval.specs.declared.evaluation.Answer.{Answer}
use Rattle.expr_eval.specs.declared.evaluation.Answer.TheVariants as answer
use Rattle.expr_eval.specs.declared.code.Instr.{Instr}
use Rattle.expr_eval.specs.declared.code.Instr.TheVariants as instr
use Rattle.expr_eval.specs.Applied.{applied_one, applied_two}
use Rattle.expr_eval.specs.Meaning.{zero_fraction, literal_of, number_of, truth_of, chosen_of, best_of, skips, value_of_cell}
use Rattle.expr_eval.specs.Given.{entry_at}

-- ---- the form

abbrev pub asked_instr : Bool → ℕ → Instr
asked_instr true n = instr.Present n
asked_instr false n = instr.Absent n

abbrev pub leaf_code : (Item → ℕ) → Leaf → List Instr
leaf_code index (leaf.Number n) = instr.Number (literal_of n) ∷ []
leaf_code index (leaf.Item i) = instr.Load (index i) ∷ []
leaf_code index (leaf.Day i) = instr.LoadDay (index i) ∷ []

abbrev pub asked_code : (Item → ℕ) → Bool → Shape → List Instr
asked_code index wanted (Operand (leaf.Item i)) = asked_instr wanted (index i) ∷ []
asked_code index wanted (Operand (leaf.Day i)) = asked_instr wanted (index i) ∷ []
asked_code index wanted _ = instr.Truth wanted ∷ []

-- from the last of a list of items and numbers to the first
abbrev pub first_code : (Item → ℕ) → Shape → List Instr
first_code index (Two binary.Comma left right) = first_code index right ++ first_code index left
first_code index (Operand (leaf.Number n)) = instr.PreferNumber (literal_of n) ∷ []
first_code index (Operand (leaf.Item i)) = instr.Prefer (index i) ∷ []
first_code index _ = []

abbrev pub argument_count : Shape → ℕ
argument_count (Two binary.Comma left right) = argument_count left + 1
argument_count _ = 1

-- the forms of a value and of a list of arguments
pub record Codes : Type 0 where
  pub one : List Instr
  pub all : List Instr

abbrev pub same_code : List Instr → Codes
same_code code = record { one = code; all = code }

abbrev pub unary_code : (Item → ℕ) → Unary → Shape → Codes → List Instr
unary_code index unary.IsNull operand codes = asked_code index false operand
unary_code index unary.IsNotNull operand codes = asked_code index true operand
unary_code index unary.HasValue operand codes = asked_code index true operand
unary_code index unary.FirstNonNull operand codes = instr.Number zero_fraction ∷ first_code index operand
unary_code index unary.Greatest operand codes = codes.all ++ instr.Greatest (argument_count operand) ∷ []
unary_code index unary.Least operand codes = codes.all ++ instr.Least (argument_count operand) ∷ []
unary_code index operator operand codes = codes.one ++ instr.Unary operator ∷ []

abbrev pub binary_code : Binary → Codes → Codes → Codes
binary_code binary.Comma left right = record { one = instr.Number zero_fraction ∷ []; all = left.all ++ right.one }
binary_code binary.And left right = same_code (left.one ++ instr.And (length right.one) ∷ right.one)
binary_code binary.Or left right = same_code (left.one ++ instr.Or (length right.one) ∷ right.one)
binary_code operator left right = same_code (left.one ++ (right.one ++ instr.Binary operator ∷ []))

abbrev pub if_code : List Instr → List Instr → List Instr → List Instr
if_code test one other = test ++ (instr.SkipUnless (length one + 1) ∷ (one ++ (instr.GoOn (length other) ∷ other)))

abbrev pub codes_of : (Item → ℕ) → Shape → Codes
codes_of index (Operand it) = same_code (leaf_code index it)
codes_of index (One operator operand) = same_code (unary_code index operator operand (codes_of index operand))
codes_of index (Two operator left right) = binary_code operator (codes_of index left) (codes_of index right)
codes_of index (Choice test one other) = same_code (if_code (codes_of index test).one (codes_of index one).one (codes_of index other).one)

abbrev pub code_in : Bool → Codes → List Instr
code_in true codes = codes.all
code_in false codes = codes.one

-- ---- the machine

-- what comes of an instruction: a stack, and how many instructions to pass, or the end
pub data Step : Type 0 where
  Go : List Cell → ℕ → Step
  Stop : Value → Step

abbrev pub top_cell : List Cell → Cell
top_cell [] = cell.Number zero_fraction
top_cell (c ∷ cs) = c

abbrev pub under : List Cell → List Cell
under [] = []
under (c ∷ cs) = cs

abbrev pub put_on : List Cell → Result Cell Value → Step
put_on stack (Ok c) = Go (c ∷ stack) 0
put_on stack (Err v) = Stop v

abbrev pub put_day : List Cell → Option Fraction → Step
put_day stack (Some f) = Go (cell.Number f ∷ stack) 0
put_day stack None = Stop value.Missing

abbrev pub act : List (Option Fraction) → Instr → List Cell → Step
act entries (instr.Number f) stack = Go (cell.Number f ∷ stack) 0
act entries (instr.Load n) stack = Go (cell.Number (unwrap_or (entry_at entries n) zero_fraction) ∷ stack) 0
act entries (instr.LoadDay n) stack = put_day stack (entry_at entries n)
act entries (instr.Present n) stack = Go (cell.Truth (is_some (entry_at entries n)) ∷ stack) 0
act entries (instr.Absent n) stack = Go (cell.Truth (not (is_some (entry_at entries n))) ∷ stack) 0
act entries (instr.Truth b) stack = Go (cell.Truth b ∷ stack) 0
act entries (instr.PreferNumber f) stack = Go (cell.Number f ∷ under stack) 0
act entries (instr.Prefer n) stack = Go (cell.Number (unwrap_or (entry_at entries n) (number_of (top_cell stack))) ∷ under stack) 0
act entries (instr.Unary operator) stack = put_on (under stack) (applied_one operator (top_cell stack))
act entries (instr.Binary operator) stack =
    put_on (under (under stack)) (applied_two operator (number_of (top_cell (under stack))) (number_of (top_cell stack)))
act entries (instr.Greatest n) stack = put_on (drop n stack) (best_of true (reverse (take n stack)))
act entries (instr.Least n) stack = put_on (drop n stack) (best_of false (reverse (take n stack)))
act entries (instr.SkipUnless n) stack = Go (under stack) (if truth_of (top_cell stack) then 0 else n)
act entries (instr.GoOn n) stack = Go stack n
act entries (instr.And n) stack =
    if truth_of (top_cell stack) then Go (under stack) 0 else Go (cell.Truth false ∷ under stack) n
act entries (instr.Or n) stack =
    if truth_of (top_cell stack) then Go (cell.Truth true ∷ under stack) n else Go (under stack) 0

abbrev pub go_to : (ℕ → List Cell → Result (List Cell) Value) → Step → Result (List Cell) Value
go_to next (Go stack skip) = next skip stack
go_to next (Stop v) = Err v

-- runs instructions, so many of which are passed first
abbrev pub run : List (Option Fraction) → List Instr → ℕ → List Cell → Result (List Cell) Value
run entries [] skip stack = Ok stack
run entries (i ∷ code) (suc skip) stack = run entries code skip stack
run entries (i ∷ code) zero stack = go_to (run entries code) (act entries i stack)

-- the place of the next instruction after one at a place and so many that are passed
abbrev pub passed_to : ℕ → ℕ → ℕ → ℕ
passed_to at skip count = min (at + 1 + skip) count

-- the best so far, if there is one, against the next
abbrev pub next_best_of : Bool → Option Fraction → Fraction → Result Fraction Value
next_best_of greatest (Some best) next = chosen_of greatest best next
next_best_of greatest None next = Ok next

abbrev pub top_value : Result (List Cell) Value → Result Cell Value
top_value (Ok stack) = Ok (top_cell stack)
top_value (Err v) = Err v

-- what a code gives for entries under a missing-value strategy, its plain items being these
unfoldable pub outcome : Strategy → List (Option Fraction) → List Instr → List ℕ → Value
outcome s entries code plain =
    if skips s (λ n. is_none (entry_at entries n)) plain then value.Missing else value_of_cell (top_value (run entries code 0 []))

-- a stack and an answer are what comes of an instruction
abbrev pub Comes : Answer → List Cell → Step → Type 0
Comes (answer.Go skip) stack (Go stack' skip') = (stack' ≡ stack) × (skip' ≡ skip)
Comes (answer.Stop v) stack (Stop w) = w ≡ v
Comes _ stack _ = ⊥
