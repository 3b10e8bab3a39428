-- The parts of a postfix form, as they are put one after another.
use Rattle.std.specs.Prelude.{ℕ, Bool, true, false, List, [], ◌∷◌}
use Rattle.expr_lang.specs.declared.tree.Item.{Item}
use Rattle.expr_lang.specs.declared.tree.Unary.{Unary}
use Rattle.expr_lang.specs.declared.tree.Unary.TheVariants as unary
use Rattle.expr_lang.specs.declared.tree.Binary.{Binary}
use Rattle.expr_lang.specs.declared.tree.Binary.TheVariants as binary
use Rattle.expr_lang.specs.Shape.{Shape}
use Rattle.expr_eval.specs.declared.code.Instr.{Instr}
use Rattle.expr_eval.specs.declared.code.Instr.TheVariants as instr
use Rattle.expr_eval.specs.Meaning.{zero_fraction}
use Rattle.expr_eval.specs.Code.{asked_code, first_code, argument_count}

-- whether a call's operand is the list of its arguments
abbrev pub takes_list : Unary → Bool
takes_list unary.Greatest = true
takes_list unary.Least = true
takes_list _ = false

abbrev pub is_list : Binary → Bool
is_list binary.Comma = true
is_list _ = false

-- a call under which no item counts as missing
abbrev pub hidden_code : (Item → ℕ) → Unary → Shape → List Instr
hidden_code index unary.IsNull operand = asked_code index false operand
hidden_code index unary.FirstNonNull operand = instr.Number zero_fraction ∷ first_code index operand
hidden_code index _ operand = asked_code index true operand

-- what is done to the value or the list that was put
abbrev pub operator_code : Unary → Shape → Instr
operator_code unary.Greatest operand = instr.Greatest (argument_count operand)
operator_code unary.Least operand = instr.Least (argument_count operand)
operator_code operator operand = instr.Unary operator

-- the room for a jump between two operands
abbrev pub room_of : Binary → List Instr
room_of binary.And = instr.And 0 ∷ []
room_of binary.Or = instr.Or 0 ∷ []
room_of _ = []
