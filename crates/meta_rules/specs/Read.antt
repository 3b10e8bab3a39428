-- Whether a text is an expression whose objects are there.
use Rattle.std.specs.Prelude.{ℕ, Bool, cond, List, [], ◌∷◌, Option, None, Some, Result, Ok, Err}
use Rattle.expr_lang.specs.declared.tree.Item.{Item}
use Rattle.expr_lang.specs.declared.tree.Place.{Place}
use Rattle.expr_lang.specs.declared.tree.Sort.{Sort}
use Rattle.expr_lang.specs.declared.fault.ExprFault.{ExprFault}
use Rattle.expr_lang.specs.declared.fault.ExprFault.TheVariants as syntax_fault
use Rattle.expr_lang.specs.declared.tree.Leaf.TheVariants as leaf
use Rattle.expr_lang.specs.Expression.{Expression}
use Rattle.expr_lang.specs.Syntax.{Operand}
use Rattle.meta_rules.specs.Names.{KindIds, is_missing}

-- What texts mean: in a place, where items of these identifiers are days, and an expression of a sort is wanted or one of any.
abbrev pub Meaning : Type 0
Meaning = Place → List (List ℕ) → Option Sort → List ℕ → Result Expression ExprFault

-- the byte that a fault of the language names
abbrev pub byte_of : ExprFault → ℕ
byte_of (syntax_fault.Syntax at) = at
byte_of (syntax_fault.TooDeep at) = at
byte_of (syntax_fault.Sort at) = at
byte_of syntax_fault.Memory = 0

-- the place of the first item that passes a test
abbrev pub missing_place : (Item → Bool) → List Item → List ℕ → Option ℕ
missing_place test [] places = None
missing_place test (item ∷ items) [] = None
missing_place test (item ∷ items) (place ∷ places) = cond (test item) (Some place) (missing_place test items places)

-- where a text is wrong that means this
abbrev pub wrong_at : KindIds → Result Expression ExprFault → Option ℕ
wrong_at ids (Err fault) = Some (byte_of fault)
wrong_at ids (Ok expression) = missing_place (is_missing ids) expression.items expression.places

-- the byte at which a text isn't an expression of this place and sort, or at which it names an object that isn't there
unfoldable pub unread_at : Meaning → KindIds → List (List ℕ) → Place → Sort → List ℕ → Option ℕ
unread_at meaning ids days place wanted text = wrong_at ids (meaning place days (Some wanted) text)

-- the number 0 if nothing is read
abbrev pub read_or_zero : Result Expression ExprFault → Expression
read_or_zero (Ok expression) = expression
read_or_zero (Err fault) = record { tree = Operand (leaf.Number 0); items = []; places = [] }

-- the expression that a text is
unfoldable pub expr_in : Meaning → List (List ℕ) → Place → Sort → List ℕ → Expression
expr_in meaning days place wanted text = read_or_zero (meaning place days (Some wanted) text)
