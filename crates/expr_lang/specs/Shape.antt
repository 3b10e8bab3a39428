-- Trees as they lie in memory, as plain data. `Branches.antt` says how, and `Stored.antt` which tree such a one is.
use Rattle.expr_lang.specs.declared.tree.Leaf.{Leaf}
use Rattle.expr_lang.specs.declared.tree.Unary.{Unary}
use Rattle.expr_lang.specs.declared.tree.Binary.{Binary}

-- an expression as a tree, without where it lies in memory
pub data Shape : Type 0 where
  Operand : Leaf → Shape
  One : Unary → Shape → Shape
  Two : Binary → Shape → Shape → Shape
  Choice : Shape → Shape → Shape → Shape
