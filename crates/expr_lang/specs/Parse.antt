-- The expression that a text is, or the first fault.
use Rattle.std.specs.Prelude.{◌≡◌, ℕ, List, length, take, Option, Some, None, Result, Ok, Err, nat_le, nat_lt, if◌then◌else◌}
use Rattle.expr_lang.specs.declared.tree.Place.{Place}
use Rattle.expr_lang.specs.declared.tree.Sort.{Sort}
use Rattle.expr_lang.specs.declared.reading.Nodes.{Nodes}
use Rattle.expr_lang.specs.declared.survey.Known.{Known}
use Rattle.expr_lang.specs.declared.fault.ExprFault.{ExprFault}
use Rattle.expr_lang.specs.declared.fault.ExprFault.TheVariants as fault
use Rattle.expr_lang.specs.Reading.{read_text}
use Rattle.expr_lang.specs.Survey.{survey_of, misfit_of}

-- a text that goes on after 4,096 bytes is at fault there, if not before
abbrev pub cut_short : Result Nodes ℕ → Result Nodes ℕ
cut_short (Ok nodes) = Err 4096
cut_short (Err at) = Err at

unfoldable pub nodes_of_text : Place → List ℕ → Result Nodes ℕ
nodes_of_text place text = if nat_le (length text) 4096 then read_text place text else cut_short (read_text place (take 4096 text))

abbrev pub sorts_judged : Option ℕ → Nodes → Result Nodes ExprFault
sorts_judged (Some at) nodes = Err (fault.Sort at)
sorts_judged None nodes = Ok nodes

abbrev pub brackets_judged : Option ℕ → Option ℕ → Nodes → Result Nodes ExprFault
brackets_judged (Some at) misfit nodes = Err (fault.TooDeep at)
brackets_judged None misfit nodes = sorts_judged misfit nodes

-- first the depth, and then the sorts
abbrev pub judged : Known → Option Sort → Nodes → Result Nodes ExprFault
judged known wanted nodes =
    if nat_lt 512 known.depth then Err (fault.TooDeep 0) else brackets_judged nodes.crowded (misfit_of known wanted) nodes

abbrev pub judged_text : List ℕ → List (List ℕ) → Option Sort → Result Nodes ℕ → Result Nodes ExprFault
judged_text text days wanted (Err at) = Err (fault.Syntax at)
judged_text text days wanted (Ok nodes) = judged (survey_of text days nodes.nodes) wanted nodes

-- the nodes of the tree of a text, which has to have a sort or may have any
unfoldable pub accepted : Place → List (List ℕ) → Option Sort → List ℕ → Result Nodes ExprFault
accepted place days wanted text = judged_text text days wanted (nodes_of_text place text)

-- what a function returned, seen by view, is what is accepted, unless memory ran out
abbrev pub Accepts : {X : Type 0} → (X → Nodes → Type 0) → Result X ExprFault → Result Nodes ExprFault → Type 0
Accepts Is (Ok x) (Ok nodes) = Is x nodes
Accepts Is (Ok x) (Err f) = ⊥
Accepts Is (Err fault.Memory) answer = Unit {0}
Accepts Is (Err f) answer = answer ≡ Err f
