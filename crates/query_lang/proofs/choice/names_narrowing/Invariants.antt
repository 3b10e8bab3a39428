use Rattle.std.proofs.Common.{◌≡◌, take, false}
use Rattle.std.specs.List.{list_any}
use Rattle.query_lang.specs.Parts.{is_narrowing}
use Rattle.query_lang.proofs.choice.names_narrowing.Given as goal

abbrev pub invariant-loop-part : goal.invariant-loop-part
invariant-loop-part l = list_any is_narrowing (take l.part-index l.parts) ≡ false
