use Rattle.std.proofs.Common.{◌≡◌, take, true}
use Rattle.std.specs.List.{list_all}
use Rattle.query_lang.specs.Parts.{is_narrowing}
use Rattle.query_lang.proofs.choice.only_narrows.Given as goal

abbrev pub invariant-loop-part : goal.invariant-loop-part
invariant-loop-part l = list_all is_narrowing (take l.part-index l.parts) ≡ true
