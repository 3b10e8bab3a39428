use Rattle.std.proofs.Common.{◌≡◌, ◌∙◌, ◌++◌, ℕ, List, Option, Vec, Global, sym, ap}
use Rattle.std.proofs.lemmas.List.{append-nil}
use Rattle.std.specs.Option.{option_to_list}
use Rattle.query_lang.specs.Parts.{level_in}
use Rattle.query_lang.proofs.LoopLemmas.{picked-more, picked-all}
use Rattle.query_lang.proofs.parts.levels_of.Goals.{in-Some+in_ok-push, in_default}
use Rattle.query_lang.proofs.parts.levels_of.Goals as goal

pub loop-part-preserved : goal.loop-part-preserved
loop-part-preserved c =
    let level : Option ℕ = c.level.result in
    let items : Vec ℕ Global → List ℕ = λ v. v.items in
    let put : c.match-level.levels.items ≡ c.loop-part.levels.items ++ option_to_list level = elim c.match-level.branch [
      | in-Some+in_ok-push w ↦
          ap items w.levels-is ∙ w.in_ok-push.ensures.items ∙ ap (λ o. c.loop-part.levels.items ++ option_to_list o) (sym w.in-Some.is)
      | in_default w ↦
          ap items w.levels-is ∙ sym (append-nil c.loop-part.levels.items)
          ∙ ap (λ (o : Option ℕ). c.loop-part.levels.items ++ option_to_list o) (sym w.in_default.is)
    ] in
    picked-more level_in c.args.parts.now c.loop-part.levels.items c.match-level.levels.items c.loop-part.part-index _ level _
    c.loop-part-test.true c.level.ensures put c.loop-part.invariant

pub returns : goal.returns
unfolding Rattle.query_lang.specs.Parts.levels_of
returns c =
    picked-all level_in c.args.parts.now c.loop-part.levels.items c.loop-part.part-index c.loop-part-test.false c.loop-part.invariant
