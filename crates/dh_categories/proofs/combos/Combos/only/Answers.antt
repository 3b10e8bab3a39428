use Rattle.std.proofs.Common.{◌<◌, ℕ, List, length, sym, ap, ◌∙◌, arith}
use Rattle.std.proofs.lemmas.List.{get_or_default}
use Rattle.dh_categories.specs.Combos.{only_of}
use Rattle.dh_categories.specs.declared.single.Single.TheVariants.{Absent}
use Rattle.dh_categories.proofs.ComboLemmas.{only_at, only_past, single_of}
use Rattle.dh_categories.proofs.combos.Combos.only.Goals as goal

pub returns-then-combo-len : goal.returns-then-combo-len
returns-then-combo-len c =
    sym (ap (λ (v : List (ℕ × List ℕ)). only_of v c.args.combo) (sym c.self.view_is)
    ∙ only_past c.self.inside.option_combos.items (length c.self.inside.singles.items) c.args.combo c.self.invariant.below
    (let e = c.if-combo-len.true in let f = c.len.ensures in let g = c.self.inside.singles.ok.0 in omega arith))

pub returns-in-At : goal.returns-in-At
returns-in-At c =
    let singles = c.self.inside.singles.items in
    let inside : c.args.combo < length singles = let e = c.if-combo-len.false in let f = c.len.ensures in let g = c.self.inside.singles.ok.0 in omega arith in
    sym (ap (λ (v : List (ℕ × List ℕ)). only_of v c.args.combo) (sym c.self.view_is)
    ∙ only_at c.self.inside.option_combos.items (length singles) c.args.combo singles c.index.result.now c.self.invariant.singles inside
    (c.index.ensures ∙ get_or_default singles c.args.combo c.index.result.now Absent inside)
    ∙ ap single_of c.in-At.is)

pub returns-in-Several : goal.returns-in-Several
returns-in-Several c =
    let singles = c.self.inside.singles.items in
    let inside : c.args.combo < length singles = let e = c.if-combo-len.false in let f = c.len.ensures in let g = c.self.inside.singles.ok.0 in omega arith in
    sym (ap (λ (v : List (ℕ × List ℕ)). only_of v c.args.combo) (sym c.self.view_is)
    ∙ only_at c.self.inside.option_combos.items (length singles) c.args.combo singles c.index.result.now c.self.invariant.singles inside
    (c.index.ensures ∙ get_or_default singles c.args.combo c.index.result.now Absent inside)
    ∙ ap single_of c.in-Several.is)
