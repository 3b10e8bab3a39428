use Rattle.std.proofs.Common.{◌≡◌, ℕ, List, map, subst, sym, ap, ◌∙◌}
use Rattle.std.proofs.lemmas.Result.{IfOk-weaker}
use Rattle.org_tree.specs.declared.kin.Kin.{Kin}
use Rattle.org_tree.specs.Families.{InFamilies}
use Rattle.org_tree.proofs.SortLemmas.{InFamilies-from_sort}
use Rattle.org_tree.proofs.families.families.Goals as goal

pub returns : goal.returns
returns c =
    let us = c.args.units.now in
    let place : Kin → ℕ = λ row. row.place in
    let sorted : InFamilies us (map place c.sort.new.self.items) =
    InFamilies-from_sort us c.requires.tree c.in_ok-rows.rows.items c.sort.new.self.items c.in_ok-rows.ensures c.in_ok-sort.ensures.permutation
    c.in_ok-sort.ensures.sorted in
    IfOk-weaker c.places.result (λ kin. kin.items ≡ map place c.deref.result.now) (λ kin. InFamilies us kin.items)
    (λ kin is. subst (λ (v : List ℕ). InFamilies us v) (sym (is ∙ ap (map place) c.deref.ensures.value)) sorted)
    c.places.ensures
