use Rattle.std.proofs.Common.{◌∙◌, ◌∷◌, [], ◌++◌, ap, sym, ◌≡◌, append-nil, length, arith}
use Rattle.std.proofs.lemmas.List.{append_assoc, length-map, nil_from_length}
use Rattle.std.specs.Vec.Iter.{into_iter_items}
use Rattle.std.specs.List.{filter}
use Rattle.table_sums.specs.YearParts.{cut_by}
use Rattle.table_sums.proofs.by_year.lists_by_year.Goals as goal

pub loop-member-preserved : goal.loop-member-preserved
loop-member-preserved g c =
    let before = c.loop-member.invariant.0 in
    let member = c.in-Some.member in
    let rest = into_iter_items c.next.new.self in (
      before ++ member ∷ [],
      c.loop-member.invariant.1 ∙ ap (λ l. before ++ l) c.in-Some.ensures.steps.0 ∙ sym (append_assoc before (member ∷ []) rest),
      c.in_ok-put.ensures before c.loop-member.invariant.2,
    )

pub put-requires-clause-lists : goal.put-requires-clause-lists
put-requires-clause-lists g c = ap length c.loop-member.invariant.2 ∙ length-map c.args.years.now (λ year. filter (g.T.Dated.is_in year) c.loop-member.invariant.0)

pub loop-member-init : goal.loop-member-init
loop-member-init g c = ([], sym c.into_iter-member-iterator.ensures.into_iter_gives.0, c.in_ok-lists.ensures)

pub returns : goal.returns
returns g c =
    let before = c.loop-member.invariant.0 in
    let left = into_iter_items c.loop-member.member-iterator in
    let empty : length left ≡ 0 = omega (arith, c.loop-member.member-iterator.rest.ok.0, c.in-None.ensures.steps.0) in
    let none = nil_from_length left empty in
    c.loop-member.invariant.2
    ∙ ap (cut_by g.T.Dated.is_in c.args.years.now)
    (sym (c.loop-member.invariant.1 ∙ ap (λ l. before ++ l) none ∙ append-nil before))
