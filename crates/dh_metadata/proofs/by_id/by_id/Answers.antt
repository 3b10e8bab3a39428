use Rattle.std.proofs.Common.{◌≡◌, ◌∙◌, ◌+◌, ◌∷◌, [], drop, map, sym, ap, rules}
use Rattle.std.proofs.lemmas.List.{drop_more, drop_all}
use Rattle.dh_metadata.specs.declared.records.DataSet.{DataSet}
use Rattle.dh_metadata.specs.Sets.{put_by_id, set_ids, by_id}
use Rattle.dh_metadata.proofs.by_id.by_id.Goals as goal

pub loop-set-preserved : goal.loop-set-preserved
loop-set-preserved c =
    let sets = c.args.sets.now in
    let rest = drop (c.loop-set.set-index + 1) sets in (
      ap (λ n. n + 1) c.loop-set.invariant.0,
      c.loop-set.invariant.1
          ∙ ap (λ left. put_by_id c.loop-set.map.entries c.loop-set.number (set_ids left))
          (drop_more sets c.loop-set.set-index c.set-item.result c.loop-set-test.true)
          ∙ ap (λ (set : DataSet). put_by_id c.loop-set.map.entries c.loop-set.number (set_ids (set ∷ rest))) (sym c.set-item.is)
          ∙ ap (λ entries. put_by_id entries (c.loop-set.number + 1) (set_ids rest)) (sym c.in_ok-insert.ensures.entries),
    )

pub returns : goal.returns
unfolding by_id
returns c =
    let held : put_by_id [] 0 (set_ids c.args.sets.now) ≡ c.loop-set.map.entries =
    c.loop-set.invariant.1
    ∙ ap (λ left. put_by_id c.loop-set.map.entries c.loop-set.number (set_ids left)) (drop_all c.loop-set.set-index c.args.sets.now c.loop-set-test.false) in
    let all : c.in_ok-collect.field-0.items ≡ map (λ entry. entry.1) c.loop-set.map.entries = search rules in
    all ∙ ap (map (λ entry. entry.1)) (sym held)
