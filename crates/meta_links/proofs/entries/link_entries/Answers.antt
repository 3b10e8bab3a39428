use Rattle.std.proofs.Common.{◌∙◌, ◌+◌, ◌≤◌, [], ◌∷◌, ◌++◌, length, map, take, refl, sym, ap, arith}
use Rattle.std.proofs.lemmas.List.{map_more, drop_all, take_all}
use Rattle.meta_links.specs.Reference.{each}
use Rattle.meta_links.specs.Told.{after}
use Rattle.meta_links.proofs.Walk.{after_none, each_more}
use Rattle.meta_links.proofs.entries.link_entries.Goals as goal

pub loop-entry-preserved : goal.loop-entry-preserved
loop-entry-preserved g c =
    let held = g.E.Entries.held c.args.ids.now c.args.list.now in
    let done = take c.loop-entry.entry-index c.args.entries.now in
    record {
      place = ap (λ n. n + 1) c.loop-entry.invariant.place;
      all = c.in_ok-push.ensures.items ∙ ap (λ all. all ++ c.in_ok-link_entry.field-0 ∷ []) c.loop-entry.invariant.all
          ∙ ap (λ n. map held done ++ n ∷ []) c.in_ok-link_entry.ensures.held
          ∙ sym (map_more held c.args.entries.now c.loop-entry.entry-index c.entry-item.result c.loop-entry-test.true
          ∙ ap (λ y. map held done ++ held y ∷ []) (sym c.entry-item.is));
      rest = each_more c.args.ids.now (g.E.Entries.references c.args.list.now) c.loop-entry.place c.args.entries.now c.loop-entry.entry-index
          c.entry-item.result _ c.loop-entry.unknown _ c.loop-entry-test.true c.entry-item.is c.loop-entry.invariant.rest c.in_ok-link_entry.ensures.told;
    }

pub returns-clause-told : goal.returns-clause-told
returns-clause-told g c =
    let past = c.loop-entry-test.false in
    let end : length c.args.entries.now ≤ c.loop-entry.entry-index = omega arith in
    sym (c.loop-entry.invariant.rest
    ∙ ap (λ l. after c.args.ids.now c.loop-entry.unknown (each (g.E.Entries.references c.args.list.now) c.loop-entry.place l))
    (drop_all c.loop-entry.entry-index c.args.entries.now end)
    ∙ after_none c.args.ids.now c.loop-entry.unknown)

pub returns-clause-held : goal.returns-clause-held
returns-clause-held g c =
    c.from.ensures ∙ c.loop-entry.invariant.all
    ∙ ap (map (g.E.Entries.held c.args.ids.now c.args.list.now)) (take_all c.loop-entry.entry-index c.args.entries.now c.loop-entry-test.false)

pub loop-entry-init : goal.loop-entry-init
loop-entry-init g c = record { place = refl; all = c.new-all.ensures.items; rest = refl }
