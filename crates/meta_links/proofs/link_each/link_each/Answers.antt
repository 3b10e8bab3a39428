use Rattle.std.proofs.Common.{◌∙◌, ◌≤◌, [], ◌∷◌, ◌++◌, length, map, take, sym, ap, arith, append_assoc}
use Rattle.std.specs.List.{flat_map}
use Rattle.std.proofs.lemmas.List.{map_more, drop_all, take_all}
use Rattle.meta_links.specs.Told.{after}
use Rattle.meta_links.proofs.Walk.{after_none, flat_more}
use Rattle.meta_links.proofs.link_each.link_each.Goals as goal

pub loop-object-preserved : goal.loop-object-preserved
loop-object-preserved g c =
    let held = g.T.Link.held c.args.ids.now in
    let done = take c.loop-object.object-index c.args.objects.now in
    record {
      all = c.in_ok-push.ensures.items ∙ ap (λ all. all ++ c.in_ok-link.field-0 ∷ []) c.loop-object.invariant.all
          ∙ append_assoc c.args.built_in.items (map held done) (c.in_ok-link.field-0 ∷ [])
          ∙ ap (λ n. c.args.built_in.items ++ (map held done ++ n ∷ [])) c.in_ok-link.ensures.held
          ∙ ap (λ more. c.args.built_in.items ++ more)
          (sym (map_more held c.args.objects.now c.loop-object.object-index c.object-item.result c.loop-object-test.true
          ∙ ap (λ y. map held done ++ held y ∷ []) (sym c.object-item.is)));
      rest = flat_more c.args.ids.now g.T.Link.references c.args.objects.now c.loop-object.object-index c.object-item.result _ c.loop-object.unknown _
          c.loop-object-test.true c.object-item.is c.loop-object.invariant.rest c.in_ok-link.ensures.told;
    }

pub returns-clause-told : goal.returns-clause-told
returns-clause-told g c =
    let past = c.loop-object-test.false in
    let end : length c.args.objects.now ≤ c.loop-object.object-index = omega arith in
    sym (c.loop-object.invariant.rest
    ∙ ap (λ l. after c.args.ids.now c.loop-object.unknown (flat_map g.T.Link.references l)) (drop_all c.loop-object.object-index c.args.objects.now end)
    ∙ after_none c.args.ids.now c.loop-object.unknown)

pub returns-clause-held : goal.returns-clause-held
returns-clause-held g c =
    c.from.ensures ∙ c.loop-object.invariant.all
    ∙ ap (λ l. c.args.built_in.items ++ map (g.T.Link.held c.args.ids.now) l)
    (take_all c.loop-object.object-index c.args.objects.now c.loop-object-test.false)
