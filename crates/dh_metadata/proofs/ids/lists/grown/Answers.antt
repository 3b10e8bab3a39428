use Rattle.std.proofs.Common.{◌≡◌, ◌∙◌, ℕ, ◌+◌, ◌<◌, ◌≤◌, List, [], ◌∷◌, ◌++◌, length, get_or, take, map, sym, ap, append_assoc, arith}
use Rattle.std.proofs.lemmas.List.{take_all, map_more}
use Rattle.dh_metadata.proofs.ids.lists.grown.Goals as goal

-- what one more object adds
added-more : {X Y : Type 0} (f : X → Y) (xs : List X) (start built all more : List Y) (i : ℕ) (x : X) (y : Y) → i < length xs → x ≡ get_or xs i x
    → all ≡ start ++ (built ++ map f (take i xs)) → more ≡ all ++ y ∷ [] → y ≡ f x → more ≡ start ++ (built ++ map f (take (i + 1) xs))
added-more f xs start built all more i x y within at before is made =
    let last : List _ = f (get_or xs i x) ∷ [] in
    let apart : (start ++ (built ++ map f (take i xs))) ++ last ≡ start ++ (built ++ (map f (take i xs) ++ last)) = simp append_assoc in
    is
    ∙ ap (λ v. all ++ v ∷ []) (made ∙ ap f at)
    ∙ ap (λ l. l ++ last) before
    ∙ apart
    ∙ ap (λ l. start ++ (built ++ l)) (sym (map_more f xs i x within))

pub loop-object-preserved : goal.loop-object-preserved
loop-object-preserved g c =
    added-more g.T.HasId.id_of c.args.objects.now c.args.ids.items c.args.built_in.now c.loop-object.all.items c.push.new.self.items
    c.loop-object.object-index c.object-item.result c.id.result c.loop-object-test.true c.object-item.is c.loop-object.invariant
    c.in_ok-push.ensures.items c.id.ensures

pub returns : goal.returns
returns g c =
    let past = c.loop-object-test.false in
    let end : length c.args.objects.now ≤ c.loop-object.object-index = omega arith in
    c.loop-object.invariant
    ∙ ap (λ objects. c.args.ids.items ++ (c.args.built_in.now ++ map g.T.HasId.id_of objects)) (take_all c.loop-object.object-index c.args.objects.now end)
