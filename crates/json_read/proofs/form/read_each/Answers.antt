use Rattle.std.proofs.Common.{◌≡◌, ◌+◌, ◌∷◌, drop, sym, ap, ◌∙◌, arith}
use Rattle.std.proofs.lemmas.List.{drop_more}
use Rattle.json_read.specs.Forms.{each_of}
use Rattle.json_read.specs.Views.{items_data}
use Rattle.json_read.proofs.FormLemmas.{each-more}
use Rattle.json_read.proofs.form.read_each.Goals as goal

pub loop-value-preserved : goal.loop-value-preserved
loop-value-preserved g c =
    let l = c.loop-value in
    let xs = c.args.values.now in
    let here : drop l.value-index xs ≡ c.value-item.result ∷ drop (l.value-index + 1) xs = drop_more xs l.value-index c.value-item.result (omega arith)
    ∙ ap (λ y. y ∷ drop (l.value-index + 1) xs) (sym c.value-item.is) in
    record {
      place = ap (λ n. n + 1) l.invariant.place;
      rest =
          each-more g.T.ReadJson.form l.place l.value-index xs c.value-item.result l.all.items c.push.new.self.items c.in_ok-read_at.field-0
          (each_of g.T.ReadJson.form 0 (items_data xs)) here c.in_ok-read_at.ensures c.in_ok-push.ensures.items l.invariant.rest;
    }
