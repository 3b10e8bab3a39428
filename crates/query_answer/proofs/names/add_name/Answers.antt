use Rattle.std.proofs.Common.{◌≡◌, ◌∙◌, [], ◌∷◌, ◌++◌, map, ap, rules, string_bytes}
use Rattle.std.proofs.lemmas.List.{map_push}
use Rattle.serde_json.specs.Data.{string}
use Rattle.serde_json.specs.View.{view}
use Rattle.serde_json.specs.declared.value.Value.{the_lemmas}
use Rattle.serde_json.specs.declared.value.Value.TheVariants as value
use Rattle.query_answer.proofs.names.add_name.Goals as goal

pub returns-clause-id : goal.returns-clause-id
returns-clause-id c =
    let before = c.args.ids.now.items in
    let text = value.String c.in_ok-key.key in
    let is : view text ≡ string (string_bytes c.in_ok-key.key) = search (rules, the_lemmas) in
    ap (map view) c.in_ok-push.ensures.items ∙ map_push view before text
    ∙ ap (λ last. map view before ++ last ∷ []) (is ∙ ap string c.in_ok-key.ensures.lossy)
