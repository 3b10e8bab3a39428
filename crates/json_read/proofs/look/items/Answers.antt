use Rattle.std.proofs.Common.{◌≡◌, Some, sym, ap, ◌∙◌}
use Rattle.json.specs.Json.{array}
use Rattle.json.specs.Value.{value_view, items_view}
use Rattle.json.proofs.Trees.{view-Array}
use Rattle.serde_json.specs.Find.{as_array}
use Rattle.json_read.specs.Meant.{meant}
use Rattle.json_read.specs.Views.{items_data}
use Rattle.json_read.proofs.LookLemmas.{items_of_list}
use Rattle.json_read.proofs.look.items.Goals as goal

pub returns-in-Array : goal.returns-in-Array
returns-in-Array c =
    let seen : value_view c.args.value.now ≡ array (items_view c.in-Array.items.items) = ap value_view c.in-Array.is ∙ view-Array c.in-Array.items in
    ap (λ vs. Some (items_data vs)) c.as_slice.ensures.value ∙ items_of_list c.in-Array.items.items ∙ sym (ap (λ j. as_array (meant j)) seen)
