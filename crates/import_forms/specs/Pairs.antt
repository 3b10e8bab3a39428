-- Attributes and data elements with their values: `attribute` or `dataElement`, and `value`.
use Rattle.std.specs.Prelude.{ℕ, List, map, codes, Ok}
use Rattle.serde_json.specs.Data.{Data}
use Rattle.json_read.specs.Forms.{Formed, and_then, object_of}
use Rattle.import_forms.specs.Texts.{text_in, written_in}
use Rattle.import_forms.specs.declared.pair.Pair.{Pair}
use Rattle.import_forms.specs.declared.pair.AttributePair.{AttributePair}
use Rattle.import_forms.specs.declared.pair.ValuePair.{ValuePair}
use Rattle.import_forms.specs.Lists.{list_at}

-- what stands under the key of the item, and the value
unfoldable pub pair_of : List ℕ → Data → Pair
pair_of key json = record { item = text_in key json; value = written_in (codes "value") json }

abbrev pub attribute_form : Data → Formed AttributePair
attribute_form = object_of (λ json. Ok (record { pair = pair_of (codes "attribute") json }))

abbrev pub value_form : Data → Formed ValuePair
value_form = object_of (λ json. Ok (record { pair = pair_of (codes "dataElement") json }))

-- the attributes of an object
unfoldable pub attributes_of : Data → Formed (List Pair)
attributes_of json = and_then (list_at (codes "attributes") attribute_form json) (λ found. Ok (map (λ each. each.pair) found))

-- the data values of an event
unfoldable pub values_of : Data → Formed (List Pair)
values_of json = and_then (list_at (codes "dataValues") value_form json) (λ found. Ok (map (λ each. each.pair) found))
