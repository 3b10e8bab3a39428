-- What a tree means is what `serde_json` reads of it, where each number is within range; else that refuses it.
use Rattle.std.proofs.Common.{◌≡◌, ℕ, Bool, true, false, ◌&&◌, is_some, List, Option, Some, None, option_map, option_and_then, refl, ap}
use Rattle.std.proofs.lemmas.Bool.{and_parts}
use Rattle.json.specs.Json as json
use Rattle.serde_json.specs.Data.{Data, Num, number, array, object, Items, item, Members, no_members, put}
use Rattle.serde_json.specs.Read.{number_of, of_json, of_items, of_members}
use Rattle.json_read.specs.Meant.{is_within, are_items_within, are_members_within, number_or_0, meant, items_meant, members_meant}

number_here : (s : List ℕ) (o : Option Num) → number_of s ≡ o → is_some o ≡ true → option_map number o ≡ Some (number (number_or_0 s))
number_here s (Some n) e h = rw e refl
number_here s None e h = absurd (cc)

mutual
  pub within : (j : json.Json) → is_within j ≡ true → of_json j ≡ Some (meant j)
  within json.null h = refl
  within (json.boolean b) h = refl
  within (json.number s) h = number_here s (number_of s) refl h
  within (json.string s) h = refl
  within (json.array js) h = ap (option_map array) (items_within js h)
  within (json.object ms) h = ap (option_map object) (members_within ms no_members h)

  pub items_within : (js : json.Items) → are_items_within js ≡ true → of_items js ≡ Some (items_meant js)
  items_within json.no_items h = refl
  items_within (json.item j js) h =
      let parts = and_parts (is_within j) _ h in
      rw (within j parts.0, items_within js parts.1) refl

  pub members_within : (ms : json.Members) (found : Members) → are_members_within ms ≡ true → of_members ms found ≡ Some (members_meant ms found)
  members_within json.no_members found h = refl
  members_within (json.member k j ms) found h =
      let parts = and_parts (is_within j) _ h in
      rw (within j parts.0) (members_within ms (put k (meant j) found) parts.1)

number_beyond : (o : Option Num) → is_some o ≡ false → option_map number o ≡ None
number_beyond (Some n) h = absurd (cc)
number_beyond None h = refl

item_beyond : (a b : Bool) (d : Option Data) (ds : Option Items) → (a && b) ≡ false → (a ≡ false → d ≡ None) → (b ≡ false → ds ≡ None)
    → option_and_then (λ x. option_map (item x) ds) d ≡ None
item_beyond false b d ds h first rest = rw (first refl) refl
item_beyond true b None ds h first rest = refl
item_beyond true b (Some x) ds h first rest = rw (rest h) refl

member_beyond : (a b : Bool) (d : Option Data) (rest : Data → Option Members) → (a && b) ≡ false → (a ≡ false → d ≡ None)
    → (b ≡ false → (x : Data) → rest x ≡ None)
    → option_and_then rest d ≡ None
member_beyond false b d rest h first more = rw (first refl) refl
member_beyond true b None rest h first more = refl
member_beyond true b (Some x) rest h first more = more h x

mutual
  pub beyond : (j : json.Json) → is_within j ≡ false → of_json j ≡ None
  beyond json.null h = absurd (cc)
  beyond (json.boolean b) h = absurd (cc)
  beyond (json.number s) h = number_beyond (number_of s) h
  beyond (json.string s) h = absurd (cc)
  beyond (json.array js) h = ap (option_map array) (items_beyond js h)
  beyond (json.object ms) h = ap (option_map object) (members_beyond ms no_members h)

  pub items_beyond : (js : json.Items) → are_items_within js ≡ false → of_items js ≡ None
  items_beyond json.no_items h = absurd (cc)
  items_beyond (json.item j js) h =
      item_beyond (is_within j) (are_items_within js) (of_json j) (of_items js) h (beyond j) (items_beyond js)

  pub members_beyond : (ms : json.Members) (found : Members) → are_members_within ms ≡ false → of_members ms found ≡ None
  members_beyond json.no_members found h = absurd (cc)
  members_beyond (json.member k j ms) found h =
      member_beyond (is_within j) (are_members_within ms) (of_json j) (λ d. of_members ms (put k d found)) h (beyond j) (λ e x.
      members_beyond ms (put k x found) e)
