-- What is found in a tree means what is found in the data that it means.
use Rattle.std.proofs.Common.{◌≡◌, ℕ, Bool, true, false, cond, List, [], ◌∷◌, Option, Some, None, option_map, Ordering, Less, Equal, Greater, nat_cmp, refl}
use Rattle.std.proofs.Common.{sym, ap, ◌∙◌, subst}
use Rattle.std.specs.Str.{bytes_eq}
use Rattle.std.specs.Borrow.{Bor}
use Rattle.std.specs.Ordering.{match_ordering}
use Rattle.std.specs.BTreeMap.{insert_entry}
use Rattle.std.specs.Cmp.Lexicographic.{slice_cmp}
use Rattle.std.proofs.lemmas.Slice.Eq.{bytes_eq-Decides}
use Rattle.std.specs.declared.alloc.Global.{Global}
use Rattle.json.specs.Json as json
use Rattle.json.specs.Find as tree
use Rattle.json.specs.Value.{value_view, items_view}
use Rattle.json.specs.declared.value.Value.{Value}
use Rattle.serde_json.specs.Data.{Data, Members, no_members, put}
use Rattle.serde_json.specs.Find.{get, get_member}
use Rattle.serde_json.proofs.Views.{get_member-put, get_member-put_other}
use Rattle.json_read.specs.Meant.{meant, items_meant, members_meant}
use Rattle.json_read.specs.Views.{data_of, items_data, members_data}

false_is_true : false ≡ true → ⊥
false_is_true e = absurd (cc)

-- the last of a key, or what was found before
abbrev later : Option Data → Option Data → Option Data
later None before = before
later (Some d) before = Some d

put_at : (key k : List ℕ) (j : json.Json) (found : Members) (b : Bool) → bytes_eq k key ≡ b
    → get_member key (put k (meant j) found) ≡ later (option_map meant (cond b (Some j) None)) (get_member key found)
put_at key k j found true e =
    subst (λ name. get_member name (put k (meant j) found) ≡ Some (meant j)) ((bytes_eq-Decides k key).0 e) (get_member-put k (meant j) found)
put_at key k j found false e =
    get_member-put_other key k (meant j) found (λ same. false_is_true (sym e ∙ (bytes_eq-Decides k key).1 (sym same)))

joined : (r o : Option json.Json) (before : Option Data)
    → later (option_map meant r) (later (option_map meant o) before) ≡ later (option_map meant (tree.later_or r o)) before
joined None o before = refl
joined (Some j) o before = refl

get_in : (key : List ℕ) (ms : json.Members) (found : Members)
    → get_member key (members_meant ms found) ≡ later (option_map meant (tree.get_member key ms)) (get_member key found)
get_in key json.no_members found = refl
get_in key (json.member k j ms) found =
    get_in key ms (put k (meant j) found)
    ∙ ap (later (option_map meant (tree.get_member key ms))) (put_at key k j found (bytes_eq k key) refl)
    ∙ joined (tree.get_member key ms) (cond (bytes_eq k key) (Some j) None) (get_member key found)

or_none : (o : Option Data) → later o None ≡ o
or_none None = refl
or_none (Some d) = refl

meant_get : (key : List ℕ) (j : json.Json) → get key (meant j) ≡ option_map meant (tree.get key j)
meant_get key json.null = refl
meant_get key (json.boolean b) = refl
meant_get key (json.number s) = refl
meant_get key (json.string s) = refl
meant_get key (json.array js) = refl
meant_get key (json.object ms) = get_in key ms no_members ∙ or_none _

data_of_found : (o : Option (Bor (Value Global))) → option_map (λ found. data_of found.now) o ≡ option_map meant (option_map (λ found. value_view found.now) o)
data_of_found None = refl
data_of_found (Some found) = refl

-- what is found after a key
pub get_of : (key : List ℕ) (value : Value Global) (o : Option (Bor (Value Global)))
    → option_map (λ found. value_view found.now) o ≡ tree.get key (value_view value)
    → option_map (λ found. data_of found.now) o ≡ get key (data_of value)
get_of key value o e = data_of_found o ∙ ap (option_map meant) e ∙ sym (meant_get key (value_view value))

pub items_meant-map : (vs : List (Value Global)) → items_meant (items_view vs) ≡ items_data vs
items_meant-map [] = refl
items_meant-map (v ∷ vs) = rw (items_meant-map vs) refl

-- the items of a list
pub items_of_list : (vs : List (Value Global)) → Some (items_data vs) ≡ Some (items_meant (items_view vs))
items_of_list vs = ap Some (sym (items_meant-map vs))

-- ---- members as a map from their keys

abbrev Entry : Type 0
Entry = Bor (List ℕ) × Bor (Value Global)

members_data-choice : (o : Ordering) (a b c : List Entry)
    → members_data (match_ordering o a b c) ≡ match_ordering o (members_data a) (members_data b) (members_data c)
members_data-choice Less a b c = refl
members_data-choice Equal a b c = refl
members_data-choice Greater a b c = refl

-- what is put into the map is put into the members
pub members_data-put : (es : List Entry) (k : Bor (List ℕ)) (v : Bor (Value Global))
    → members_data (insert_entry (λ a b. slice_cmp nat_cmp a.now b.now) es k v) ≡ put k.now (data_of v.now) (members_data es)
members_data-put [] k v = refl
members_data-put (e ∷ es) k v = members_data-choice (slice_cmp nat_cmp k.now e.0.now) _ _ _ ∙ rw (members_data-put es k v) refl
