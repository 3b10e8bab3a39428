-- Names that are put one after the other.
use Rattle.std.proofs.Common.{◌≡◌, ◌∙◌, ℕ, ◌+◌, ◌<◌, List, [], ◌∷◌, ◌++◌, length, map, take, drop, get_or, sym, ap}
use Rattle.std.proofs.lemmas.List.{drop_more, map-append, map_more}
use Rattle.serde_json.specs.Data.{Data, Members}
use Rattle.query_answer.specs.Texts.{text_of_bytes}
use Rattle.query_answer.specs.Names.{ids_of, put_name, put_names}

-- an identifier more
pub ids-more : {X : Type 0} (xs : List X) (named : X → List ℕ × List ℕ) (old new : List Data) (i : ℕ) (x : X) (id : List ℕ) → i < length xs
    → id ≡ (named (get_or xs i x)).0 → old ≡ ids_of (map named (take i xs)) → new ≡ old ++ text_of_bytes id ∷ []
    → new ≡ ids_of (map named (take (i + 1) xs))
ids-more xs named old new i x id within is before put =
    put ∙ ap (λ v. old ++ text_of_bytes v ∷ []) is
    ∙ ap (λ l. l ++ text_of_bytes (named (get_or xs i x)).0 ∷ []) before
    ∙ sym (ap ids_of (map_more named xs i x within)
    ∙ map-append (λ (each : List ℕ × List ℕ). text_of_bytes each.0) (map named (take i xs)) (named (get_or xs i x) ∷ []))

-- a name more
pub names-more : {X : Type 0} (xs : List X) (named : X → List ℕ × List ℕ) (old new whole : Members) (i : ℕ) (x : X) (id name : List ℕ)
    → i < length xs → id ≡ (named (get_or xs i x)).0 → name ≡ (named (get_or xs i x)).1
    → put_names (map named (drop i xs)) old ≡ whole → new ≡ put_name (id, name) old → put_names (map named (drop (i + 1) xs)) new ≡ whole
names-more xs named old new whole i x id name within is called before put =
    let left = drop (i + 1) xs in
    ap (put_names (map named left))
    (put ∙ ap (λ v. put_name (v, name) old) is ∙ ap (λ v. put_name ((named (get_or xs i x)).0, v) old) called)
    ∙ sym (ap (λ l. put_names (map named l) old) (drop_more xs i x within))
    ∙ before
