-- Pairs, and identifiers, that are put among others.
use Rattle.std.proofs.Common.{◌≡◌, ◌∙◌, ℕ, ◌+◌, ◌<◌, List, [], ◌∷◌, ◌++◌, length, drop, get_or, refl, sym, ap}
use Rattle.std.specs.List.{flat_map}
use Rattle.std.proofs.lemmas.List.{drop_more}
use Rattle.std.specs.BTreeMap.{insert_entry}
use Rattle.std.specs.Cmp.Lexicographic.{slice_cmp}
use Rattle.std.specs.Ordering.{nat_cmp}
use Rattle.tracker_import.specs.Deletes.{put_ids}
use Rattle.tracker_import.specs.Pairs.{Told, put_all}

put_all_append : (es xs ys : List Told) → put_all es (xs ++ ys) ≡ put_all (put_all es xs) ys
put_all_append es [] ys = refl
put_all_append es (x ∷ xs) ys = put_all_append (insert_entry (slice_cmp nat_cmp) es x.0 x.1) xs ys

-- some pairs and then others
pub put_all_both : (es middle all xs ys : List Told) → middle ≡ put_all es xs → all ≡ put_all middle ys → all ≡ put_all es (xs ++ ys)
put_all_both es middle all xs ys first second = second ∙ ap (λ m. put_all m ys) first ∙ sym (put_all_append es xs ys)

put_ids_append : (es : List (List ℕ × List ℕ)) (xs ys : List (List ℕ)) → put_ids es (xs ++ ys) ≡ put_ids (put_ids es xs) ys
put_ids_append es [] ys = refl
put_ids_append es (x ∷ xs) ys = put_ids_append (insert_entry (slice_cmp nat_cmp) es x x) xs ys

-- a loop that puts the identifiers of one member after another
pub put_ids-more : {X : Type 0} (f : X → List (List ℕ)) (xs : List X) (whole before after : List (List ℕ × List ℕ)) (part : List (List ℕ)) (i : ℕ) (x : X)
    → i < length xs → x ≡ get_or xs i x → whole ≡ put_ids before (flat_map f (drop i xs)) → part ≡ f x → after ≡ put_ids before part
    → whole ≡ put_ids after (flat_map f (drop (i + 1) xs))
put_ids-more f xs whole before after part i x within at known made is =
    let rest : List _ = flat_map f (drop (i + 1) xs) in
    known
    ∙ ap (λ l. put_ids before (flat_map f l)) (drop_more xs i x within)
    ∙ ap (λ v. put_ids before (f v ++ rest)) (sym at)
    ∙ put_ids_append before (f x) rest
    ∙ ap (λ l. put_ids l rest) (sym (is ∙ ap (put_ids before) made))
