-- Steps of the loops over what is asked.
use Rattle.std.proofs.Common.{◌≡◌, ℕ, zero, suc, ◌+◌, ◌<◌, ◌≤◌, Bool, true, false, ◌||◌, List, [], ◌∷◌, ◌++◌, length, take, drop, get_or, Some, None, refl, sym}
use Rattle.std.proofs.Common.{ap, ◌∙◌, append_assoc, add-one, drop-cons, arith}
use Rattle.std.specs.List.{find, flat_map, list_any}
use Rattle.std.proofs.lemmas.List.{flat_map_more, take_all, take_more}
use Rattle.std.proofs.lemmas.List.Folds.{list_any_more}
use Rattle.dh_metadata.specs.declared.held.Records.{Records}
use Rattle.cell_values.specs.Seen.{SeenRecords}
use Rattle.query_lang.specs.declared.plain.Dx.{Dx}
use Rattle.query_lang.specs.declared.plain.Query.{Query}
use Rattle.query_answer.specs.declared.body_rows.AnswerRow.{AnswerRow}
use Rattle.query_answer.specs.Rows.{dx_rows, rows_from}

first_false : (a b : Bool) → (a || b) ≡ false → a ≡ false
first_false true b h = h
first_false false b h = refl

second_false : (a b : Bool) → (a || b) ≡ false → b ≡ false
second_false true b h = absurd (cc)
second_false false b h = h

-- the first that passes
pub find_at : {X : Type 0} (test : X → Bool) (xs : List X) (i : ℕ) (d : X) → i < length xs → list_any test (take i xs) ≡ false → test (get_or xs i d) ≡ true
    → find test xs ≡ Some (get_or xs i d)
find_at test [] i d within none here = absurd (omega arith)
find_at test (x ∷ xs) zero d within none here = rw here refl
find_at test (x ∷ xs) (suc i) d within none here =
    rw (first_false (test x) _ none) (find_at test xs i d (omega arith) (second_false (test x) _ none) here)

pub find_none : {X : Type 0} (test : X → Bool) (xs : List X) → list_any test xs ≡ false → find test xs ≡ None
find_none test [] none = refl
find_none test (x ∷ xs) none = rw (first_false (test x) _ none) (find_none test xs (second_false (test x) _ none))

-- the rows of one dx item more
pub dx_step : (r : Records) (shown : SeenRecords) (query : Query) (xs : List Dx) (i : ℕ) (dx : Dx) (mid all : List AnswerRow) → i < length xs
    → dx ≡ get_or xs i dx → mid ++ rows_from r shown query i (drop i xs) ≡ all
    → (mid ++ dx_rows r shown query i dx) ++ rows_from r shown query (i + 1) (drop (i + 1) xs) ≡ all
dx_step r shown query xs i dx mid all within here so_far =
    let more = rows_from r shown query (i + 1) (drop (i + 1) xs) in
    let next : drop i xs ≡ get_or xs i dx ∷ drop (i + 1) xs = rw (add-one, drop-cons xs i dx) refl in
    let rows : rows_from r shown query i (drop i xs) ≡ dx_rows r shown query i dx ++ more =
    ap (rows_from r shown query i) next ∙ ap (λ d. dx_rows r shown query i d ++ more) (sym here) in
    append_assoc mid (dx_rows r shown query i dx) more ∙ ap (λ l. mid ++ l) (sym rows) ∙ so_far

-- what one more gives stands after what those before it gave
pub joined-more : {X Y : Type 0} (f : X → List Y) (xs : List X) (old found more : List Y) (i : ℕ) (d : X) → i < length xs
    → found ≡ old ++ flat_map f (take i xs) → more ≡ found ++ f (get_or xs i d) → more ≡ old ++ flat_map f (take (i + 1) xs)
joined-more f xs old found more i d within before put =
    put ∙ ap (λ l. l ++ f (get_or xs i d)) before ∙ flat_map_more f old (take i xs) (get_or xs i d)
    ∙ ap (λ l. old ++ flat_map f l) (sym (take_more xs i d within))

-- nor does one more pass
pub none-more : {X : Type 0} (test : X → Bool) (xs : List X) (i : ℕ) (x : X) → i < length xs → x ≡ get_or xs i x → list_any test (take i xs) ≡ false
    → test x ≡ false → list_any test (take (i + 1) xs) ≡ false
none-more test xs i x within at none here =
    list_any_more test xs i x within ∙ ap (λ b. b || test (get_or xs i x)) none ∙ ap test (sym at) ∙ here

-- all were looked at
pub none-passed : {X : Type 0} (test : X → Bool) (xs : List X) (i : ℕ) → length xs ≤ i → list_any test (take i xs) ≡ false → false ≡ list_any test xs
none-passed test xs i past none = sym (ap (list_any test) (sym (take_all i xs past)) ∙ none)

pub joined-all : {X Y : Type 0} (f : X → List Y) (xs : List X) (old found : List Y) (i : ℕ) → length xs ≤ i → found ≡ old ++ flat_map f (take i xs)
    → found ≡ old ++ flat_map f xs
joined-all f xs old found i past before = before ∙ ap (λ l. old ++ flat_map f l) (take_all i xs past)
