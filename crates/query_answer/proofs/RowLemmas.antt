-- A row that is written piece by piece is the text of its array.
use Rattle.std.proofs.Common.{◌≡◌, ℕ, ◌<◌, ◌≤◌, true, not, List, [], ◌∷◌, ◌++◌, length, Option, refl, sym, ap, ◌∙◌}
use Rattle.std.proofs.Common.{append_assoc, append-nil, arith}
use Rattle.std.specs.Prelude.{nat_eq, nat_le, nat_lt}
use Rattle.std.specs.List.{list_all, flat_map}
use Rattle.std.specs.Str.{IsAscii}
use Rattle.std.specs.Str.Lossy.{utf8_lossy}
use Rattle.std.proofs.lemmas.Bool.{and_parts, not-true, eqb-false, leb-true, ltb-true}
use Rattle.std.proofs.lemmas.Grind.{flat_map-append}
use Rattle.std.proofs.lemmas.Str.{IsUtf8-from_ascii, utf8_lossy-IsUtf8}
use Rattle.std.proofs.lemmas.Str.Ascii.{IsAscii-nil, IsAscii-cons}
use Rattle.json.specs.Print.{escape}
use Rattle.json.proofs.Printed.Strings.{escape_byte_plain}
use Rattle.serde_json.specs.Data.{string}
use Rattle.serde_json.specs.View.{items_of}
use Rattle.serde_json.specs.Written.{compact_text, items_text}
use Rattle.dh_periods.specs.declared.name.PeriodName.{PeriodName}
use Rattle.dh_periods.specs.Keys.{same_period}
use Rattle.dh_periods.proofs.KeyLemmas.{same_period-Decides}
use Rattle.dh_metadata.specs.declared.held.Records.{Records}
use Rattle.query_lang.specs.declared.plain.Dx.{Dx}
use Rattle.query_answer.specs.declared.body_rows.AnswerRow.{AnswerRow}
use Rattle.query_answer.specs.Texts.{texts_of, is_plain, in_quotes, more_texts}
use Rattle.query_answer.specs.BodyRows.{dx_text, period_texts, unit_texts, row_of, rows_of}
use Rattle.query_answer.specs.Written.{start_text, row_text, more_row, rows_text}

-- ---- plain texts

byte_parts : (byte : ℕ) → is_plain byte ≡ true → (32 ≤ byte) × ((byte < 128) × ((byte ≡ 34 → ⊥) × (byte ≡ 92 → ⊥)))
byte_parts byte e =
    let low = and_parts (nat_le 32 byte) _ e in
    let high = and_parts (nat_lt byte 128) _ low.1 in
    let marks = and_parts (not (nat_eq byte 34)) _ high.1 in
    (leb-true 32 byte low.0, (ltb-true byte 128 high.0, (eqb-false byte 34 (not-true _ marks.0), eqb-false byte 92 (not-true _ marks.1))))

plain_ascii : (bytes : List ℕ) → list_all is_plain bytes ≡ true → IsAscii bytes
plain_ascii [] e = IsAscii-nil
plain_ascii (byte ∷ bytes) e =
    let parts = and_parts (is_plain byte) _ e in
    IsAscii-cons byte bytes (byte_parts byte parts.0).1.0 (plain_ascii bytes parts.1)

plain_escape : (bytes : List ℕ) → list_all is_plain bytes ≡ true → escape bytes ≡ bytes
plain_escape [] e = refl
plain_escape (byte ∷ bytes) e =
    let parts = and_parts (is_plain byte) _ e in
    let is = byte_parts byte parts.0 in
    ap (λ l. l ++ escape bytes) (escape_byte_plain byte is.1.1.0 is.1.1.1 is.0) ∙ ap (λ l. byte ∷ l) (plain_escape bytes parts.1)

plain_lossy : (bytes : List ℕ) → list_all is_plain bytes ≡ true → utf8_lossy bytes ≡ bytes
plain_lossy bytes e = utf8_lossy-IsUtf8 bytes (IsUtf8-from_ascii bytes (plain_ascii bytes e))

-- a text of plain bytes stands in quotes as it is
pub plain_text : (bytes : List ℕ) → list_all is_plain bytes ≡ true → in_quotes bytes ≡ 34 ∷ (bytes ++ 34 ∷ [])
unfolding in_quotes
plain_text bytes e =
    ap (λ l. compact_text (string l)) (plain_lossy bytes e) ∙ ap (λ l. 34 ∷ (l ++ 34 ∷ [])) (plain_escape bytes e)

-- ---- rows

-- periods that compare as equal are one
pub one_period : (a b : PeriodName) → same_period a b ≡ true → a ≡ b
one_period a b e = (same_period-Decides a b).0 e

texts_after : (texts : List (List ℕ)) → items_text true (items_of (texts_of texts)) ≡ more_texts texts ++ 93 ∷ []
unfolding more_texts in_quotes
texts_after [] = refl
texts_after (text ∷ texts) =
    ap (λ l. 44 ∷ (in_quotes text ++ l)) (texts_after texts) ∙ ap (λ l. 44 ∷ l) (sym (append_assoc (in_quotes text) (more_texts texts) (93 ∷ [])))

rejoined : (a b c z : List ℕ) → ((a ++ b) ++ (c ++ [])) ++ z ≡ a ++ (b ++ (c ++ z))
rejoined a b c z = ap (λ l. ((a ++ b) ++ l) ++ z) (append-nil c) ∙ append_assoc (a ++ b) c z ∙ append_assoc a b (c ++ z)

split : (a b : List (List ℕ)) (value : List ℕ) → more_texts ((a ++ b) ++ value ∷ []) ≡ (more_texts a ++ more_texts b) ++ ((44 ∷ in_quotes value) ++ [])
unfolding more_texts
split a b value =
    let one : List ℕ → List ℕ = λ text. 44 ∷ in_quotes text in
    flat_map-append one (a ++ b) (value ∷ []) ∙ ap (λ l. l ++ flat_map one (value ∷ [])) (flat_map-append one a b)

row_rest : (a b : List (List ℕ)) (value : List ℕ)
    → items_text true (items_of (texts_of ((a ++ b) ++ value ∷ []))) ≡ more_texts a ++ (more_texts b ++ 44 ∷ (in_quotes value ++ 93 ∷ []))
row_rest a b value =
    texts_after ((a ++ b) ++ value ∷ []) ∙ ap (λ l. l ++ 93 ∷ []) (split a b value)
    ∙ rejoined (more_texts a) (more_texts b) (44 ∷ in_quotes value) (93 ∷ [])

row_is : (r : Records) (dx : List Dx) (row : AnswerRow)
    → start_text dx row.dx row.period ++ (more_texts (unit_texts r row.unit) ++ 44 ∷ (in_quotes row.value ++ 93 ∷ [])) ≡ row_text r dx row
unfolding start_text row_text row_of in_quotes
row_is r dx row =
    let first = in_quotes (dx_text dx row.dx) in
    let period = more_texts (period_texts row.period) in
    let rest = more_texts (unit_texts r row.unit) ++ 44 ∷ (in_quotes row.value ++ 93 ∷ []) in
    ap (λ l. 91 ∷ l) (append_assoc first period rest)
    ∙ ap (λ l. 91 ∷ (first ++ l)) (sym (row_rest (period_texts row.period) (unit_texts r row.unit) row.value))

-- a row after its start
pub row_written : (r : Records) (dx : List Dx) (row : AnswerRow) (place : ℕ) (period : Option PeriodName) (old start text : List ℕ)
    → start ≡ start_text dx place period → place ≡ row.dx → period ≡ row.period
    → text ≡ (old ++ start) ++ (more_texts (unit_texts r row.unit) ++ 44 ∷ (in_quotes row.value ++ 93 ∷ []))
    → text ≡ old ++ row_text r dx row
row_written r dx row place period old start text is same_place same_period e =
    let rest = more_texts (unit_texts r row.unit) ++ 44 ∷ (in_quotes row.value ++ 93 ∷ []) in
    let begins : start ≡ start_text dx row.dx row.period =
    is ∙ ap (λ n. start_text dx n period) same_place ∙ ap (start_text dx row.dx) same_period in
    e ∙ append_assoc old start rest ∙ ap (λ l. old ++ (l ++ rest)) begins ∙ ap (λ l. old ++ l) (row_is r dx row)

rows_after : (r : Records) (dx : List Dx) (rows : List AnswerRow)
    → items_text true (items_of (rows_of r dx rows)) ≡ flat_map (more_row r dx) rows ++ 93 ∷ []
unfolding row_text
rows_after r dx [] = refl
rows_after r dx (row ∷ rows) =
    let text = row_text r dx row in
    ap (λ l. 44 ∷ (text ++ l)) (rows_after r dx rows) ∙ ap (λ l. 44 ∷ l) (sym (append_assoc text (flat_map (more_row r dx) rows) (93 ∷ [])))

four_parts : (a b c d e : List ℕ) → (((a ++ b) ++ c) ++ d) ++ e ≡ a ++ (b ++ (c ++ (d ++ e)))
four_parts a b c d e =
    append_assoc ((a ++ b) ++ c) d e ∙ append_assoc (a ++ b) c (d ++ e) ∙ append_assoc a b (c ++ (d ++ e))

-- a first row and those after it
pub rows_written : (r : Records) (dx : List Dx) (rows : List AnswerRow) (first : AnswerRow) (more : List AnswerRow) (old : List ℕ) → rows ≡ first ∷ more
    → (((old ++ 91 ∷ []) ++ row_text r dx first) ++ flat_map (more_row r dx) more) ++ 93 ∷ [] ≡ old ++ rows_text r dx rows
unfolding rows_text row_text
rows_written r dx rows first more old e =
    let text = row_text r dx first in
    four_parts old (91 ∷ []) text (flat_map (more_row r dx) more) (93 ∷ [])
    ∙ ap (λ l. old ++ 91 ∷ (text ++ l)) (sym (rows_after r dx more)) ∙ ap (λ l. old ++ rows_text r dx l) (sym e)

pub no_rows : (r : Records) (dx : List Dx) (rows : List AnswerRow) → length rows ≡ 0 → rows_text r dx rows ≡ 91 ∷ 93 ∷ []
unfolding rows_text
no_rows r dx [] e = refl
no_rows r dx (row ∷ rows) e = absurd (omega arith)
