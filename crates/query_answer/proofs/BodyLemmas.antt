-- The body that is written piece by piece is the text of its object.
use Rattle.std.proofs.Common.{◌≡◌, ℕ, Bool, true, false, List, [], ◌∷◌, ◌++◌, length, refl, sym, ap, ◌∙◌, append_assoc, codes}
use Rattle.std.specs.Fmt.{digits}
use Rattle.std.proofs.lemmas.List.{length-map}
use Rattle.json.specs.Print.{escape_byte}
use Rattle.serde_json.specs.Data.{Data, number, unsigned, string, array, object, member, no_members}
use Rattle.serde_json.specs.View.{items_of}
use Rattle.serde_json.specs.Written.{compact_text}
use Rattle.dh_metadata.specs.declared.held.Records.{Records}
use Rattle.query_lang.specs.declared.plain.Query.{Query}
use Rattle.query_answer.specs.declared.body_rows.AnswerRow.{AnswerRow}
use Rattle.query_answer.specs.Heads.{dimension_of, value_column, heads_of}
use Rattle.query_answer.specs.BodyRows.{row_of, rows_of}
use Rattle.query_answer.specs.Body.{told_of, body_with, body_of}
use Rattle.query_answer.specs.Written.{rows_text, name_text, width_text, width_digit, opening_text, text_unless, heads_text, before_text, after_text}

five_parts : (a b c d e f : List ℕ) → ((((a ++ b) ++ c) ++ d) ++ e) ++ f ≡ a ++ (b ++ (c ++ (d ++ (e ++ f))))
five_parts a b c d e f =
    append_assoc (((a ++ b) ++ c) ++ d) e f ∙ append_assoc ((a ++ b) ++ c) d (e ++ f) ∙ append_assoc (a ++ b) c (d ++ (e ++ f))
    ∙ append_assoc a b (c ++ (d ++ (e ++ f)))

-- six texts after another
pub six_after : (a b c d e f g t u v w x all : List ℕ) → t ≡ a ++ b → u ≡ t ++ c → v ≡ u ++ d → w ≡ v ++ e → x ≡ w ++ f → all ≡ x ++ g
    → all ≡ a ++ (b ++ (c ++ (d ++ (e ++ (f ++ g)))))
six_after a b c d e f g t u v w x all is_t is_u is_v is_w is_x is =
    is ∙ ap (λ l. l ++ g) (is_x ∙ ap (λ l. l ++ f) (is_w ∙ ap (λ l. l ++ e) (is_v ∙ ap (λ l. l ++ d) (is_u ∙ ap (λ l. l ++ c) is_t))))
    ∙ five_parts (a ++ b) c d e f g ∙ append_assoc a b (c ++ (d ++ (e ++ (f ++ g))))

-- the heads, one after the other
pub heads_joined : (periods units : Bool) → opening_text periods units
    ++ (compact_text (dimension_of (codes "Data") (codes "dx"))
    ++ (text_unless periods (44 ∷ compact_text (dimension_of (codes "Period") (codes "pe")))
    ++ (text_unless units (44 ∷ compact_text (dimension_of (codes "Organisation unit") (codes "ou")))
    ++ (44 ∷ compact_text value_column ++ 93 ∷ []))))
    ≡ heads_text periods units
unfolding heads_text heads_of dimension_of value_column escape_byte digits
heads_joined true true = refl
heads_joined true false = refl
heads_joined false true = refl
heads_joined false false = refl

-- what stands before the rows, the rows, and what stands after them
in_order : (a w b heads c height d told e rows after : List ℕ)
    → ((a ++ (w ++ (b ++ heads))) ++ (c ++ (height ++ (d ++ (told ++ e))))) ++ (rows ++ after)
    ≡ a ++ (w ++ (b ++ (heads ++ (c ++ (height ++ (d ++ (told ++ (e ++ (rows ++ after)))))))))
in_order a w b heads c height d told e rows after =
    let all = rows ++ after in
    let rest = c ++ (height ++ (d ++ (told ++ (e ++ all)))) in
    append_assoc (a ++ (w ++ (b ++ heads))) (c ++ (height ++ (d ++ (told ++ e)))) all
    ∙ ap (λ l. (a ++ (w ++ (b ++ heads))) ++ l)
    (append_assoc c (height ++ (d ++ (told ++ e))) all
    ∙ ap (λ l. c ++ l) (append_assoc height (d ++ (told ++ e)) all
    ∙ ap (λ l. height ++ l) (append_assoc d (told ++ e) all ∙ ap (λ l. d ++ l) (append_assoc told e all))))
    ∙ append_assoc a (w ++ (b ++ heads)) rest
    ∙ ap (λ l. a ++ l) (append_assoc w (b ++ heads) rest ∙ ap (λ l. w ++ l) (append_assoc b heads rest))

width_is : (periods units : Bool) → width_text periods units ≡ width_digit periods units ∷ []
unfolding heads_of digits
width_is true true = refl
width_is true false = refl
width_is false true = refl
width_is false false = refl

-- the body with rows of which so many are told
abbrev body_at : List Data → Data → ℕ → List Data → Data
body_at heads told height rows = object
    (member (codes "headerWidth") (number (unsigned (length heads)))
    (member (codes "headers") (array (items_of heads))
    (member (codes "height") (number (unsigned height))
    (member (codes "metaData") told
    (member (codes "rows") (array (items_of rows)) (member (codes "width") (number (unsigned (length heads))) no_members))))))

body_of_rows : (r : Records) (query : Query) (height : ℕ) (list : List Data) → height ≡ length list
    → before_text r query height ++ (compact_text (array (items_of list)) ++ after_text query.periods.filter query.units.filter)
    ≡ compact_text (body_with (heads_of query.periods.filter query.units.filter) (told_of query.meta r query) list)
unfolding before_text heads_text after_text body_with escape_byte
body_of_rows r query height list e =
    let heads = heads_of query.periods.filter query.units.filter in
    let width = compact_text (number (unsigned (length heads))) in
    let rows = compact_text (array (items_of list)) in
    let before = before_text r query height in
    ap (λ w. before ++ (rows ++ (name_text (codes "width") ++ (w ++ 125 ∷ [])))) (sym (width_is query.periods.filter query.units.filter))
    ∙ in_order (123 ∷ (compact_text (string (codes "headerWidth")) ++ 58 ∷ [])) width (name_text (codes "headers")) (compact_text (array (items_of heads)))
    (name_text (codes "height")) (compact_text (number (unsigned height))) (name_text (codes "metaData"))
    (compact_text (told_of query.meta r query)) (name_text (codes "rows")) rows (name_text (codes "width") ++ (width ++ 125 ∷ []))
    ∙ ap (λ n. compact_text (body_at heads (told_of query.meta r query) n list)) e

-- the parts one after the other are the text of the whole
pub body_written : (r : Records) (query : Query) (rows : List AnswerRow) (height : ℕ) (text : List ℕ) → height ≡ length rows
    → text ≡ (before_text r query height ++ rows_text r query.dx rows) ++ after_text query.periods.filter query.units.filter
    → text ≡ compact_text (body_of r query rows)
unfolding rows_text body_of
body_written r query rows height text high e =
    e ∙ append_assoc (before_text r query height) _ _
    ∙ body_of_rows r query height (rows_of r query.dx rows) (high ∙ sym (length-map rows (row_of r query.dx)))
