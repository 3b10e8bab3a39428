-- How many brackets are open at once: the reader counts those of the text, and the text has those of its form.
use Rattle.std.proofs.Common.{◌≡◌, ℕ, zero, suc, ◌+◌, ◌-◌, ◌≤◌, Bool, true, false, cond, List, [], ◌∷◌, ◌++◌, length, drop, Option, Some, None, Result, Ok}
use Rattle.std.proofs.Common.{Err, refl, sym, ap, subst, ◌∙◌, arith}
use Rattle.std.specs.Prelude.{◌&&◌, not, max, nat_eq, nat_le, is_none}
use Rattle.std.specs.Char.{is_ascii_digit}
use Rattle.std.proofs.lemmas.Bool.Decides.{nat_tests}
use Rattle.expr_lang.specs.declared.tree.Place.{Place}
use Rattle.expr_lang.specs.declared.tree.Unary.{Unary}
use Rattle.expr_lang.specs.declared.tree.Unary.TheVariants as unary
use Rattle.expr_lang.specs.declared.tree.Binary.{Binary}
use Rattle.expr_lang.specs.declared.tree.Binary.TheVariants as binary
use Rattle.dh_base.specs.declared.plain.Rate.TheVariants as rates
use Rattle.expr_lang.specs.declared.words.Symbol.{Symbol}
use Rattle.expr_lang.specs.declared.words.Symbol.TheVariants as symbol
use Rattle.expr_lang.specs.declared.words.Call.{Call}
use Rattle.expr_lang.specs.declared.words.Call.TheVariants as call
use Rattle.expr_lang.specs.declared.words.ItemForm.{ItemForm}
use Rattle.expr_lang.specs.declared.words.ItemForm.TheVariants as form
use Rattle.expr_lang.specs.declared.reading.Spot.{Spot}
use Rattle.expr_lang.specs.declared.reading.Frame.{Frame}
use Rattle.expr_lang.specs.declared.reading.Frame.TheVariants as frame
use Rattle.expr_lang.specs.declared.reading.Token.{Token}
use Rattle.expr_lang.specs.declared.reading.Token.TheVariants as token
use Rattle.expr_lang.specs.declared.reading.Found.{Found}
use Rattle.expr_lang.specs.declared.reading.Reader.{Reader}
use Rattle.expr_lang.specs.declared.reading.Nodes.{Nodes}
use Rattle.expr_lang.specs.Print.{left_level_of, right_level_of}
use Rattle.expr_lang.specs.Reading.{is_blank_of, blank_count, may_end_in, ended, go_on, new_reader, most_words, read_rest, read_text, token_from, with_token}
use Rattle.expr_lang.specs.Reading.{with_word, with_leaf, with_sign, with_operator, with_open, with_call, with_comma, with_close, with_quote, with_exponent}
use Rattle.expr_lang.specs.Reading.{comma_in, frames_reduced, nodes_reduced, is_quote}
use Rattle.expr_lang.specs.Token.{fits_of}
use Rattle.expr_lang.specs.Words.{text_of}
use Rattle.expr_grammar.specs.Fewest.{open_of}
use Rattle.expr_grammar.specs.Grammar.{Form, Number, Item, Bracket, Power, Sign, Chain, Arguments, If, Condition, DaysBetween, Apply, IsBlank, IsDigits}
use Rattle.expr_grammar.specs.Grammar.{IsNumber, IsWord, IsForm, IsWhole, IsTextOf, arguments_level, sign_text, after_blanks, symbol_text, behind_point}
use Rattle.expr_grammar.specs.Grammar.{spelled}
use Rattle.expr_grammar.proofs.Words.{drop_front}
use Rattle.expr_grammar.proofs.Steps.{read_is, read_none}
use Rattle.expr_grammar.proofs.Tokens.{IsLexeme, token_sound}

-- ---- the brackets of a text

-- how many are open, and how many were at most
record Brackets : Type 0 where
  now : ℕ
  most : ℕ

abbrev brackets : ℕ → ℕ → Brackets
brackets n m = record { now = n; most = m }

abbrev opened : Brackets → Brackets
opened s = brackets (s.now + 1) (max s.most (s.now + 1))

abbrev closed : Brackets → Brackets
closed s = brackets (s.now - 1) s.most

abbrev one_scanned : ℕ → Brackets → Brackets
one_scanned b s = cond (nat_eq b 40) (opened s) (cond (nat_eq b 41) (closed s) s)

abbrev scanned : List ℕ → Brackets → Brackets
scanned [] s = s
scanned (b ∷ bs) s = scanned bs (one_scanned b s)

scan_both : (xs ys : List ℕ) (s : Brackets) → scanned (xs ++ ys) s ≡ scanned ys (scanned xs s)
scan_both [] ys s = refl
scan_both (x ∷ xs) ys s = scan_both xs ys (one_scanned x s)

-- ---- bytes that aren't brackets

abbrev pub Quiet : List ℕ → Type 0
Quiet [] = Unit {0}
Quiet (b ∷ bs) = (nat_eq b 40 ≡ false) × (nat_eq b 41 ≡ false) × Quiet bs

pub quiet_both : (xs ys : List ℕ) → Quiet xs → Quiet ys → Quiet (xs ++ ys)
quiet_both [] ys h g = g
quiet_both (x ∷ xs) ys h g = (h.0, h.1, quiet_both xs ys h.2 g)

skip : (xs ys : List ℕ) (s : Brackets) → Quiet xs → scanned (xs ++ ys) s ≡ scanned ys s
skip [] ys s h = refl
skip (x ∷ xs) ys s h =
    ap (λ (t : Bool). scanned (xs ++ ys) (cond t (opened s) (cond (nat_eq x 41) (closed s) s))) h.0
    ∙ ap (λ (t : Bool). scanned (xs ++ ys) (cond t (closed s) s)) h.1
    ∙ skip xs ys s h.2

quiet_digit : (b : ℕ) → is_ascii_digit b ≡ true → (nat_eq b 40 ≡ false) × (nat_eq b 41 ≡ false)
quiet_digit b h = (grind (arith, nat_tests), grind (arith, nat_tests))

pub quiet_digits : (ds : List ℕ) → IsDigits ds → Quiet ds
quiet_digits [] h = tt
quiet_digits (d ∷ ds) h = let k = quiet_digit d h.0 in (k.0, k.1, quiet_digits ds h.1)

quiet_point : (ds : List ℕ) → Quiet ds → Quiet (behind_point ds)
quiet_point [] h = tt
quiet_point (d ∷ ds) h = (refl, refl, h)

pub quiet_blank : (b : ℕ) → is_blank_of b ≡ true → (nat_eq b 40 ≡ false) × (nat_eq b 41 ≡ false)
quiet_blank b h = (grind (arith, nat_tests), grind (arith, nat_tests))

quiet_blanks : (bs : List ℕ) → IsBlank bs → Quiet bs
quiet_blanks [] h = tt
quiet_blanks (b ∷ bs) h = let k = quiet_blank b h.0 in (k.0, k.1, quiet_blanks bs h.1)

quiet_fit : (c b : ℕ) → nat_eq c 40 ≡ false → nat_eq c 41 ≡ false → fits_of c b ≡ true → (nat_eq b 40 ≡ false) × (nat_eq b 41 ≡ false)
quiet_fit c b g h f = (grind (arith, nat_tests), grind (arith, nat_tests))

pub quiet_word : (t word : List ℕ) → Quiet t → IsWord t word → Quiet word
quiet_word [] [] q h = tt
quiet_word [] (b ∷ bs) q h = absurd h
quiet_word (c ∷ cs) [] q h = absurd h
quiet_word (c ∷ cs) (b ∷ bs) q h = let k = quiet_fit c b q.0 q.1 h.0 in (k.0, k.1, quiet_word cs bs q.2 h.1)

abbrev is_quiet : List ℕ → Bool
is_quiet [] = true
is_quiet (b ∷ bs) = not (nat_eq b 40) && not (nat_eq b 41) && is_quiet bs

quiet_from : (bs : List ℕ) → is_quiet bs ≡ true → Quiet bs
quiet_from [] e = tt
quiet_from (b ∷ bs) e = by_parts (nat_eq b 40) (nat_eq b 41) (is_quiet bs) refl refl refl e (quiet_from bs)
  where
    by_parts : (x y z : Bool) → nat_eq b 40 ≡ x → nat_eq b 41 ≡ y → is_quiet bs ≡ z → not x && not y && z ≡ true → (is_quiet bs ≡ true → Quiet bs)
        → Quiet (b ∷ bs)
    by_parts false false true f g h e k = (f, g, k h)
    by_parts false false false f g h e k = absurd cc
    by_parts true y z f g h e k = absurd cc
    by_parts false true z f g h e k = absurd cc

pub quiet_operator : (o : Binary) → Quiet (text_of (symbol.Operator o))
unfolding text_of
quiet_operator binary.Or = quiet_from (text_of (symbol.Operator binary.Or)) refl
quiet_operator binary.And = quiet_from (text_of (symbol.Operator binary.And)) refl
quiet_operator binary.Equal = quiet_from (text_of (symbol.Operator binary.Equal)) refl
quiet_operator binary.NotEqual = quiet_from (text_of (symbol.Operator binary.NotEqual)) refl
quiet_operator binary.Less = quiet_from (text_of (symbol.Operator binary.Less)) refl
quiet_operator binary.AtMost = quiet_from (text_of (symbol.Operator binary.AtMost)) refl
quiet_operator binary.Greater = quiet_from (text_of (symbol.Operator binary.Greater)) refl
quiet_operator binary.AtLeast = quiet_from (text_of (symbol.Operator binary.AtLeast)) refl
quiet_operator binary.Add = quiet_from (text_of (symbol.Operator binary.Add)) refl
quiet_operator binary.Subtract = quiet_from (text_of (symbol.Operator binary.Subtract)) refl
quiet_operator binary.Multiply = quiet_from (text_of (symbol.Operator binary.Multiply)) refl
quiet_operator binary.Divide = quiet_from (text_of (symbol.Operator binary.Divide)) refl
quiet_operator binary.Remainder = quiet_from (text_of (symbol.Operator binary.Remainder)) refl
quiet_operator binary.DaysBetween = quiet_from (text_of (symbol.Operator binary.DaysBetween)) refl
quiet_operator binary.Comma = quiet_from (text_of (symbol.Operator binary.Comma)) refl

pub quiet_call : (c : Call) → Quiet (text_of (symbol.Call c))
unfolding text_of
quiet_call call.If = quiet_from (text_of (symbol.Call call.If)) refl
quiet_call call.Condition = quiet_from (text_of (symbol.Call call.Condition)) refl
quiet_call call.IsNull = quiet_from (text_of (symbol.Call call.IsNull)) refl
quiet_call call.IsNotNull = quiet_from (text_of (symbol.Call call.IsNotNull)) refl
quiet_call call.FirstNonNull = quiet_from (text_of (symbol.Call call.FirstNonNull)) refl
quiet_call call.Greatest = quiet_from (text_of (symbol.Call call.Greatest)) refl
quiet_call call.Least = quiet_from (text_of (symbol.Call call.Least)) refl
quiet_call call.DaysBetween = quiet_from (text_of (symbol.Call call.DaysBetween)) refl
quiet_call call.HasValue = quiet_from (text_of (symbol.Call call.HasValue)) refl
quiet_call call.Zing = quiet_from (text_of (symbol.Call call.Zing)) refl
quiet_call call.Oizp = quiet_from (text_of (symbol.Call call.Oizp)) refl

pub quiet_item : (f : ItemForm) → Quiet (text_of (symbol.Item f))
unfolding text_of
quiet_item form.Element = quiet_from (text_of (symbol.Item form.Element)) refl
quiet_item form.ElementCombo = quiet_from (text_of (symbol.Item form.ElementCombo)) refl
quiet_item form.ElementCombos = quiet_from (text_of (symbol.Item form.ElementCombos)) refl
quiet_item form.Constant = quiet_from (text_of (symbol.Item form.Constant)) refl
quiet_item form.Group = quiet_from (text_of (symbol.Item form.Group)) refl
quiet_item form.Days = quiet_from (text_of (symbol.Item form.Days)) refl
quiet_item (form.Rate rates.Expected) = quiet_from (text_of (symbol.Item (form.Rate rates.Expected))) refl
quiet_item (form.Rate rates.Actual) = quiet_from (text_of (symbol.Item (form.Rate rates.Actual))) refl
quiet_item (form.Rate rates.OnTime) = quiet_from (text_of (symbol.Item (form.Rate rates.OnTime))) refl
quiet_item (form.Rate rates.Reported) = quiet_from (text_of (symbol.Item (form.Rate rates.Reported))) refl
quiet_item (form.Rate rates.ReportedOnTime) = quiet_from (text_of (symbol.Item (form.Rate rates.ReportedOnTime))) refl
quiet_item form.StageElement = quiet_from (text_of (symbol.Item form.StageElement)) refl
quiet_item form.Attribute = quiet_from (text_of (symbol.Item form.Attribute)) refl
quiet_item form.EventDate = quiet_from (text_of (symbol.Item form.EventDate)) refl
quiet_item form.EnrollmentDate = quiet_from (text_of (symbol.Item form.EnrollmentDate)) refl
quiet_item form.EventCount = quiet_from (text_of (symbol.Item form.EventCount)) refl
quiet_item form.EnrollmentCount = quiet_from (text_of (symbol.Item form.EnrollmentCount)) refl
quiet_item form.EntityCount = quiet_from (text_of (symbol.Item form.EntityCount)) refl

-- ---- the reader counts the brackets of the text

record Tracks (r : Reader) (s : Brackets) : Type 0 where
  opened : r.opened ≡ s.now
  crowded : is_none r.crowded ≡ nat_le s.most 64

-- a step that opens and closes nothing
abbrev pub Keeps : Reader → Reader → Type 0
Keeps r t = (t.opened ≡ r.opened) × (t.crowded ≡ r.crowded)

kept : (r t : Reader) (s : Brackets) (word : List ℕ) → Keeps r t → Quiet word → Tracks r s → Tracks t (scanned word s)
kept r t s word k q h =
    subst (Tracks t) (sym (scan_none word s q)) (record { opened = k.0 ∙ h.opened; crowded = ap (λ o. is_none o) k.1 ∙ h.crowded })
  where
    scan_none : (xs : List ℕ) (s : Brackets) → Quiet xs → scanned xs s ≡ s
    scan_none [] s q = refl
    scan_none (x ∷ xs) s q =
        ap (λ (t : Bool). scanned xs (cond t (opened s) (cond (nat_eq x 41) (closed s) s))) q.0
        ∙ ap (λ (t : Bool). scanned xs (cond t (closed s) s)) q.1
        ∙ scan_none xs s q.2

pub comma_keeps : (fs : List Frame) (ns : List Spot) (r : Reader) → Keeps r (comma_in fs ns r)
comma_keeps [] ns r = (refl, refl)
comma_keeps (frame.Call c ∷ fs) ns r = (refl, refl)
comma_keeps (f ∷ fs) ns r = (refl, refl)

pub quote_keeps : (t : Bool) (r a b : Reader) → Keeps r a → Keeps r b → Keeps r (cond t a b)
quote_keeps true r a b h g = h
quote_keeps false r a b h g = g

crowded_by : (c : Option ℕ) (at o d : ℕ) → is_none c ≡ nat_le d 64 → is_none (cond (is_none c && nat_le 64 o) (Some at) c) ≡ nat_le (max d (o + 1)) 64
crowded_by (Some x) at o d h =
    let no : nat_le d 64 ≡ false = sym h in
    let e : nat_le (max d (o + 1)) 64 ≡ false = grind (arith, nat_tests) in sym e
crowded_by None at o d h = by_test (nat_le 64 o) refl
  where
    by_test : (t : Bool) → nat_le 64 o ≡ t → is_none (cond (nat_le 64 o) (Some at) None) ≡ nat_le (max d (o + 1)) 64
    by_test true e = (let g : nat_le (max d (o + 1)) 64 ≡ false = grind (arith, nat_tests) in ap (λ (t : Bool). is_none (cond t (Some at) None)) e ∙ sym g)
    by_test false e =
        (let k : nat_le d 64 ≡ true = sym h in let g : nat_le (max d (o + 1)) 64 ≡ true =
        grind (arith, nat_tests) in ap (λ (t : Bool). is_none (cond t (Some at) None)) e ∙ sym g)

open_tracks : (r : Reader) (at : ℕ) (s : Brackets) → Tracks r s → Tracks (with_open r at) (opened s)
unfolding with_open
open_tracks r at s h = record {
  opened = ap (λ (n : ℕ). n + 1) h.opened;
  crowded = crowded_by r.crowded at r.opened s.most h.crowded ∙ ap (λ (n : ℕ). nat_le (max s.most (n + 1)) 64) h.opened;
}

close_tracks : (r : Reader) (s : Brackets) → Tracks r s → Tracks (with_close r) (closed s)
unfolding with_close
close_tracks r s h = record { opened = ap (λ (n : ℕ). n - 1) h.opened; crowded = h.crowded }

pub one_byte : (c : ℕ) (word : List ℕ) → not (nat_eq c 64) && not (nat_eq c 36) ≡ true → IsWord (c ∷ []) word → word ≡ c ∷ []
one_byte c [] e h = absurd h
one_byte c (b ∷ []) e h = let same : b ≡ c = same_letter c b e h.0 in ap (λ (x : ℕ). x ∷ []) same
  where
    same_letter : (c b : ℕ) → not (nat_eq c 64) && not (nat_eq c 36) ≡ true → fits_of c b ≡ true → b ≡ c
    same_letter c b h f = grind (arith, nat_tests)
one_byte c (b ∷ d ∷ ds) e h = absurd h.1

word_tracks : (r : Reader) (at : ℕ) (w : Symbol) (word : List ℕ) (s : Brackets) → IsWord (text_of w) word → Tracks r s
    → Tracks (with_word r at w) (scanned word s)
unfolding with_word text_of with_sign with_operator with_call with_leaf with_comma with_quote
word_tracks r at symbol.Open word s is h = subst (λ (l : List ℕ). Tracks (with_open r at) (scanned l s)) (sym (one_byte 40 word refl is)) (open_tracks r at s h)
word_tracks r at symbol.Close word s is h = subst (λ (l : List ℕ). Tracks (with_close r) (scanned l s)) (sym (one_byte 41 word refl is)) (close_tracks r s h)
word_tracks r at symbol.Comma word s is h =
    kept r (with_word r at symbol.Comma) s word (comma_keeps (frames_reduced 1 r.frames) (nodes_reduced 1 r.frames r.nodes) r)
    (quiet_word (text_of symbol.Comma) word (refl, refl, tt) is) h
word_tracks r at symbol.Quote word s is h =
    kept r (with_word r at symbol.Quote) s word (quote_keeps (is_quote r.expect) r _ _ (refl, refl) (refl, refl))
    (quiet_word (text_of symbol.Quote) word (refl, refl, tt) is) h
word_tracks r at symbol.Caret word s is h =
    kept r (with_word r at symbol.Caret) s word (refl, refl) (quiet_word (text_of symbol.Caret) word (refl, refl, tt) is) h
word_tracks r at symbol.Minus word s is h =
    kept r (with_word r at symbol.Minus) s word (refl, refl) (quiet_word (text_of symbol.Minus) word (refl, refl, tt) is) h
word_tracks r at symbol.Bang word s is h = kept r (with_word r at symbol.Bang) s word (refl, refl) (quiet_word (text_of symbol.Bang) word (refl, refl, tt) is) h
word_tracks r at (symbol.Operator o) word s is h =
    kept r (with_word r at (symbol.Operator o)) s word (refl, refl) (quiet_word (text_of (symbol.Operator o)) word (quiet_operator o) is) h
word_tracks r at (symbol.Call c) word s is h =
    kept r (with_word r at (symbol.Call c)) s word (refl, refl) (quiet_word (text_of (symbol.Call c)) word (quiet_call c) is) h
word_tracks r at (symbol.Item f) word s is h =
    kept r (with_word r at (symbol.Item f)) s word (refl, refl) (quiet_word (text_of (symbol.Item f)) word (quiet_item f) is) h

pub quiet_number : (digits decimals : List ℕ) → IsNumber digits decimals → Quiet (digits ++ behind_point decimals)
quiet_number digits decimals h = quiet_both digits (behind_point decimals) (quiet_digits digits h.whole) (quiet_point decimals (quiet_digits decimals h.part))

token_tracks : (r : Reader) (at : ℕ) (t : Token) (word : List ℕ) (s : Brackets) → IsLexeme t word → Tracks r s → Tracks (with_token r at t) (scanned word s)
unfolding with_token with_leaf with_exponent
token_tracks r at (token.Word w) word s is h = word_tracks r at w word s is h
token_tracks r at (token.Number n) word s is h =
    kept r (with_token r at (token.Number n)) s word (refl, refl) (subst Quiet (sym is.2) (quiet_number is.0 is.1 is.3)) h
token_tracks r at (token.Exponent n) word s is h = kept r (with_token r at (token.Exponent n)) s word (refl, refl) (quiet_digits word is.0.whole) h

scan_blanks : (bytes : List ℕ) (s : Brackets) → scanned bytes s ≡ scanned (drop (blank_count bytes) bytes) s
scan_blanks [] s = refl
scan_blanks (b ∷ bs) s = by_test (is_blank_of b) refl (scan_blanks bs s)
  where
    by_test : (t : Bool) → is_blank_of b ≡ t → scanned bs s ≡ scanned (drop (blank_count bs) bs) s
        → scanned (b ∷ bs) s ≡ scanned (drop (cond (is_blank_of b) (suc (blank_count bs)) 0) (b ∷ bs)) s
    by_test true e h =
        let k = quiet_blank b e in
        ap (λ (t : Bool). scanned bs (cond t (opened s) (cond (nat_eq b 41) (closed s) s))) k.0
        ∙ ap (λ (t : Bool). scanned bs (cond t (closed s) s)) k.1
        ∙ h ∙ ap (λ (t : Bool). scanned (drop (cond t (suc (blank_count bs)) 0) (b ∷ bs)) s) (sym e)
    by_test false e h = ap (λ (t : Bool). scanned (drop (cond t (suc (blank_count bs)) 0) (b ∷ bs)) s) (sym e)

abbrev Counts : Nodes → Brackets → Type 0
Counts nodes s = is_none nodes.crowded ≡ nat_le s.most 64

pub ended_ok : (t : Bool) (m nodes : Nodes) (at : ℕ) → cond t (Ok m) (Err at) ≡ Ok nodes → m ≡ nodes
ended_ok true m nodes at e = cc
ended_ok false m nodes at e = absurd cc

ended_counts : (r : Reader) (at : ℕ) (nodes : Nodes) (s : Brackets) → Tracks r s → ended r at ≡ Ok nodes → Counts nodes s
ended_counts r at nodes s h g =
    let is = ended_ok (may_end_in r.expect r.frames) (record { nodes = nodes_reduced 1 r.frames r.nodes; crowded = r.crowded }) nodes at g in
    ap (λ (m : Nodes). is_none m.crowded) (sym is) ∙ h.crowded

pub no_bytes : (l : List ℕ) → nat_eq (length l) 0 ≡ true → l ≡ []
no_bytes [] e = refl
no_bytes (x ∷ xs) e = absurd (grind (arith, nat_tests))

abbrev pub next_step : Place → ℕ → Reader → ℕ → List ℕ → Bool → Result Found ℕ → Result Nodes ℕ
next_step p n r at rest t found = cond t (ended r at) (go_on (read_rest p n) r at rest found)

abbrev Reads : Place → ℕ → Type 0
Reads p n = (r : Reader) (at : ℕ) (bytes : List ℕ) (s : Brackets) (nodes : Nodes) → Tracks r s → read_rest p n r at bytes ≡ Ok nodes
    → Counts nodes (scanned bytes s)

step_counts : (p : Place) (n : ℕ) → Reads p n → (r : Reader) (at : ℕ) (rest : List ℕ) (s : Brackets) (nodes : Nodes) → Tracks r s
    → (t : Bool) (f : Result Found ℕ) → nat_eq (length rest) 0 ≡ t → token_from r.expect r.frames r.quoted p rest ≡ f → next_step p n r at rest t f ≡ Ok nodes
    → Counts nodes (scanned rest s)
step_counts p n next r at rest s nodes h true f e g k =
    subst (λ (l : List ℕ). Counts nodes (scanned l s)) (sym (no_bytes rest e)) (ended_counts r at nodes s h k)
step_counts p n next r at rest s nodes h false (Err m) e g k = absurd cc
step_counts p n next r at rest s nodes h false (Ok f) e g k =
    let t = token_sound r.expect r.frames r.quoted p rest f g in
    let beyond : drop f.len rest ≡ t.1 = (λ i. drop (t.4 i) (t.2 i)) ∙ drop_front t.0 t.1 in
    let more : read_rest p n (with_token r at f.token) (at + f.len) t.1 ≡ Ok nodes = sym (ap (read_rest p n (with_token r at f.token) (at + f.len)) beyond)
    ∙ k in
    subst (Counts nodes) (sym (ap (λ (l : List ℕ). scanned l s) t.2 ∙ scan_both t.0 t.1 s))
    (next (with_token r at f.token) (at + f.len) t.1 (scanned t.0 s) nodes (token_tracks r at f.token t.0 s t.3 h) more)

read_counts : (p : Place) (n : ℕ) → Reads p n
read_counts p zero r at bytes s nodes h e = absurd (no_result at nodes (sym (read_none p r at bytes) ∙ e))
  where
    no_result : (at : ℕ) (nodes : Nodes) → Err at ≡ Ok nodes → ⊥
    no_result at nodes e = cc
read_counts p (suc n) r at bytes s nodes h e =
    let rest = drop (blank_count bytes) bytes in
    subst (Counts nodes) (sym (scan_blanks bytes s))
    (step_counts p n (read_counts p n) r (at + blank_count bytes) rest s nodes h (nat_eq (length rest) 0) (token_from r.expect r.frames r.quoted p rest) refl
    refl (sym (read_is p n r at bytes) ∙ e))

text_counts : (p : Place) (text : List ℕ) (nodes : Nodes) → read_text p text ≡ Ok nodes → Counts nodes (scanned text (brackets 0 0))
unfolding read_text
text_counts p text nodes e = read_counts p most_words new_reader 0 text (brackets 0 0) nodes (record { opened = refl; crowded = refl }) e

-- ---- a form's text has the brackets of the form

abbrev deepened : Brackets → ℕ → Brackets
deepened s m = brackets s.now (max s.most (s.now + m))

-- after a form as many are open as before it
abbrev Deepens : (List ℕ → List ℕ) → ℕ → Type 0
Deepens write m = (rest : List ℕ) (s : Brackets) → s.now ≤ s.most → scanned (write rest) s ≡ scanned rest (deepened s m)

same_brackets : (a b c d : ℕ) → a ≡ c → b ≡ d → brackets a b ≡ brackets c d
same_brackets a b c d p q = λ i. brackets (p i) (q i)

quiet_deepens : (b word : List ℕ) → Quiet b → Quiet word → Deepens (after_blanks b word) 0
quiet_deepens b word q h rest s le =
    skip b (word ++ rest) s q ∙ skip word rest s h ∙ ap (scanned rest) (same_brackets s.now s.most s.now (max s.most (s.now + 0)) refl (omega arith))

word_passed : (b word rest : List ℕ) (s : Brackets) → Quiet b → Quiet word → scanned (after_blanks b word rest) s ≡ scanned rest s
word_passed b word rest s q h = skip b (word ++ rest) s q ∙ skip word rest s h

open_passed : (b rest : List ℕ) (s : Brackets) → Quiet b → scanned (symbol_text b symbol.Open rest) s ≡ scanned rest (opened s)
unfolding text_of
open_passed b rest s q = skip b (40 ∷ rest) s q

close_passed : (b rest : List ℕ) (s : Brackets) → Quiet b → scanned (symbol_text b symbol.Close rest) s ≡ scanned rest (closed s)
unfolding text_of
close_passed b rest s q = skip b (41 ∷ rest) s q

quiet_comma : Quiet (text_of symbol.Comma)
unfolding text_of
quiet_comma = (refl, refl, tt)

quiet_quote : Quiet (text_of symbol.Quote)
unfolding text_of
quiet_quote = (refl, refl, tt)

quiet_caret : Quiet (text_of symbol.Caret)
unfolding text_of
quiet_caret = (refl, refl, tt)

quiet_sign : (sign : Unary) → Quiet (sign_text sign)
quiet_sign unary.Not = (refl, refl, tt)
quiet_sign _ = (refl, refl, tt)

-- what stands in brackets
inside : (s : Brackets) (m : ℕ) → s.now ≤ s.most → closed (deepened (opened s) m) ≡ deepened s (suc m)
inside s m le = same_brackets (s.now + 1 - 1) (max (max s.most (s.now + 1)) (s.now + 1 + m)) s.now (max s.most (s.now + suc m)) (omega arith) (omega arith)

side_by_side : (s : Brackets) (m n : ℕ) → deepened (deepened s m) n ≡ deepened s (max m n)
side_by_side s m n = same_brackets s.now (max (max s.most (s.now + m)) (s.now + n)) s.now (max s.most (s.now + max m n)) refl (omega arith)

still_below : (s : Brackets) (m : ℕ) → (deepened s m).now ≤ (deepened s m).most
still_below s m = omega arith

both_deepen : (write other : List ℕ → List ℕ) (between : List ℕ → List ℕ) (m n : ℕ) → Deepens write m → Deepens other n
    → ((rest : List ℕ) (s : Brackets) → scanned (between rest) s ≡ scanned rest s) → Deepens (λ rest. write (between (other rest))) (max m n)
both_deepen write other between m n h g q rest s le =
    h (between (other rest)) s le ∙ q (other rest) (deepened s m) ∙ g rest (deepened s m) (still_below s m) ∙ ap (scanned rest) (side_by_side s m n)

in_brackets_deepen : (name c : List ℕ) (d : List ℕ) (write : List ℕ → List ℕ) (m : ℕ) → Quiet name → Quiet c → Quiet d → Deepens write m
    → Deepens (λ rest. name ++ symbol_text c symbol.Open (write (symbol_text d symbol.Close rest))) (1 + m)
in_brackets_deepen name c d write m q k l h rest s le =
    let e : suc m ≡ 1 + m = omega arith in
    skip name (symbol_text c symbol.Open (write (symbol_text d symbol.Close rest))) s q
    ∙ open_passed c (write (symbol_text d symbol.Close rest)) s k
    ∙ h (symbol_text d symbol.Close rest) (opened s) (omega arith)
    ∙ close_passed d rest (deepened (opened s) m) l
    ∙ ap (scanned rest) (inside s m le ∙ ap (deepened s) e)

calm : (b : List ℕ) (w : Symbol) → Quiet b → Quiet (text_of w) → (rest : List ℕ) (s : Brackets) → scanned (symbol_text b w rest) s ≡ scanned rest s
calm b w q h rest s = word_passed b (text_of w) rest s q h

bracket_deepens : (b c : List ℕ) (inner : Form) (m : ℕ) → Quiet b → Quiet c → Deepens (spelled inner) m → Deepens (spelled (Bracket b inner c)) (suc m)
bracket_deepens b c inner m q k h rest s le =
    open_passed b (spelled inner (symbol_text c symbol.Close rest)) s q
    ∙ h (symbol_text c symbol.Close rest) (opened s) (omega arith)
    ∙ close_passed c rest (deepened (opened s) m) k
    ∙ ap (scanned rest) (inside s m le)

-- a call's name, and what stands in its brackets
call_deepens : (b c d : List ℕ) (name : Call) (write : List ℕ → List ℕ) (m : ℕ) → Quiet b → Quiet c → Quiet d → Deepens write m
    → Deepens (λ rest. symbol_text b (symbol.Call name) (symbol_text c symbol.Open (write (symbol_text d symbol.Close rest)))) (1 + m)
call_deepens b c d name write m q k l h rest s le =
    calm b (symbol.Call name) q (quiet_call name) (symbol_text c symbol.Open (write (symbol_text d symbol.Close rest))) s
    ∙ in_brackets_deepen [] c d write m tt k l h rest s le

form_deepens : (p : Place) (F : Form) (quoted : Bool) (level : ℕ) → IsForm p quoted level F → Deepens (spelled F) (open_of F)
form_deepens p (Number b digits decimals) quoted level h rest s le =
    quiet_deepens b (digits ++ behind_point decimals) (quiet_blanks b h.0) (quiet_number digits decimals h.1) rest s le
form_deepens p (Item b form word) quoted level h rest s le =
    quiet_deepens b word (quiet_blanks b h.0) (quiet_word (text_of (symbol.Item form)) word (quiet_item form) h.2) rest s le
form_deepens p (Bracket b inner c) quoted level h rest s le =
    bracket_deepens b c inner (open_of inner) (quiet_blanks b h.0) (quiet_blanks c h.2) (form_deepens p inner quoted 1 h.1) rest s le
form_deepens p (Power atom b c digits) quoted level h rest s le =
    form_deepens p atom quoted 8 h.1 (symbol_text b symbol.Caret (after_blanks c digits rest)) s le
    ∙ calm b symbol.Caret (quiet_blanks b h.2) quiet_caret (after_blanks c digits rest) (deepened s (open_of atom))
    ∙ word_passed c digits rest (deepened s (open_of atom)) (quiet_blanks c h.3) (quiet_digits digits h.4.whole)
form_deepens p (Sign b sign operand) quoted level h rest s le =
    word_passed b (sign_text sign) (spelled operand rest) s (quiet_blanks b h.1) (quiet_sign sign) ∙ form_deepens p operand quoted 6 h.3 rest s le
form_deepens p (Chain left b operator right) quoted level h rest s le =
    both_deepen (spelled left) (spelled right) (symbol_text b (symbol.Operator operator)) (open_of left) (open_of right)
    (form_deepens p left quoted (left_level_of operator) h.2) (form_deepens p right quoted (right_level_of operator) h.4)
    (calm b (symbol.Operator operator) (quiet_blanks b h.3) (quiet_operator operator)) rest s le
form_deepens p (Arguments first b last) quoted level h rest s le =
    both_deepen (spelled first) (spelled last) (symbol_text b symbol.Comma) (open_of first) (open_of last)
    (form_deepens p first quoted 0 h.1) (form_deepens p last quoted 1 h.3) (calm b symbol.Comma (quiet_blanks b h.2) quiet_comma) rest s le
form_deepens p (If b c test d one e other f) quoted level h rest s le =
    call_deepens b c f call.If (λ r. spelled test (symbol_text d symbol.Comma (spelled one (symbol_text e symbol.Comma (spelled other r)))))
    (max (open_of test) (max (open_of one) (open_of other)))
    (quiet_blanks b h.1) (quiet_blanks c h.2) (quiet_blanks f h.8)
    (both_deepen (spelled test) (λ r. spelled one (symbol_text e symbol.Comma (spelled other r))) (symbol_text d symbol.Comma) (open_of test)
    (max (open_of one) (open_of other))
    (form_deepens p test quoted 1 h.3)
    (both_deepen (spelled one) (spelled other) (symbol_text e symbol.Comma) (open_of one) (open_of other) (form_deepens p one quoted 1 h.5)
    (form_deepens p other quoted 1 h.7) (calm e symbol.Comma (quiet_blanks e h.6) quiet_comma))
    (calm d symbol.Comma (quiet_blanks d h.4) quiet_comma)) rest s le
form_deepens p (Condition b c d test e f one g other i) quoted level h rest s le =
    call_deepens b c i call.Condition (λ r. symbol_text d symbol.Quote
    (spelled test (symbol_text e symbol.Quote (symbol_text f symbol.Comma (spelled one (symbol_text g symbol.Comma (spelled other r)))))))
    (max (open_of test) (max (open_of one) (open_of other))) (quiet_blanks b h.2) (quiet_blanks c h.3) (quiet_blanks i h.11)
    (λ r t under. calm d symbol.Quote (quiet_blanks d h.4) quiet_quote
    (spelled test (symbol_text e symbol.Quote (symbol_text f symbol.Comma (spelled one (symbol_text g symbol.Comma (spelled other r)))))) t
    ∙ both_deepen (spelled test) (λ r. spelled one (symbol_text g symbol.Comma (spelled other r))) (λ r.
    symbol_text e symbol.Quote (symbol_text f symbol.Comma r)) (open_of test) (max (open_of one) (open_of other))
    (form_deepens p test true 1 h.5)
    (both_deepen (spelled one) (spelled other) (symbol_text g symbol.Comma) (open_of one) (open_of other) (form_deepens p one quoted 1 h.8)
    (form_deepens p other quoted 1 h.10) (calm g symbol.Comma (quiet_blanks g h.9) quiet_comma))
    (λ r s. calm e symbol.Quote (quiet_blanks e h.6) quiet_quote (symbol_text f symbol.Comma r) s
    ∙ calm f symbol.Comma (quiet_blanks f h.7) quiet_comma r s) r t under) rest s le
form_deepens p (DaysBetween b c one d other e) quoted level h rest s le =
    call_deepens b c e call.DaysBetween (λ r. spelled one (symbol_text d symbol.Comma (spelled other r))) (max (open_of one) (open_of other))
    (quiet_blanks b h.1) (quiet_blanks c h.2) (quiet_blanks e h.6)
    (both_deepen (spelled one) (spelled other) (symbol_text d symbol.Comma) (open_of one) (open_of other) (form_deepens p one quoted 1 h.3)
    (form_deepens p other quoted 1 h.5) (calm d symbol.Comma (quiet_blanks d h.4) quiet_comma)) rest s le
form_deepens p (Apply b name c arguments d) quoted level h rest s le =
    call_deepens b c d name (spelled arguments) (open_of arguments) (quiet_blanks b h.1) (quiet_blanks c h.2) (quiet_blanks d h.5)
    (form_deepens p arguments quoted (arguments_level name) h.3) rest s le

whole_deepens : (p : Place) (F : Form) → IsWhole p F → Deepens (spelled F) (open_of F)
whole_deepens p (Item b form word) h = quiet_deepens b word (quiet_blanks b h.0) (quiet_word (text_of (symbol.Item form)) word (quiet_item form) h.2)
whole_deepens p (Number b digits decimals) h = form_deepens p (Number b digits decimals) false 1 h
whole_deepens p (Bracket b inner c) h = form_deepens p (Bracket b inner c) false 1 h
whole_deepens p (Power atom b c digits) h = form_deepens p (Power atom b c digits) false 1 h
whole_deepens p (Sign b sign operand) h = form_deepens p (Sign b sign operand) false 1 h
whole_deepens p (Chain left b operator right) h = form_deepens p (Chain left b operator right) false 1 h
whole_deepens p (Arguments first b last) h = form_deepens p (Arguments first b last) false 1 h
whole_deepens p (If b c test d one e other f) h = form_deepens p (If b c test d one e other f) false 1 h
whole_deepens p (Condition b c d test e f one g other i) h = form_deepens p (Condition b c d test e f one g other i) false 1 h
whole_deepens p (DaysBetween b c one d other e) h = form_deepens p (DaysBetween b c one d other e) false 1 h
whole_deepens p (Apply b name c arguments d) h = form_deepens p (Apply b name c arguments d) false 1 h

-- a text that is read is crowded where more than 64 brackets of its form are open at once
pub crowded_is : (p : Place) (text : List ℕ) (F : Form) (nodes : Nodes) → IsTextOf p text F → read_text p text ≡ Ok nodes
    → is_none nodes.crowded ≡ nat_le (open_of F) 64
crowded_is p text F nodes h e =
    let all : scanned text (brackets 0 0) ≡ deepened (brackets 0 0) (open_of F) =
    ap (λ (l : List ℕ). scanned l (brackets 0 0)) h.3
    ∙ whole_deepens p F h.0 h.1 (brackets 0 0) (omega arith)
    ∙ ap (λ (l : List ℕ). scanned l (deepened (brackets 0 0) (open_of F))) (sym (all_blanks h.1))
    ∙ skip h.1 [] (deepened (brackets 0 0) (open_of F)) (quiet_blanks h.1 h.2) in
    let m : max 0 (0 + open_of F) ≡ open_of F = omega arith in
    text_counts p text nodes e ∙ ap (λ (s : Brackets). nat_le s.most 64) all ∙ ap (λ (n : ℕ). nat_le n 64) m
  where
    all_blanks : (bs : List ℕ) → bs ++ [] ≡ bs
    all_blanks [] = refl
    all_blanks (b ∷ bs) = ap (λ (l : List ℕ). b ∷ l) (all_blanks bs)
