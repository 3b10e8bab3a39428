-- Where a quoted text is opened, the reader stands after its quote.
use Rattle.std.proofs.Common.{◌≡◌, ℕ, ◌≤◌, Bool, true, false, cond, List, [], ◌∷◌, ◌++◌, length, take, Err}
use Rattle.std.proofs.Common.{refl, sym, ap, subst, ◌⊎◌, ◌∙◌, inl, inr, append_assoc, length-append, arith}
use Rattle.std.specs.Prelude.{◌||◌, not, nat_eq}
use Rattle.std.specs.Char.{is_ascii_digit}
use Rattle.std.proofs.lemmas.Bool.Decides.{nat_tests}
use Rattle.std.proofs.lemmas.List.{append-nil, append_cancel_right}
use Rattle.dh_base.specs.declared.plain.Rate.TheVariants as rates
use Rattle.expr_lang.specs.declared.tree.Place.{Place}
use Rattle.expr_lang.specs.declared.tree.Place.TheVariants as place
use Rattle.expr_lang.specs.declared.words.Symbol.{Symbol}
use Rattle.expr_lang.specs.declared.words.Symbol.TheVariants as symbol
use Rattle.expr_lang.specs.declared.words.Call.TheVariants as call
use Rattle.expr_lang.specs.declared.words.ItemForm.{ItemForm}
use Rattle.expr_lang.specs.declared.words.ItemForm.TheVariants as form
use Rattle.expr_lang.specs.declared.reading.Frame.{Frame}
use Rattle.expr_lang.specs.declared.reading.Expect.{Expect}
use Rattle.expr_lang.specs.declared.reading.Token.{Token}
use Rattle.expr_lang.specs.declared.reading.Token.TheVariants as token
use Rattle.expr_lang.specs.Reading.{is_blank_of, token_from}
use Rattle.expr_lang.specs.Print.{right_level_of}
use Rattle.expr_lang.specs.Token.{fits_of}
use Rattle.expr_lang.specs.Words.{text_of, operands_of, start_of, items_of_place, bracket_of, nothing_of}
use Rattle.expr_grammar.specs.Continues.{HasNoQuote, OpensQuote}
use Rattle.expr_grammar.specs.Grammar.{Form, Number, Item, Bracket, Power, Sign, Chain, Arguments, If, Condition, DaysBetween, Apply, IsBlank, IsDigits}
use Rattle.expr_grammar.specs.Grammar.{IsWord, IsAmong, IsForm, sign_text, symbol_text, behind_point, spelled}
use Rattle.expr_grammar.proofs.Words.{all_of, among_all}
use Rattle.expr_grammar.proofs.Tokens.{IsLexeme}
use Rattle.expr_grammar.proofs.Steps.{only}
use Rattle.expr_grammar.proofs.Quoted.{plain_both, plain_front, plain_digits, plain_point, plain_word, plain_operator, plain_call, plain_item}
use Rattle.expr_grammar.proofs.Quoted.{Longer, long_symbol, long_call, long_form}
use Rattle.expr_grammar.proofs.Continued.{token_begun}
use Rattle.expr_grammar.proofs.Fuel.{cons_tail}

-- ---- no form ends in an opening bracket

-- the last byte that isn't blank, if there is one
abbrev pub last_dark : ℕ → List ℕ → ℕ
last_dark d [] = d
last_dark d (x ∷ xs) = last_dark (cond (is_blank_of x) d x) xs

pub last_both : (d : ℕ) (xs ys : List ℕ) → last_dark d (xs ++ ys) ≡ last_dark (last_dark d xs) ys
last_both d [] ys = refl
last_both d (x ∷ xs) ys = last_both (cond (is_blank_of x) d x) xs ys

pub last_blank : (d : ℕ) (b : List ℕ) → IsBlank b → last_dark d b ≡ d
last_blank d [] h = refl
last_blank d (x ∷ xs) h = ap (λ (t : Bool). last_dark (cond t d x) xs) h.0 ∙ last_blank d xs h.1

abbrev pub is_closed : ℕ → Bool
is_closed b = not (nat_eq b 40)

digit_dark : (b : ℕ) → is_ascii_digit b ≡ true → is_blank_of b ≡ false
digit_dark b h = grind (arith, nat_tests)

digit_closed : (b : ℕ) → is_ascii_digit b ≡ true → is_closed b ≡ true
digit_closed b h = (let no : nat_eq b 40 ≡ false = grind (arith, nat_tests) in ap not no)

digits_last : (d : ℕ) (ds : List ℕ) → is_ascii_digit d ≡ true → IsDigits ds → is_ascii_digit (last_dark d ds) ≡ true
digits_last d [] h is = h
digits_last d (x ∷ xs) h is =
    ap (λ (t : Bool). is_ascii_digit (last_dark (cond t d x) xs)) (digit_dark x is.0) ∙ digits_last x xs is.0 is.1

some_digits : (d : ℕ) (ds : List ℕ) → IsDigits ds → 1 ≤ length ds → is_ascii_digit (last_dark d ds) ≡ true
some_digits d [] is some = absurd (omega arith)
some_digits d (x ∷ xs) is some =
    ap (λ (t : Bool). is_ascii_digit (last_dark (cond t d x) xs)) (digit_dark x is.0) ∙ digits_last x xs is.0 is.1

point_last : (d : ℕ) (ds : List ℕ) → is_ascii_digit d ≡ true → IsDigits ds → is_ascii_digit (last_dark d (behind_point ds)) ≡ true
point_last d [] h is = h
point_last d (x ∷ xs) h is = some_digits 46 (x ∷ xs) is (omega arith)

-- an item ends in a brace or a square bracket
abbrev ends_so : List ℕ → Bool
ends_so [] = false
ends_so (c ∷ []) = nat_eq c 125 || nat_eq c 93
ends_so (c ∷ x ∷ xs) = ends_so (x ∷ xs)

one_last : (c b d : ℕ) → nat_eq c 125 || nat_eq c 93 ≡ true → fits_of c b ≡ true → is_closed (cond (is_blank_of b) d b) ≡ true
one_last c b d e h =
    let dark : is_blank_of b ≡ false = grind (arith, nat_tests) in
    let no : nat_eq b 40 ≡ false = grind (arith, nat_tests) in
    ap (λ (t : Bool). is_closed (cond t d b)) dark ∙ ap not no

word_last : (t word : List ℕ) (d : ℕ) → ends_so t ≡ true → IsWord t word → is_closed (last_dark d word) ≡ true
word_last [] word d e h = absurd cc
word_last (c ∷ cs) [] d e h = absurd h
word_last (c ∷ []) (b ∷ []) d e h = one_last c b d e h.0
word_last (c ∷ []) (b ∷ x ∷ xs) d e h = absurd h.1
word_last (c ∷ x ∷ xs) (b ∷ bs) d e h = word_last (x ∷ xs) bs (cond (is_blank_of b) d b) e h.1

item_ends : (f : ItemForm) → ends_so (text_of (symbol.Item f)) ≡ true
unfolding text_of
item_ends form.Element = refl
item_ends form.ElementCombo = refl
item_ends form.ElementCombos = refl
item_ends form.Constant = refl
item_ends form.Group = refl
item_ends form.Days = refl
item_ends (form.Rate rates.Expected) = refl
item_ends (form.Rate rates.Actual) = refl
item_ends (form.Rate rates.OnTime) = refl
item_ends (form.Rate rates.Reported) = refl
item_ends (form.Rate rates.ReportedOnTime) = refl
item_ends form.StageElement = refl
item_ends form.Attribute = refl
item_ends form.EventDate = refl
item_ends form.EnrollmentDate = refl
item_ends form.EventCount = refl
item_ends form.EnrollmentCount = refl
item_ends form.EntityCount = refl

close_last : (d : ℕ) (front text : List ℕ) → text ≡ front ++ (text_of symbol.Close ++ []) → is_closed (last_dark d text) ≡ true
unfolding text_of
close_last d front text e = ap (λ (l : List ℕ). is_closed (last_dark d l)) e ∙ ap is_closed (last_both d front (text_of symbol.Close ++ []))

pub after_last : (d : ℕ) (front word : List ℕ) → ((k : ℕ) → is_closed (last_dark k word) ≡ true) → is_closed (last_dark d (front ++ word)) ≡ true
after_last d front word h = ap is_closed (last_both d front word) ∙ h (last_dark d front)

-- what stands at the end of a form: a digit, an item's last byte, or a bracket that closes
pub form_last : (p : Place) (q : Bool) (L : ℕ) (F : Form) → IsForm p q L F → (d : ℕ) → is_closed (last_dark d (spelled F [])) ≡ true
form_last p q L (Number b digits decimals) is d =
    after_last d b ((digits ++ behind_point decimals) ++ []) (λ k.
    ap (λ (l : List ℕ). is_closed (last_dark k l)) (append-nil (digits ++ behind_point decimals))
    ∙ ap is_closed (last_both k digits (behind_point decimals))
    ∙ digit_closed (last_dark (last_dark k digits) (behind_point decimals))
    (point_last (last_dark k digits) decimals (some_digits k digits is.1.whole is.1.some) is.1.part))
form_last p q L (Item b f word) is d =
    after_last d b (word ++ []) (λ k.
    ap (λ (l : List ℕ). is_closed (last_dark k l)) (append-nil word) ∙ word_last (text_of (symbol.Item f)) word k (item_ends f) is.2)
form_last p q L (Bracket b inner c) is d =
    let end = text_of symbol.Close ++ [] in
    let start : Longer end (symbol_text c symbol.Close []) c = record { is = refl } in
    close_last d _ (spelled (Bracket b inner c) []) (long_symbol end b symbol.Open (long_form end inner start)).is
form_last p q L (Power atom b c digits) is d =
    let end = digits ++ [] in
    let start : Longer end (c ++ end) c = record { is = refl } in
    let whole = (long_form end atom (long_symbol end b symbol.Caret start)).is in
    ap (λ (l : List ℕ). is_closed (last_dark d l)) whole
    ∙ after_last d (spelled atom (symbol_text b symbol.Caret c)) end (λ k.
    ap (λ (l : List ℕ). is_closed (last_dark k l)) (append-nil digits) ∙ digit_closed (last_dark k digits) (some_digits k digits is.4.whole is.4.some))
form_last p q L (Sign b sign operand) is d =
    after_last d b (sign_text sign ++ spelled operand []) (λ k. after_last k (sign_text sign) (spelled operand []) (form_last p q 6 operand is.3))
form_last p q L (Chain left b op right) is d =
    let end = spelled right [] in
    let start : Longer end end [] = record { is = refl } in
    let whole = (long_form end left (long_symbol end b (symbol.Operator op) start)).is in
    ap (λ (l : List ℕ). is_closed (last_dark d l)) whole
    ∙ after_last d (spelled left (symbol_text b (symbol.Operator op) [])) end (form_last p q (right_level_of op) right is.4)
form_last p q L (Arguments first b last) is d =
    let end = spelled last [] in
    let start : Longer end end [] = record { is = refl } in
    let whole = (long_form end first (long_symbol end b symbol.Comma start)).is in
    ap (λ (l : List ℕ). is_closed (last_dark d l)) whole
    ∙ after_last d (spelled first (symbol_text b symbol.Comma [])) end (form_last p q 1 last is.3)
form_last p q L (If b c test f one g other i) is d =
    let end = text_of symbol.Close ++ [] in
    let start : Longer end (symbol_text i symbol.Close []) i = record { is = refl } in
    close_last d _ (spelled (If b c test f one g other i) []) (long_call end b call.If c (long_form end test (long_symbol end f symbol.Comma
    (long_form end one (long_symbol end g symbol.Comma (long_form end other start)))))).is
form_last p q L (Condition b c f test g i one j other l) is d =
    let end = text_of symbol.Close ++ [] in
    let start : Longer end (symbol_text l symbol.Close []) l = record { is = refl } in
    close_last d _ (spelled (Condition b c f test g i one j other l) []) (long_call end b call.Condition c (long_symbol end f symbol.Quote
    (long_form end test (long_symbol end g symbol.Quote (long_symbol end i symbol.Comma (long_form end one (long_symbol end j symbol.Comma
    (long_form end other start)))))))).is
form_last p q L (DaysBetween b c one f other g) is d =
    let end = text_of symbol.Close ++ [] in
    let start : Longer end (symbol_text g symbol.Close []) g = record { is = refl } in
    close_last d _ (spelled (DaysBetween b c one f other g) []) (long_call end b call.DaysBetween c
    (long_form end one (long_symbol end f symbol.Comma (long_form end other start)))).is
form_last p q L (Apply b name c arguments f) is d =
    let end = text_of symbol.Close ++ [] in
    let start : Longer end (symbol_text f symbol.Close []) f = record { is = refl } in
    close_last d _ (spelled (Apply b name c arguments f) []) (long_call end b name c (long_form end arguments start)).is

-- ---- a quote that opens

abbrev head_of : List ℕ → List ℕ → List ℕ → List ℕ
head_of front b c = front ++ (text_of (symbol.Call call.Condition) ++ (b ++ (text_of symbol.Open ++ c)))

head_split : (front b c : List ℕ)
    → front ++ symbol_text [] (symbol.Call call.Condition) (symbol_text b symbol.Open (symbol_text c symbol.Quote [])) ≡ head_of front b c ++ (39 ∷ [])
unfolding text_of
head_split front b c =
    let name = text_of (symbol.Call call.Condition) in
    let bracket = text_of symbol.Open in
    let mark : List ℕ = 39 ∷ [] in
    ap (λ (l : List ℕ). front ++ (name ++ (b ++ l))) (sym (append_assoc bracket c mark))
    ∙ ap (λ (l : List ℕ). front ++ (name ++ l)) (sym (append_assoc b (bracket ++ c) mark))
    ∙ ap (λ (l : List ℕ). front ++ l) (sym (append_assoc name (b ++ (bracket ++ c)) mark))
    ∙ sym (append_assoc front (name ++ (b ++ (bracket ++ c))) mark)

-- the bytes before the quote
pub opening_split : (opening : List ℕ) → OpensQuote opening → (before : List ℕ) × (opening ≡ before ++ (39 ∷ []))
opening_split opening h = (head_of h.0 h.1 h.2, h.5 ∙ head_split h.0 h.1 h.2)

open_last : (d : ℕ) (c : List ℕ) → IsBlank c → last_dark d (text_of symbol.Open ++ c) ≡ 40
unfolding text_of
open_last d c is = last_blank 40 c is

-- what is read up to an opening quote ends in an opening bracket and blanks
pub opening_last : (d : ℕ) (before opening : List ℕ) → OpensQuote opening → opening ≡ before ++ (39 ∷ []) → last_dark d before ≡ 40
opening_last d before opening h same =
    let front = h.0 in
    let b = h.1 in
    let c = h.2 in
    let name = text_of (symbol.Call call.Condition) in
    let bracket = text_of symbol.Open in
    let ends : before ≡ head_of front b c = append_cancel_right before (head_of front b c) (39 ∷ []) (sym same ∙ h.5 ∙ head_split front b c) in
    ap (last_dark d) ends
    ∙ last_both d front (name ++ (b ++ (bracket ++ c)))
    ∙ last_both (last_dark d front) name (b ++ (bracket ++ c))
    ∙ last_both (last_dark (last_dark d front) name) b (bracket ++ c)
    ∙ open_last (last_dark (last_dark (last_dark d front) name) b) c h.4

-- tokens other than a quote have none in them
pub quote_free : (t : Token) (lexeme : List ℕ) → IsLexeme t lexeme → (t ≡ token.Word symbol.Quote) ⊎ HasNoQuote lexeme
unfolding text_of
quote_free (token.Word symbol.Quote) lexeme is = inl refl
quote_free (token.Word symbol.Open) lexeme is = inr (plain_word (text_of symbol.Open) lexeme (refl, tt) is)
quote_free (token.Word symbol.Close) lexeme is = inr (plain_word (text_of symbol.Close) lexeme (refl, tt) is)
quote_free (token.Word symbol.Comma) lexeme is = inr (plain_word (text_of symbol.Comma) lexeme (refl, tt) is)
quote_free (token.Word symbol.Caret) lexeme is = inr (plain_word (text_of symbol.Caret) lexeme (refl, tt) is)
quote_free (token.Word symbol.Minus) lexeme is = inr (plain_word (text_of symbol.Minus) lexeme (refl, tt) is)
quote_free (token.Word symbol.Bang) lexeme is = inr (plain_word (text_of symbol.Bang) lexeme (refl, tt) is)
quote_free (token.Word (symbol.Operator op)) lexeme is = inr (plain_word (text_of (symbol.Operator op)) lexeme (plain_operator op) is)
quote_free (token.Word (symbol.Call name)) lexeme is = inr (plain_word (text_of (symbol.Call name)) lexeme (plain_call name) is)
quote_free (token.Word (symbol.Item f)) lexeme is = inr (plain_word (text_of (symbol.Item f)) lexeme (plain_item f) is)
quote_free (token.Number n) lexeme is =
    inr (subst HasNoQuote (sym is.2) (plain_both is.0 (behind_point is.1) (plain_digits is.0 is.3.whole) (plain_point is.1 (plain_digits is.1 is.3.part))))
quote_free (token.Exponent n) lexeme is = inr (plain_digits lexeme is.0.whole)

one_byte : (xs ys : List ℕ) → 1 ≤ length ys → length (xs ++ ys) ≡ 1 → length xs ≡ 0
one_byte xs ys some e = omega (arith, some, e, length-append xs ys)

empty_plain : (xs : List ℕ) → length xs ≡ 0 → HasNoQuote xs
empty_plain [] e = tt
empty_plain (x ∷ xs) e = absurd (omega arith)

pub quote_one : (lexeme : List ℕ) → IsLexeme (token.Word symbol.Quote) lexeme → lexeme ≡ 39 ∷ []
unfolding text_of
quote_one lexeme is = only symbol.Quote lexeme tt is

-- nor has what may begin a token
pub front_plain : (e : Expect) (frames : List Frame) (quoted : Bool) (p : Place) (bytes : List ℕ) (n : ℕ) → token_from e frames quoted p bytes ≡ Err n
    → HasNoQuote (take n bytes)
front_plain e frames quoted p bytes n h =
    elim (token_begun e frames quoted p bytes n h) [
      | inl z ↦ subst (λ (k : ℕ). HasNoQuote (take k bytes)) (sym z) tt
      | inr g ↦ elim (quote_free g.begun (take n bytes ++ g.tail) g.is) [
        | inl q ↦
            let one = quote_one (take n bytes ++ g.tail) (subst (λ (t : Token). IsLexeme t (take n bytes ++ g.tail)) q g.is) in
            empty_plain (take n bytes) (one_byte (take n bytes) g.tail g.more (ap length one))
        | inr plain ↦ plain_front (take n bytes) g.tail plain
      ]
    ]

-- bytes without a quote before one
pub record Before (xs rest ahead beyond : List ℕ) : Type 0 where
  pub left : List ℕ
  pub ahead_is : ahead ≡ xs ++ left
  pub rest_is : rest ≡ left ++ (39 ∷ beyond)

marks_apart : (x z : ℕ) (xs ys : List ℕ) → nat_eq x 39 ≡ false → x ∷ xs ≡ 39 ∷ ys → ⊥
marks_apart x z xs ys h e = (let same : x ≡ 39 = cc in let no : nat_eq x 39 ≡ true = ap (λ (k : ℕ). nat_eq k 39) same in absurd cc)

pub before_mark : (xs rest ahead beyond : List ℕ) → HasNoQuote xs → xs ++ rest ≡ ahead ++ (39 ∷ beyond) → Before xs rest ahead beyond
before_mark [] rest ahead beyond h e = record { left = ahead; ahead_is = refl; rest_is = e }
before_mark (x ∷ xs) rest [] beyond h e = absurd (marks_apart x 39 (xs ++ rest) beyond h.0 e)
before_mark (x ∷ xs) rest (z ∷ ahead) beyond h e =
    let r = before_mark xs rest ahead beyond h.1 (cons_tail x z (xs ++ rest) (ahead ++ (39 ∷ beyond)) e) in
    let same : x ≡ z = cc in
    record { left = r.left; ahead_is = ap (λ (k : ℕ). k ∷ ahead) (sym same) ∙ ap (λ (l : List ℕ). x ∷ l) r.ahead_is; rest_is = r.rest_is }

-- the quote itself
abbrev pub Marked : List ℕ → List ℕ → List ℕ → Type 0
Marked rest ahead beyond = ((ahead ≡ []) × (rest ≡ beyond)) ⊎ ((left : List ℕ) × (ahead ≡ 39 ∷ left) × (rest ≡ left ++ (39 ∷ beyond)))

pub at_mark : (rest ahead beyond : List ℕ) → 39 ∷ rest ≡ ahead ++ (39 ∷ beyond) → Marked rest ahead beyond
at_mark rest [] beyond e = inl (refl, cons_tail 39 39 rest beyond e)
at_mark rest (z ∷ ahead) beyond e =
    (let same : z ≡ 39 = cc in inr (ahead, ap (λ (k : ℕ). k ∷ ahead) same, cons_tail 39 z rest (ahead ++ (39 ∷ beyond)) e))

-- ---- which words a quote is among

abbrev plain_symbol : Symbol → Bool
plain_symbol symbol.Quote = false
plain_symbol _ = true

pub plain_operands : (p : Place) → all_of plain_symbol (operands_of p) ≡ true
unfolding operands_of
plain_operands place.Aggregate = refl
plain_operands place.Program = refl

pub plain_starts : (p : Place) → all_of plain_symbol (start_of p) ≡ true
unfolding start_of
plain_starts place.Aggregate = refl
plain_starts place.Program = refl

pub plain_items : (p : Place) → all_of plain_symbol (items_of_place p) ≡ true
unfolding items_of_place
plain_items place.Aggregate = refl
plain_items place.Program = refl

pub plain_brackets : all_of plain_symbol bracket_of ≡ true
unfolding bracket_of
plain_brackets = refl

pub plain_nothing : all_of plain_symbol nothing_of ≡ true
unfolding nothing_of
plain_nothing = refl

pub no_quote_among : (ws : List Symbol) → all_of plain_symbol ws ≡ true → IsAmong symbol.Quote ws → ⊥
no_quote_among ws h among = (let no = among_all plain_symbol ws symbol.Quote h among in absurd cc)
