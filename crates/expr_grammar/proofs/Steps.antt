-- One step of the reader over a text, and several.
use Rattle.std.proofs.Common.{◌≡◌, ℕ, zero, suc, ◌+◌, ◌≤◌, Bool, true, false, cond, List, [], ◌∷◌, ◌++◌, length, drop, Result, Err, refl, sym, ap, subst}
use Rattle.std.proofs.Common.{◌∙◌, inl, inr, arith}
use Rattle.std.specs.Prelude.{◌&&◌, ◌||◌, nat_eq}
use Rattle.std.proofs.lemmas.Bool.Decides.{nat_tests}
use Rattle.std.proofs.lemmas.List.{drop-drop}
use Rattle.expr_lang.specs.declared.tree.Place.{Place}
use Rattle.expr_lang.specs.declared.tree.Binary.{Binary}
use Rattle.expr_lang.specs.declared.tree.Binary.TheVariants as binary
use Rattle.expr_lang.specs.declared.words.Symbol.{Symbol}
use Rattle.expr_lang.specs.declared.words.Symbol.TheVariants as symbol
use Rattle.expr_lang.specs.declared.words.Call.{Call}
use Rattle.expr_lang.specs.declared.words.Call.TheVariants as call
use Rattle.expr_lang.specs.declared.reading.Token.{Token}
use Rattle.expr_lang.specs.declared.reading.Token.TheVariants as token
use Rattle.expr_lang.specs.declared.reading.Reader.{Reader}
use Rattle.expr_lang.specs.declared.reading.Nodes.{Nodes}
use Rattle.expr_lang.specs.Reading.{is_blank_of, blank_count, token_from, with_token, ended, go_on, read_rest}
use Rattle.expr_lang.specs.Token.{fits_of}
use Rattle.expr_lang.specs.Words.{text_of}
use Rattle.expr_grammar.specs.Grammar.{IsBlank, IsWord, symbol_text}
use Rattle.expr_grammar.proofs.Words.{drop_front, first_is, both, blank_is, same_number, literal_fits, or_cases, is_open}
use Rattle.expr_grammar.proofs.Tokens.{IsLexeme, May, Ends, token_read, token_dark}

-- the rest of a text from a place on
pub record At (text : List ℕ) (at : ℕ) (bytes : List ℕ) : Type 0 where
  pub rest : drop at text ≡ bytes
  pub all : at + length bytes ≡ length text

pub length_both : (xs ys : List ℕ) → length (xs ++ ys) ≡ length xs + length ys
length_both [] ys = omega arith
length_both (x ∷ xs) ys = let h = length_both xs ys in omega arith

pub at_past : (text : List ℕ) (at : ℕ) (xs ys : List ℕ) → At text at (xs ++ ys) → At text (at + length xs) ys
at_past text at xs ys h = record {
  rest = sym (drop-drop (length xs) at text) ∙ ap (drop (length xs)) h.rest ∙ drop_front xs ys;
  all = omega (arith, h.all, length_both xs ys);
}

abbrev step_in : Place → ℕ → Reader → ℕ → List ℕ → List ℕ → ℕ → Result Nodes ℕ
step_in p n reader at bytes rest b =
    cond (nat_eq (length rest) 0) (ended reader (at + b))
    (go_on (read_rest p n) reader (at + b) rest (token_from reader.expect reader.frames reader.quoted p rest))

pub read_is : (p : Place) (n : ℕ) (reader : Reader) (at : ℕ) (bytes : List ℕ)
    → read_rest p (suc n) reader at bytes ≡ step_in p n reader at bytes (drop (blank_count bytes) bytes) (blank_count bytes)
unfolding read_rest
read_is p n reader at bytes = refl

pub read_none : (p : Place) (reader : Reader) (at : ℕ) (bytes : List ℕ) → read_rest p zero reader at bytes ≡ Err at
unfolding read_rest
read_none p reader at bytes = refl

-- with blanks before the rest
pub read_past : (p : Place) (n : ℕ) (reader : Reader) (at : ℕ) (b rest : List ℕ) → IsBlank b → first_is is_blank_of rest ≡ false
    → read_rest p (suc n) reader at (b ++ rest) ≡ step_in p n reader at (b ++ rest) rest (length b)
read_past p n reader at b rest h f =
    let count = blank_is b rest h f in
    let past : drop (blank_count (b ++ rest)) (b ++ rest) ≡ rest = ap (λ (k : ℕ). drop k (b ++ rest)) count ∙ drop_front b rest in
    read_is p n reader at (b ++ rest)
    ∙ ap (λ (l : List ℕ). step_in p n reader at (b ++ rest) l (blank_count (b ++ rest))) past
    ∙ ap (step_in p n reader at (b ++ rest) rest) count

-- the reader comes from one state to another by so many tokens
pub record Goes (p : Place) (text : List ℕ) (reader : Reader) (at : ℕ) (bytes : List ℕ) (to : Reader) (past : ℕ) (rest : List ℕ) : Type 0 where
  pub count : ℕ
  pub far : at + count ≤ past
  pub goes : (n : ℕ) → read_rest p (count + n) reader at bytes ≡ read_rest p n to past rest
  pub stands : At text past rest

pub then_goes : (p : Place) (text : List ℕ) (r : Reader) (at : ℕ) (bytes : List ℕ) (s : Reader) (past : ℕ) (more : List ℕ) (t : Reader) (end : ℕ)
    (rest : List ℕ) → Goes p text r at bytes s past more → Goes p text s past more t end rest → Goes p text r at bytes t end rest
then_goes p text r at bytes s past more t end rest g h = record {
  count = g.count + h.count;
  far = omega (arith, g.far, h.far);
  goes =
      λ n. (let e : g.count + h.count + n ≡ g.count + (h.count + n) = omega arith in ap (λ (k : ℕ). read_rest p k r at bytes) e ∙ g.goes (h.count + n)
      ∙ h.goes n);
  stands = h.stands;
}

some_length : (l : List ℕ) → 1 ≤ length l → nat_eq (length l) 0 ≡ false
some_length l h = grind (arith, nat_tests)

-- a token with blanks before it
pub step : (p : Place) (text : List ℕ) (r : Reader) (at : ℕ) (t : Token) (b word rest : List ℕ) → IsBlank b → May r.expect r.frames r.quoted p t
    → IsLexeme t word → Ends t rest → At text at (b ++ (word ++ rest))
    → Goes p text r at (b ++ (word ++ rest)) (with_token r (at + length b) t) (at + length b + length word) rest
step p text r at t b word rest blank may is ends here =
    let d = token_dark r.expect r.frames r.quoted p t word rest may is in
    let more : 1 ≤ length (word ++ rest) = omega (arith, d.0, length_both word rest) in
    record {
      count = 1;
      far = omega (arith, d.0);
      goes = λ n. (let e : 1 + n ≡ suc n = omega arith in
          ap (λ (k : ℕ). read_rest p k r at (b ++ (word ++ rest))) e
          ∙ read_past p n r at b (word ++ rest) blank d.1
          ∙ ap (λ (x : Bool). cond x (ended r (at + length b))
          (go_on (read_rest p n) r (at + length b) (word ++ rest) (token_from r.expect r.frames r.quoted p (word ++ rest))))
          (some_length (word ++ rest) more)
          ∙ ap (go_on (read_rest p n) r (at + length b) (word ++ rest)) (token_read r.expect r.frames r.quoted p t word rest may is ends)
          ∙ ap (read_rest p n (with_token r (at + length b) t) (at + length b + length word)) (drop_front word rest));
      stands = at_past text (at + length b) word rest (at_past text at b (word ++ rest) here);
    }

-- ---- words without letters that stand for others

abbrev pub own_letters : List ℕ → Bool
own_letters [] = true
own_letters (c ∷ cs) = fits_of c c && own_letters cs

own_word : (t : List ℕ) → own_letters t ≡ true → IsWord t t
own_word [] e = tt
own_word (c ∷ cs) e = let h = both (fits_of c c) (own_letters cs) e in (h.0, own_word cs h.1)

abbrev pub IsPlainWord : Symbol → Type 0
IsPlainWord (symbol.Item f) = ⊥
IsPlainWord _ = Unit {0}

own_operator : (o : Binary) → own_letters (text_of (symbol.Operator o)) ≡ true
unfolding text_of
own_operator binary.Or = refl
own_operator binary.And = refl
own_operator binary.Equal = refl
own_operator binary.NotEqual = refl
own_operator binary.Less = refl
own_operator binary.AtMost = refl
own_operator binary.Greater = refl
own_operator binary.AtLeast = refl
own_operator binary.Add = refl
own_operator binary.Subtract = refl
own_operator binary.Multiply = refl
own_operator binary.Divide = refl
own_operator binary.Remainder = refl
own_operator binary.DaysBetween = refl
own_operator binary.Comma = refl

own_call : (c : Call) → own_letters (text_of (symbol.Call c)) ≡ true
unfolding text_of
own_call call.If = refl
own_call call.Condition = refl
own_call call.IsNull = refl
own_call call.IsNotNull = refl
own_call call.FirstNonNull = refl
own_call call.Greatest = refl
own_call call.Least = refl
own_call call.DaysBetween = refl
own_call call.HasValue = refl
own_call call.Zing = refl
own_call call.Oizp = refl

own_symbol : (w : Symbol) → IsPlainWord w → own_letters (text_of w) ≡ true
unfolding text_of
own_symbol symbol.Open h = refl
own_symbol symbol.Close h = refl
own_symbol symbol.Comma h = refl
own_symbol symbol.Quote h = refl
own_symbol symbol.Caret h = refl
own_symbol symbol.Minus h = refl
own_symbol symbol.Bang h = refl
own_symbol (symbol.Operator o) h = own_operator o
own_symbol (symbol.Call c) h = own_call c
own_symbol (symbol.Item f) h = absurd h

pub own : (w : Symbol) → IsPlainWord w → IsWord (text_of w) (text_of w)
own w h = own_word (text_of w) (own_symbol w h)

-- bytes that fit a word without letters that stand for others are its own
own_fits : (c b : ℕ) → fits_of c c ≡ true → fits_of c b ≡ true → (t : Bool) → nat_eq c 64 || nat_eq c 36 ≡ t → b ≡ c
own_fits c b e g false f = sym (same_number c b (sym (literal_fits c b f) ∙ g))
own_fits c b e g true f =
    elim (or_cases (nat_eq c 64) (nat_eq c 36) f) [
      | inl h ↦ (let no : fits_of 64 64 ≡ true = subst (λ (k : ℕ). fits_of k k ≡ true) (same_number c 64 h) e in absurd cc)
      | inr h ↦ (let no : fits_of 36 36 ≡ true = subst (λ (k : ℕ). fits_of k k ≡ true) (same_number c 36 h) e in absurd cc)
    ]

own_only : (t word : List ℕ) → own_letters t ≡ true → IsWord t word → word ≡ t
own_only [] [] e h = refl
own_only [] (b ∷ bs) e h = absurd h
own_only (c ∷ cs) [] e h = absurd h
own_only (c ∷ cs) (b ∷ bs) e h =
    let parts = both (fits_of c c) (own_letters cs) e in
    ap (λ (k : ℕ). k ∷ bs) (own_fits c b parts.0 h.0 (nat_eq c 64 || nat_eq c 36) refl) ∙ ap (λ (l : List ℕ). c ∷ l) (own_only cs bs parts.1 h.1)

pub only : (w : Symbol) (word : List ℕ) → IsPlainWord w → IsWord (text_of w) word → word ≡ text_of w
only w word h g = own_only (text_of w) word (own_symbol w h) g

-- a word that is written in one way, with blanks before it
pub word_step : (p : Place) (text : List ℕ) (r : Reader) (at : ℕ) (w : Symbol) (b rest : List ℕ) → IsBlank b → IsPlainWord w
    → May r.expect r.frames r.quoted p (token.Word w) → (is_open w ≡ true → first_is (nat_eq 61) rest ≡ false) → At text at (symbol_text b w rest)
    → Goes p text r at (symbol_text b w rest) (with_token r (at + length b) (token.Word w)) (at + length b + length (text_of w)) rest
word_step p text r at w b rest blank plain may ends here = step p text r at (token.Word w) b (text_of w) rest blank may (own w plain) ends here
