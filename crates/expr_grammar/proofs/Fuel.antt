-- A fault with more fuel, and lists of bytes without a quote.
use Rattle.std.proofs.Common.{◌≡◌, ℕ, zero, suc, ◌+◌, ◌<◌, ◌≤◌, Bool, true, false, cond, List, [], ◌∷◌, ◌++◌, length, drop, Result, Ok, Err}
use Rattle.std.proofs.Common.{refl, sym, ap, subst, ◌∙◌, arith}
use Rattle.std.specs.Prelude.{nat_eq}
use Rattle.std.proofs.lemmas.Bool.Decides.{nat_tests}
use Rattle.expr_lang.specs.declared.tree.Place.{Place}
use Rattle.expr_lang.specs.declared.words.Symbol.TheVariants as symbol
use Rattle.expr_lang.specs.declared.reading.Token.{Token}
use Rattle.expr_lang.specs.declared.reading.Token.TheVariants as token
use Rattle.expr_lang.specs.declared.reading.Found.{Found}
use Rattle.expr_lang.specs.declared.reading.Reader.{Reader}
use Rattle.expr_lang.specs.declared.reading.Nodes.{Nodes}
use Rattle.expr_lang.specs.Reading.{blank_count, token_from, with_token, ended, go_on, read_rest}
use Rattle.expr_lang.specs.Words.{text_of}
use Rattle.expr_grammar.specs.Continues.{HasNoQuote}
use Rattle.expr_grammar.proofs.Words.{first_is, blanks_split, drop_front}
use Rattle.expr_grammar.proofs.Tokens.{IsLexeme, token_sound, token_dark}
use Rattle.expr_grammar.proofs.Steps.{read_is, read_none, only}
use Rattle.expr_grammar.proofs.Local.{reaches}

-- ---- lists

pub plain_back : (xs ys : List ℕ) → HasNoQuote (xs ++ ys) → HasNoQuote ys
plain_back [] ys h = h
plain_back (x ∷ xs) ys h = plain_back xs ys h.1

pub cons_head : (x y : ℕ) (xs ys : List ℕ) → x ∷ xs ≡ y ∷ ys → x ≡ y
cons_head x y xs ys e = cc

pub cons_tail : (x y : ℕ) (xs ys : List ℕ) → x ∷ xs ≡ y ∷ ys → xs ≡ ys
cons_tail x y xs ys e = cc

-- bytes that lie within the first part of others
pub split_within : (b rest inner beyond : List ℕ) → b ++ rest ≡ inner ++ beyond → length b ≤ length inner
    → (tail : List ℕ) × (inner ≡ b ++ tail) × (rest ≡ tail ++ beyond)
split_within [] rest inner beyond e le = (inner, refl, e)
split_within (x ∷ b) rest [] beyond e le = absurd (omega arith)
split_within (x ∷ b) rest (z ∷ inner) beyond e le =
    let r = split_within b rest inner beyond (cons_tail x z (b ++ rest) (inner ++ beyond) e) (omega arith) in (
      r.0,
      ap (λ (k : ℕ). k ∷ inner) (sym (cons_head x z (b ++ rest) (inner ++ beyond) e)) ∙ ap (λ (l : List ℕ). x ∷ l) r.1,
      r.2,
    )

pub first_plain : (tail beyond : List ℕ) → HasNoQuote tail → 1 ≤ length tail → first_is (λ x. nat_eq x 39) (tail ++ beyond) ≡ false
first_plain [] beyond h some = absurd (omega arith)
first_plain (x ∷ xs) beyond h some = h.0

quote_none : HasNoQuote (text_of symbol.Quote) → ⊥
unfolding text_of
quote_none h = (let no : true ≡ false = h.0 in absurd cc)

-- a token without a quote in it is another one
pub quote_not : (t : Token) (lexeme : List ℕ) → IsLexeme t lexeme → HasNoQuote lexeme → (t ≡ token.Word symbol.Quote → ⊥)
quote_not t lexeme is plain e =
    quote_none (subst HasNoQuote (only symbol.Quote lexeme tt (subst (λ (x : Token). IsLexeme x lexeme) e is)) plain)

pub err_is : (a b : ℕ) → ◌≡◌ {A = Result Nodes ℕ} (Err a) (Err b) → a ≡ b
err_is a b e = cc

pub ended_err : (t : Bool) (nodes : Nodes) (at e : ℕ) → cond {A = Result Nodes ℕ} t (Ok nodes) (Err at) ≡ Err e → at ≡ e
ended_err true nodes at e h = absurd cc
ended_err false nodes at e h = cc

pub length_none : (l : List ℕ) → nat_eq (length l) 0 ≡ true → length l ≡ 0
length_none l e = grind (arith, nat_tests)

-- ---- a fault without its fuel

module _ (p : Place) where
  abbrev pub stepped : ℕ → Reader → ℕ → List ℕ → List ℕ → Result Nodes ℕ
  stepped n r at bytes rest =
      cond (nat_eq (length rest) 0) (ended r (at + blank_count bytes))
      (go_on (read_rest p n) r (at + blank_count bytes) rest (token_from r.expect r.frames r.quoted p rest))

  pub step_is : (n : ℕ) (r : Reader) (at : ℕ) (bytes rest : List ℕ) → drop (blank_count bytes) bytes ≡ rest
      → read_rest p (suc n) r at bytes ≡ stepped n r at bytes rest
  step_is n r at bytes rest e = read_is p n r at bytes ∙ ap (stepped n r at bytes) e

  pub past_blanks : (bytes b rest : List ℕ) → bytes ≡ b ++ rest → blank_count bytes ≡ length b → drop (blank_count bytes) bytes ≡ rest
  past_blanks bytes b rest same count = ap (λ (k : ℕ). drop k bytes) count ∙ ap (drop (length b)) same ∙ drop_front b rest

  abbrev Enough : ℕ → ℕ → Type 0
  Enough n m = (r : Reader) (at e : ℕ) (bytes : List ℕ) → read_rest p n r at bytes ≡ Err e → e < at + n → e < at + m → read_rest p m r at bytes ≡ Err e

  go_enough : (n m : ℕ) → Enough n m → (r : Reader) (at e : ℕ) (rest : List ℕ) (f : Result Found ℕ) → token_from r.expect r.frames r.quoted p rest ≡ f
      → go_on (read_rest p n) r at rest f ≡ Err e → e < at + suc n → e < at + suc m → go_on (read_rest p m) r at rest f ≡ Err e
  go_enough n m ih r at e rest (Err k) found read more less = read
  go_enough n m ih r at e rest (Ok f) found read more less =
      let t = token_sound r.expect r.frames r.quoted p rest f found in
      let some = token_dark r.expect r.frames r.quoted p f.token t.0 t.1 t.5 t.3 in
      ih (with_token r at f.token) (at + f.len) e (drop f.len rest) read (omega (arith, some.0, t.4, more)) (omega (arith, some.0, t.4, less))

  -- with more fuel, where it hasn't run out
  pub enough : (n m : ℕ) → Enough n m
  enough zero m r at e bytes read more less = absurd (omega (arith, err_is at e (sym (read_none p r at bytes) ∙ read), more))
  enough (suc n) zero r at e bytes read more less = absurd (omega (arith, reaches p (suc n) r at bytes e read, less))
  enough (suc n) (suc m) r at e bytes read more less =
      let b = blanks_split bytes in
      let rest = past_blanks bytes b.0 b.1 b.2 b.4 in
      step_is m r at bytes b.1 rest
      ∙ (elim (nat_eq (length b.1) 0) as (λ t.
      cond t (ended r (at + blank_count bytes))
      (go_on (read_rest p n) r (at + blank_count bytes) b.1 (token_from r.expect r.frames r.quoted p b.1)) ≡ Err e
      → cond t (ended r (at + blank_count bytes))
      (go_on (read_rest p m) r (at + blank_count bytes) b.1 (token_from r.expect r.frames r.quoted p b.1)) ≡ Err e) [
        | true ↦ λ g. g
        | false ↦ λ g. go_enough n m (enough n m) r (at + blank_count bytes) e b.1 (token_from r.expect r.frames r.quoted p b.1) refl g
            (omega (arith, more)) (omega (arith, less))
      ]) (sym (step_is n r at bytes b.1 rest) ∙ read)
