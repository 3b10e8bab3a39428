-- One step of reading.
use Rattle.std.proofs.Common.{◌≡◌, ℕ, suc, ◌+◌, ◌<◌, ◌≤◌, Bool, true, false, cond, List, [], ◌∷◌, length, drop, Result}
use Rattle.std.proofs.Common.{refl, sym, ap, ◌∙◌, arith}
use Rattle.std.specs.Prelude.{nat_eq}
use Rattle.std.proofs.lemmas.Bool.Decides.{nat_tests}
use Rattle.std.proofs.lemmas.List.{drop-drop, length-drop}
use Rattle.expr_lang.specs.declared.tree.Place.{Place}
use Rattle.expr_lang.specs.declared.words.Symbol.{Symbol}
use Rattle.expr_lang.specs.declared.words.Symbol.TheVariants as symbol
use Rattle.expr_lang.specs.declared.reading.Spot.{Spot}
use Rattle.expr_lang.specs.declared.reading.Frame.{Frame}
use Rattle.expr_lang.specs.declared.reading.Frame.TheVariants as frame
use Rattle.expr_lang.specs.declared.reading.Found.{Found}
use Rattle.expr_lang.specs.declared.reading.Token.{Token}
use Rattle.expr_lang.specs.declared.reading.Token.TheVariants as token
use Rattle.expr_lang.specs.declared.reading.Reader.{Reader}
use Rattle.expr_lang.specs.Reading.{frames_reduced, nodes_reduced, comma_in, is_quote, with_leaf, with_sign, with_operator, with_open, with_call, with_comma}
use Rattle.expr_lang.specs.Reading.{with_close, with_quote, with_word, with_exponent, with_token, blank_count, ended, go_on, read_rest, token_from}

opened_comma : (frames : List Frame) (nodes : List Spot) (reader : Reader) → (comma_in frames nodes reader).opened ≡ reader.opened
opened_comma [] nodes reader = refl
opened_comma (frame.Pending spot ∷ frames) nodes reader = refl
opened_comma (frame.Bracket ∷ frames) nodes reader = refl
opened_comma (frame.Quote ∷ frames) nodes reader = refl
opened_comma (frame.Call c ∷ frames) nodes reader = refl

same_opened : (b : Bool) (x y : Reader) (n : ℕ) → x.opened ≡ n → y.opened ≡ n → (cond b x y).opened ≡ n
same_opened true x y n p q = p
same_opened false x y n p q = q

opened_quote : (reader : Reader) → (with_quote reader).opened ≡ reader.opened
unfolding with_quote
opened_quote reader = same_opened (is_quote reader.expect) _ _ reader.opened refl refl

opened_word : (reader : Reader) (at : ℕ) (word : Symbol) → (with_word reader at word).opened ≤ reader.opened + 1
unfolding with_word with_leaf with_sign with_operator with_open with_call with_comma with_close
opened_word reader at symbol.Open = omega arith
opened_word reader at symbol.Close = omega arith
opened_word reader at symbol.Comma = omega (arith, opened_comma (frames_reduced 1 reader.frames) (nodes_reduced 1 reader.frames reader.nodes) reader)
opened_word reader at symbol.Quote = omega (arith, opened_quote reader)
opened_word reader at symbol.Caret = omega arith
opened_word reader at symbol.Minus = omega arith
opened_word reader at symbol.Bang = omega arith
opened_word reader at (symbol.Operator operator) = omega arith
opened_word reader at (symbol.Call name) = omega arith
opened_word reader at (symbol.Item it) = omega arith

-- a token opens one bracket at most
pub opened_token : (reader : Reader) (at : ℕ) (t : Token) → (with_token reader at t).opened ≤ reader.opened + 1
unfolding with_token with_leaf with_exponent
opened_token reader at (token.Word word) = opened_word reader at word
opened_token reader at (token.Number n) = omega arith
opened_token reader at (token.Exponent n) = omega arith

module _ (place : Place) (n : ℕ) (reader : Reader) (at blanks : ℕ) (text : List ℕ) (counted : blanks ≡ blank_count (drop at text)) where
  rest_is : drop (blank_count (drop at text)) (drop at text) ≡ drop (at + blanks) text
  rest_is = ap (λ (k : ℕ). drop k (drop at text)) (sym counted) ∙ drop-drop blanks at text

  -- one word more, or the end
  step : read_rest place (suc n) reader at (drop at text)
      ≡ cond (nat_eq (length (drop (at + blanks) text)) 0) (ended reader (at + blanks))
      (go_on (read_rest place n) reader (at + blanks) (drop (at + blanks) text)
      (token_from reader.expect reader.frames reader.quoted place (drop (at + blanks) text)))
  unfolding read_rest
  step = rw (rest_is, ← counted) refl

  pub step_ends : at + blanks ≡ length text → read_rest place (suc n) reader at (drop at text) ≡ ended reader (at + blanks)
  step_ends all =
      let none : nat_eq (length (drop (at + blanks) text)) 0 ≡ true = let e : length (drop (at + blanks) text) ≡ 0 =
      omega (arith, length-drop (at + blanks) text) in rw e refl in
      step ∙ ap (λ (b : Bool). cond b (ended reader (at + blanks))
      (go_on (read_rest place n) reader (at + blanks) (drop (at + blanks) text)
      (token_from reader.expect reader.frames reader.quoted place (drop (at + blanks) text)))) none

  some : at + blanks < length text → nat_eq (length (drop (at + blanks) text)) 0 ≡ false
  some more = let e : 0 < length (drop (at + blanks) text) = omega (arith, length-drop (at + blanks) text) in grind (arith, nat_tests)

  pub step_on : (f : Result Found ℕ) → at + blanks < length text → f ≡ token_from reader.expect reader.frames reader.quoted place (drop (at + blanks) text)
      → read_rest place (suc n) reader at (drop at text) ≡ go_on (read_rest place n) reader (at + blanks) (drop (at + blanks) text) f
  step_on f more is =
      step
      ∙ ap (λ (b : Bool). cond b (ended reader (at + blanks))
      (go_on (read_rest place n) reader (at + blanks) (drop (at + blanks) text)
      (token_from reader.expect reader.frames reader.quoted place (drop (at + blanks) text)))) (some more)
      ∙ ap (go_on (read_rest place n) reader (at + blanks) (drop (at + blanks) text)) (sym is)
