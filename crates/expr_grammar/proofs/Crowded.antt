-- The bracket that the reader finds crowded is the first of the text inside 64 others.
use Rattle.std.proofs.Common.{◌≡◌, ℕ, zero, suc, ◌+◌, ◌-◌, Bool, true, false, cond, List, [], ◌∷◌, ◌++◌, length, drop, Option, Some, None, Result, Ok, Err}
use Rattle.std.proofs.Common.{refl, sym, ap, subst, ◌∙◌, arith}
use Rattle.std.specs.Prelude.{◌&&◌, nat_eq, nat_le, is_none}
use Rattle.expr_lang.specs.declared.tree.Place.{Place}
use Rattle.expr_lang.specs.declared.words.Symbol.{Symbol}
use Rattle.expr_lang.specs.declared.words.Symbol.TheVariants as symbol
use Rattle.expr_lang.specs.declared.reading.Token.{Token}
use Rattle.expr_lang.specs.declared.reading.Token.TheVariants as token
use Rattle.expr_lang.specs.declared.reading.Found.{Found}
use Rattle.expr_lang.specs.declared.reading.Reader.{Reader}
use Rattle.expr_lang.specs.declared.reading.Nodes.{Nodes}
use Rattle.expr_lang.specs.Reading.{is_blank_of, blank_count, may_end_in, ended, new_reader, most_words, read_rest, read_text, token_from, with_token}
use Rattle.expr_lang.specs.Reading.{with_word, with_leaf, with_sign, with_operator, with_open, with_call, with_comma, with_close, with_quote, with_exponent}
use Rattle.expr_lang.specs.Reading.{frames_reduced, nodes_reduced, is_quote}
use Rattle.expr_lang.specs.Words.{text_of}
use Rattle.expr_grammar.specs.Brackets.{depth_after, crowded_from, crowded_bracket}
use Rattle.expr_grammar.specs.Grammar.{IsWord}
use Rattle.expr_grammar.proofs.Words.{drop_front}
use Rattle.expr_grammar.proofs.Steps.{read_is, read_none}
use Rattle.expr_grammar.proofs.Tokens.{IsLexeme, token_sound}
use Rattle.expr_grammar.proofs.PrintedOpen.{Quiet, quiet_blank, quiet_digits, quiet_word, quiet_operator, quiet_call, quiet_item, quiet_number, Keeps}
use Rattle.expr_grammar.proofs.PrintedOpen.{comma_keeps, quote_keeps, one_byte, ended_ok, no_bytes, next_step}

abbrev or_else : Option ℕ → Option ℕ → Option ℕ
or_else (Some x) other = Some x
or_else None other = other

-- the first crowded bracket, where the bytes from a place on are left
abbrev first_of : Reader → ℕ → List ℕ → Option ℕ
first_of r at bytes = or_else r.crowded (crowded_from at r.opened bytes)

skip : (xs ys : List ℕ) (at depth : ℕ) → Quiet xs → crowded_from at depth (xs ++ ys) ≡ crowded_from (at + length xs) depth ys
skip [] ys at depth h = let e : at ≡ at + 0 = omega arith in ap (λ (k : ℕ). crowded_from k depth ys) e
skip (x ∷ xs) ys at depth h =
    let e : at + 1 + length xs ≡ at + suc (length xs) = omega arith in
    ap (λ (t : Bool). cond (t && nat_le 64 depth) (Some at) (crowded_from (at + 1) (depth_after depth x) (xs ++ ys))) h.0
    ∙ ap (λ (t : Bool). crowded_from (at + 1) (cond t (depth + 1) (cond (nat_eq x 41) (depth - 1) depth)) (xs ++ ys)) h.0
    ∙ ap (λ (t : Bool). crowded_from (at + 1) (cond t (depth - 1) depth) (xs ++ ys)) h.1
    ∙ skip xs ys (at + 1) depth h.2 ∙ ap (λ (k : ℕ). crowded_from k depth ys) e

kept : (r t : Reader) (at : ℕ) (word rest : List ℕ) → Keeps r t → Quiet word → first_of r at (word ++ rest) ≡ first_of t (at + length word) rest
kept r t at word rest k q =
    ap (or_else r.crowded) (skip word rest at r.opened q)
    ∙ (λ i. or_else (sym k.1 i) (crowded_from (at + length word) (sym k.0 i) rest))

opens : (c other : Option ℕ) (at o : ℕ) → or_else c (cond (nat_le 64 o) (Some at) other) ≡ or_else (cond (is_none c && nat_le 64 o) (Some at) c) other
opens (Some x) other at o = refl
opens None other at o = by_test (nat_le 64 o)
  where
    by_test : (t : Bool) → cond t (Some at) other ≡ or_else (cond t (Some at) None) other
    by_test true = refl
    by_test false = refl

open_first : (r : Reader) (at : ℕ) (rest : List ℕ) → first_of r at (40 ∷ rest) ≡ first_of (with_open r at) (at + 1) rest
unfolding with_open
open_first r at rest = opens r.crowded (crowded_from (at + 1) (r.opened + 1) rest) at r.opened

close_first : (r : Reader) (at : ℕ) (rest : List ℕ) → first_of r at (41 ∷ rest) ≡ first_of (with_close r) (at + 1) rest
unfolding with_close
close_first r at rest = refl

abbrev Finds : Reader → Reader → ℕ → List ℕ → Type 0
Finds r t at word = (rest : List ℕ) → first_of r at (word ++ rest) ≡ first_of t (at + length word) rest

word_finds : (r : Reader) (at : ℕ) (w : Symbol) (word : List ℕ) → IsWord (text_of w) word → Finds r (with_word r at w) at word
unfolding with_word text_of with_sign with_operator with_call with_leaf with_comma with_quote
word_finds r at symbol.Open word is rest =
    subst (λ (l : List ℕ). first_of r at (l ++ rest) ≡ first_of (with_open r at) (at + length l) rest) (sym (one_byte 40 word refl is)) (open_first r at rest)
word_finds r at symbol.Close word is rest =
    subst (λ (l : List ℕ). first_of r at (l ++ rest) ≡ first_of (with_close r) (at + length l) rest) (sym (one_byte 41 word refl is)) (close_first r at rest)
word_finds r at symbol.Comma word is rest =
    kept r (with_word r at symbol.Comma) at word rest (comma_keeps (frames_reduced 1 r.frames) (nodes_reduced 1 r.frames r.nodes) r)
    (quiet_word (text_of symbol.Comma) word (refl, refl, tt) is)
word_finds r at symbol.Quote word is rest =
    kept r (with_word r at symbol.Quote) at word rest (quote_keeps (is_quote r.expect) r _ _ (refl, refl) (refl, refl))
    (quiet_word (text_of symbol.Quote) word (refl, refl, tt) is)
word_finds r at symbol.Caret word is rest =
    kept r (with_word r at symbol.Caret) at word rest (refl, refl) (quiet_word (text_of symbol.Caret) word (refl, refl, tt) is)
word_finds r at symbol.Minus word is rest =
    kept r (with_word r at symbol.Minus) at word rest (refl, refl) (quiet_word (text_of symbol.Minus) word (refl, refl, tt) is)
word_finds r at symbol.Bang word is rest =
    kept r (with_word r at symbol.Bang) at word rest (refl, refl) (quiet_word (text_of symbol.Bang) word (refl, refl, tt) is)
word_finds r at (symbol.Operator o) word is rest =
    kept r (with_word r at (symbol.Operator o)) at word rest (refl, refl) (quiet_word (text_of (symbol.Operator o)) word (quiet_operator o) is)
word_finds r at (symbol.Call c) word is rest =
    kept r (with_word r at (symbol.Call c)) at word rest (refl, refl) (quiet_word (text_of (symbol.Call c)) word (quiet_call c) is)
word_finds r at (symbol.Item f) word is rest =
    kept r (with_word r at (symbol.Item f)) at word rest (refl, refl) (quiet_word (text_of (symbol.Item f)) word (quiet_item f) is)

token_finds : (r : Reader) (at : ℕ) (t : Token) (word : List ℕ) → IsLexeme t word → Finds r (with_token r at t) at word
unfolding with_token with_leaf with_exponent
token_finds r at (token.Word w) word is rest = word_finds r at w word is rest
token_finds r at (token.Number n) word is rest =
    kept r (with_token r at (token.Number n)) at word rest (refl, refl) (subst Quiet (sym is.2) (quiet_number is.0 is.1 is.3))
token_finds r at (token.Exponent n) word is rest = kept r (with_token r at (token.Exponent n)) at word rest (refl, refl) (quiet_digits word is.0.whole)

past_blanks : (bytes : List ℕ) (at depth : ℕ) → crowded_from at depth bytes ≡ crowded_from (at + blank_count bytes) depth (drop (blank_count bytes) bytes)
past_blanks [] at depth = refl
past_blanks (b ∷ bs) at depth = by_test (is_blank_of b) refl (past_blanks bs (at + 1) depth)
  where
    by_test : (t : Bool) → is_blank_of b ≡ t → crowded_from (at + 1) depth bs ≡ crowded_from (at + 1 + blank_count bs) depth (drop (blank_count bs) bs)
        → crowded_from at depth (b ∷ bs) ≡ crowded_from (at + cond (is_blank_of b) (suc (blank_count bs)) 0) depth
        (drop (cond (is_blank_of b) (suc (blank_count bs)) 0) (b ∷ bs))
    by_test true e h =
        let k = quiet_blank b e in
        let same : at + 1 + blank_count bs ≡ at + suc (blank_count bs) = omega arith in
        ap (λ (t : Bool). cond (t && nat_le 64 depth) (Some at) (crowded_from (at + 1) (depth_after depth b) bs)) k.0
        ∙ ap (λ (t : Bool). crowded_from (at + 1) (cond t (depth + 1) (cond (nat_eq b 41) (depth - 1) depth)) bs) k.0
        ∙ ap (λ (t : Bool). crowded_from (at + 1) (cond t (depth - 1) depth) bs) k.1
        ∙ h ∙ ap (λ (n : ℕ). crowded_from n depth (drop (blank_count bs) bs)) same
        ∙ ap (λ (t : Bool). crowded_from (at + cond t (suc (blank_count bs)) 0) depth (drop (cond t (suc (blank_count bs)) 0) (b ∷ bs))) (sym e)
    by_test false e h =
        let same : at ≡ at + 0 = omega arith in
        ap (λ (n : ℕ). crowded_from n depth (b ∷ bs)) same
        ∙ ap (λ (t : Bool). crowded_from (at + cond t (suc (blank_count bs)) 0) depth (drop (cond t (suc (blank_count bs)) 0) (b ∷ bs))) (sym e)

or_none : (o : Option ℕ) → or_else o None ≡ o
or_none (Some x) = refl
or_none None = refl

ended_first : (r : Reader) (at : ℕ) (nodes : Nodes) → ended r at ≡ Ok nodes → nodes.crowded ≡ first_of r at []
ended_first r at nodes g =
    let is = ended_ok (may_end_in r.expect r.frames) (record { nodes = nodes_reduced 1 r.frames r.nodes; crowded = r.crowded }) nodes at g in
    ap (λ (m : Nodes). m.crowded) (sym is) ∙ sym (or_none r.crowded)

abbrev Reads : Place → ℕ → Type 0
Reads p n = (r : Reader) (at : ℕ) (bytes : List ℕ) (nodes : Nodes) → read_rest p n r at bytes ≡ Ok nodes → nodes.crowded ≡ first_of r at bytes

step_first : (p : Place) (n : ℕ) → Reads p n → (r : Reader) (at : ℕ) (rest : List ℕ) (nodes : Nodes) → (t : Bool) (f : Result Found ℕ)
    → nat_eq (length rest) 0 ≡ t → token_from r.expect r.frames r.quoted p rest ≡ f → next_step p n r at rest t f ≡ Ok nodes
    → nodes.crowded ≡ first_of r at rest
step_first p n next r at rest nodes true f e g k = ended_first r at nodes k ∙ ap (first_of r at) (sym (no_bytes rest e))
step_first p n next r at rest nodes false (Err m) e g k = absurd cc
step_first p n next r at rest nodes false (Ok f) e g k =
    let t = token_sound r.expect r.frames r.quoted p rest f g in
    let beyond : drop f.len rest ≡ t.1 = (λ i. drop (t.4 i) (t.2 i)) ∙ drop_front t.0 t.1 in
    let more : read_rest p n (with_token r at f.token) (at + f.len) t.1 ≡ Ok nodes = sym (ap (read_rest p n (with_token r at f.token) (at + f.len)) beyond)
    ∙ k in
    next (with_token r at f.token) (at + f.len) t.1 nodes more
    ∙ ap (λ (m : ℕ). first_of (with_token r at f.token) (at + m) t.1) t.4
    ∙ sym (token_finds r at f.token t.0 t.3 t.1) ∙ ap (first_of r at) (sym t.2)

read_first : (p : Place) (n : ℕ) → Reads p n
read_first p zero r at bytes nodes e = absurd (no_result at nodes (sym (read_none p r at bytes) ∙ e))
  where
    no_result : (at : ℕ) (nodes : Nodes) → Err at ≡ Ok nodes → ⊥
    no_result at nodes e = cc
read_first p (suc n) r at bytes nodes e =
    let rest = drop (blank_count bytes) bytes in
    step_first p n (read_first p n) r (at + blank_count bytes) rest nodes (nat_eq (length rest) 0) (token_from r.expect r.frames r.quoted p rest) refl refl
    (sym (read_is p n r at bytes) ∙ e)
    ∙ ap (or_else r.crowded) (sym (past_blanks bytes at r.opened))

-- what is read of a text
pub crowded_at : (p : Place) (text : List ℕ) (nodes : Nodes) → read_text p text ≡ Ok nodes → nodes.crowded ≡ crowded_bracket text
unfolding read_text
crowded_at p text nodes e = read_first p most_words new_reader 0 text nodes e
