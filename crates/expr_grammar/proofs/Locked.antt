-- A fault in a quoted text is one of the bytes after its opening quote alone.
use Rattle.std.proofs.Common.{◌≡◌, ℕ, zero, suc, ◌+◌, ◌<◌, ◌≤◌, Bool, true, false, cond, List, [], ◌∷◌, ◌++◌, length, drop, Result, Ok, Err}
use Rattle.std.proofs.Common.{refl, sym, ap, subst, ◌∙◌, length-append, arith}
use Rattle.std.specs.Prelude.{nat_eq}
use Rattle.expr_lang.specs.declared.tree.Place.{Place}
use Rattle.expr_lang.specs.declared.words.Symbol.TheVariants as symbol
use Rattle.expr_lang.specs.declared.reading.Frame.{Frame}
use Rattle.expr_lang.specs.declared.reading.Expect.{Expect}
use Rattle.expr_lang.specs.declared.reading.Token.{Token}
use Rattle.expr_lang.specs.declared.reading.Token.TheVariants as token
use Rattle.expr_lang.specs.declared.reading.Found.{Found}
use Rattle.expr_lang.specs.declared.reading.Reader.{Reader}
use Rattle.expr_lang.specs.Reading.{blank_count, token_from, with_token, may_end_in, nodes_reduced, ended, go_on, read_rest}
use Rattle.expr_grammar.proofs.Local.{reaches, go_reaches}
use Rattle.expr_grammar.specs.Continues.{HasNoQuote}
use Rattle.expr_grammar.proofs.Words.{first_is, blanks_split, drop_front}
use Rattle.expr_grammar.proofs.Tokens.{May, token_sound}
use Rattle.expr_grammar.proofs.Moves.{rd}
use Rattle.expr_grammar.proofs.Steps.{read_none}
use Rattle.expr_grammar.proofs.Alone.{Twin, above, is_mark, token_alike, token_twin}
use Rattle.expr_grammar.proofs.Fuel.{plain_back, first_plain, split_within, quote_not, ended_err, length_none, past_blanks, step_is}

module _ (p : Place) where
  module _ (fs : List Frame) where
    twin_token : (r s : Reader) (bytes : List ℕ) → Twin fs r s → first_is is_mark bytes ≡ false
        → token_from r.expect r.frames r.quoted p bytes ≡ token_from s.expect s.frames s.quoted p bytes
    twin_token r s bytes t h =
        ap (λ (e : Expect). token_from e r.frames r.quoted p bytes) t.expect
        ∙ ap (λ (F : List Frame). token_from s.expect F r.quoted p bytes) t.frames
        ∙ ap (λ (q : Bool). token_from s.expect (above fs s.frames) q p bytes) t.quoted
        ∙ token_alike fs s.expect s.frames p bytes h
        ∙ sym (ap (λ (q : Bool). token_from s.expect s.frames q p bytes) t.alone)

    twin_next : (r s : Reader) (at : ℕ) (t : Token) → Twin fs r s → May s.expect s.frames s.quoted p t → (t ≡ token.Word symbol.Quote → ⊥)
        → Twin fs (with_token r at t) (with_token s at t)
    twin_next r s at t twin may plain =
        let x : r ≡ rd s.expect (above fs s.frames) r.nodes r.opened r.crowded true =
        ap (λ (e : Expect). rd e r.frames r.nodes r.opened r.crowded r.quoted) twin.expect
        ∙ ap (λ (F : List Frame). rd s.expect F r.nodes r.opened r.crowded r.quoted) twin.frames
        ∙ ap (λ (q : Bool). rd s.expect (above fs s.frames) r.nodes r.opened r.crowded q) twin.quoted in
        let y : s ≡ rd s.expect s.frames s.nodes s.opened s.crowded false =
        ap (λ (q : Bool). rd s.expect s.frames s.nodes s.opened s.crowded q) twin.alone in
        let may' : May s.expect s.frames false p t = subst (λ (q : Bool). May s.expect s.frames q p t) twin.alone may in
        subst (λ (z : Reader). Twin fs (with_token z at t) (with_token s at t)) (sym x)
        (subst (λ (z : Reader). Twin fs (with_token (rd s.expect (above fs s.frames) r.nodes r.opened r.crowded true) at t) (with_token z at t)) (sym y)
        (token_twin fs at r.nodes s.nodes r.opened s.opened r.crowded s.crowded s.expect s.frames p t twin.held may' plain))

    abbrev Locked : ℕ → Type 0
    Locked n = (r s : Reader) (at e : ℕ) (inner beyond : List ℕ) → Twin fs r s → HasNoQuote inner → read_rest p n r at (inner ++ beyond) ≡ Err e
        → e < at + length inner → read_rest p n s at (inner ++ beyond) ≡ Err e

    go_locked : (n : ℕ) → Locked n → (r s : Reader) (at e : ℕ) (tail beyond : List ℕ) (f : Result Found ℕ) → Twin fs r s → HasNoQuote tail
        → token_from s.expect s.frames s.quoted p (tail ++ beyond) ≡ f → go_on (read_rest p n) r at (tail ++ beyond) f ≡ Err e
        → e < at + length tail → go_on (read_rest p n) s at (tail ++ beyond) f ≡ Err e
    go_locked n ih r s at e tail beyond (Err m) twin plain found read less = read
    go_locked n ih r s at e tail beyond (Ok f) twin plain found read less =
        let t = token_sound s.expect s.frames s.quoted p (tail ++ beyond) f found in
        let past : drop f.len (tail ++ beyond) ≡ t.1 =
        ap (λ (k : ℕ). drop k (tail ++ beyond)) t.4 ∙ ap (drop (length t.0)) t.2 ∙ drop_front t.0 t.1 in
        let far : at + f.len ≤ e = reaches p n (with_token r at f.token) (at + f.len) (drop f.len (tail ++ beyond)) e read in
        let w = split_within t.0 t.1 tail beyond (sym t.2) (omega (arith, t.4, far, less)) in
        let both : HasNoQuote (t.0 ++ w.0) = subst HasNoQuote w.1 plain in
        let next = twin_next r s at f.token twin t.5 (quote_not f.token t.0 t.3 (plain_start t.0 w.0 both)) in
        let long : length tail ≡ length t.0 + length w.0 = ap length w.1 ∙ length-append t.0 w.0 in
        ap (read_rest p n (with_token s at f.token) (at + f.len)) (past ∙ w.2)
        ∙ ih (with_token r at f.token) (with_token s at f.token) (at + f.len) e w.0 beyond next (plain_back t.0 w.0 both)
        (ap (read_rest p n (with_token r at f.token) (at + f.len)) (sym (past ∙ w.2)) ∙ read) (omega (arith, less, t.4, long))
      where
        plain_start : (xs ys : List ℕ) → HasNoQuote (xs ++ ys) → HasNoQuote xs
        plain_start [] ys h = tt
        plain_start (x ∷ xs) ys h = (h.0, plain_start xs ys h.1)

    pub locked : (n : ℕ) → Locked n
    locked zero r s at e inner beyond twin plain read less =
        read_none p s at (inner ++ beyond) ∙ sym (read_none p r at (inner ++ beyond)) ∙ read
    locked (suc n) r s at e inner beyond twin plain read less =
        let bytes = inner ++ beyond in
        let b = blanks_split bytes in
        let rest = past_blanks p bytes b.0 b.1 b.2 b.4 in
        step_is p n s at bytes b.1 rest
        ∙ (elim (nat_eq (length b.1) 0) as (λ t. nat_eq (length b.1) 0 ≡ t
        → cond t (ended r (at + blank_count bytes))
        (go_on (read_rest p n) r (at + blank_count bytes) b.1 (token_from r.expect r.frames r.quoted p b.1)) ≡ Err e
        → cond t (ended s (at + blank_count bytes))
        (go_on (read_rest p n) s (at + blank_count bytes) b.1 (token_from s.expect s.frames s.quoted p b.1)) ≡ Err e) [
          | true ↦ λ f g.
              let none = length_none b.1 f in
              let end =
              ended_err (may_end_in r.expect r.frames) (record { nodes = nodes_reduced 1 r.frames r.nodes; crowded = r.crowded })
              (at + blank_count bytes) e g in
              absurd (omega (arith, less, end, b.4, none, ap length b.2, length-append b.0 b.1, length-append inner beyond))
          | false ↦ λ f g.
              let far =
              go_reaches p n r (at + blank_count bytes) b.1 e (token_from r.expect r.frames r.quoted p b.1) (λ r' at' rest'. reaches p n r' at' rest' e) g in
              let w = split_within b.0 b.1 inner beyond (sym b.2) (omega (arith, far, less, b.4)) in
              let long : length inner ≡ length b.0 + length w.0 = ap length w.1 ∙ length-append b.0 w.0 in
              let clean = plain_back b.0 w.0 (subst HasNoQuote w.1 plain) in
              let same = twin_token r s (w.0 ++ beyond) twin (first_plain w.0 beyond clean (omega (arith, far, less, b.4, long))) in
              let here : go_on (read_rest p n) r (at + blank_count bytes) (w.0 ++ beyond) (token_from s.expect s.frames s.quoted p (w.0 ++ beyond)) ≡ Err e =
              sym (ap (go_on (read_rest p n) r (at + blank_count bytes) (w.0 ++ beyond)) same)
              ∙ sym (ap (λ (l : List ℕ). go_on (read_rest p n) r (at + blank_count bytes) l (token_from r.expect r.frames r.quoted p l)) w.2) ∙ g in
              ap (λ (l : List ℕ). go_on (read_rest p n) s (at + blank_count bytes) l (token_from s.expect s.frames s.quoted p l)) w.2
              ∙ go_locked n (locked n) r s (at + blank_count bytes) e w.0 beyond (token_from s.expect s.frames s.quoted p (w.0 ++ beyond)) twin clean refl here
              (omega (arith, less, b.4, long))
        ]) refl (sym (step_is p n r at bytes b.1 rest) ∙ read)
