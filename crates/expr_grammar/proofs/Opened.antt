-- Where the reader gets past an opening quote, it stands in the quoted text.
use Rattle.std.proofs.Common.{◌≡◌, ℕ, zero, suc, ◌+◌, ◌<◌, ◌≤◌, Bool, true, false, cond, List, [], ◌∷◌, ◌++◌, length, take, drop, Result, Ok, Err}
use Rattle.std.proofs.Common.{refl, sym, ap, subst, ◌∙◌, inl, inr, append_assoc, length-append, arith}
use Rattle.std.specs.Prelude.{nat_eq}
use Rattle.std.proofs.lemmas.List.{append-nil, take-append-drop, length-take}
use Rattle.expr_lang.specs.declared.tree.Place.{Place}
use Rattle.expr_lang.specs.declared.words.Symbol.TheVariants as symbol
use Rattle.expr_lang.specs.declared.reading.Frame.{Frame}
use Rattle.expr_lang.specs.declared.reading.Frame.TheVariants as frame
use Rattle.expr_lang.specs.declared.reading.Expect.{Expect}
use Rattle.expr_lang.specs.declared.reading.Expect.TheVariants as expect
use Rattle.expr_lang.specs.declared.reading.Token.{Token}
use Rattle.expr_lang.specs.declared.reading.Token.TheVariants as token
use Rattle.expr_lang.specs.declared.reading.Found.{Found}
use Rattle.expr_lang.specs.declared.reading.Reader.{Reader}
use Rattle.expr_lang.specs.Reading.{blank_count, token_from, with_token, with_word, with_quote, ended, go_on, read_rest}
use Rattle.expr_lang.specs.Words.{operands_of, start_of, items_of_place, bracket_of, nothing_of}
use Rattle.expr_grammar.specs.Continues.{OpensQuote}
use Rattle.expr_grammar.specs.Grammar.{Form, IsBlank, spelled}
use Rattle.expr_grammar.proofs.Words.{blanks_split, drop_front}
use Rattle.expr_grammar.proofs.Tokens.{IsLexeme, May, token_sound, token_dark}
use Rattle.expr_grammar.proofs.Moves.{rd}
use Rattle.expr_grammar.proofs.Steps.{read_none}
use Rattle.expr_grammar.proofs.Parts.{Part, spelled_parts, quoted_of}
use Rattle.expr_grammar.proofs.Stages.{Stage, Wants, Named, Quoting, WantsItem, PlainFirst, PlainNext, Plain, Lone, Raised, Has, Tested, Whole}
use Rattle.expr_grammar.proofs.Stages.{expect_of, stage_frames, stage_quoted, Valid, Like}
use Rattle.expr_grammar.proofs.Quoted.{plain_blanks, Longer, long_parts}
use Rattle.expr_grammar.proofs.Continued.{next_of, Spelled}
use Rattle.expr_grammar.proofs.Fuel.{past_blanks, step_is, err_is, length_none}
use Rattle.expr_grammar.proofs.Opening.{last_dark, last_both, last_blank, after_last, form_last, is_closed, opening_last, quote_free, quote_one, front_plain}
use Rattle.expr_grammar.proofs.Opening.{before_mark, at_mark, no_quote_among, plain_operands, plain_starts, plain_items, plain_brackets}
use Rattle.expr_grammar.proofs.Opening.{plain_nothing}

module _ (p : Place) (opening beyond : List ℕ) (opens : OpensQuote opening) (e : ℕ) (past : length opening ≤ e) where
  -- the reader after the opening quote
  pub record Opened : Type 0 where
    pub fuel : ℕ
    pub reader : Reader
    pub frames : List Frame
    pub expects : reader.expect ≡ expect.Operand
    pub framed : reader.frames ≡ frame.Quote ∷ frames
    pub quoted : reader.quoted ≡ true
    pub read : read_rest p fuel reader (length opening) beyond ≡ Err e
    pub more : e < length opening + fuel

  abbrev Opens : Reader → Type 0
  Opens r = (frames : List Frame) × (r.expect ≡ expect.Operand) × (r.frames ≡ frame.Quote ∷ frames) × (r.quoted ≡ true)

  -- a quote after an operand closes, and no operand stands before the quote that opens
  not_closing : (ps : List Part) (F : Form) (power : Bool) (consumed b : List ℕ) → Valid p (Has ps F power) → Spelled p (Has ps F power) consumed
      → IsBlank b → opening ≡ (consumed ++ b) ++ (39 ∷ []) → ⊥
  not_closing ps F power consumed b v spell blank same =
      let end = spelled F [] in
      let start : Longer end end [] = record { is = refl } in
      let whole : consumed ≡ spelled_parts ps [] ++ end = sym (append-nil consumed) ∙ spell [] ∙ (long_parts end ps start).is in
      let closed : is_closed (last_dark 0 consumed) ≡ true =
      ap (λ (l : List ℕ). is_closed (last_dark 0 l)) whole ∙ after_last 0 (spelled_parts ps []) end (form_last p (quoted_of ps) 7 F v.1) in
      let found : last_dark 0 consumed ≡ 40 =
      sym (last_both 0 consumed b ∙ last_blank (last_dark 0 consumed) b blank) ∙ opening_last 0 (consumed ++ b) opening opens same in
      let no : is_closed 40 ≡ true = sym (ap is_closed found) ∙ closed in
      absurd cc

  stage_opens : (s : Stage) (nodes : Reader) (at : ℕ) (consumed b : List ℕ) → Valid p s → Spelled p s consumed → IsBlank b
      → May (expect_of s) (stage_frames s) (stage_quoted s) p (token.Word symbol.Quote) → opening ≡ (consumed ++ b) ++ (39 ∷ [])
      → Opens (with_token (rd (expect_of s) (stage_frames s) nodes.nodes nodes.opened nodes.crowded (stage_quoted s)) at (token.Word symbol.Quote))
  unfolding with_token with_word with_quote
  stage_opens (Quoting ps d c k) nodes at consumed b v spell blank may same = (stage_frames (Quoting ps d c k), refl, refl, refl)
  stage_opens (Has ps F power) nodes at consumed b v spell blank may same = absurd (not_closing ps F power consumed b v spell blank same)
  stage_opens (Wants []) nodes at consumed b v spell blank may same = absurd (no_quote_among (start_of p) (plain_starts p) may.0)
  stage_opens (Wants (x ∷ ps)) nodes at consumed b v spell blank may same = absurd (no_quote_among (operands_of p) (plain_operands p) may.0)
  stage_opens (Named ps d name k) nodes at consumed b v spell blank may same = absurd (no_quote_among bracket_of plain_brackets may.0)
  stage_opens (WantsItem ps d name c k) nodes at consumed b v spell blank may same = absurd (no_quote_among (items_of_place p) (plain_items p) may.0)
  stage_opens (PlainFirst ps d c k) nodes at consumed b v spell blank may same = absurd (no_quote_among (items_of_place p) (plain_items p) may.0)
  stage_opens (PlainNext ps d c k first f n) nodes at consumed b v spell blank may same = absurd (no_quote_among (items_of_place p) (plain_items p) may.0)
  stage_opens (Plain ps d c k F n) nodes at consumed b v spell blank may same = (let no : false ≡ true = may.1 in absurd cc)
  stage_opens (Lone ps d name c k F) nodes at consumed b v spell blank may same = (let no : false ≡ true = may.1 in absurd cc)
  stage_opens (Tested ps d c f test g k) nodes at consumed b v spell blank may same = (let no : false ≡ true = may.1 in absurd cc)
  stage_opens (Raised ps F d k) nodes at consumed b v spell blank may same = absurd (no_quote_among nothing_of plain_nothing may.0)
  stage_opens (Whole F) nodes at consumed b v spell blank may same = absurd (no_quote_among nothing_of plain_nothing may.0)

  reader_opens : (s : Stage) (r : Reader) (at : ℕ) (consumed b : List ℕ) (t : Token) → t ≡ token.Word symbol.Quote → Like s r → Valid p s
      → Spelled p s consumed → IsBlank b → May r.expect r.frames r.quoted p t → opening ≡ (consumed ++ b) ++ (39 ∷ []) → Opens (with_token r at t)
  reader_opens s r at consumed b t q like v spell blank may same =
      let x : r ≡ rd (expect_of s) (stage_frames s) r.nodes r.opened r.crowded (stage_quoted s) =
      ap (λ (y : Expect). rd y r.frames r.nodes r.opened r.crowded r.quoted) like.expect
      ∙ ap (λ (y : List Frame). rd (expect_of s) y r.nodes r.opened r.crowded r.quoted) like.frames
      ∙ ap (λ (y : Bool). rd (expect_of s) (stage_frames s) r.nodes r.opened r.crowded y) like.quoted in
      let may' : May (expect_of s) (stage_frames s) (stage_quoted s) p (token.Word symbol.Quote) =
      subst (λ (y : Reader). May y.expect y.frames y.quoted p (token.Word symbol.Quote)) x (subst (λ (u : Token). May r.expect r.frames r.quoted p u) q may) in
      subst (λ (u : Token). Opens (with_token r at u)) (sym q)
      (subst (λ (y : Reader). Opens (with_token y at (token.Word symbol.Quote))) (sym x) (stage_opens s r at consumed b v spell blank may' same))

  shifted : (xs b t left mark : List ℕ) → xs ++ ((b ++ (t ++ left)) ++ mark) ≡ (xs ++ (b ++ t)) ++ (left ++ mark)
  shifted xs b t left mark =
      ap (λ (l : List ℕ). xs ++ (l ++ mark)) (sym (append_assoc b t left)) ∙ ap (λ (l : List ℕ). xs ++ l) (append_assoc (b ++ t) left mark)
      ∙ sym (append_assoc xs (b ++ t) (left ++ mark))

  abbrev Walks : ℕ → Type 0
  Walks n = (s : Stage) (r : Reader) (at : ℕ) (consumed ahead : List ℕ) → Like s r → Valid p s → Spelled p s consumed → at ≡ length consumed
      → opening ≡ consumed ++ (ahead ++ (39 ∷ [])) → read_rest p n r at (ahead ++ (39 ∷ beyond)) ≡ Err e → e < at + n → Opened

  -- one token further
  onward : (n : ℕ) → Walks n → (s : Stage) (r : Reader) (at : ℕ) (consumed ahead b rest : List ℕ) (f : Found) (lexeme after left : List ℕ) → Like s r
      → Valid p s → Spelled p s consumed → IsBlank b → at ≡ length consumed + length b → opening ≡ consumed ++ (ahead ++ (39 ∷ []))
      → read_rest p n (with_token r at f.token) (at + f.len) (drop f.len rest) ≡ Err e → e < at + f.len + n
      → rest ≡ lexeme ++ after → IsLexeme f.token lexeme → f.len ≡ length lexeme → May r.expect r.frames r.quoted p f.token
      → ahead ≡ b ++ (lexeme ++ left) → after ≡ left ++ (39 ∷ beyond) → Opened
  onward n ih s r at consumed ahead b rest f lexeme after left like v spell blank here opened read more same is long may stands beyond_is =
      let x = next_of p s r at b f.token lexeme like v blank may is in
      let word = b ++ lexeme in
      let now = consumed ++ word in
      let so : Spelled p x.stage now = λ more. append_assoc consumed word more ∙ ap (λ (l : List ℕ). consumed ++ l) (append_assoc b lexeme more)
      ∙ spell (b ++ (lexeme ++ more)) ∙ x.spell more in
      let far : drop f.len rest ≡ after = ap (λ (k : ℕ). drop k rest) long ∙ ap (drop (length lexeme)) same ∙ drop_front lexeme after in
      let size : at + f.len ≡ length now = omega (arith, here, long, length-append consumed word, length-append b lexeme) in
      let opened' : opening ≡ now ++ (left ++ (39 ∷ [])) = opened ∙ ap (λ (l : List ℕ). consumed ++ (l ++ (39 ∷ []))) stands
      ∙ shifted consumed b lexeme left (39 ∷ []) in
      ih x.stage (with_token r at f.token) (at + f.len) now left x.like x.valid so size opened'
      (ap (read_rest p n (with_token r at f.token) (at + f.len)) (sym (far ∙ beyond_is)) ∙ read) more

  module _ (n : ℕ) (ih : Walks n) (s : Stage) (r : Reader) (at : ℕ) (consumed ahead b rest left : List ℕ) (like : Like s r) (v : Valid p s)
      (spell : Spelled p s consumed) (blank : IsBlank b) (here : at ≡ length consumed + length b) (opened : opening ≡ consumed ++ (ahead ++ (39 ∷ [])))
      (less : e < at + suc n) (stands : ahead ≡ b ++ left) (rest_is : rest ≡ left ++ (39 ∷ beyond)) where
    sizes : length opening ≡ length consumed + (length b + length left) + 1
    sizes = omega (
      arith,
      ap length opened,
      length-append consumed (ahead ++ (39 ∷ [])),
      length-append ahead (39 ∷ []),
      ap length stands,
      length-append b left,
    )

    -- no fault comes before the quote
    no_fault : (m : ℕ) → token_from r.expect r.frames r.quoted p rest ≡ Err m → at + m ≡ e → ⊥
    no_fault m found is =
        let w = before_mark (take m rest) (drop m rest) left beyond (front_plain r.expect r.frames r.quoted p rest m found)
        (take-append-drop m rest ∙ rest_is) in
        absurd (omega (
          arith,
          is,
          here,
          past,
          sizes,
          ap length w.ahead_is,
          length-append (take m rest) w.left,
          length-take m rest,
          ap length rest_is,
          length-append left (39 ∷ beyond),
        ))

    -- the quote that opens
    at_quote : (f : Found) (after : List ℕ) → f.token ≡ token.Word symbol.Quote → left ≡ [] → after ≡ beyond
        → read_rest p n (with_token r at f.token) (at + f.len) after ≡ Err e → f.len ≡ 1 → May r.expect r.frames r.quoted p f.token → Opened
    at_quote f after q none same read one may =
        let whole : opening ≡ (consumed ++ b) ++ (39 ∷ []) = opened
        ∙ ap (λ (l : List ℕ). consumed ++ (l ++ (39 ∷ []))) (stands ∙ ap (λ (l : List ℕ). b ++ l) none ∙ append-nil b)
        ∙ sym (append_assoc consumed b (39 ∷ [])) in
        let o = reader_opens s r at consumed b f.token q like v spell blank may whole in
        let size : at + f.len ≡ length opening = omega (arith, here, one, sizes, ap length none) in
        record {
          fuel = n;
          reader = with_token r at f.token;
          frames = o.0;
          expects = o.1;
          framed = o.2;
          quoted = o.3;
          read = ap (λ (k : ℕ). read_rest p n (with_token r at f.token) k beyond) (sym size)
              ∙ ap (read_rest p n (with_token r at f.token) (at + f.len)) (sym same) ∙ read;
          more = omega (arith, less, size, one);
        }

    walk_on : (f : Result Found ℕ) → token_from r.expect r.frames r.quoted p rest ≡ f → go_on (read_rest p n) r at rest f ≡ Err e → Opened
    walk_on (Err m) found read = absurd (no_fault m found (err_is (at + m) e read))
    walk_on (Ok f) found read =
        let t = token_sound r.expect r.frames r.quoted p rest f found in
        elim (quote_free f.token t.0 t.3) [
          | inl q ↦
              let one = quote_one t.0 (subst (λ (u : Token). IsLexeme u t.0) q t.3) in
              let single : f.len ≡ 1 = t.4 ∙ ap length one in
              elim (at_mark t.1 left beyond (ap (λ (l : List ℕ). l ++ t.1) (sym one) ∙ sym t.2 ∙ rest_is)) [
                | inl z ↦
                    let past_it : drop f.len rest ≡ t.1 =
                    ap (λ (k : ℕ). drop k rest) t.4 ∙ ap (drop (length t.0)) t.2 ∙ drop_front t.0 t.1 in
                    at_quote f t.1 q z.0 z.1 (ap (read_rest p n (with_token r at f.token) (at + f.len)) (sym past_it) ∙ read) single t.5
                | inr z ↦
                    onward n ih s r at consumed ahead b rest f t.0 t.1 z.0 like v spell blank here opened read (omega (arith, less, single)) t.2 t.3 t.4 t.5
                    (stands ∙ ap (λ (l : List ℕ). b ++ l) (z.1 ∙ ap (λ (l : List ℕ). l ++ z.0) (sym one))) z.2
              ]
          | inr plain ↦
              let w = before_mark t.0 t.1 left beyond plain (sym t.2 ∙ rest_is) in
              let some : 1 ≤ length t.0 = (token_dark r.expect r.frames r.quoted p f.token t.0 t.1 t.5 t.3).0 in
              onward n ih s r at consumed ahead b rest f t.0 t.1 w.left like v spell blank here opened read (omega (arith, less, t.4, some)) t.2 t.3 t.4 t.5
              (stands ∙ ap (λ (l : List ℕ). b ++ l) w.ahead_is) w.rest_is
        ]

  pub walk : (n : ℕ) → Walks n
  walk zero s r at consumed ahead like v spell here opened read less =
      absurd (omega (arith, err_is at e (sym (read_none p r at (ahead ++ (39 ∷ beyond))) ∙ read), less))
  walk (suc n) s r at consumed ahead like v spell here opened read less =
      let bytes = ahead ++ (39 ∷ beyond) in
      let b = blanks_split bytes in
      let rest = past_blanks p bytes b.0 b.1 b.2 b.4 in
      let w = before_mark b.0 b.1 ahead beyond (plain_blanks b.0 b.3) (sym b.2) in
      (elim (nat_eq (length b.1) 0) as (λ t. nat_eq (length b.1) 0 ≡ t
      → cond t (ended r (at + blank_count bytes))
      (go_on (read_rest p n) r (at + blank_count bytes) b.1 (token_from r.expect r.frames r.quoted p b.1)) ≡ Err e → Opened) [
        | true ↦ λ f g. absurd (omega (arith, length_none b.1 f, ap length w.rest_is, length-append w.left (39 ∷ beyond)))
        | false ↦ λ f g. walk_on n (walk n) s r (at + blank_count bytes) consumed ahead b.0 b.1 w.left like v spell b.3 (omega (arith, here, b.4)) opened
            (omega (arith, less)) w.ahead_is w.rest_is (token_from r.expect r.frames r.quoted p b.1) refl g
      ]) refl (sym (step_is p n r at bytes b.1 rest) ∙ read)
