-- A quoted text in another one: what is read is divided at the quote that opens the outer.
use Rattle.std.proofs.Common.{◌≡◌, ℕ, ◌≤◌, Bool, true, false, List, [], ◌∷◌, ◌++◌, refl, sym, ap, subst, ◌∙◌, append_assoc, arith}
use Rattle.std.specs.Prelude.{◌&&◌, not, nat_eq}
use Rattle.std.specs.Char.{is_ascii_digit}
use Rattle.std.proofs.lemmas.Bool.Decides.{nat_tests}
use Rattle.std.proofs.lemmas.List.{append_cancel_left}
use Rattle.dh_base.specs.declared.plain.Rate.TheVariants as rates
use Rattle.expr_lang.specs.declared.tree.Place.{Place}
use Rattle.expr_lang.specs.declared.tree.Unary.{Unary}
use Rattle.expr_lang.specs.declared.tree.Unary.TheVariants as unary
use Rattle.expr_lang.specs.declared.tree.Binary.{Binary}
use Rattle.expr_lang.specs.declared.tree.Binary.TheVariants as binary
use Rattle.expr_lang.specs.declared.words.Symbol.{Symbol}
use Rattle.expr_lang.specs.declared.words.Symbol.TheVariants as symbol
use Rattle.expr_lang.specs.declared.words.Call.{Call}
use Rattle.expr_lang.specs.declared.words.Call.TheVariants as call
use Rattle.expr_lang.specs.declared.words.ItemForm.{ItemForm}
use Rattle.expr_lang.specs.declared.words.ItemForm.TheVariants as form
use Rattle.expr_lang.specs.Print.{left_level_of, right_level_of}
use Rattle.expr_lang.specs.Reading.{level_of, is_blank_of}
use Rattle.expr_lang.specs.Token.{fits_of}
use Rattle.expr_lang.specs.Words.{text_of}
use Rattle.expr_grammar.specs.Continues.{GoesOn, HasNoQuote, OpensQuote, EndsInQuote}
use Rattle.expr_grammar.specs.Grammar.{Form, Number, Item, Bracket, Power, Sign, Chain, Arguments, If, Condition, DaysBetween, Apply, IsBlank, IsDigits}
use Rattle.expr_grammar.specs.Grammar.{IsWord, IsForm, arguments_level, sign_text, after_blanks, symbol_text, behind_point, spelled}
use Rattle.expr_grammar.proofs.Words.{both}
use Rattle.expr_grammar.proofs.Completed.{not_true}
use Rattle.expr_grammar.proofs.Parts.{Part, InChain, InSign, InBracket, InQuote, InIf, InThen, InElse, InYes, InNo, InFirst, InSecond, InOne, InMore}
use Rattle.expr_grammar.proofs.Parts.{spelled_part, spelled_parts, quoted_of, hole, Fit}
use Rattle.expr_grammar.proofs.Stages.{Stage, Wants, Named, Quoting, WantsItem, PlainFirst, PlainNext, Plain, Lone, Raised, Has, Tested, Whole}
use Rattle.expr_grammar.proofs.Stages.{named, spelled_stage, parts_of, nests, Valid}
use Rattle.expr_grammar.proofs.Finished.{Ends, finish_stage, stage_text}

-- ---- bytes without a quote

pub plain_both : (xs ys : List ℕ) → HasNoQuote xs → HasNoQuote ys → HasNoQuote (xs ++ ys)
plain_both [] ys h g = g
plain_both (x ∷ xs) ys h g = (h.0, plain_both xs ys h.1 g)

pub plain_front : (xs ys : List ℕ) → HasNoQuote (xs ++ ys) → HasNoQuote xs
plain_front [] ys h = tt
plain_front (x ∷ xs) ys h = (h.0, plain_front xs ys h.1)

plain_digit : (b : ℕ) → is_ascii_digit b ≡ true → nat_eq b 39 ≡ false
plain_digit b h = grind (arith, nat_tests)

pub plain_digits : (ds : List ℕ) → IsDigits ds → HasNoQuote ds
plain_digits [] h = tt
plain_digits (d ∷ ds) h = (plain_digit d h.0, plain_digits ds h.1)

pub plain_point : (ds : List ℕ) → HasNoQuote ds → HasNoQuote (behind_point ds)
plain_point [] h = tt
plain_point (d ∷ ds) h = (refl, h)

plain_blank : (b : ℕ) → is_blank_of b ≡ true → nat_eq b 39 ≡ false
plain_blank b h = grind (arith, nat_tests)

pub plain_blanks : (bs : List ℕ) → IsBlank bs → HasNoQuote bs
plain_blanks [] h = tt
plain_blanks (b ∷ bs) h = (plain_blank b h.0, plain_blanks bs h.1)

plain_fit : (c b : ℕ) → nat_eq c 39 ≡ false → fits_of c b ≡ true → nat_eq b 39 ≡ false
plain_fit c b g f = grind (arith, nat_tests)

pub plain_word : (t word : List ℕ) → HasNoQuote t → IsWord t word → HasNoQuote word
plain_word [] [] q h = tt
plain_word [] (b ∷ bs) q h = absurd h
plain_word (c ∷ cs) [] q h = absurd h
plain_word (c ∷ cs) (b ∷ bs) q h = (plain_fit c b q.0 h.0, plain_word cs bs q.1 h.1)

abbrev has_none : List ℕ → Bool
has_none [] = true
has_none (b ∷ bs) = not (nat_eq b 39) && has_none bs

plain_from : (bs : List ℕ) → has_none bs ≡ true → HasNoQuote bs
plain_from [] e = tt
plain_from (b ∷ bs) e = let k = both (not (nat_eq b 39)) (has_none bs) e in (not_true (nat_eq b 39) k.0, plain_from bs k.1)

pub plain_operator : (o : Binary) → HasNoQuote (text_of (symbol.Operator o))
unfolding text_of
plain_operator binary.Or = plain_from (text_of (symbol.Operator binary.Or)) refl
plain_operator binary.And = plain_from (text_of (symbol.Operator binary.And)) refl
plain_operator binary.Equal = plain_from (text_of (symbol.Operator binary.Equal)) refl
plain_operator binary.NotEqual = plain_from (text_of (symbol.Operator binary.NotEqual)) refl
plain_operator binary.Less = plain_from (text_of (symbol.Operator binary.Less)) refl
plain_operator binary.AtMost = plain_from (text_of (symbol.Operator binary.AtMost)) refl
plain_operator binary.Greater = plain_from (text_of (symbol.Operator binary.Greater)) refl
plain_operator binary.AtLeast = plain_from (text_of (symbol.Operator binary.AtLeast)) refl
plain_operator binary.Add = plain_from (text_of (symbol.Operator binary.Add)) refl
plain_operator binary.Subtract = plain_from (text_of (symbol.Operator binary.Subtract)) refl
plain_operator binary.Multiply = plain_from (text_of (symbol.Operator binary.Multiply)) refl
plain_operator binary.Divide = plain_from (text_of (symbol.Operator binary.Divide)) refl
plain_operator binary.Remainder = plain_from (text_of (symbol.Operator binary.Remainder)) refl
plain_operator binary.DaysBetween = plain_from (text_of (symbol.Operator binary.DaysBetween)) refl
plain_operator binary.Comma = plain_from (text_of (symbol.Operator binary.Comma)) refl

pub plain_call : (c : Call) → HasNoQuote (text_of (symbol.Call c))
unfolding text_of
plain_call call.If = plain_from (text_of (symbol.Call call.If)) refl
plain_call call.Condition = plain_from (text_of (symbol.Call call.Condition)) refl
plain_call call.IsNull = plain_from (text_of (symbol.Call call.IsNull)) refl
plain_call call.IsNotNull = plain_from (text_of (symbol.Call call.IsNotNull)) refl
plain_call call.FirstNonNull = plain_from (text_of (symbol.Call call.FirstNonNull)) refl
plain_call call.Greatest = plain_from (text_of (symbol.Call call.Greatest)) refl
plain_call call.Least = plain_from (text_of (symbol.Call call.Least)) refl
plain_call call.DaysBetween = plain_from (text_of (symbol.Call call.DaysBetween)) refl
plain_call call.HasValue = plain_from (text_of (symbol.Call call.HasValue)) refl
plain_call call.Zing = plain_from (text_of (symbol.Call call.Zing)) refl
plain_call call.Oizp = plain_from (text_of (symbol.Call call.Oizp)) refl

pub plain_item : (f : ItemForm) → HasNoQuote (text_of (symbol.Item f))
unfolding text_of
plain_item form.Element = plain_from (text_of (symbol.Item form.Element)) refl
plain_item form.ElementCombo = plain_from (text_of (symbol.Item form.ElementCombo)) refl
plain_item form.ElementCombos = plain_from (text_of (symbol.Item form.ElementCombos)) refl
plain_item form.Constant = plain_from (text_of (symbol.Item form.Constant)) refl
plain_item form.Group = plain_from (text_of (symbol.Item form.Group)) refl
plain_item form.Days = plain_from (text_of (symbol.Item form.Days)) refl
plain_item (form.Rate rates.Expected) = plain_from (text_of (symbol.Item (form.Rate rates.Expected))) refl
plain_item (form.Rate rates.Actual) = plain_from (text_of (symbol.Item (form.Rate rates.Actual))) refl
plain_item (form.Rate rates.OnTime) = plain_from (text_of (symbol.Item (form.Rate rates.OnTime))) refl
plain_item (form.Rate rates.Reported) = plain_from (text_of (symbol.Item (form.Rate rates.Reported))) refl
plain_item (form.Rate rates.ReportedOnTime) = plain_from (text_of (symbol.Item (form.Rate rates.ReportedOnTime))) refl
plain_item form.StageElement = plain_from (text_of (symbol.Item form.StageElement)) refl
plain_item form.Attribute = plain_from (text_of (symbol.Item form.Attribute)) refl
plain_item form.EventDate = plain_from (text_of (symbol.Item form.EventDate)) refl
plain_item form.EnrollmentDate = plain_from (text_of (symbol.Item form.EnrollmentDate)) refl
plain_item form.EventCount = plain_from (text_of (symbol.Item form.EventCount)) refl
plain_item form.EnrollmentCount = plain_from (text_of (symbol.Item form.EnrollmentCount)) refl
plain_item form.EntityCount = plain_from (text_of (symbol.Item form.EntityCount)) refl

plain_sign : (sign : Unary) → HasNoQuote (sign_text sign)
plain_sign unary.Not = (refl, tt)
plain_sign _ = (refl, tt)

-- The same, as a record, so that the list is known from it.
record Clean (xs : List ℕ) : Type 0 where
  is : HasNoQuote xs

clean_word : {rest : List ℕ} (b word : List ℕ) → IsBlank b → HasNoQuote word → Clean rest → Clean (after_blanks b word rest)
clean_word {rest = rest} b word blank plain h =
    record { is = plain_both b (word ++ rest) (plain_blanks b blank) (plain_both word rest plain h.is) }

clean_symbol : {rest : List ℕ} (b : List ℕ) (w : Symbol) → IsBlank b → HasNoQuote (text_of w) → Clean rest → Clean (symbol_text b w rest)
clean_symbol b w blank plain h = clean_word b (text_of w) blank plain h

clean_open : {rest : List ℕ} (b : List ℕ) → IsBlank b → Clean rest → Clean (symbol_text b symbol.Open rest)
unfolding text_of
clean_open b blank h = clean_symbol b symbol.Open blank (refl, tt) h

clean_close : {rest : List ℕ} (b : List ℕ) → IsBlank b → Clean rest → Clean (symbol_text b symbol.Close rest)
unfolding text_of
clean_close b blank h = clean_symbol b symbol.Close blank (refl, tt) h

clean_comma : {rest : List ℕ} (b : List ℕ) → IsBlank b → Clean rest → Clean (symbol_text b symbol.Comma rest)
unfolding text_of
clean_comma b blank h = clean_symbol b symbol.Comma blank (refl, tt) h

clean_caret : {rest : List ℕ} (b : List ℕ) → IsBlank b → Clean rest → Clean (symbol_text b symbol.Caret rest)
unfolding text_of
clean_caret b blank h = clean_symbol b symbol.Caret blank (refl, tt) h

clean_call : {rest : List ℕ} (b : List ℕ) (name : Call) (c : List ℕ) → IsBlank b → IsBlank c → Clean rest → Clean (named b name c rest)
clean_call b name c blank blank' h = clean_symbol b (symbol.Call name) blank (plain_call name) (clean_open c blank' h)

-- a form of a quoted text
clean_form : (p : Place) (L : ℕ) (F : Form) {rest : List ℕ} → IsForm p true L F → Clean rest → Clean (spelled F rest)
clean_form p L (Number b digits decimals) is h =
    clean_word b (digits ++ behind_point decimals) is.0
    (plain_both digits (behind_point decimals) (plain_digits digits is.1.whole) (plain_point decimals (plain_digits decimals is.1.part))) h
clean_form p L (Item b f word) is h = clean_word b word is.0 (plain_word (text_of (symbol.Item f)) word (plain_item f) is.2) h
clean_form p L (Bracket b inner c) is h = clean_open b is.0 (clean_form p 1 inner is.1 (clean_close c is.2 h))
clean_form p L (Power atom b c digits) is h =
    clean_form p 8 atom is.1 (clean_caret b is.2 (clean_word c digits is.3 (plain_digits digits is.4.whole) h))
clean_form p L (Sign b sign operand) is h = clean_word b (sign_text sign) is.1 (plain_sign sign) (clean_form p 6 operand is.3 h)
clean_form p L (Chain left b op right) is h =
    clean_form p (left_level_of op) left is.2
    (clean_symbol b (symbol.Operator op) is.3 (plain_operator op) (clean_form p (right_level_of op) right is.4 h))
clean_form p L (Arguments first b last) is h = clean_form p 0 first is.1 (clean_comma b is.2 (clean_form p 1 last is.3 h))
clean_form p L (If b c test d one e other f) is h =
    clean_call b call.If c is.1 is.2 (clean_form p 1 test is.3 (clean_comma d is.4 (clean_form p 1 one is.5 (clean_comma e is.6
    (clean_form p 1 other is.7 (clean_close f is.8 h))))))
clean_form p L (Condition b c d test e f one g other i) is h = (let no = is.1 in absurd cc)
clean_form p L (DaysBetween b c one d other e) is h =
    clean_call b call.DaysBetween c is.1 is.2 (clean_form p 1 one is.3 (clean_comma d is.4 (clean_form p 1 other is.5 (clean_close e is.6 h))))
clean_form p L (Apply b name c arguments d) is h =
    clean_call b name c is.1 is.2 (clean_form p (arguments_level name) arguments is.3 (clean_close d is.5 h))

-- ---- what is read of a text that goes on

module _ (ys : List ℕ) where
  pub record Longer (zs xs : List ℕ) : Type 0 where
    pub is : zs ≡ xs ++ ys

  pub long_word : {zs xs : List ℕ} (b word : List ℕ) → Longer zs xs → Longer (after_blanks b word zs) (after_blanks b word xs)
  long_word {zs = zs} {xs = xs} b word h = record {
    is = ap (λ (l : List ℕ). b ++ (word ++ l)) h.is ∙ ap (λ (l : List ℕ). b ++ l) (sym (append_assoc word xs ys)) ∙ sym (append_assoc b (word ++ xs) ys);
  }

  pub long_symbol : {zs xs : List ℕ} (b : List ℕ) (w : Symbol) → Longer zs xs → Longer (symbol_text b w zs) (symbol_text b w xs)
  long_symbol b w h = long_word b (text_of w) h

  pub long_call : {zs xs : List ℕ} (b : List ℕ) (name : Call) (c : List ℕ) → Longer zs xs → Longer (named b name c zs) (named b name c xs)
  long_call b name c h = long_symbol b (symbol.Call name) (long_symbol c symbol.Open h)

  pub long_form : (F : Form) {zs xs : List ℕ} → Longer zs xs → Longer (spelled F zs) (spelled F xs)
  long_form (Number b digits decimals) h = long_word b (digits ++ behind_point decimals) h
  long_form (Item b f word) h = long_word b word h
  long_form (Bracket b inner c) h = long_symbol b symbol.Open (long_form inner (long_symbol c symbol.Close h))
  long_form (Power atom b c digits) h = long_form atom (long_symbol b symbol.Caret (long_word c digits h))
  long_form (Sign b sign operand) h = long_word b (sign_text sign) (long_form operand h)
  long_form (Chain left b op right) h = long_form left (long_symbol b (symbol.Operator op) (long_form right h))
  long_form (Arguments first b last) h = long_form first (long_symbol b symbol.Comma (long_form last h))
  long_form (If b c test d one e other f) h =
      long_call b call.If c (long_form test (long_symbol d symbol.Comma (long_form one (long_symbol e symbol.Comma
      (long_form other (long_symbol f symbol.Close h))))))
  long_form (Condition b c d test e f one g other i) h =
      long_call b call.Condition c (long_symbol d symbol.Quote (long_form test (long_symbol e symbol.Quote (long_symbol f symbol.Comma
      (long_form one (long_symbol g symbol.Comma (long_form other (long_symbol i symbol.Close h))))))))
  long_form (DaysBetween b c one d other e) h =
      long_call b call.DaysBetween c (long_form one (long_symbol d symbol.Comma (long_form other (long_symbol e symbol.Close h))))
  long_form (Apply b name c arguments d) h = long_call b name c (long_form arguments (long_symbol d symbol.Close h))

  pub long_part : {zs xs : List ℕ} (x : Part) → Longer zs xs → Longer (spelled_part x zs) (spelled_part x xs)
  long_part (InChain left b op k) h = long_form left (long_symbol b (symbol.Operator op) h)
  long_part (InSign b sign k) h = long_word b (sign_text sign) h
  long_part (InBracket b) h = long_symbol b symbol.Open h
  long_part (InQuote b c d k) h = long_call b call.Condition c (long_symbol d symbol.Quote h)
  long_part (InIf b c k) h = long_call b call.If c h
  long_part (InThen b c test d k) h = long_call b call.If c (long_form test (long_symbol d symbol.Comma h))
  long_part (InElse b c test d one e k) h =
      long_call b call.If c (long_form test (long_symbol d symbol.Comma (long_form one (long_symbol e symbol.Comma h))))
  long_part (InYes b c d test e f k) h =
      long_call b call.Condition c (long_symbol d symbol.Quote (long_form test (long_symbol e symbol.Quote (long_symbol f symbol.Comma h))))
  long_part (InNo b c d test e f one g k) h =
      long_call b call.Condition c (long_symbol d symbol.Quote (long_form test (long_symbol e symbol.Quote (long_symbol f symbol.Comma
      (long_form one (long_symbol g symbol.Comma h))))))
  long_part (InFirst b c k) h = long_call b call.DaysBetween c h
  long_part (InSecond b c one d k) h = long_call b call.DaysBetween c (long_form one (long_symbol d symbol.Comma h))
  long_part (InOne b name c k) h = long_call b name c h
  long_part (InMore b name c first d k n) h = long_call b name c (long_form first (long_symbol d symbol.Comma h))

  pub long_parts : (ps : List Part) {zs xs : List ℕ} → Longer zs xs → Longer (spelled_parts ps zs) (spelled_parts ps xs)
  long_parts [] h = h
  long_parts (x ∷ ps) h = long_parts ps (long_part x h)

-- ---- what is begun in a quoted text

-- a form of a quoted text is one outside of it
unquoted : (p : Place) (L : ℕ) (F : Form) → IsForm p true L F → IsForm p false L F
unquoted p L (Number b digits decimals) h = h
unquoted p L (Item b f word) h = h
unquoted p L (Bracket b inner c) h = (h.0, unquoted p 1 inner h.1, h.2)
unquoted p L (Power atom b c digits) h = (h.0, unquoted p 8 atom h.1, h.2, h.3, h.4)
unquoted p L (Sign b sign operand) h = (h.0, h.1, h.2, unquoted p 6 operand h.3)
unquoted p L (Chain left b op right) h = (h.0, h.1, unquoted p (left_level_of op) left h.2, h.3, unquoted p (right_level_of op) right h.4)
unquoted p L (Arguments first b last) h = (h.0, unquoted p 0 first h.1, h.2, unquoted p 1 last h.3)
unquoted p L (If b c test d one e other f) h =
    (h.0, h.1, h.2, unquoted p 1 test h.3, h.4, unquoted p 1 one h.5, h.6, unquoted p 1 other h.7, h.8)
unquoted p L (Condition b c d test e f one g other i) h = (let no = h.1 in absurd cc)
unquoted p L (DaysBetween b c one d other e) h = (h.0, h.1, h.2, unquoted p 1 one h.3, h.4, unquoted p 1 other h.5, h.6)
unquoted p L (Apply b name c arguments d) h = (h.0, h.1, h.2, unquoted p (arguments_level name) arguments h.3, h.4, h.5)

-- what is begun, up to the quote that opens the quoted text, and in it
record Divided (p : Place) (ps : List Part) : Type 0 where
  inner : List Part
  opening : List ℕ
  opens : OpensQuote opening
  goes : GoesOn p opening
  front : (rest : List ℕ) → spelled_parts ps rest ≡ opening ++ spelled_parts inner rest
  fit : Fit p inner
  outer : quoted_of inner ≡ false
  same : hole inner ≡ hole ps
  plain : (rest : List ℕ) → Clean rest → Clean (spelled_parts inner rest)

module _ (p : Place) where
  grown : (x : Part) (ps : List Part) (d : Divided p ps) → Fit p (x ∷ d.inner) → quoted_of (x ∷ d.inner) ≡ false → hole (x ∷ d.inner) ≡ hole (x ∷ ps)
      → ((rest : List ℕ) → Clean rest → Clean (spelled_part x rest)) → Divided p (x ∷ ps)
  grown x ps d fit outer same plain = record {
    inner = x ∷ d.inner;
    opening = d.opening;
    opens = d.opens;
    goes = d.goes;
    front = λ rest. d.front (spelled_part x rest);
    fit = fit;
    outer = outer;
    same = same;
    plain = λ rest h. d.plain (spelled_part x rest) (plain rest h);
  }

  divided_at : (b c d : List ℕ) (k : ℕ) (ps : List Part) → Fit p (InQuote b c d k ∷ ps) → Divided p (InQuote b c d k ∷ ps)
  divided_at b c d k ps fit =
      let quote = InQuote b c d k in
      let opening = spelled_parts ps (spelled_part quote []) in
      let name = symbol_text [] (symbol.Call call.Condition) (symbol_text c symbol.Open (symbol_text d symbol.Quote [])) in
      let front : (rest : List ℕ) → spelled_parts ps (spelled_part quote rest) ≡ opening ++ rest =
      λ rest. (let start : Longer rest rest [] = record { is = refl } in (long_parts rest ps (long_part rest quote start)).is) in
      let start : Longer name (spelled_part quote []) b = record { is = refl } in
      let text = stage_text p (Wants (quote ∷ ps)) [] tt fit refl in
      record {
        inner = [];
        opening = opening;
        opens = (spelled_parts ps b, c, d, fit.3, fit.4, (long_parts name ps start).is);
        goes = (text.0, text.1, (text.3, text.2, text.4, sym (front text.0) ∙ text.5));
        front = front;
        fit = tt;
        outer = refl;
        same = refl;
        plain = λ rest h. h;
      }

  module _ (ps : List Part) (quoted : quoted_of ps ≡ true) where
    held : (L : ℕ) (F : Form) → IsForm p (quoted_of ps) L F → IsForm p true L F
    held L F is = subst (λ (x : Bool). IsForm p x L F) quoted is

    freed : (d : Divided p ps) (L : ℕ) (F : Form) → IsForm p (quoted_of ps) L F → IsForm p (quoted_of d.inner) L F
    freed d L F is = subst (λ (x : Bool). IsForm p x L F) (sym d.outer) (unquoted p L F (held L F is))

  divided : (ps : List Part) → Fit p ps → quoted_of ps ≡ true → Divided p ps
  divided [] fit e = absurd cc
  divided (InQuote b c d k ∷ ps) fit e = divided_at b c d k ps fit
  divided (InChain left b op k ∷ ps) fit e =
      let d = divided ps fit.4 e in
      grown (InChain left b op k) ps d
      (fit.0, subst (λ (n : ℕ). n ≤ level_of op) (sym d.same) fit.1, freed ps e d (left_level_of op) left fit.2, fit.3, d.fit) d.outer refl
      (λ rest h. clean_form p (left_level_of op) left (held ps e (left_level_of op) left fit.2)
      (clean_symbol b (symbol.Operator op) fit.3 (plain_operator op) h))
  divided (InSign b sign k ∷ ps) fit e =
      let d = divided ps fit.2 e in
      grown (InSign b sign k) ps d (fit.0, fit.1, d.fit) d.outer refl (λ rest h. clean_word b (sign_text sign) fit.0 (plain_sign sign) h)
  divided (InBracket b ∷ ps) fit e =
      let d = divided ps fit.1 e in grown (InBracket b) ps d (fit.0, d.fit) d.outer refl (λ rest h. clean_open b fit.0 h)
  divided (InIf b c k ∷ ps) fit e =
      let d = divided ps fit.3 e in
      grown (InIf b c k) ps d (fit.0, fit.1, fit.2, d.fit) d.outer refl (λ rest h. clean_call b call.If c fit.1 fit.2 h)
  divided (InThen b c test f k ∷ ps) fit e =
      let d = divided ps fit.5 e in
      grown (InThen b c test f k) ps d (fit.0, fit.1, fit.2, freed ps e d 1 test fit.3, fit.4, d.fit) d.outer refl
      (λ rest h. clean_call b call.If c fit.1 fit.2 (clean_form p 1 test (held ps e 1 test fit.3) (clean_comma f fit.4 h)))
  divided (InElse b c test f one g k ∷ ps) fit e =
      let d = divided ps fit.7 e in
      grown (InElse b c test f one g k) ps d
      (fit.0, fit.1, fit.2, freed ps e d 1 test fit.3, fit.4, freed ps e d 1 one fit.5, fit.6, d.fit) d.outer refl
      (λ rest h. clean_call b call.If c fit.1 fit.2 (clean_form p 1 test (held ps e 1 test fit.3) (clean_comma f fit.4
      (clean_form p 1 one (held ps e 1 one fit.5) (clean_comma g fit.6 h)))))
  divided (InYes b c f test g i k ∷ ps) fit e = (let no : true ≡ false = sym e ∙ fit.1 in absurd cc)
  divided (InNo b c f test g i one j k ∷ ps) fit e = (let no : true ≡ false = sym e ∙ fit.1 in absurd cc)
  divided (InFirst b c k ∷ ps) fit e =
      let d = divided ps fit.3 e in
      grown (InFirst b c k) ps d (fit.0, fit.1, fit.2, d.fit) d.outer refl (λ rest h. clean_call b call.DaysBetween c fit.1 fit.2 h)
  divided (InSecond b c one f k ∷ ps) fit e =
      let d = divided ps fit.5 e in
      grown (InSecond b c one f k) ps d (fit.0, fit.1, fit.2, freed ps e d 1 one fit.3, fit.4, d.fit) d.outer refl
      (λ rest h. clean_call b call.DaysBetween c fit.1 fit.2 (clean_form p 1 one (held ps e 1 one fit.3) (clean_comma f fit.4 h)))
  divided (InOne b name c k ∷ ps) fit e =
      let d = divided ps fit.4 e in
      grown (InOne b name c k) ps d (fit.0, fit.1, fit.2, fit.3, d.fit) d.outer refl (λ rest h. clean_call b name c fit.2 fit.3 h)
  divided (InMore b name c first f k n ∷ ps) fit e =
      let d = divided ps fit.6 e in
      grown (InMore b name c first f k n) ps d (fit.0, fit.1, fit.2, fit.3, freed ps e d 0 first fit.4, fit.5, d.fit) d.outer refl
      (λ rest h. clean_call b name c fit.2 fit.3 (clean_form p 0 first (held ps e 0 first fit.4) (clean_comma f fit.5 h)))

-- ---- where a second `d2:condition` is read

record Nested (p : Place) (s : Stage) (w : List ℕ) : Type 0 where
  inner : List Part
  opening : List ℕ
  opens : OpensQuote opening
  goes : GoesOn p opening
  front : (rest : List ℕ) → spelled_parts (parts_of s) rest ≡ opening ++ spelled_parts inner rest
  write : List ℕ → List ℕ
  spell : (rest : List ℕ) → spelled_stage s rest ≡ opening ++ write rest
  plain : (rest : List ℕ) → Clean rest → Clean (write rest)
  ends : Ends p w write

nested_stage : (p : Place) (s : Stage) (w : List ℕ) → IsBlank w → Valid p s → nests s ≡ true → Nested p s w
nested_stage p (Named ps b call.Condition k) w blank v e =
    let d = divided p ps v.0 e in
    record {
      inner = d.inner;
      opening = d.opening;
      opens = d.opens;
      goes = d.goes;
      front = d.front;
      write = spelled_stage (Named d.inner b call.Condition k);
      spell = λ rest. d.front (symbol_text b (symbol.Call call.Condition) rest);
      plain = λ rest h. d.plain (symbol_text b (symbol.Call call.Condition) rest)
          (clean_symbol b (symbol.Call call.Condition) v.2 (plain_call call.Condition) h);
      ends = finish_stage p (Named d.inner b call.Condition k) w blank (d.fit, v.1, v.2) tt d.outer;
    }
nested_stage p (Quoting ps b c k) w blank v e =
    let d = divided p ps v.0 e in
    record {
      inner = d.inner;
      opening = d.opening;
      opens = d.opens;
      goes = d.goes;
      front = d.front;
      write = spelled_stage (Quoting d.inner b c k);
      spell = λ rest. d.front (named b call.Condition c rest);
      plain = λ rest h. d.plain (named b call.Condition c rest) (clean_call b call.Condition c v.2 v.3 h);
      ends = finish_stage p (Quoting d.inner b c k) w blank (d.fit, v.1, v.2, v.3) tt d.outer;
    }
nested_stage p s w blank v e = absurd cc

-- what is read after all that is begun
abbrev tail_of : Stage → List ℕ → List ℕ
tail_of (Wants ps) rest = rest
tail_of (Named ps b name k) rest = symbol_text b (symbol.Call name) rest
tail_of (Quoting ps b c k) rest = named b call.Condition c rest
tail_of (WantsItem ps b name c k) rest = named b name c rest
tail_of (PlainFirst ps b c k) rest = named b call.FirstNonNull c rest
tail_of (PlainNext ps b c k first d n) rest = named b call.FirstNonNull c (spelled first (symbol_text d symbol.Comma rest))
tail_of (Plain ps b c k F n) rest = named b call.FirstNonNull c (spelled F rest)
tail_of (Lone ps b name c k F) rest = named b name c (spelled F rest)
tail_of (Raised ps F b k) rest = spelled F (symbol_text b symbol.Caret rest)
tail_of (Has ps F power) rest = spelled F rest
tail_of (Tested ps b c d test e k) rest = named b call.Condition c (symbol_text d symbol.Quote (spelled test (symbol_text e symbol.Quote rest)))
tail_of (Whole F) rest = spelled F rest

in_parts : (s : Stage) (rest : List ℕ) → spelled_stage s rest ≡ spelled_parts (parts_of s) (tail_of s rest)
in_parts (Wants ps) rest = refl
in_parts (Named ps b name k) rest = refl
in_parts (Quoting ps b c k) rest = refl
in_parts (WantsItem ps b name c k) rest = refl
in_parts (PlainFirst ps b c k) rest = refl
in_parts (PlainNext ps b c k first d n) rest = refl
in_parts (Plain ps b c k F n) rest = refl
in_parts (Lone ps b name c k F) rest = refl
in_parts (Raised ps F b k) rest = refl
in_parts (Has ps F power) rest = refl
in_parts (Tested ps b c d test e k) rest = refl
in_parts (Whole F) rest = refl

nothing_behind : (xs : List ℕ) → xs ++ [] ≡ xs
nothing_behind [] = refl
nothing_behind (x ∷ xs) = ap (λ (l : List ℕ). x ∷ l) (nothing_behind xs)

module _ (p : Place) (s x : Stage) (before piece tail w : List ℕ) (blank : IsBlank w) (same : parts_of x ≡ parts_of s)
    (spell : (rest : List ℕ) → before ++ rest ≡ spelled_stage s rest)
    (next : (rest : List ℕ) → before ++ (piece ++ (tail ++ rest)) ≡ spelled_stage x (w ++ rest)) where
  ends_nested : Nested p x w → EndsInQuote p (before ++ piece)
  ends_nested n =
      let left = spelled_parts n.inner (tail_of s []) in
      let begun : before ≡ n.opening ++ left = sym (nothing_behind before) ∙ spell [] ∙ in_parts s []
      ∙ ap (λ (ps : List Part). spelled_parts ps (tail_of s [])) (sym same) ∙ n.front (tail_of s []) in
      let inner = left ++ piece in
      let whole : before ++ piece ≡ n.opening ++ inner = ap (λ (l : List ℕ). l ++ piece) begun ∙ append_assoc n.opening left piece in
      let after : (rest : List ℕ) → inner ++ (tail ++ rest) ≡ n.write (w ++ rest) = λ rest.
      append_cancel_left n.opening (inner ++ (tail ++ rest)) (n.write (w ++ rest))
      (sym (append_assoc n.opening inner (tail ++ rest)) ∙ ap (λ (l : List ℕ). l ++ (tail ++ rest)) (sym whole)
      ∙ append_assoc before piece (tail ++ rest) ∙ next rest ∙ n.spell (w ++ rest)) in
      let clean : Clean (w ++ []) = record { is = plain_both w [] (plain_blanks w blank) tt } in
      record {
        opening = n.opening;
        inner = inner;
        whole = whole;
        opens = n.opens;
        goes = n.goes;
        begins = record {
          more = tail ++ n.ends.more;
          form = n.ends.form;
          blanks = n.ends.beyond;
          is = n.ends.is;
          blank = n.ends.blank;
          same = after n.ends.more ∙ n.ends.same;
        };
        plain = plain_front inner (tail ++ []) (subst HasNoQuote (sym (after [])) (n.plain (w ++ []) clean).is);
      }

  -- where a second `d2:condition` is read, the bytes end inside a quoted text
  pub ends_in_quote : Valid p x → nests x ≡ true → EndsInQuote p (before ++ piece)
  ends_in_quote v e = ends_nested (nested_stage p x w blank v e)
