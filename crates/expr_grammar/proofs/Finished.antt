-- What is begun of a form can be finished.
use Rattle.std.proofs.Common.{◌≡◌, ℕ, ◌≤◌, Bool, true, false, List, [], ◌∷◌, ◌++◌, refl, sym, ap, subst, inl, inr, arith}
use Rattle.std.specs.Prelude.{◌&&◌, codes}
use Rattle.expr_lang.specs.declared.tree.Place.{Place}
use Rattle.expr_lang.specs.declared.tree.Place.TheVariants as place
use Rattle.expr_lang.specs.declared.words.Symbol.TheVariants as symbol
use Rattle.expr_lang.specs.declared.words.Call.{Call}
use Rattle.expr_lang.specs.declared.words.Call.TheVariants as call
use Rattle.expr_lang.specs.declared.words.ItemForm.TheVariants as form
use Rattle.expr_lang.specs.Token.{fits_of}
use Rattle.expr_lang.specs.Words.{text_of, items_of_place}
use Rattle.expr_grammar.specs.Grammar.{Form, Number, Item, Bracket, Power, Sign, Chain, Arguments, If, Condition, DaysBetween, Apply, IsBlank, IsNumber}
use Rattle.expr_grammar.specs.Grammar.{IsExponent, IsWord, IsAmong, IsCall, IsForm, IsWhole, Takes, is_item, all_plain, arguments_level, symbol_text}
use Rattle.expr_grammar.specs.Grammar.{spelled}
use Rattle.expr_grammar.proofs.Printed.{item_may_start}
use Rattle.expr_grammar.proofs.Parts.{Part, InChain, InSign, InBracket, InQuote, InIf, InThen, InElse, InYes, InNo, InFirst, InSecond, InOne, InMore}
use Rattle.expr_grammar.proofs.Parts.{spelled_parts, quoted_of, hole, IsUsual, IsMany, Fit, weaken, hole_small}
use Rattle.expr_grammar.proofs.Stages.{Stage, Wants, Named, Quoting, WantsItem, PlainFirst, PlainNext, Plain, Lone, Raised, Has, Tested, Whole}
use Rattle.expr_grammar.proofs.Stages.{spelled_stage, nests, IsItemCall, Valid}

-- what is written so begins a text, where blanks come next
pub record Ends (p : Place) (w : List ℕ) (write : List ℕ → List ℕ) : Type 0 where
  pub more : List ℕ
  pub form : Form
  pub beyond : List ℕ
  pub blank : IsBlank beyond
  pub is : IsForm p false 1 form
  pub same : write (w ++ more) ≡ spelled form beyond

-- ---- a number and an item

digits_zero : IsNumber (codes "0") []
digits_zero = record { some = omega arith; few = omega arith; whole = (refl, tt); short = omega arith; part = tt }

abbrev zero_form : List ℕ → Form
zero_form b = Number b (codes "0") []

zero_is : (p : Place) (q : Bool) (L : ℕ) (b : List ℕ) → IsBlank b → IsForm p q L (zero_form b)
zero_is p q L b blank = (blank, digits_zero)

abbrev is_word : List ℕ → List ℕ → Bool
is_word [] [] = true
is_word (c ∷ cs) (b ∷ bs) = fits_of c b && is_word cs bs
is_word _ _ = false

both : (a b : Bool) → a && b ≡ true → (a ≡ true) × (b ≡ true)
both true true e = (refl, refl)
both true false e = absurd cc
both false b e = absurd cc

word_from : (t word : List ℕ) → is_word t word ≡ true → IsWord t word
word_from [] [] e = tt
word_from [] (b ∷ bs) e = absurd cc
word_from (c ∷ cs) [] e = absurd cc
word_from (c ∷ cs) (b ∷ bs) e = let k = both (fits_of c b) (is_word cs bs) e in (k.0, word_from cs bs k.1)

constant_word : IsWord (text_of (symbol.Item form.Constant)) (codes "C{aaaaaaaaaaa}")
unfolding text_of
constant_word = word_from (text_of (symbol.Item form.Constant)) (codes "C{aaaaaaaaaaa}") refl

constant_among : (p : Place) → IsAmong (symbol.Item form.Constant) (items_of_place p)
unfolding items_of_place
constant_among place.Aggregate = inr (inr (inr (inl refl)))
constant_among place.Program = inr (inr (inl refl))

abbrev item_form : List ℕ → Form
item_form b = Item b form.Constant (codes "C{aaaaaaaaaaa}")

item_is : (p : Place) (q : Bool) (L : ℕ) (b : List ℕ) → IsBlank b → IsForm p q L (item_form b)
item_is p q L b blank = (blank, constant_among p, constant_word)

-- ---- with what is begun around it

whole_is : (p : Place) (F : Form) → IsForm p false 1 F → IsWhole p F
whole_is p (Item b f word) h = (h.0, item_may_start p (symbol.Item f) h.1, h.2)
whole_is p (Number b digits decimals) h = h
whole_is p (Bracket b inner c) h = h
whole_is p (Power atom b c digits) h = h
whole_is p (Sign b sign operand) h = h
whole_is p (Chain left b op right) h = h
whole_is p (Arguments first b last) h = h
whole_is p (If b c test d one e other f) h = h
whole_is p (Condition b c d test e f one g other i) h = h
whole_is p (DaysBetween b c one d other e) h = h
whole_is p (Apply b name c arguments d) h = h

usual_takes : (name : Call) (F : Form) → IsUsual name → (arguments_level name ≤ 1) × Takes name F
usual_takes call.Greatest F h = (omega arith, tt)
usual_takes call.Least F h = (omega arith, tt)
usual_takes call.Zing F h = (omega arith, tt)
usual_takes call.Oizp F h = (omega arith, tt)
usual_takes name F h = absurd h

many_takes : (name : Call) (F : Form) → IsMany name → (arguments_level name ≡ 0) × Takes name F
many_takes call.Greatest F h = (refl, tt)
many_takes call.Least F h = (refl, tt)
many_takes name F h = absurd h

-- a form stands there, and the words that close come after these blanks
pub finish_parts : (p : Place) (ps : List Part) (F : Form) (w : List ℕ) → IsBlank w → Fit p ps → IsForm p (quoted_of ps) (hole ps) F
    → Ends p w (λ rest. spelled_parts ps (spelled F rest))
finish_parts p [] F w blank fit is =
    record { more = []; form = F; beyond = w ++ []; blank = subst IsBlank (sym (nothing w)) blank; is = is; same = refl }
  where
    nothing : (xs : List ℕ) → xs ++ [] ≡ xs
    nothing [] = refl
    nothing (x ∷ xs) = ap (λ (l : List ℕ). x ∷ l) (nothing xs)
finish_parts p (InChain left b op k ∷ ps) F w blank fit is = finish_parts p ps (Chain left b op F) w blank fit.4 (fit.0, fit.1, fit.2, fit.3, is)
finish_parts p (InSign b sign k ∷ ps) F w blank fit is = finish_parts p ps (Sign b sign F) w blank fit.2 (hole_small p ps fit.2, fit.0, fit.1, is)
finish_parts p (InBracket b ∷ ps) F w blank fit is =
    let r = finish_parts p ps (Bracket b F w) [] tt fit.1 (fit.0, is, blank) in
    record { more = text_of symbol.Close ++ r.more; form = r.form; beyond = r.beyond; blank = r.blank; is = r.is; same = r.same }
finish_parts p (InQuote b c d k ∷ ps) F w blank fit is =
    let G = Condition b c d F w [] (zero_form []) [] (zero_form []) [] in
    let r =
    finish_parts p ps G [] tt fit.5 (
      fit.0,
      fit.1,
      fit.2,
      fit.3,
      fit.4,
      is,
      blank,
      tt,
      zero_is p (quoted_of ps) 1 [] tt,
      tt,
      zero_is p (quoted_of ps) 1 [] tt,
      tt,
    ) in
    record {
      more =
          text_of symbol.Quote ++ symbol_text [] symbol.Comma
          (spelled (zero_form []) (symbol_text [] symbol.Comma (spelled (zero_form []) (symbol_text [] symbol.Close r.more))));
      form = r.form;
      beyond =
          r.beyond;
      blank = r.blank;
      is = r.is;
      same = r.same;
    }
finish_parts p (InIf b c k ∷ ps) F w blank fit is =
    let G = If b c F w (zero_form []) [] (zero_form []) [] in
    let r = finish_parts p ps G [] tt fit.3 (fit.0, fit.1, fit.2, is, blank, zero_is p (quoted_of ps) 1 [] tt, tt, zero_is p (quoted_of ps) 1 [] tt, tt) in
    record {
      more =
          text_of symbol.Comma ++ spelled (zero_form []) (symbol_text [] symbol.Comma (spelled (zero_form []) (symbol_text [] symbol.Close r.more)));
      form =
          r.form;
      beyond = r.beyond;
      blank = r.blank;
      is = r.is;
      same = r.same;
    }
finish_parts p (InThen b c test d k ∷ ps) F w blank fit is =
    let G = If b c test d F w (zero_form []) [] in
    let r = finish_parts p ps G [] tt fit.5 (fit.0, fit.1, fit.2, fit.3, fit.4, is, blank, zero_is p (quoted_of ps) 1 [] tt, tt) in
    record {
      more = text_of symbol.Comma ++ spelled (zero_form []) (symbol_text [] symbol.Close r.more);
      form = r.form;
      beyond = r.beyond;
      blank =
          r.blank;
      is = r.is;
      same = r.same;
    }
finish_parts p (InElse b c test d one e k ∷ ps) F w blank fit is =
    let r = finish_parts p ps (If b c test d one e F w) [] tt fit.7 (fit.0, fit.1, fit.2, fit.3, fit.4, fit.5, fit.6, is, blank) in
    record { more = text_of symbol.Close ++ r.more; form = r.form; beyond = r.beyond; blank = r.blank; is = r.is; same = r.same }
finish_parts p (InYes b c d test e f k ∷ ps) F w blank fit is =
    let G = Condition b c d test e f F w (zero_form []) [] in
    let r = finish_parts p ps G [] tt fit.8 (fit.0, fit.1, fit.2, fit.3, fit.4, fit.5, fit.6, fit.7, is, blank, zero_is p (quoted_of ps) 1 [] tt, tt) in
    record {
      more = text_of symbol.Comma ++ spelled (zero_form []) (symbol_text [] symbol.Close r.more);
      form = r.form;
      beyond = r.beyond;
      blank =
          r.blank;
      is = r.is;
      same = r.same;
    }
finish_parts p (InNo b c d test e f one g k ∷ ps) F w blank fit is =
    let r =
    finish_parts p ps (Condition b c d test e f one g F w) [] tt fit.10 (fit.0, fit.1, fit.2, fit.3, fit.4, fit.5, fit.6, fit.7, fit.8, fit.9, is, blank) in
    record { more = text_of symbol.Close ++ r.more; form = r.form; beyond = r.beyond; blank = r.blank; is = r.is; same = r.same }
finish_parts p (InFirst b c k ∷ ps) F w blank fit is =
    let r = finish_parts p ps (DaysBetween b c F w (zero_form []) []) [] tt fit.3 (fit.0, fit.1, fit.2, is, blank, zero_is p (quoted_of ps) 1 [] tt, tt) in
    record {
      more = text_of symbol.Comma ++ spelled (zero_form []) (symbol_text [] symbol.Close r.more);
      form = r.form;
      beyond = r.beyond;
      blank =
          r.blank;
      is = r.is;
      same = r.same;
    }
finish_parts p (InSecond b c one d k ∷ ps) F w blank fit is =
    let r = finish_parts p ps (DaysBetween b c one d F w) [] tt fit.5 (fit.0, fit.1, fit.2, fit.3, fit.4, is, blank) in
    record { more = text_of symbol.Close ++ r.more; form = r.form; beyond = r.beyond; blank = r.blank; is = r.is; same = r.same }
finish_parts p (InOne b name c k ∷ ps) F w blank fit is =
    let t = usual_takes name F fit.1 in
    let r = finish_parts p ps (Apply b name c F w) [] tt fit.4 (fit.0, fit.2, fit.3, weaken p (quoted_of ps) 1 (arguments_level name) F t.0 is, t.1, blank) in
    record { more = text_of symbol.Close ++ r.more; form = r.form; beyond = r.beyond; blank = r.blank; is = r.is; same = r.same }
finish_parts p (InMore b name c first d k n ∷ ps) F w blank fit is =
    let G = Arguments first d F in
    let t = many_takes name G fit.1 in
    let r =
    finish_parts p ps (Apply b name c G w) [] tt fit.6 (
      fit.0,
      fit.2,
      fit.3,
      subst (λ (n : ℕ). IsForm p (quoted_of ps) n G) (sym t.0) (refl, fit.4, fit.5, is),
      t.1,
      blank,
    ) in
    record { more = text_of symbol.Close ++ r.more; form = r.form; beyond = r.beyond; blank = r.blank; is = r.is; same = r.same }

-- ---- wherever the reader stands

item_takes : (name : Call) (F : Form) → IsItemCall name → is_item F ≡ true → (arguments_level name ≡ 1) × Takes name F
item_takes call.IsNull F h g = (refl, g)
item_takes call.IsNotNull F h g = (refl, g)
item_takes call.HasValue F h g = (refl, g)
item_takes name F h g = absurd h

item_taken : (name : Call) (F : Form) → IsItemCall name → is_item F ≡ true → Takes name F
item_taken name F h g = (item_takes name F h g).1

plain_more : (first : Form) → all_plain first ≡ true → all_plain first && true ≡ true
plain_more first e = rw e refl

-- a call with a bracket and an item in it
named_ends : (p : Place) (ps : List Part) (b : List ℕ) (name : Call) (w : List ℕ) → IsBlank w → Fit p ps → IsCall p name → IsBlank b → Takes name (item_form [])
    → Ends p w (λ rest. spelled_parts ps (symbol_text b (symbol.Call name) rest))
named_ends p ps b name w blank fit is blank' takes =
    let r =
    finish_parts p ps (Apply b name w (item_form []) []) [] tt fit (is, blank', blank, item_is p (quoted_of ps) (arguments_level name) [] tt, takes, tt) in
    record {
      more = text_of symbol.Open ++ spelled (item_form []) (symbol_text [] symbol.Close r.more);
      form = r.form;
      beyond = r.beyond;
      blank =
          r.blank;
      is = r.is;
      same = r.same;
    }

-- a count is read as a whole text
abbrev pub IsInside : Stage → Type 0
IsInside (Whole F) = ⊥
IsInside _ = Unit {0}

pub finish_stage : (p : Place) (s : Stage) (w : List ℕ) → IsBlank w → Valid p s → IsInside s → nests s ≡ false → Ends p w (spelled_stage s)
finish_stage p (Wants ps) w blank v inside plain =
    let r = finish_parts p ps (zero_form w) [] tt v (zero_is p (quoted_of ps) (hole ps) w blank) in
    record { more = codes "0" ++ r.more; form = r.form; beyond = r.beyond; blank = r.blank; is = r.is; same = r.same }
finish_stage p (Named ps b call.If k) w blank v inside plain =
    let zero = zero_is p (quoted_of ps) 1 [] tt in
    let r = finish_parts p ps (If b w (zero_form []) [] (zero_form []) [] (zero_form []) []) [] tt v.0 (v.1, v.2, blank, zero, tt, zero, tt, zero, tt) in
    record {
      more =
          text_of symbol.Open ++ spelled (zero_form [])
          (symbol_text [] symbol.Comma (spelled (zero_form []) (symbol_text [] symbol.Comma (spelled (zero_form []) (symbol_text [] symbol.Close r.more)))));
      form
          = r.form;
      beyond = r.beyond;
      blank = r.blank;
      is = r.is;
      same = r.same;
    }
finish_stage p (Named ps b call.DaysBetween k) w blank v inside plain =
    let zero = zero_is p (quoted_of ps) 1 [] tt in
    let r = finish_parts p ps (DaysBetween b w (zero_form []) [] (zero_form []) []) [] tt v.0 (v.1, v.2, blank, zero, tt, zero, tt) in
    record {
      more =
          text_of symbol.Open ++ spelled (zero_form []) (symbol_text [] symbol.Comma (spelled (zero_form []) (symbol_text [] symbol.Close r.more)));
      form =
          r.form;
      beyond = r.beyond;
      blank = r.blank;
      is = r.is;
      same = r.same;
    }
finish_stage p (Named ps b call.Condition k) w blank v inside plain =
    let zero = zero_is p (quoted_of ps) 1 [] tt in
    let r =
    finish_parts p ps (Condition b w [] (zero_form []) [] [] (zero_form []) [] (zero_form []) []) [] tt v.0 (
      v.1,
      plain,
      v.2,
      blank,
      tt,
      zero_is p true 1 [] tt,
      tt,
      tt,
      zero,
      tt,
      zero,
      tt,
    ) in
    record {
      more =
          text_of symbol.Open ++ symbol_text [] symbol.Quote
          (spelled (zero_form []) (symbol_text [] symbol.Quote
          (symbol_text [] symbol.Comma (spelled (zero_form []) (symbol_text [] symbol.Comma (spelled (zero_form []) (symbol_text [] symbol.Close r.more)))))));
      form = r.form;
      beyond = r.beyond;
      blank = r.blank;
      is = r.is;
      same = r.same;
    }
finish_stage p (Named ps b call.IsNull k) w blank v inside plain = named_ends p ps b call.IsNull w blank v.0 v.1 v.2 refl
finish_stage p (Named ps b call.IsNotNull k) w blank v inside plain = named_ends p ps b call.IsNotNull w blank v.0 v.1 v.2 refl
finish_stage p (Named ps b call.HasValue k) w blank v inside plain = named_ends p ps b call.HasValue w blank v.0 v.1 v.2 refl
finish_stage p (Named ps b call.FirstNonNull k) w blank v inside plain = named_ends p ps b call.FirstNonNull w blank v.0 v.1 v.2 refl
finish_stage p (Named ps b call.Greatest k) w blank v inside plain = named_ends p ps b call.Greatest w blank v.0 v.1 v.2 tt
finish_stage p (Named ps b call.Least k) w blank v inside plain = named_ends p ps b call.Least w blank v.0 v.1 v.2 tt
finish_stage p (Named ps b call.Zing k) w blank v inside plain = named_ends p ps b call.Zing w blank v.0 v.1 v.2 tt
finish_stage p (Named ps b call.Oizp k) w blank v inside plain = named_ends p ps b call.Oizp w blank v.0 v.1 v.2 tt
finish_stage p (Quoting ps b c k) w blank v inside plain =
    let zero = zero_is p (quoted_of ps) 1 [] tt in
    let r =
    finish_parts p ps (Condition b c w (zero_form []) [] [] (zero_form []) [] (zero_form []) []) [] tt v.0 (
      v.1,
      plain,
      v.2,
      v.3,
      blank,
      zero_is p true 1 [] tt,
      tt,
      tt,
      zero,
      tt,
      zero,
      tt,
    ) in
    record {
      more =
          text_of symbol.Quote ++ spelled (zero_form [])
          (symbol_text [] symbol.Quote (symbol_text [] symbol.Comma
          (spelled (zero_form []) (symbol_text [] symbol.Comma (spelled (zero_form []) (symbol_text [] symbol.Close r.more))))));
      form = r.form;
      beyond =
          r.beyond;
      blank = r.blank;
      is = r.is;
      same = r.same;
    }
finish_stage p (WantsItem ps b name c k) w blank v inside plain =
    let r =
    finish_parts p ps (Apply b name c (item_form w) []) [] tt v.0 (
      v.1,
      v.2,
      v.3,
      item_is p (quoted_of ps) (arguments_level name) w blank,
      item_taken name (item_form w) v.4 refl,
      tt,
    ) in
    record {
      more = codes "C{aaaaaaaaaaa}" ++ symbol_text [] symbol.Close r.more;
      form = r.form;
      beyond = r.beyond;
      blank = r.blank;
      is = r.is;
      same =
          r.same;
    }
finish_stage p (PlainFirst ps b c k) w blank v inside plain =
    let r = finish_parts p ps (Apply b call.FirstNonNull c (item_form w) []) [] tt v.0 (v.1, v.2, v.3, item_is p (quoted_of ps) 0 w blank, refl, tt) in
    record {
      more = codes "C{aaaaaaaaaaa}" ++ symbol_text [] symbol.Close r.more;
      form = r.form;
      beyond = r.beyond;
      blank = r.blank;
      is = r.is;
      same =
          r.same;
    }
finish_stage p (PlainNext ps b c k first d n) w blank v inside plain =
    let r = finish_parts p ps (Apply b call.FirstNonNull c (Arguments first d (item_form w)) []) [] tt v.0
    (v.1, v.2, v.3, (refl, v.4, v.6, item_is p (quoted_of ps) 1 w blank), plain_more first v.5, tt) in
    record {
      more = codes "C{aaaaaaaaaaa}" ++ symbol_text [] symbol.Close r.more;
      form = r.form;
      beyond = r.beyond;
      blank = r.blank;
      is = r.is;
      same =
          r.same;
    }
finish_stage p (Plain ps b c k F n) w blank v inside plain =
    let r = finish_parts p ps (Apply b call.FirstNonNull c F w) [] tt v.0 (v.1, v.2, v.3, v.4, v.5, blank) in
    record { more = text_of symbol.Close ++ r.more; form = r.form; beyond = r.beyond; blank = r.blank; is = r.is; same = r.same }
finish_stage p (Lone ps b name c k F) w blank v inside plain =
    let t = item_takes name F v.4 v.6 in
    let r = finish_parts p ps (Apply b name c F w) [] tt v.0 (v.1, v.2, v.3, subst (λ (n : ℕ). IsForm p (quoted_of ps) n F) (sym t.0) v.5, t.1, blank) in
    record { more = text_of symbol.Close ++ r.more; form = r.form; beyond = r.beyond; blank = r.blank; is = r.is; same = r.same }
finish_stage p (Raised ps F b k) w blank v inside plain =
    let zero : IsExponent (codes "0") = record { some = omega arith; few = omega arith; whole = (refl, tt); small = omega arith } in
    let small = hole_small p ps v.0 in
    let r = finish_parts p ps (Power F b w (codes "0")) [] tt v.0 (omega arith, v.1, v.2, blank, zero) in
    record { more = codes "0" ++ r.more; form = r.form; beyond = r.beyond; blank = r.blank; is = r.is; same = r.same }
finish_stage p (Has ps F power) w blank v inside plain =
    let small = hole_small p ps v.0 in
    finish_parts p ps F w blank v.0 (weaken p (quoted_of ps) 7 (hole ps) F (omega arith) v.1)
finish_stage p (Tested ps b c d test e k) w blank v inside plain =
    let zero = zero_is p (quoted_of ps) 1 [] tt in
    let r =
    finish_parts p ps (Condition b c d test e w (zero_form []) [] (zero_form []) []) [] tt v.0 (
      v.2,
      v.1,
      v.3,
      v.4,
      v.5,
      v.6,
      v.7,
      blank,
      zero,
      tt,
      zero,
      tt,
    ) in
    record {
      more =
          text_of symbol.Comma ++ spelled (zero_form []) (symbol_text [] symbol.Comma (spelled (zero_form []) (symbol_text [] symbol.Close r.more)));
      form =
          r.form;
      beyond = r.beyond;
      blank = r.blank;
      is = r.is;
      same = r.same;
    }
finish_stage p (Whole F) w blank v inside plain = absurd inside

-- What is written so begins a text of the grammar.
pub ends_text : (p : Place) (w : List ℕ) (write : List ℕ → List ℕ) → Ends p w write
    → (more : List ℕ) × (form : Form) × (blanks : List ℕ) × IsWhole p form × IsBlank blanks × (write (w ++ more) ≡ spelled form blanks)
ends_text p w write r = (r.more, r.form, r.beyond, whole_is p r.form r.is, r.blank, r.same)

-- Unless a quoted text is nested, all that is read begins a text of the grammar.
pub stage_text : (p : Place) (s : Stage) (w : List ℕ) → IsBlank w → Valid p s → nests s ≡ false
    → (more : List ℕ) × (form : Form) × (blanks : List ℕ) × IsWhole p form × IsBlank blanks × (spelled_stage s (w ++ more) ≡ spelled form blanks)
stage_text p (Whole F) w blank v plain = ([], F, w ++ [], v, subst IsBlank (sym (nothing w)) blank, refl)
  where
    nothing : (xs : List ℕ) → xs ++ [] ≡ xs
    nothing [] = refl
    nothing (x ∷ xs) = ap (λ (l : List ℕ). x ∷ l) (nothing xs)
stage_text p s w blank v plain = ends_text p w (spelled_stage s) (finish_stage p s w blank v tt plain)
