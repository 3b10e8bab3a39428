-- Where a text stops being one of the grammar.
use Rattle.std.specs.Prelude.{◌≡◌, ℕ, ◌+◌, ◌<◌, ◌≤◌, false, ◌⊎◌, List, [], ◌∷◌, ◌++◌, length, take, nat_eq}
use Rattle.expr_lang.specs.declared.tree.Place.{Place}
use Rattle.expr_lang.specs.declared.words.Symbol.TheVariants as symbol
use Rattle.expr_lang.specs.declared.words.Call.TheVariants as call
use Rattle.expr_grammar.specs.Grammar.{Form, IsBlank, IsForm, IsTextOf, spelled, symbol_text}

-- these bytes begin a text of the grammar
abbrev pub GoesOn : Place → List ℕ → Type 0
GoesOn place before = (more : List ℕ) × (form : Form) × IsTextOf place (before ++ more) form

-- these bytes begin an expression
pub record BeginsExpression (place : Place) (before : List ℕ) : Type 0 where
  pub more : List ℕ
  pub form : Form
  pub blanks : List ℕ
  pub is : IsForm place false 1 form
  pub blank : IsBlank blanks
  pub same : before ++ more ≡ spelled form blanks

abbrev pub HasNoQuote : List ℕ → Type 0
HasNoQuote [] = Unit {0}
HasNoQuote (b ∷ bs) = (nat_eq b 39 ≡ false) × HasNoQuote bs

-- these bytes end in `d2:condition`, its bracket and the quote that opens its quoted text
abbrev pub OpensQuote : List ℕ → Type 0
OpensQuote bytes =
    (front b c : List ℕ) × IsBlank b × IsBlank c
    × (bytes ≡ front ++ symbol_text [] (symbol.Call call.Condition) (symbol_text b symbol.Open (symbol_text c symbol.Quote [])))

-- These bytes end inside a quoted text: those up to its opening quote begin a text of the grammar, and those after it begin an
-- expression on their own, where a second `d2:condition(` may stand.
pub record EndsInQuote (place : Place) (before : List ℕ) : Type 0 where
  pub opening : List ℕ
  pub inner : List ℕ
  pub whole : before ≡ opening ++ inner
  pub opens : OpensQuote opening
  pub goes : GoesOn place opening
  pub begins : BeginsExpression place inner
  pub plain : HasNoQuote inner

-- these bytes begin a text, or so inside a quoted text
abbrev pub Begins : Place → List ℕ → Type 0
Begins place before = GoesOn place before ⊎ EndsInQuote place before

-- the bytes before a place of a text do
abbrev pub GoesOnAt : Place → List ℕ → ℕ → Type 0
GoesOnAt place text at = (at ≤ length text) × Begins place (take at text)

-- With the byte at a place of a text they don't, unless the text ends there. A text is too long at byte 4096.
abbrev pub EndsAt : Place → List ℕ → ℕ → Type 0
EndsAt place text at = (at ≤ 4096) × (at < length text → at < 4096 → ¬ (Begins place (take (at + 1) text)))
