-- At most one place of a text is its fault of syntax.
use Rattle.std.proofs.Common.{◌≡◌, ℕ, ◌+◌, ◌<◌, ◌≤◌, List, ◌++◌, length, take, drop, sym, ap, subst, ◌∙◌, inl, inr, append_assoc, arith}
use Rattle.std.proofs.lemmas.Bool.{cases_lt}
use Rattle.std.proofs.lemmas.List.{take-append-drop}
use Rattle.expr_lang.specs.declared.tree.Place.{Place}
use Rattle.expr_grammar.specs.Continues.{GoesOn, EndsInQuote, HasNoQuote, Begins, GoesOnAt, EndsAt}
use Rattle.expr_grammar.proofs.Quoted.{plain_front}
use Rattle.expr_grammar.proofs.Fuel.{split_within}
use Rattle.expr_grammar.proofs.Trim.{take_short}

module _ (p : Place) where
  -- what begins a text does so with fewer bytes
  goes_front : (xs ys : List ℕ) → GoesOn p (xs ++ ys) → GoesOn p xs
  goes_front xs ys g = (ys ++ g.0, g.1, (g.2.0, g.2.1, g.2.2, sym (append_assoc xs ys g.0) ∙ g.2.3))

  quote_front : (xs ys : List ℕ) → EndsInQuote p (xs ++ ys) → Begins p xs
  quote_front xs ys q =
      elim (cases_lt (length xs) (length q.opening)) [
        | inl less ↦
            let w = split_within xs ys q.opening q.inner q.whole (omega (arith, less)) in
            inl (goes_front xs w.0 (subst (GoesOn p) w.1 q.goes))
        | inr more ↦
            let w = split_within q.opening q.inner xs ys (sym q.whole) more in
            inr (record {
              opening = q.opening;
              inner = w.0;
              whole = w.1;
              opens = q.opens;
              goes = q.goes;
              begins = record {
                more = ys ++ q.begins.more;
                form = q.begins.form;
                blanks = q.begins.blanks;
                is = q.begins.is;
                blank = q.begins.blank;
                same = sym (append_assoc w.0 ys q.begins.more) ∙ ap (λ (l : List ℕ). l ++ q.begins.more) (sym w.2) ∙ q.begins.same;
              };
              plain = plain_front w.0 ys (subst HasNoQuote w.2 q.plain);
            })
      ]

  begins_front : (xs ys : List ℕ) → Begins p (xs ++ ys) → Begins p xs
  begins_front xs ys (inl g) = inl (goes_front xs ys g)
  begins_front xs ys (inr q) = quote_front xs ys q

  -- so no place is one with another after it
  not_before : (text : List ℕ) (at other : ℕ) → EndsAt p text at → GoesOnAt p text other → other ≤ 4096 → at < other → ⊥
  not_before text at other ends goes most less =
      let front = take (at + 1) text in
      let same : take other text ≡ front ++ drop (at + 1) (take other text) = sym (take-append-drop (at + 1) (take other text))
      ∙ ap (λ (l : List ℕ). l ++ drop (at + 1) (take other text)) (take_short other (at + 1) text (omega (arith, less))) in
      ends.1 (omega (arith, less, goes.0)) (omega (arith, less, most))
      (begins_front front (drop (at + 1) (take other text)) (subst (Begins p) same goes.1))

  pub only_place : (text : List ℕ) (at other : ℕ) → GoesOnAt p text at → EndsAt p text at → GoesOnAt p text other → EndsAt p text other → at ≡ other
  only_place text at other goes ends goes' ends' =
      elim (cases_lt at other) [
        | inl less ↦ absurd (not_before text at other ends goes' ends'.0 less)
        | inr more ↦ elim (cases_lt other at) [
          | inl less ↦ absurd (not_before text other at ends' goes ends.0 less)
          | inr same ↦ omega (arith, more, same)
        ]
      ]
