-- The only option combination of a category combination is one of them all.
use Rattle.std.proofs.Common.{◌≡◌, ◌∙◌, ℕ, ◌<◌, true, false, cond, List, [], Option, Some, None, length, sym, ap, arith}
use Rattle.std.specs.Prelude.{count_by, position, ◌==◌}
use Rattle.std.proofs.lemmas.List.{length-map}
use Rattle.std.proofs.lemmas.List.Quantifiers.{position-Some}
use Rattle.dh_categories.specs.Combos.{is_of, only_of}
use Rattle.dh_metadata.specs.declared.records.OptionCombo.{OptionCombo}
use Rattle.dh_metadata.specs.Rows.{option_combo_rows}
use Rattle.dh_metadata.specs.Linked.{IsBelow}

only-below : (rows : List (ℕ × List ℕ)) (combo i : ℕ) → only_of rows combo ≡ Some i → i < length rows
only-below rows combo i =
    elim (count_by (is_of combo) rows == 1) as (λ b. cond b (position (is_of combo) rows) None ≡ Some i → i < length rows)
    [ true ↦ λ found. (position-Some (is_of combo) rows i (0, []) found).0 | false ↦ λ none. cc ]

pub only-in_range : (option_combos : List OptionCombo) (rows : List (ℕ × List ℕ)) (combo : ℕ) (found : Option ℕ)
    → rows ≡ option_combo_rows option_combos → found ≡ only_of rows combo → IsBelow (length option_combos) found
only-in_range option_combos rows combo None same is = tt
only-in_range option_combos rows combo (Some i) same is =
    let below : i < length rows = only-below rows combo i (sym is) in
    let long : length rows ≡ length option_combos = ap length same ∙ length-map option_combos _ in
    omega (arith, below, long)

pub ruleset only_below = (only-in_range)
