-- Category combinations and their option combinations. A category is the list of its options, a
-- combination the list of its categories, and an option combination names its combination and its options.
use Rattle.std.specs.Prelude.{ℕ, ◌==◌, Bool, not, ◌&&◌, List, length, map, count_by, position, slice_index_or, Option, None, cond, [], Vec}
use Rattle.std.specs.declared.alloc.Global.{Global}
use Rattle.std.specs.List.{list_any, list_all}

-- the option is one of the category's
abbrev pub is_option_of : List ℕ → ℕ → Bool
is_option_of category option = list_any (λ own. own == option) category

-- exactly one of the options is of the category
abbrev pub has_one_of : List ℕ → List ℕ → Bool
has_one_of options category = count_by (λ option. is_option_of category option) options == 1

-- the options are as many as the categories, and exactly one of them is of each
abbrev pub is_one_of_each : List (List ℕ) → List ℕ → Bool
is_one_of_each categories options =
    (length options == length categories) && list_all (λ category. has_one_of options category) categories

-- a combination's categories
abbrev pub categories_of : List (List (List ℕ)) → ℕ → List (List ℕ)
categories_of combos combo = slice_index_or combos combo []

-- the option combination isn't one option of each category of its combination
abbrev pub is_bad : List (List (List ℕ)) → ℕ × List ℕ → Bool
is_bad combos option_combo = not (is_one_of_each (categories_of combos option_combo.0) option_combo.1)

-- the place of the first that isn't
abbrev pub first_bad : List (List (List ℕ)) → List (ℕ × List ℕ) → Option ℕ
first_bad combos option_combos = position (is_bad combos) option_combos

abbrev pub is_of : ℕ → ℕ × List ℕ → Bool
is_of combo option_combo = option_combo.0 == combo

-- the place of a combination's option combination, where it has exactly one
abbrev pub only_of : List (ℕ × List ℕ) → ℕ → Option ℕ
only_of option_combos combo =
    cond (count_by (is_of combo) option_combos == 1) (position (is_of combo) option_combos) None

-- the lists that vectors hold
abbrev pub shown_combo : Vec (Vec ℕ Global) Global → List (List ℕ)
shown_combo combo = map (λ category. category.items) combo.items

abbrev pub shown_combos : List (Vec (Vec ℕ Global) Global) → List (List (List ℕ))
shown_combos combos = map shown_combo combos

abbrev pub shown_option_combo : ℕ × Vec ℕ Global → ℕ × List ℕ
shown_option_combo option_combo = (option_combo.0, option_combo.1.items)

abbrev pub shown_option_combos : List (ℕ × Vec ℕ Global) → List (ℕ × List ℕ)
shown_option_combos option_combos = map shown_option_combo option_combos
