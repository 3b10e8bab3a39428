-- The elements and attributes whose values are days, as a set.
use Rattle.std.specs.Prelude.{◌≡◌, ℕ, List, nat_eq}
use Rattle.std.specs.HashSet.{HashSet, contains}
use Rattle.std.specs.Cmp.Lexicographic.{pointwise}
use Rattle.expr_lang.specs.Item.{is_among_of}

-- a set has the identifiers of a list and no others
abbrev pub IsIndexOf : {S : Type 0} → HashSet (List ℕ) S → List (List ℕ) → Type 0
IsIndexOf known listed = (uid : List ℕ) → contains (pointwise nat_eq) known uid ≡ is_among_of uid listed
