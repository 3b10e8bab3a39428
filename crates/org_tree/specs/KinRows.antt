-- The rows that are sorted into families.
use Rattle.std.specs.Prelude.{ℕ, zero, suc, List, [], ◌∷◌, ◌++◌}
use Rattle.org_tree.specs.declared.kin.Kin.{Kin}
use Rattle.org_tree.specs.Families.{family_of}
use Rattle.org_tree.specs.Units.{UnitRow, id_at, level_of}

abbrev pub kin_row : List UnitRow → ℕ → Kin
kin_row us x = record { level = level_of us x; family = family_of us x; id = id_at us x; place = x }

-- the numbers below n
abbrev pub numbers : ℕ → List ℕ
numbers zero = []
numbers (suc n) = numbers n ++ n ∷ []
