-- The heads of the columns.
use Rattle.std.specs.Prelude.{ℕ, Bool, true, false, List, [], ◌∷◌, ◌++◌, codes}
use Rattle.serde_json.specs.Data.{Data, boolean, string, object, member, no_members}

-- the head of a column
abbrev pub column_of : List ℕ → Bool → List ℕ → List ℕ → List ℕ → Data
column_of title dimension name type value_type = object
    (member (codes "column") (string title)
    (member (codes "hidden") (boolean false)
    (member (codes "meta") (boolean dimension)
    (member (codes "name") (string name)
    (member (codes "type") (string type)
    (member (codes "valueType") (string value_type) no_members))))))

unfoldable pub dimension_of : List ℕ → List ℕ → Data
dimension_of title name = column_of title true name (codes "java.lang.String") (codes "TEXT")

unfoldable pub value_column : Data
value_column = column_of (codes "Value") false (codes "value") (codes "java.lang.Double") (codes "NUMBER")

-- a filter has no column
abbrev pub unless : {A : Type 0} → Bool → A → List A
unless true head = []
unless false head = head ∷ []

-- the heads, where periods and units may be filters
unfoldable pub heads_of : Bool → Bool → List Data
heads_of periods units =
    dimension_of (codes "Data") (codes "dx") ∷ []
    ++ unless periods (dimension_of (codes "Period") (codes "pe"))
    ++ unless units (dimension_of (codes "Organisation unit") (codes "ou"))
    ++ value_column ∷ []
