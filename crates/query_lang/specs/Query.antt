-- A query, or the first refusal.
use Rattle.std.specs.Prelude.{ℕ, ℤ, ◌*◌, ◌==◌, nat_lt, if◌then◌else◌, List, [], length, Result, Ok, Err}
use Rattle.std.specs.Fmt.{decimal}
use Rattle.dh_base.specs.declared.codes.Code.TheVariants as code
use Rattle.dh_base.specs.declared.codes.Refusal.{Refusal}
use Rattle.dh_metadata.specs.declared.held.Records.{Records}
use Rattle.query_lang.specs.declared.plain.Axis.{Axis}
use Rattle.query_lang.specs.declared.plain.Dx.{Dx}
use Rattle.query_lang.specs.declared.plain.Query.{Query}
use Rattle.query_lang.specs.declared.form.Form.{Form}
use Rattle.query_lang.specs.Form.{form_of}
use Rattle.query_lang.specs.Given.{and_then, refusal}
use Rattle.query_lang.specs.Each.{each_of}
use Rattle.query_lang.specs.Named.{dx_of}
use Rattle.query_lang.specs.Units.{part_of, units_of}

-- how many values of a dimension have a cell of their own
abbrev pub axis_count : {A : Type 0} → Axis A → ℕ
axis_count axis = if axis.filter then 1 else length axis.items

-- the number of cells
unfoldable pub cells_of : Query → ℕ
cells_of query = length query.dx * axis_count query.periods * axis_count query.units

-- a query with units and at most so many cells
unfoldable pub within : ℕ → Query → Result Query Refusal
within most query =
    if length query.units.items == 0 then Err (refusal code.F13 [])
    else (if nat_lt most (cells_of query) then Err (refusal code.F16 (decimal (cells_of query))) else Ok query)

abbrev pub assembled : Form → List Dx → List ℕ → Query
assembled form dx units = record {
  dx = dx;
  periods = form.periods;
  units = record { items = units; filter = form.units.filter };
  meta = form.meta;
}

-- what the items of a form name, and the units that they choose: the first refusal of an item
unfoldable pub named_in : Records → ℕ → Form → Result (List Dx × List ℕ) Refusal
named_in r user form =
    and_then (each_of (dx_of r user) form.dx) (λ dx.
    and_then (each_of (part_of r user) form.units.items) (λ parts. Ok (dx, units_of r user parts)))

-- a query's form against metadata
unfoldable pub query_from : Records → ℕ → ℕ → Form → Result Query Refusal
query_from r user cells form = and_then (named_in r user form) (λ found. within cells (assembled form found.0 found.1))

-- the query of a text, for a user on a day, with at most so many cells, or the first refusal
unfoldable pub query_of : Records → ℕ → ℤ → ℕ → List ℕ → Result Query Refusal
query_of r user day cells text = and_then (form_of day text) (query_from r user cells)
