use Rattle.std.proofs.Common.{◌≡◌, ◌++◌, drop, Ok}
use Rattle.json_read.specs.Views.{items_data}
use Rattle.json_read.specs.Forms.{and_then, each_of}
use Rattle.json_read.proofs.form.read_each.Given as goal

-- the whole list is what is read and what is left to read
abbrev pub invariant-loop-value : goal.invariant-loop-value
invariant-loop-value g l = record {
  place : l.place ≡ l.value-index;
  rest : each_of g.T.ReadJson.form 0 (items_data l.values)
      ≡ and_then (each_of g.T.ReadJson.form l.place (items_data (drop l.value-index l.values))) (λ more. Ok (l.all.items ++ more));
}
