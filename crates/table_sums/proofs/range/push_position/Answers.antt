use Rattle.std.proofs.Common.{◌∙◌, ◌++◌, take, drop, sym, ap}
use Rattle.table_sums.specs.Parts.{IsRun}
use Rattle.table_sums.proofs.PartLemmas.{run-between, position-step}
use Rattle.table_sums.proofs.range.push_position.Goals as goal

pub push_rows-requires-clause-upto : goal.push_rows-requires-clause-upto
push_rows-requires-clause-upto g c =
    let low = c.run_of-low.result.0 in
    let high = c.run_of-low.result.1 in
    let run : IsRun c.args.part.now c.args.position c.args.rows.now low high = record {
      starts = c.run_of-low.ensures.low;
      ends =
          c.run_of-low.ensures.high;
    } in
    run-between c.args.part.now c.args.position c.args.rows.now low high run

pub returns : goal.returns
returns g c =
    let low = c.run_of-low.result.0 in
    let high = c.run_of-low.result.1 in
    let run : IsRun c.args.part.now c.args.position c.args.rows.now low high = record {
      starts = c.run_of-low.ensures.low;
      ends =
          c.run_of-low.ensures.high;
    } in
    c.in_ok-push_rows.ensures ∙ ap (λ xs. xs ++ drop low (take high c.args.rows.now)) c.requires.found
    ∙ sym (position-step c.args.part.now c.args.position c.args.rows.now low high run)
