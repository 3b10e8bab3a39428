use Rattle.std.proofs.Common.{sym, ◌∙◌}
use Rattle.std.specs.Prelude.{slice_get}
use Rattle.expr_lang.specs.Expr.{items_in}
use Rattle.program_cells.proofs.MeasureLemmas.{measure-item, measure-day, measure-one, measure-root, measure-binary}
use Rattle.program_cells.proofs.measure.measure_of.Goals as goal

pub returns-in-Item : goal.returns-in-Item
returns-in-Item c =
    c.measure_by.ensures
    ∙ sym (measure-root (items_in c.args.expr.now) c.items-items.result.now c.branches-branches.result.now c.args.expr.now.tree _
    c.branches-branches.ensures.tree c.items-items.ensures c.in-Item.ensures.shape
    ∙ measure-item c.items-items.result.now c.in-Item.place c.index-items-place.result c.in-Item.ensures.earlier c.index-items-place.is)

pub returns-in-Day : goal.returns-in-Day
returns-in-Day c =
    sym (measure-root (items_in c.args.expr.now) c.items-items.result.now c.branches-branches.result.now c.args.expr.now.tree _
    c.branches-branches.ensures.tree c.items-items.ensures c.in-Day.ensures.shape
    ∙ measure-day (slice_get c.items-items.result.now c.in-Day.field-0))

pub returns-in-Unary : goal.returns-in-Unary
returns-in-Unary c =
    sym (measure-root (items_in c.args.expr.now) c.items-items.result.now c.branches-branches.result.now c.args.expr.now.tree _
    c.branches-branches.ensures.tree c.items-items.ensures c.in-Unary.ensures.shape
    ∙ measure-one _ _)

pub returns-in-Binary : goal.returns-in-Binary
returns-in-Binary c =
    measure-binary (items_in c.args.expr.now) c.items-items.result.now c.branches-branches.result.now c.args.expr.now.tree _ _ _
    c.branches-branches.ensures.tree c.items-items.ensures c.in-Binary.ensures.shape

pub returns-in-Number : goal.returns-in-Number
returns-in-Number c =
    sym (measure-root (items_in c.args.expr.now) c.items-items.result.now c.branches-branches.result.now c.args.expr.now.tree _
    c.branches-branches.ensures.tree c.items-items.ensures c.in-Number.ensures.shape)

pub returns-in-If : goal.returns-in-If
returns-in-If c =
    sym (measure-root (items_in c.args.expr.now) c.items-items.result.now c.branches-branches.result.now c.args.expr.now.tree _
    c.branches-branches.ensures.tree c.items-items.ensures c.in-If.ensures.shape)
