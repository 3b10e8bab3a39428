use Rattle.std.proofs.Common.{arith, ◌∙◌, sym, Result, Ok, Err, OnOk, is_err, false, ℕ, ◌+◌, List, ◌≡◌, ◌≤◌, ◌<◌, ◌++◌, length, take, refl, inl}
use Rattle.std.proofs.lemmas.Grind.{common_steps}
use Rattle.std.proofs.lemmas.List.{length-take}
use Rattle.dh_outside.proofs.PieceLemmas.{Gains-none, Gains-kept, Gains-end, Gains-piece}
use Rattle.dh_outside.proofs.pieces.take_piece.Given as given
use Rattle.dh_outside.proofs.pieces.take_piece.Goals as goal

-- a read gives no more than was asked for
few : (g : given.Over) (c : goal.After-unwrap g) → c.in-Ok.count ≤ c.min-room.result
few g c = grind (arith, common_steps)

pub returns-then-room-eq0-clause-gains : goal.returns-then-room-eq0-clause-gains
returns-then-room-eq0-clause-gains g c =
    Gains-none (g.S.Source.left c.args.source.now) (g.S.Source.source_talk c.args.source.now) c.args.bytes.now.items c.args.bytes.now.items c.args.read.now
    refl

pub returns-then-is_err-clause-gains : goal.returns-then-is_err-clause-gains
returns-then-is_err-clause-gains g c =
    Gains-none (g.S.Source.left c.args.source.now) (g.S.Source.source_talk c.args.source.now) c.args.bytes.now.items c.reserve.new.self.items
    c.args.read.now c.reserve.ensures.items

pub returns-else-count-eq0-clause-gains : goal.returns-else-count-eq0-clause-gains
returns-else-count-eq0-clause-gains g c =
    let beyond : c.extend_from_slice.new.self.items ≡ c.args.bytes.now.items ++ take c.in-Ok.count c.read.new.into = grind (arith, common_steps) in
    Gains-piece (g.S.Source.left c.args.source.now) (g.S.Source.left c.read.new.self) (g.S.Source.source_talk c.args.source.now)
    (g.S.Source.source_talk c.read.new.self) c.args.bytes.now.items c.extend_from_slice.new.self.items c.args.read.now c.in-Ok.count c.read.new.into
    c.in-Ok.ensures.bound.1 c.in-Ok.ensures.bytes.0 c.in-Ok.ensures.talks beyond

pub returns-in-Err-clause-gains : goal.returns-in-Err-clause-gains
returns-in-Err-clause-gains g c =
    Gains-kept (g.S.Source.left c.args.source.now) (g.S.Source.left c.read.new.self) (g.S.Source.source_talk c.args.source.now)
    (g.S.Source.source_talk c.read.new.self) c.args.bytes.now.items c.reserve.new.self.items c.args.read.now c.reserve.ensures.items
    c.in-Err.ensures.bytes c.in-Err.ensures.talks

pub returns-then-count-eq0-clause-gains : goal.returns-then-count-eq0-clause-gains
returns-then-count-eq0-clause-gains g c =
    Gains-end (g.S.Source.left c.args.source.now) (g.S.Source.left c.read.new.self) (g.S.Source.source_talk c.args.source.now)
    (g.S.Source.source_talk c.read.new.self) c.args.bytes.now.items c.reserve.new.self.items c.args.read.now c.in-Ok.count c.read.new.into
    c.if-count-eq0.true c.in-Ok.ensures.bound.1 c.in-Ok.ensures.bytes.0 c.in-Ok.ensures.talks c.reserve.ensures.items

pub returns-then-count-eq0-clause-over : goal.returns-then-count-eq0-clause-over
returns-then-count-eq0-clause-over g c over =
    let some : 0 < length c.read.new.into = grind (arith, common_steps) in
    inl (c.in-Ok.ensures.bytes.1 c.if-count-eq0.true some)

pub overflow_add-read : goal.overflow_add-read
overflow_add-read g c = omega (arith, few g c)

pub returns-else-count-eq0-clause-more : goal.returns-else-count-eq0-clause-more
returns-else-count-eq0-clause-more g c more = omega (arith, c.if-count-eq0.false)

pub returns-else-count-eq0-clause-bound : goal.returns-else-count-eq0-clause-bound
returns-else-count-eq0-clause-bound g c = omega (arith, few g c)

-- what a call gives that had no error
when_ok : {A E : Type 0} (result : Result A E) (P : Type 0) → is_err result ≡ false → OnOk result P → P
when_ok (Ok done) P is holds = holds
when_ok (Err fault) P is holds = absurd cc

fits_in : (len room capacity count : ℕ) (xs : List ℕ) → count ≤ room → len + room ≤ capacity → len + length (take count xs) ≤ capacity
fits_in len room capacity count xs less holds = omega (arith, length-take count xs)

pub unwrap-requires : goal.unwrap-requires
unwrap-requires g c =
    let few : c.in-Ok.count ≤ c.min-room.result = grind (arith, common_steps) in
    let room = when_ok c.reserve.result _ (sym c.is_err.ensures.value ∙ c.if-is_err.false) c.reserve.ensures.ok in
    c.extend_from_slice.ensures.succeeds (fits_in _ c.min-room.result _ c.in-Ok.count _ few room)
