use Rattle.std.proofs.Common.{◌≡◌, ◌≤◌, ◌<◌, ◌-◌, ◌^◌, ◌∷◌, get_or, arith}
use Rattle.dh_metadata.proofs.CutLemmas.{size_at}
use Rattle.dh_metadata.proofs.ids.size_at.Goals as goal

pub overflow_sub-result : goal.overflow_sub-result
overflow_sub-result c =
    let told = size_at c.args.ends.now c.args.index.now c.args.at c.requires.kinds c.requires.within in
    let least : get_or (0 ∷ c.args.ends.now) c.args.at 0 ≤ get_or c.args.ends.now c.args.at 0 = told.0 in
    let begins : c.start.result ≡ get_or (0 ∷ c.args.ends.now) c.args.at 0 = c.start.ensures in
    omega arith

pub overflow_cast-result : goal.overflow_cast-result
overflow_cast-result c =
    let told = size_at c.args.ends.now c.args.index.now c.args.at c.requires.kinds c.requires.within in
    let small : get_or c.args.ends.now c.args.at 0 - get_or (0 ∷ c.args.ends.now) c.args.at 0 < 2 ^ 32 = told.1 in
    let begins : c.start.result ≡ get_or (0 ∷ c.args.ends.now) c.args.at 0 = c.start.ensures in
    omega arith
