-- The body of a reply to an update is short.
use Rattle.std.proofs.Common.{◌≡◌, refl, ℕ, ◌<◌, ◌≤◌, ◌^◌, ◌++◌, List, subst, arith, length, length-append}
use Rattle.std.specs.Prelude.{decimal}
use Rattle.std.proofs.lemmas.Fmt.{length-decimal-le}
use Rattle.dh_base.specs.declared.plain.CutKind.{CutKind}
use Rattle.dh_base.specs.declared.plain.CutKind.TheVariants.{Full, Latest}
use Rattle.request_session.specs.Bodies.{update_text, update_pieces, before_published, after_published}
use Rattle.request_session.proofs.BodyLemmas.{update_by_pieces}

digits_short : (n : ℕ) → n < 2 ^ 64 → length (decimal n) ≤ 20
digits_short n small = length-decimal-le 20 n (omega arith) (omega (arith, small)) small

front_short : (kind : CutKind) → length (before_published kind) ≤ 90
front_short Full = let is : length (before_published Full) ≡ 78 = refl in omega (arith, is)
front_short Latest = let is : length (before_published Latest) ≡ 80 = refl in omega (arith, is)

joined_short : (a b c : List ℕ) → length a ≤ 90 → length b ≤ 20 → length c ≤ 18 → length (a ++ b ++ c) ≤ 128
joined_short a b c first second third = omega (arith, length-append {A = ℕ}, first, second, third)

pieces_short : (kind : CutKind) (n : ℕ) → n < 2 ^ 64 → length (update_pieces kind n) ≤ 128
unfolding update_pieces
pieces_short kind n small =
    let is : length after_published ≡ 16 = refl in
    joined_short (before_published kind) (decimal n) after_published (front_short kind) (digits_short n small) (omega (arith, is))

pub update_short : (kind : CutKind) (n : ℕ) → n < 2 ^ 64 → length (update_text kind n) ≤ 128
update_short kind n small = subst (λ (text : List ℕ). length text ≤ 128) (update_by_pieces kind n) (pieces_short kind n small)
