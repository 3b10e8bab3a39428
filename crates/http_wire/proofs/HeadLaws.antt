-- The bytes of a head say one thing.
use Rattle.std.proofs.Common.{◌≡◌, ◌∙◌, Bool, true, false, ℕ, List, [], Option, Some, None, Result, refl, sym, ap, nat_lt}
use Rattle.httparse.proofs.GrammarLemmas.{request_unique}
use Rattle.dh_base.specs.declared.codes.Code.{Code}
use Rattle.http_wire.specs.Head.{Parts, parts_of, IsRead, meant_by, IsMeantBy, Says}
use Rattle.http_wire.specs.Lines.{field_lines}
use Rattle.http_wire.specs.declared.head.Head.{Head}

pub read_unique : (bytes : List ℕ) (p q : Option Parts) → IsRead bytes p → IsRead bytes q → p ≡ q
read_unique bytes None None one two = refl
read_unique bytes None (Some q) one two = absurd (one two.0 two.1)
read_unique bytes (Some p) None one two = absurd (two one.0 one.1)
read_unique bytes (Some p) (Some q) one two = ap Some (one.2 ∙ ap parts_of (request_unique bytes one.0 two.0 [] [] one.1 two.1).0 ∙ sym two.2)

meant_unique : (t : Bool) (bytes : List ℕ) (m n : Result Head Code) → IsMeantBy t bytes m → IsMeantBy t bytes n → m ≡ n
meant_unique true bytes m n one two = one ∙ sym two
meant_unique false bytes m n one two = one.2 ∙ ap meant_by (read_unique bytes one.0 two.0 one.1 two.1) ∙ sym two.2

pub says_unique : (bytes : List ℕ) (m n : Result Head Code) → Says bytes m → Says bytes n → m ≡ n
says_unique bytes m n one two = meant_unique (nat_lt 64 (field_lines bytes)) bytes m n one two
