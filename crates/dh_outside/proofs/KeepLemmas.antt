-- Calls that failed and left all bytes, before one that didn't.
use Rattle.std.proofs.Common.{List, [], ℕ, Option}
use Rattle.std.proofs.KnownBytes.{Keeps-refl, Keeps-trans, Consumes-nil, Consumes-kept, Consumes-trans, Appends-nil, Appends-kept, Appends-trans}
use Rattle.std.specs.Io.KnownBytes.{Keeps, Consumes, Appends}

-- nothing is lost by no call
pub kept_by_none : (a : Option (List ℕ)) → Keeps a a
kept_by_none a = Keeps-refl a

pub kept_by_both : (a b c : Option (List ℕ)) → Keeps a b → Keeps b c → Keeps a c
kept_by_both a b c first second = Keeps-trans a b c first second

pub consumed_after : (a b c : Option (List ℕ)) (bytes : List ℕ) → Keeps a b → Consumes b c bytes → Consumes a c bytes
consumed_after a b c bytes kept consumed = Consumes-trans a b c [] bytes (Consumes-kept a a b [] (Consumes-nil a) kept) consumed

pub appended_after : (a b c : Option (List ℕ)) (bytes : List ℕ) → Keeps a b → Appends b c bytes → Appends a c bytes
appended_after a b c bytes kept appended = Appends-trans a b c [] bytes (Appends-kept a a b [] (Appends-nil a) kept) appended
