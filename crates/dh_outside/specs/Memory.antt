-- What the forms in memory show of themselves.
use Rattle.std.specs.Prelude.{ℕ, List, Bool, Vec, map, nat_eq}
use Rattle.std.specs.declared.alloc.Global.{Global}
use Rattle.std.specs.List.{list_any}
use Rattle.dh_outside.specs.Faults.{one_more}
use Rattle.dh_outside.specs.Talk.{Talk, Heard}

-- a source: the bytes left to read, the calls that fail, counted from 1, the calls made, and those that failed
pub record SourceSeen : Type 0 where
  pub left : List ℕ
  pub failing : List ℕ
  pub calls : ℕ
  pub faults : ℕ

-- a sink: the bytes that it takes in all, those written, and the same of its calls
pub record SinkSeen : Type 0 where
  pub room : ℕ
  pub written : List ℕ
  pub failing : List ℕ
  pub calls : ℕ
  pub faults : ℕ

-- a set of files: the names with their bytes, and the same of its calls
pub record FilesSeen : Type 0 where
  pub files : List (List ℕ × List ℕ)
  pub failing : List ℕ
  pub calls : ℕ
  pub faults : ℕ

-- a link: what it tells of its bytes and their order, and the same of its calls
pub record LinkSeen : Type 0 where
  pub talk : Talk
  pub failing : List ℕ
  pub calls : ℕ
  pub faults : ℕ

-- reads as plain lists: what stood written before each, and what it gave
abbrev pub heard_of : List (Vec ℕ Global × Vec ℕ Global) → List Heard
heard_of reads = map (λ read. record { before = read.0.items; piece = read.1.items }) reads

-- the next call is a listed one
abbrev pub is_listed : List ℕ → ℕ → Bool
is_listed failing calls = list_any (λ call. nat_eq call (one_more calls)) failing
