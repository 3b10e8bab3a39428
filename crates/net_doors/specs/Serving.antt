-- What becomes of the links that a listener gives while several workers accept and serve them.
use Rattle.std.specs.Prelude.{◌≡◌, ◌≤◌, ◌+◌, ◌++◌, ℕ, true, List, length}
use Rattle.std.specs.List.{AllZip}
use Rattle.std.specs.Option.{option_map}
use Rattle.dh_outside.specs.Faults.{Rose}
use Rattle.net_doors.specs.Doors.{Shown}
use Rattle.net_doors.specs.declared.ending.Ending.{Ending}
use Rattle.net_doors.specs.declared.ending.Ending.TheVariants as ending

-- the link came with nothing read or written, what was handed out for it began so, and serving left the two so
abbrev pub IsServed : {N P : Type 0} → (N → Type 0) → (P → Type 0) → (N → P → N × P → Type 0) → N → P → Type 0
IsServed {N} {P} Untouched Starts Serves link left =
    (came : N) × (given : P) × Untouched came × Starts given × Serves came given (link, left)

-- so many links were accepted, at most as many as are wanted. Some are with the workers, and all others were given back, in order, each
-- of them served, with these left
pub record Serving {N P : Type 0} (Served : N → P → Type 0) (began now : Shown N) (most count out : ℕ) (lefts : List P) : Type 0 where
  pub back : List N
  pub counted : length back + out ≡ count
  pub accepted : now.accepted ≡ began.accepted + count
  pub told : now.back ≡ option_map (λ links. links ++ back) began.back
  pub served : AllZip Served back lefts
  pub bound : count ≤ most
  pub faults : began.faults ≤ now.faults

-- accepting ends with as many links as are wanted, when the listener is closed, or by a fault of the listener, whose count rose
abbrev pub EndsBy : {N : Type 0} → Ending → Shown N → Shown N → ℕ → ℕ → Type 0
EndsBy ending.Enough began now most count = count ≡ most
EndsBy ending.Closed began now most count = now.closed ≡ true
EndsBy ending.ListenFault began now most count = Rose began.faults now.faults

-- accepting has ended, and each link that was accepted was served and given back, with these left
pub record HasServed {N P : Type 0} (Served : N → P → Type 0) (began now : Shown N) (most count : ℕ) (how : Ending) (lefts : List P) : Type 0 where
  pub links : Serving Served began now most count 0 lefts
  pub ends : EndsBy how began now most count
