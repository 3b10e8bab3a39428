-- What the outside shows of a run.
use Rattle.std.specs.Prelude.{◌≤◌, ℕ, List, Option, length, take}
use Rattle.std.specs.Io.KnownBytes.{Appends}

-- bytes before and after, where they are told, and the count of faults before and after
pub record Side : Type 0 where
  pub before : Option (List ℕ)
  pub after : Option (List ℕ)
  pub faults : ℕ
  pub faults_after : ℕ

-- the file of each name, where it is told, and the count of faults before and after
pub record Folder : Type 0 where
  pub file : List ℕ → Option (List ℕ)
  pub faults : ℕ
  pub faults_after : ℕ

-- what the input has left, what the output has, and the files
pub record Shown : Type 0 where
  pub input : Side
  pub output : Side
  pub files : Folder

abbrev pub side : Option (List ℕ) → Option (List ℕ) → ℕ → ℕ → Side
side before after faults faults_after = record { before = before; after = after; faults = faults; faults_after = faults_after }

abbrev pub folder : (List ℕ → Option (List ℕ)) → ℕ → ℕ → Folder
folder file faults faults_after = record { file = file; faults = faults; faults_after = faults_after }

abbrev pub shown : Side → Side → Folder → Shown
shown input output files = record { input = input; output = output; files = files }

-- a prefix of a text was written
abbrev pub WritesFront : Side → List ℕ → Type 0
WritesFront output text = (count : ℕ) × (count ≤ length text) × Appends output.before output.after (take count text)
