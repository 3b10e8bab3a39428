-- The report on a number of samples.
use Rattle.std.specs.Prelude.{◌≡◌, ℕ, ℤ, List, [], Ok}
use Rattle.dh_metadata.specs.declared.held.Records.{Records}
use Rattle.meta_reader.specs.Read.{IsMetadata}
use Rattle.offline_replies.specs.File.{sample_file}
use Rattle.offline_replies.specs.Sets.{sample_sets}
use Rattle.offline_replies.specs.Loaded.{log_with}
use Rattle.offline_replies.specs.Report.{report_of}

-- the report on so many samples, which are brought to an empty log of these metadata at a moment
unfoldable pub generated_text : Records → ℤ → ℕ → List ℕ
generated_text r moment count = report_of r count (log_with r moment [] (sample_sets count))

-- the text that tells of so many samples at a moment, over the metadata of that constant file
unfoldable pub IsGenerated : ℕ → ℤ → List ℕ → Type 0
IsGenerated count moment text = (r : Records) → IsMetadata sample_file (Ok r) → text ≡ generated_text r moment count
