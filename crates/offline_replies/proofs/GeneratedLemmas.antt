-- The report over what the metadata file says.
use Rattle.std.proofs.Common.{◌≡◌, ℕ, ℤ, List, Result, Ok, Err, IfOk, refl, subst, ap, ◌∙◌}
use Rattle.dh_metadata.specs.declared.held.Records.{Records}
use Rattle.meta_reader.specs.declared.fault.MetaFault.{MetaFault}
use Rattle.meta_reader.specs.Read.{IsMetadata}
use Rattle.meta_reader.proofs.OneMetadata.{one-metadata}
use Rattle.dh_base.specs.declared.memory.Memory.{Memory}
use Rattle.offline_replies.specs.File.{sample_file}
use Rattle.offline_replies.specs.Generated.{generated_text, IsGenerated}

same_records : (meant : Result Records MetaFault) (one other : Records) → meant ≡ Ok one → meant ≡ Ok other → one ≡ other
same_records meant one other here there = cc

-- the report over the metadata that the file is
pub made : (result : Result (List ℕ) Memory) (count : ℕ) (moment : ℤ) (bytes : List ℕ) (r : Records) → bytes ≡ sample_file → IsMetadata bytes (Ok r)
    → IfOk result (λ text. text ≡ generated_text r moment count) → IfOk result (λ text. IsGenerated count moment text)
unfolding IsGenerated
made (Ok text) count moment bytes r file reads is = λ some has.
    is ∙ ap (λ (q : Records). generated_text q moment count)
    (same_records (Ok r) r some refl (one-metadata sample_file (Ok r) (Ok some) (subst (λ (b : List ℕ). IsMetadata b (Ok r)) file reads) has))
made (Err e) count moment bytes r file reads is = tt

ok_err : (some : Records) (found : MetaFault) → Ok some ≡ Err found → ⊥
ok_err some found is = cc

-- a file with a fault has no metadata, so what is reported of a fault is never reported
pub over_fault : (result : Result (List ℕ) Memory) (count : ℕ) (moment : ℤ) (bytes : List ℕ) (found : MetaFault) → bytes ≡ sample_file
    → IsMetadata bytes (Err found) → IfOk result (λ text. IsGenerated count moment text)
unfolding IsGenerated
over_fault (Ok text) count moment bytes found file is = λ some has.
    absurd (ok_err some found
    (one-metadata sample_file (Ok some) (Err found) has (subst (λ (b : List ℕ). IsMetadata b (Err found)) file is)))
over_fault (Err e) count moment bytes found file is = tt
