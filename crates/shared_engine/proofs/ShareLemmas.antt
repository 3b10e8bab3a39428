-- Metadata may be shared among threads, and sent to another one; and so may what builds the parts of a cut's years.
use denote.Ref.{NamedLft}
use denote.Param.Send.{sendable, IsSync, IsSend, recorded_sync, struct_sync, view_sync, shr_sync}
use denote.Struct.Declared.{shape}
use Rattle.dh_metadata.proofs.metadata.Metadata.TheSendSync as shared
use Rattle.dh_metadata.specs.contracts.metadata.Metadata as metadata
use Rattle.table_build.proofs.reading.Reading.TheSendSync as reading
use Rattle.shared_engine.specs.contracts.builds.CutBuilder as builder
use Rattle.shared_engine.specs.contracts.builds.CutBuilder.TheInside as of_builder

pub metadata_sync : IsSync metadata.the_row
metadata_sync = shared.the_sync

pub metadata_send : IsSend metadata.the_row
metadata_send = shared.the_send

-- what builds the parts of a cut's years
pub builder_sync : (a : NamedLft) → IsSync (builder.the_row a)
builder_sync a =
    view_sync (of_builder.the_row a) _ _ _ _
    (recorded_sync (of_builder.the_field a).row _ _ (of_builder.the_type a).to_one
    (struct_sync (shape (of_builder.the_type a)) (
      shr_sync _ _ metadata.the_row metadata_sync,
      (search (reading.the_sync, sendable) depth 60 fits 20000, tt),
    )))
