-- The engine under its lock may be shared among threads, where its keeper may be sent to one: a search a field, since what holds
-- metadata is too much for one search.
use denote.RattleType.{RattleType}
use denote.Param.Send.{sendable, IsSync, IsSend, recorded_sync, recorded_send, struct_sync, struct_send, view_sync, view_send}
use denote.Ref.{NamedLft}
use denote.Struct.Declared.{shape}
use denote.Struct.Field.{shr_ref_field}
use denote.Struct.Tuple.{TupleAt}
use Rattle.std.proofs.Common.{ℕ, List, [], ◌∷◌}
use Rattle.std.proofs.Crossing.{crosses}
use Rattle.dh_outside.specs.declared.keeper.Keeper as keeper
use Rattle.shared_engine.specs.declared.names.Naming as naming
use Rattle.shared_engine.specs.contracts.shared.Shared as shared
use Rattle.shared_engine.specs.contracts.shared.Shared.TheInside as of_shared
use Rattle.shared_engine.specs.contracts.locked.Locked as locked
use Rattle.shared_engine.specs.contracts.locked.Locked.TheInside as of_locked
use Rattle.engine.specs.contracts.engine.Engine as engine
use Rattle.engine.specs.contracts.engine.Engine.TheInside as of_engine
use Rattle.engine.specs.contracts.updates.Shown as shown
use Rattle.engine.proofs.machine.Staged.TheSendSync as staged
use Rattle.engine.proofs.updates.LatestUpdate.TheSendSync as latest_update
use Rattle.engine.proofs.tables.Tables.TheSendSync as tables
use Rattle.table_build.proofs.slots.Slot.TheSendSync as slot
use Rattle.change_log.proofs.log.ChangeLog.TheSendSync as change_log
use Rattle.shared_engine.proofs.table.HistoryTable.TheSendSync as history_table
use Rattle.shared_engine.proofs.table.LockSeat.TheSendSync as lock_seat
use Rattle.shared_engine.proofs.ShareLemmas.{metadata_sync, metadata_send}
use Rattle.shared_server.specs.contracts.setup.Setup as setup
use Rattle.shared_server.proofs.setup.Setup.TheSendSync as of_setup

-- the tables that are shown, and the updates that are begun

shown_field_send : IsSend (shown.the_field).row
shown_field_send = struct_send (shape (shown.the_type)) (
  search (tables.the_send, tables.the_sync, crosses, sendable) depth 60 fits 20000,
  (
    search sendable,
    (
      search sendable,
      (
        search sendable,
        (
          search (staged.the_send, crosses, sendable) depth 60 fits 20000,
          (
            search (latest_update.the_send, crosses, sendable) depth 60 fits 20000,
            (search (slot.the_send, crosses, sendable) depth 60 fits 20000, tt),
          ),
        ),
      ),
    ),
  ),
)

-- the engine, what lies under the lock, and the lock with the words beside it

pub engine_send : (K : RattleType) (k : keeper.Ghosts K.Denot) → IsSend K → IsSend (engine.the_row K k)
engine_send K k send =
    view_send (of_engine.the_row K k) _ _ _ _
    (recorded_send (of_engine.the_field K k).row _ _ (of_engine.the_type K k).to_one
    (struct_send (shape (of_engine.the_type K k)) (
      search (change_log.the_send, send, crosses, sendable) depth 60 fits 20000,
      (
        search (metadata_sync, metadata_send, crosses, sendable) depth 60 fits 20000,
        (shown_field_send, tt),
      ),
    )))

pub locked_send : (J K : RattleType) (j : naming.Ghosts J.Denot) (k : keeper.Ghosts K.Denot) → IsSend K → IsSend (locked.the_row J K j k)
locked_send J K j k send =
    view_send (of_locked.the_row J K j k) _ _ _ _
    (recorded_send (of_locked.the_field J K j k).row _ _ (of_locked.the_type J K j k).to_one
    (struct_send (shape (of_locked.the_type J K j k)) (
      search (engine_send, send, crosses, sendable) depth 60 fits 20000,
      (
        search (lock_seat.the_send, crosses, sendable) depth 60 fits 20000,
        (search sendable, tt),
      ),
    )))

pub shared_sync : (J K : RattleType) (j : naming.Ghosts J.Denot) (k : keeper.Ghosts K.Denot) → IsSend K → IsSync (shared.the_row J K j k)
shared_sync J K j k send =
    view_sync (of_shared.the_row J K j k) _ _ _ _
    (recorded_sync (of_shared.the_field J K j k).row _ _ (of_shared.the_type J K j k).to_one
    (struct_sync (shape (of_shared.the_type J K j k)) (
      search (history_table.the_sync, crosses, sendable) depth 60 fits 20000,
      (
        search (metadata_sync, metadata_send, crosses, sendable) depth 60 fits 20000,
        (search (locked_send J K j k send, crosses, sendable) depth 60 fits 20000, tt),
      ),
    )))

-- what the closure that answers links holds: the setup, and the engine that is shared
pub captures_sync : (name : List ℕ) (a b d : NamedLft) (J K R C G : RattleType) (j : naming.Ghosts J.Denot) (k : keeper.Ghosts K.Denot) → IsSend K
    → IsSync R → IsSync C → IsSync G
    → IsSync (TupleAt name ((shr_ref_field a (setup.the_row b R C G) tt).row ∷ (shr_ref_field d (shared.the_row J K j k) tt).row ∷ []))
captures_sync name a b d J K R C G j k send r s g = search (shared_sync, of_setup.the_sync, sendable) depth 20 fits 20000
