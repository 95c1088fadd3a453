-- The state of a shared agent may be sent to another thread, shown field by field. A proof search over the whole of it
-- would exceed its bounds.
use denote.RattleType.{RattleType}
use denote.Ref.{NamedLft}
use denote.Param.Send.{IsSend, IsSync, sendable}
use denote.Param.SendFields.{FieldsHave, as_row_sync, declared_sync}
use Rattle.std.specs.declared.sync.ledger.Ledger.{Ghosts}
use Rattle.sshc_agent_shared.specs.declared.settings.Settings.{Ghosts as Named}
use Rattle.std.proofs.Crossing.{crosses, sync}
use Rattle.std.proofs.MapsCrossing as maps
use Rattle.std.proofs.sync.ledger.Book.TheSendSync as book
use Rattle.std.proofs.sync.ledger.Share.TheSendSync as share
use Rattle.sshc_key.specs.contracts.pair.PrivateKey as PrivateKey
use Rattle.sshc_agent_core.proofs.Sending as core
use Rattle.sshc_agent_shared.specs.contracts.generation.Generation as Generation
use Rattle.sshc_agent_shared.specs.contracts.state.AgentState as AgentState
use Rattle.sshc_agent_shared.specs.contracts.lasting.LastingState as LastingState
use Rattle.sshc_agent_shared.specs.contracts.agent_lasting.AgentLasting as AgentLasting
use Rattle.sshc_agent_shared.specs.contracts.shared.AgentShared as AgentShared
use Rattle.sshc_agent_shared.specs.contracts.seat.Seat as Seat
use Rattle.sshc_agent_shared.specs.contracts.room.Rooms as Rooms
use Rattle.sshc_agent_shared.proofs.bytes.KeptBytes.TheSendSync as bytes
use Rattle.sshc_agent_shared.proofs.form.Both.TheSendSync as both
use Rattle.sshc_agent_shared.proofs.kept.KeptCall.TheSendSync as call
use Rattle.sshc_agent_shared.proofs.kept.KeptEntry.TheSendSync as entry
use Rattle.sshc_agent.specs.contracts.seats.Seats as Seats
use Rattle.sshc_agent.specs.contracts.server.Server as Server
use Rattle.sshc_agent.specs.contracts.server.Connection as Connection
use Rattle.sshc_agent.specs.contracts.generations.LastingServer as LastingServer
use Rattle.sshc_agent.specs.contracts.generations.Line as Line

-- for the crate of the command-line arguments, which has a signer of its own
pub private_send : IsSend PrivateKey.the_row
private_send = core.private_send

rooms_send : IsSend (Rooms.the_field).row
rooms_send = search (bytes.the_send, both.the_field_send, sendable, crosses) depth 30 fits 60000

module _ (L : RattleType) (n : Named L.Denot) (g : Ghosts L.Denot) (l : IsSend L) where
  generation_send : IsSend (Generation.the_row L n g)
  generation_send = let c = core.core_send in let r = rooms_send in search (book.the_send, share.the_send, entry.the_send, sendable, crosses, maps.crosses) depth 24 fits 20000

  state_send : IsSend (AgentState.the_row L n g)
  state_send = let s = generation_send in search (sendable, crosses) depth 20 fits 20000

  pub shared_sync : IsSync (AgentShared.the_row L n g)
  shared_sync = let s = state_send in search (sendable, crosses) depth 20 fits 20000

module _ (L : RattleType) (g : Ghosts L.Denot) (l : IsSend L) where
  pub seat_send : IsSend (Seat.the_row L g)
  seat_send = search (share.the_send, call.the_send, sendable, crosses) depth 20 fits 20000

  seats_send : IsSend (Seats.the_field L g).row
  seats_send = let s = seat_send in search (sendable, crosses) depth 20 fits 20000

module _ (L : RattleType) (n : Named L.Denot) (g : Ghosts L.Denot) (l : IsSend L) where
  lasting_send : IsSend (LastingState.the_row L n g)
  lasting_send = let s = generation_send L n g l in let t = seat_send L g l in search (sendable, crosses) depth 20 fits 20000

  pub lasting_sync : IsSync (AgentLasting.the_row L n g)
  lasting_sync = let s = lasting_send in search (sendable, crosses) depth 20 fits 20000

module _ (κ : NamedLft) (L A K : RattleType) (n : Named L.Denot) (g : Ghosts L.Denot) where
  pub lasting_server_sync : IsSend L → IsSync A → IsSync K → IsSync (LastingServer.the_row κ L A K n g)
  lasting_server_sync l a k =
      let h = lasting_sync L n g l in
      let parts : FieldsHave IsSync (LastingServer.the_type κ L A K n g).parts = (
        search (sync, sendable) depth 12 fits 20000,
        (search (sendable, crosses) depth 12 fits 20000, (search sendable depth 14 fits 20000, (search sendable depth 15 fits 20000, tt))),
      ) in
      declared_sync (LastingServer.the_type κ L A K n g) parts

module _ (S G C : RattleType) where
  pub line_send : IsSend S → IsSend G → IsSend C → IsSend (Line.the_row S G C)
  line_send s h c = search (sendable, crosses) depth 20 fits 20000

module _ (κ : NamedLft) (L A P : RattleType) (n : Named L.Denot) (g : Ghosts L.Denot) where
  pub server_sync : IsSend L → IsSync A → IsSync P → IsSync (Server.the_row κ L A P n g)
  server_sync l a p =
      let h = shared_sync L n g l in let s = seats_send L g l in
      let parts : FieldsHave IsSync (Server.the_type κ L A P n g).parts = (
        search (sync, sendable) depth 12 fits 20000,
        (
          search (sendable, crosses) depth 12 fits 20000,
          (search (as_row_sync, sendable, crosses) depth 13 fits 20000, (search sendable depth 14 fits 20000, (search sendable depth 15 fits 20000, tt))),
        ),
      ) in
      declared_sync (Server.the_type κ L A P n g) parts

module _ (L S G C : RattleType) (g : Ghosts L.Denot) where
  pub connection_send : IsSend L → IsSend S → IsSend G → IsSend C → IsSend (Connection.the_row L S G C g)
  connection_send l s h c = let t = seat_send L g l in search (sendable, crosses) depth 20 fits 20000
