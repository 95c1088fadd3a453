-- What a method of a session does, by the moves of the row of its event.
use Rattle.std.specs.Prelude.{◌≡◌, ◌⊎◌, true, false, List, [], ◌∷◌, None, Some, Result, Ok, Err, if◌then◌else◌}
use Rattle.sshc_wire.specs.declared.channel_id.ChannelId.{ChannelId}
use Rattle.sshc_wire.specs.declared.error.NoMemory.{NoMemory as RanOut}
use Rattle.sshc_wire.specs.declared.ticket.Ticket.{Ticket}
use Rattle.sshc_auth.specs.declared.error.Error.{Error}
use Rattle.sshc_auth.specs.declared.error.Error.TheVariants.{NoMemory, NotAuthenticated}
use Rattle.sshc_mux.specs.ChannelTable.Opens.{next_number}
use Rattle.sshc_client_packets.specs.ChannelOpens.{ChannelOpen}
use Rattle.sshc_client_table.specs.Messages.{Ask}
use Rattle.sshc_client_table.specs.Moves.{Asks, DeniesTicket, Move, Opens, after, done}
use Rattle.sshc_client_table.specs.SessionState.{SessionState, is_live, is_open}

-- a call did the moves, or was out of memory and did nothing; a move that may not be done does nothing either
abbrev pub Acts : {A : Type 0} → List Move → SessionState → SessionState → Result A Error → Type 0
Acts moves old new (Ok x) = new ≡ done moves old
Acts moves old new (Err e) = (e ≡ NoMemory) × (new ≡ old)

-- before the session is open a global request is denied
abbrev pub asks_or_denies : Ticket → Ask → SessionState → List Move
asks_or_denies ticket ask s = if is_open s.opening.phase then Asks ask ∷ [] else DeniesTicket ticket ∷ []

-- a channel of ours is opened under the next number; `NotAuthenticated` if the session isn't open
abbrev pub OpensChannel : ChannelOpen → SessionState → SessionState → Result ChannelId Error → Type 0
OpensChannel asked old new (Ok id) = (is_live old ≡ true) × (next_number old.table ≡ Some id.0) × (new ≡ after (Opens asked None) old)
OpensChannel asked old new (Err e) =
    (new ≡ old) × (((e ≡ NotAuthenticated) × (is_live old ≡ false)) ⊎ ((e ≡ NoMemory) × (is_live old ≡ true)))

abbrev pub acted : Result (Unit {0}) RanOut → Result (Unit {0}) Error
acted (Ok u) = Ok u
acted (Err e) = Err NoMemory
