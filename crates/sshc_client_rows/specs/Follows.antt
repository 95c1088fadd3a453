-- What a call does that follows a row of an open session, if the handler has its default answers: it accepts what the
-- server opens, except opens of unknown types, keeps its window target and does nothing to the session that it borrows.
-- Moves one after another and their result; the code does one move after the other.
use Rattle.std.specs.Prelude.{◌≡◌, ◌⊎◌, ℕ, nat_lt, if◌then◌else◌, Bool, false, not, ◌&&◌, ◌||◌, List, [], ◌∷◌, Option, Result, Ok, Err}
use Rattle.sshc_wire.specs.declared.resolution.Resolution.{Resolution}
use Rattle.sshc_auth.specs.declared.error.Error.{Error}
use Rattle.sshc_auth.specs.declared.error.Error.TheVariants.{NoMemory, SshEncoding}
use Rattle.sshc_auth.specs.OpeningState.{is_awaiting}
use Rattle.sshc_mux.specs.ChannelTable.{any_waits}
use Rattle.sshc_client_packets.specs.declared.error.PacketError.{PacketError}
use Rattle.sshc_client_packets.specs.declared.error.PacketError.TheVariants as packets
use Rattle.sshc_client_table.specs.declared.open_answer.OpenAnswer.TheVariants.{Accept}
use Rattle.sshc_client_table.specs.SessionState.{SessionState, exchanging, runs}
use Rattle.sshc_client_table.specs.Moves.{Fronts, Move, Targets, done, onto}
use Rattle.sshc_client_table.specs.SessionRow.{Opinions, SessionRow, ends, goes, refused, refuses}
use Rattle.sshc_client_table.specs.SessionTable.Replies.{replied_row}
use Rattle.sshc_client_rows.specs.declared.flow.RowFlow.{RowFlow}
use Rattle.sshc_client_rows.specs.declared.flow.RowFlow.TheVariants as flows

abbrev pub default_opinions : SessionState → Opinions
default_opinions s = record { takes_unknown = false; window_target = s.window_target }

-- the moves of a row, with those by the default answer
abbrev pub all_moves : SessionRow → List Move
all_moves row = onto row.front (row.back Accept)

-- the row was followed to its end, or memory ran out after some of its moves
abbrev pub Follows : SessionRow → SessionState → SessionState → Result RowFlow Error → Type 0
Follows row old new (Ok flows.Went) = (row.next ≡ goes) × (new ≡ done (all_moves row) old)
Follows row old new (Ok (flows.Ended e)) = (row.next ≡ ends e) × (new ≡ done (all_moves row) old)
Follows row old new (Err e) =
    ((e ≡ NoMemory) × Fronts (all_moves row) old new) ⊎ ((row.next ≡ refuses e) × (new ≡ done (all_moves row) old))

-- the error for a packet that can't be read
abbrev pub refusal_of : PacketError → Error
refusal_of packets.NoMemory = NoMemory
refusal_of packets.SshEncoding = SshEncoding

-- a row that answers the oldest request: with its answer, or a refusal, or out of memory
abbrev pub Succeeds : SessionRow → Result (Option Resolution) Error → Type 0
Succeeds row (Ok answer) = row ≡ replied_row answer
Succeeds row (Err e) = (e ≡ NoMemory) ⊎ (row ≡ refused e)
