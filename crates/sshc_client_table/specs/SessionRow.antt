-- What one row of the table of an open session is: moves, at most one call of the handler, which borrows the session,
-- and moves by what the handler returned; and, before that, at most one call that doesn't borrow it. Plain data; what a call does that follows a row is defined in the crate that
-- has the handler.
use Rattle.std.specs.Prelude.{ℕ, Bool, true, false, List, [], ◌∷◌, ◌++◌, Option, Some, None, Result, Ok, Err}
use Rattle.sshc_wire.specs.declared.channel_record.ChannelRecord.{ChannelRecord}
use Rattle.sshc_wire.specs.declared.channel_record.ServerOpen.{ServerOpen}
use Rattle.sshc_wire.specs.declared.error.WireError.{WireError}
use Rattle.sshc_wire.specs.declared.record.Record.{Record}
use Rattle.sshc_wire.specs.declared.record.Record.TheVariants.{Channel}
use Rattle.sshc_key.specs.KeyGrammar.{Key}
use Rattle.sshc_key.specs.declared.identity.PublicKeyOrCertificate.{PublicKeyOrCertificate}
use Rattle.sshc_transport.specs.declared.exchange.ExchangeNames.{ExchangeNames}
use Rattle.sshc_auth.specs.declared.ended.Ended.{Ended}
use Rattle.sshc_auth.specs.declared.error.Error.{Error}
use Rattle.sshc_auth.specs.declared.error.Error.TheVariants.{SshEncoding}
use Rattle.sshc_client_packets.specs.declared.error.PacketError.{PacketError}
use Rattle.sshc_client_table.specs.declared.open_answer.OpenAnswer.{OpenAnswer}
use Rattle.sshc_client_table.specs.Moves.{Move, Tells}

-- a call of the handler, with its arguments; each but `HostKey`, `UnknownOffered` and `WindowRefilled` borrows the session
pub data Callback : Type 0 where
  HostKey : (key : PublicKeyOrCertificate) → Callback
  Banner : (text : List ℕ) → Callback
  KexDone : (secret : Option (List ℕ)) → (names : ExchangeNames) → Callback
  Happened : (id : ℕ) → (happened : ChannelRecord) → Callback  -- what the peer did on a channel, by its record
  ServerOpened : (id : ℕ) → (opened : ServerOpen) → Callback
  HostKeysAnnounced : (keys : List (Key × List ℕ)) → Callback
  UnknownOffered : (id : ℕ) → (kind : List ℕ) → Callback  -- whether it takes an open of a type that isn't known
  WindowRefilled : (id : ℕ) → (target : ℕ) → Callback  -- our window was refilled to this target

-- what the handler returns when it doesn't borrow the session: whether it takes opens of an unknown type, and its
-- window target
pub record Opinions : Type 0 where
  pub takes_unknown : Bool
  pub window_target : ℕ

pub data Next : Type 0 where
  goes : Next
  ends : Ended → Next
  refuses : Error → Next

pub record SessionRow : Type 0 where
  pub opinion : Option Callback  -- a call that doesn't borrow the session
  pub front : List Move
  pub asks : Option Callback
  pub back : OpenAnswer → List Move
  pub next : Next

-- ---- the table's own vocabulary

-- moves, and no call
abbrev pub plain_row : List Move → SessionRow
plain_row moves = record { opinion = None; front = moves; asks = None; back = λ output. []; next = goes }

abbrev pub passed_over : SessionRow
passed_over = plain_row []

abbrev pub refused : Error → SessionRow
refused e = record { opinion = None; front = []; asks = None; back = λ output. []; next = refuses e }

-- the session ends after these moves
abbrev pub ending : List Move → Ended → SessionRow
ending moves e = record { opinion = None; front = moves; asks = None; back = λ output. []; next = ends e }

-- moves, a call, and moves after it whatever it returns
unfoldable pub asking : List Move → Callback → List Move → SessionRow
asking front callback back = record { opinion = None; front = front; asks = Some callback; back = λ output. back; next = goes }

abbrev pub on_channel : ℕ → ChannelRecord → Record
on_channel id happened = Channel (record { 0 = id }) happened

-- the handler is called with what happened on a channel, and then the record is reported
abbrev pub reports : List Move → ℕ → ChannelRecord → List Move → SessionRow
reports front id happened back = asking front (Happened id happened) (Tells (on_channel id happened) ∷ back)

-- a row that depends on what this call returns
abbrev pub opining : Option Callback → SessionRow → SessionRow
opining call row = record row { opinion = call }

-- the calls of the handler that a row asks, in order
abbrev pub call_in : Option Callback → List Callback
call_in None = []
call_in (Some call) = call ∷ []

abbrev pub calls_of : SessionRow → List Callback
calls_of row = call_in row.opinion ++ call_in row.asks

-- moves before those of a row
abbrev pub behind_moves : List Move → SessionRow → SessionRow
behind_moves moves row = record row { front = moves ++ row.front }

-- continues with what was read; a part that can't be read is SshEncoding
abbrev pub with_read : {A : Type 0} → Result A WireError → (A → SessionRow) → SessionRow
with_read (Ok x) row = row x
with_read (Err e) row = refused SshEncoding

abbrev pub with_kept : {A : Type 0} → Result A PacketError → (A → SessionRow) → SessionRow
with_kept (Ok x) row = row x
with_kept (Err e) row = refused SshEncoding

-- only if the channel is established
abbrev pub established_row : Bool → SessionRow → SessionRow
established_row true row = row
established_row false row = passed_over
