-- Requests of ours on a channel (RFC 4254, sections 5.4 and 6; OpenSSH's PROTOCOL.agent).
-- A name, whether a reply is wanted, and fields, by cases; the code writes them part by part.
use Rattle.std.specs.Prelude.{ℕ, Bool, false, List, [], ◌∷◌, ◌++◌, codes, if◌then◌else◌, ◌==◌}
use Rattle.std.specs.List.{flat_map}
use Rattle.sshc_wire.specs.Signals.{signal_name}
use Rattle.sshc_wire.specs.Wire.{bool_text, string_text, u32_text}
use Rattle.sshc_wire.specs.MessageNumbers.{CHANNEL_REQUEST}
use Rattle.sshc_wire.specs.declared.pty.Pty.{Pty}
use Rattle.sshc_wire.specs.declared.signal.Sig.{Sig}
use Rattle.sshc_client_packets.specs.declared.channel_request.ChannelRequest.{ChannelRequest as Lent}
use Rattle.sshc_client_packets.specs.declared.channel_request.ChannelRequest.TheVariants as lent
use Rattle.sshc_client_packets.specs.declared.channel_request.TerminalSize.{TerminalSize}

pub data ChannelRequest : Type 0 where
  PtyReq : (want_reply : Bool) → (term : List ℕ) → (size : TerminalSize) → (modes : List (Pty × ℕ)) → ChannelRequest
  WindowChange : (size : TerminalSize) → ChannelRequest
  X11 : (want_reply single_connection : Bool) → (protocol cookie : List ℕ) → (screen : ℕ) → ChannelRequest
  Env : (want_reply : Bool) → (name value : List ℕ) → ChannelRequest
  Shell : (want_reply : Bool) → ChannelRequest
  Exec : (want_reply : Bool) → (command : List ℕ) → ChannelRequest
  Signal : (signal : Sig) → ChannelRequest
  Subsystem : (want_reply : Bool) → (name : List ℕ) → ChannelRequest
  AgentForward : (want_reply : Bool) → ChannelRequest

-- the request that a call borrows
abbrev pub channel_request : Lent → ChannelRequest
channel_request (lent.PtyReq want_reply term size modes) = PtyReq want_reply term.now size modes.now
channel_request (lent.WindowChange size) = WindowChange size
channel_request (lent.X11 want_reply single protocol cookie screen) =
    X11 want_reply single protocol.now cookie.now screen
channel_request (lent.Env want_reply name value) = Env want_reply name.now value.now
channel_request (lent.Shell want_reply) = Shell want_reply
channel_request (lent.Exec want_reply command) = Exec want_reply command.now
channel_request (lent.Signal signal) = Signal signal.now
channel_request (lent.Subsystem want_reply name) = Subsystem want_reply name.now
channel_request (lent.AgentForward want_reply) = AgentForward want_reply

abbrev pub request_name : ChannelRequest → List ℕ
request_name (PtyReq want_reply term size modes) = codes "pty-req"
request_name (WindowChange size) = codes "window-change"
request_name (X11 want_reply single protocol cookie screen) = codes "x11-req"
request_name (Env want_reply name value) = codes "env"
request_name (Shell want_reply) = codes "shell"
request_name (Exec want_reply command) = codes "exec"
request_name (Signal signal) = codes "signal"
request_name (Subsystem want_reply name) = codes "subsystem"
request_name (AgentForward want_reply) = codes "auth-agent-req@openssh.com"

-- a new size and a signal never get a reply
abbrev pub wants_reply : ChannelRequest → Bool
wants_reply (PtyReq want_reply term size modes) = want_reply
wants_reply (WindowChange size) = false
wants_reply (X11 want_reply single protocol cookie screen) = want_reply
wants_reply (Env want_reply name value) = want_reply
wants_reply (Shell want_reply) = want_reply
wants_reply (Exec want_reply command) = want_reply
wants_reply (Signal signal) = false
wants_reply (Subsystem want_reply name) = want_reply
wants_reply (AgentForward want_reply) = want_reply

-- columns and rows, and the same in pixels
abbrev pub size_text : TerminalSize → List ℕ
size_text size =
    u32_text size.col_width ++ u32_text size.row_height ++ u32_text size.pix_width ++ u32_text size.pix_height

-- a mode's number and its value; an entry of number 0 isn't written, since that number ends the modes
abbrev pub entry_text : Pty × ℕ → List ℕ
entry_text (mode, value) = if mode.0 == 0 then [] else mode.0 ∷ u32_text value

-- the modes, and their end (RFC 4254, section 8)
abbrev pub modes_text : List (Pty × ℕ) → List ℕ
modes_text modes = flat_map entry_text modes ++ 0 ∷ []

abbrev pub request_fields : ChannelRequest → List ℕ
request_fields (PtyReq want_reply term size modes) =
    string_text term ++ size_text size ++ string_text (modes_text modes)
request_fields (WindowChange size) = size_text size
request_fields (X11 want_reply single protocol cookie screen) =
    bool_text single ++ string_text protocol ++ string_text cookie ++ u32_text screen
request_fields (Env want_reply name value) = string_text name ++ string_text value
request_fields (Shell want_reply) = []
request_fields (Exec want_reply command) = string_text command
request_fields (Signal signal) = string_text (signal_name signal)
request_fields (Subsystem want_reply name) = string_text name
request_fields (AgentForward want_reply) = []

-- 98, CHANNEL_REQUEST: the recipient's number, the name, whether a reply is wanted, the fields
unfoldable pub channel_request_text : ℕ → ChannelRequest → List ℕ
channel_request_text recipient request =
    CHANNEL_REQUEST ∷ u32_text recipient ++ string_text (request_name request) ++ bool_text (wants_reply request) ++ request_fields request
