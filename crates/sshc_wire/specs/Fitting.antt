-- Records whose parts fit their text: numbers of four bytes, strings and lists whose length is one, names that a list of names can have,
-- and signals that their names stand for. Such a record's text tells it.
use Rattle.std.specs.Prelude.{◌≡◌, ℕ, ◌<◌, ◌^◌, Bool, true, ◌&&◌, not, List, length, map}
use Rattle.std.specs.List.{All, join_with_byte, list_all, list_any}
use Rattle.sshc_wire.specs.Methods.{method_name}
use Rattle.sshc_wire.specs.Names.{is_comma, is_name}
use Rattle.sshc_wire.specs.Signals.{signal_name, signal_of}
use Rattle.sshc_wire.specs.Wire.{IsShort}
use Rattle.sshc_wire.specs.declared.resolution.Resolution.{Resolution}
use Rattle.sshc_wire.specs.declared.resolution.Resolution.TheVariants as resolved
use Rattle.sshc_wire.specs.declared.auth_record.Prompt.{Prompt}
use Rattle.sshc_wire.specs.declared.auth_record.AuthRecord.{AuthRecord}
use Rattle.sshc_wire.specs.declared.auth_record.AuthRecord.TheVariants as auth
use Rattle.sshc_wire.specs.declared.auth_record.GssapiRecord.{GssapiRecord}
use Rattle.sshc_wire.specs.declared.auth_record.GssapiRecord.TheVariants as gssapi
use Rattle.sshc_wire.specs.declared.channel_record.ChannelRecord.{ChannelRecord}
use Rattle.sshc_wire.specs.declared.channel_record.ChannelRecord.TheVariants as channels
use Rattle.sshc_wire.specs.declared.channel_record.ServerOpen.{ServerOpen}
use Rattle.sshc_wire.specs.declared.channel_record.ServerOpen.TheVariants as opens
use Rattle.sshc_wire.specs.declared.agent_record.AgentRecord.{AgentRecord}
use Rattle.sshc_wire.specs.declared.agent_record.AgentRecord.TheVariants as agent
use Rattle.sshc_wire.specs.declared.record.Record.{Record}
use Rattle.sshc_wire.specs.declared.record.Record.TheVariants.{Resolved, Auth, KexDone, AuthBanner, Channel, ServerOpened, HostKeysAnnounced, Agent}

-- a number of four bytes
abbrev pub IsU32 : ℕ → Type 0
IsU32 n = n < 2 ^ 32

-- a name that a list of names can have: it isn't empty and has no comma
abbrev pub is_listable : List ℕ → Bool
is_listable name = is_name name && not (list_any is_comma name)

-- names that are read again from their list
pub record AreNames (names : List (List ℕ)) : Type 0 where
  pub short : IsShort (join_with_byte 44 names)
  pub listable : list_all is_listable names ≡ true

abbrev pub FitsResolution : Resolution → Type 0
FitsResolution (resolved.AuthFailure methods partial) = IsShort (join_with_byte 44 (map method_name methods))
FitsResolution (resolved.SigAlgs known names) = AreNames names
FitsResolution (resolved.ChannelOpened id) = IsU32 id.0
FitsResolution (resolved.ForwardPort port) = IsU32 port
FitsResolution (resolved.GlobalReply body) = IsShort body
FitsResolution resolution = Unit {0}

abbrev pub FitsPrompt : Prompt → Type 0
FitsPrompt p = IsShort p.prompt

abbrev pub FitsGssapi : GssapiRecord → Type 0
FitsGssapi (gssapi.Response mechanism mic) = IsShort mechanism × IsShort mic
FitsGssapi (gssapi.Token token mic) = IsShort token × IsShort mic
FitsGssapi (gssapi.Error major minor message) = IsU32 major × IsU32 minor × IsShort message
FitsGssapi (gssapi.ErrorToken token) = IsShort token

abbrev pub FitsAuth : AuthRecord → Type 0
FitsAuth (auth.SignRequest key hash body) = IsShort key × IsShort body
FitsAuth (auth.SignRequestCert cert hash body) = IsShort cert × IsShort body
FitsAuth (auth.AuthInfoRequest name instructions prompts) =
    IsShort name × IsShort instructions × (length prompts < 2 ^ 32) × All FitsPrompt prompts
FitsAuth (auth.Gssapi step) = FitsGssapi step

abbrev pub FitsChannel : ChannelRecord → Type 0
FitsChannel (channels.Open packet window) = IsU32 packet × IsU32 window
FitsChannel (channels.OpenFailure reason description language) = IsShort description × IsShort language
FitsChannel (channels.Data body) = IsShort body
FitsChannel (channels.ExtendedData ext body) = IsU32 ext × IsShort body
FitsChannel (channels.ExitStatus status) = IsU32 status
FitsChannel (channels.ExitSignal signal dumped message language) =
    (signal_of (signal_name signal) ≡ signal) × IsShort (signal_name signal) × IsShort message × IsShort language
FitsChannel (channels.WindowAdjusted size) = IsU32 size
FitsChannel happened = Unit {0}

abbrev pub FitsOpen : ServerOpen → Type 0
FitsOpen (opens.DirectTcpIp host port originator from) = IsShort host × IsU32 port × IsShort originator × IsU32 from
FitsOpen (opens.DirectStreamLocal path) = IsShort path
FitsOpen (opens.X11 originator from) = IsShort originator × IsU32 from
FitsOpen (opens.ForwardedTcpIp address port originator from) = IsShort address × IsU32 port × IsShort originator × IsU32 from
FitsOpen (opens.ForwardedStreamLocal path) = IsShort path
FitsOpen opened = Unit {0}

abbrev pub FitsAgent : AgentRecord → Type 0
FitsAgent (agent.Answer frame) = IsShort frame
FitsAgent (agent.AskKey key) = IsShort key
FitsAgent answer = Unit {0}

abbrev pub Fits : Record → Type 0
Fits (Resolved ticket resolution) = IsU32 ticket.0 × FitsResolution resolution
Fits (Auth ticket asked) = IsU32 ticket.0 × FitsAuth asked
Fits (KexDone kex) = IsShort kex
Fits (AuthBanner banner) = IsShort banner
Fits (Channel id happened) = IsU32 id.0 × FitsChannel happened
Fits (ServerOpened id opened) = IsU32 id.0 × FitsOpen opened
Fits (HostKeysAnnounced keys) = (length keys < 2 ^ 32) × All IsShort keys
Fits (Agent conn answer) = IsU32 conn × FitsAgent answer
Fits output = Unit {0}
