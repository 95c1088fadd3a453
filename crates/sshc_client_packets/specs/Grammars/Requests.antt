-- The peer's requests on a channel after number and name (RFC 4254, sections 6.8 and 6.10).
use Rattle.std.specs.Prelude.{◌≡◌, ℕ, Bool, List, codes}
use Rattle.sshc_wire.specs.Grammar.{InRow, IsFlag, IsWholeGrammar}
use Rattle.sshc_wire.specs.Signals.{signal_of}
use Rattle.sshc_client_packets.specs.declared.peer_request.PeerRequest.{PeerRequest}
use Rattle.sshc_client_packets.specs.declared.peer_request.PeerRequest.TheVariants.{ExitSignal, ExitStatus, Keepalive, XonXoff}
use Rattle.sshc_client_packets.specs.Parts.{IsByte, IsNumber, IsText}
use Rattle.sshc_client_packets.specs.PeerRequests.{peer_request_of}

-- any byte, and then the flag
abbrev pub IsXonXoff : PeerRequest → List ℕ → Type 0
IsXonXoff r bytes = (byte : ℕ) × (can_do : Bool) × (XonXoff can_do ≡ r) × InRow IsByte IsFlag (byte, can_do) bytes

abbrev pub IsExitStatus : PeerRequest → List ℕ → Type 0
IsExitStatus r bytes = (byte status : ℕ) × (ExitStatus status ≡ r) × InRow IsByte IsNumber (byte, status) bytes

-- any byte, the signal's name, whether the core was dumped, a text and its language
abbrev pub IsExitSignal : PeerRequest → List ℕ → Type 0
IsExitSignal r bytes =
    (byte : ℕ) × (dumped : Bool) × (name message language : List ℕ)
    × (ExitSignal (signal_of name) dumped message language ≡ r)
    × InRow IsByte (InRow IsText (InRow IsFlag (InRow IsText IsText))) (byte, (name, (dumped, (message, language)))) bytes

abbrev pub IsKeepalive : PeerRequest → List ℕ → Type 0
IsKeepalive r bytes = (want_reply : Bool) × (Keepalive want_reply ≡ r) × IsFlag want_reply bytes

pub record RequestsAreRead : Type 0 where
  pub xon_xoff : IsWholeGrammar IsXonXoff (peer_request_of (codes "xon-xoff"))
  pub exit_status : IsWholeGrammar IsExitStatus (peer_request_of (codes "exit-status"))
  pub exit_signal : IsWholeGrammar IsExitSignal (peer_request_of (codes "exit-signal"))
  pub keepalive : IsWholeGrammar IsKeepalive (peer_request_of (codes "keepalive@openssh.com"))
