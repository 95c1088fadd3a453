-- Requests of ours to the server as a whole (RFC 4254, sections 4 and 7.1; OpenSSH's PROTOCOL, sections 2.2, 2.4 and
-- 2.5). A name and fields, by cases; the code writes them part by part.
use Rattle.std.specs.Prelude.{ℕ, Bool, List, [], ◌∷◌, ◌++◌, codes}
use Rattle.std.specs.List.{flat_map}
use Rattle.sshc_wire.specs.Wire.{bool_text, string_text, u32_text}
use Rattle.sshc_wire.specs.MessageNumbers.{GLOBAL_REQUEST}
use Rattle.sshc_key.specs.KeyGrammar.{Key, key_text}
use Rattle.sshc_client_packets.specs.declared.global_request.GlobalRequest.{GlobalRequest as Lent}
use Rattle.sshc_client_packets.specs.declared.global_request.GlobalRequest.TheVariants as lent

-- a key with its comment is what contracts see of a public key
pub data GlobalRequest : Type 0 where
  TcpIpForward : (address : List ℕ) → (port : ℕ) → GlobalRequest
  CancelTcpIpForward : (address : List ℕ) → (port : ℕ) → GlobalRequest
  StreamLocalForward : (path : List ℕ) → GlobalRequest
  CancelStreamLocalForward : (path : List ℕ) → GlobalRequest
  Keepalive : GlobalRequest
  NoMoreSessions : GlobalRequest
  HostKeysProve : (keys : List (Key × List ℕ)) → GlobalRequest
  Own : (name body : List ℕ) → GlobalRequest

-- the request that a call borrows
abbrev pub global_request : Lent → GlobalRequest
global_request (lent.TcpIpForward address port) = TcpIpForward address.now port
global_request (lent.CancelTcpIpForward address port) = CancelTcpIpForward address.now port
global_request (lent.StreamLocalForward path) = StreamLocalForward path.now
global_request (lent.CancelStreamLocalForward path) = CancelStreamLocalForward path.now
global_request lent.Keepalive = Keepalive
global_request lent.NoMoreSessions = NoMoreSessions
global_request (lent.HostKeysProve keys) = HostKeysProve keys.now
global_request (lent.Own name body) = Own name.now body.now

abbrev pub global_name : GlobalRequest → List ℕ
global_name (TcpIpForward address port) = codes "tcpip-forward"
global_name (CancelTcpIpForward address port) = codes "cancel-tcpip-forward"
global_name (StreamLocalForward path) = codes "streamlocal-forward@openssh.com"
global_name (CancelStreamLocalForward path) = codes "cancel-streamlocal-forward@openssh.com"
global_name Keepalive = codes "keepalive@openssh.com"
global_name NoMoreSessions = codes "no-more-sessions@openssh.com"
global_name (HostKeysProve keys) = codes "hostkeys-prove-00@openssh.com"
global_name (Own name body) = name

-- a key's blob as a string
abbrev pub blob_text : Key × List ℕ → List ℕ
blob_text key = string_text (key_text key.0)

abbrev pub global_fields : GlobalRequest → List ℕ
global_fields (TcpIpForward address port) = string_text address ++ u32_text port
global_fields (CancelTcpIpForward address port) = string_text address ++ u32_text port
global_fields (StreamLocalForward path) = string_text path
global_fields (CancelStreamLocalForward path) = string_text path
global_fields Keepalive = []
global_fields NoMoreSessions = []
global_fields (HostKeysProve keys) = flat_map blob_text keys
global_fields (Own name body) = body

-- 80, GLOBAL_REQUEST: the name, whether a reply is wanted, the fields
unfoldable pub global_request_text : Bool → GlobalRequest → List ℕ
global_request_text want_reply request =
    GLOBAL_REQUEST ∷ string_text (global_name request) ++ bool_text want_reply ++ global_fields request
