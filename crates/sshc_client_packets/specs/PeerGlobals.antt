-- 80: a global request of the peer's (RFC 4254, section 4; OpenSSH's PROTOCOL, section 2.5).
-- By the name; for an unknown name the bytes after the flag are ignored. The code moves a cursor.
use Rattle.std.specs.Prelude.{ℕ, Bool, List, [], ◌∷◌, map, Option, Some, None, Ok, codes, bytes_eq, nat_eq, if◌then◌else◌}
use Rattle.std.specs.List.{flat_map, starts_with}
use Rattle.sshc_wire.specs.Format.{both_at}
use Rattle.sshc_wire.specs.Grammar.{finished}
use Rattle.sshc_wire.specs.Reads.{◌>>=◌}
use Rattle.sshc_wire.specs.Whole.{WholeReader, all_at}
use Rattle.sshc_key.specs.KeyGrammar.{Key, key_text}
use Rattle.sshc_key.specs.Nesting.{blob_key}
use Rattle.sshc_client_packets.specs.declared.error.PacketError.{PacketError}
use Rattle.sshc_client_packets.specs.declared.error.PacketError.TheVariants.{SshEncoding}
use Rattle.sshc_client_packets.specs.declared.peer_global.PeerGlobal.{PeerGlobal}
use Rattle.sshc_client_packets.specs.declared.peer_global.PeerGlobal.TheVariants as globals
use Rattle.sshc_client_packets.specs.Parts.{flag_at, octets_at, words_at}

-- a key that was found, with no comment
abbrev pub found_key : Option Key → List (Key × List ℕ)
found_key None = []
found_key (Some key) = (key, []) ∷ []

-- the keys at the fronts of the strings, where one can be read
abbrev pub readable_keys : List (List ℕ) → List (Key × List ℕ)
readable_keys strings = flat_map (λ s. found_key (blob_key s)) strings

-- the blobs of keys
abbrev pub blobs_of : List (Key × List ℕ) → List (List ℕ)
blobs_of keys = map (λ k. key_text k.0) keys

-- strings to the end
unfoldable pub host_keys_of : WholeReader PacketError (List (Key × List ℕ))
host_keys_of bytes = all_at octets_at bytes >>= λ strings. Ok (readable_keys strings)

-- after the name and the flag
unfoldable pub named_global_of : List ℕ → Bool → WholeReader PacketError PeerGlobal
named_global_of name want_reply bytes =
    if starts_with nat_eq name (codes "keepalive") then finished SshEncoding (globals.Keepalive want_reply, bytes)
    else (if bytes_eq name (codes "hostkeys-00@openssh.com")
    then (host_keys_of bytes >>= λ keys. Ok (globals.HostKeys keys))
    else Ok (globals.Unknown want_reply))

unfoldable pub peer_global_of : WholeReader PacketError PeerGlobal
peer_global_of bytes = both_at words_at flag_at bytes >>= λ head. named_global_of head.0.0 head.0.1 head.1
