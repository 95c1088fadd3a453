-- A request of ours that wants a reply waits for one (RFC 4254, section 4): the entries that a step queues are, in order, one
-- for each packet 80 that it writes with a reply wanted. The packet's name says the kind of reply, and a request to prove
-- host keys remembers those whose blobs its packet holds (OpenSSH's PROTOCOL, section 2.5).
-- Over the packets' bytes and the entries; the code queues an entry where it writes a packet.
use Rattle.std.specs.Prelude.{◌≡◌, ◌≢◌, ◌⊎◌, ℕ, List, [], ◌∷◌, ◌++◌, codes}
use Rattle.std.specs.List.{flat_map}
use Rattle.sshc_wire.specs.MessageNumbers.{GLOBAL_REQUEST}
use Rattle.sshc_wire.specs.Wire.{string_text}
use Rattle.sshc_wire.specs.declared.record.Record.{Record}
use Rattle.sshc_wire.specs.declared.record.Record.TheVariants.{Payload}
use Rattle.sshc_key.specs.KeyGrammar.{Key}
use Rattle.sshc_client_packets.specs.GlobalRequests.{blob_text}
use Rattle.sshc_client_table.specs.declared.reply_entry.ReplyKind.{ReplyKind}
use Rattle.sshc_client_table.specs.declared.reply_entry.ReplyKind.TheVariants as kinds
use Rattle.sshc_client_table.specs.declared.reply_entry.ReplyEntry.{ReplyEntry}

-- the name with which a request of each kind is written; a request of the user's own has any name
abbrev pub NamedBy : ReplyKind → List ℕ → Type 0
NamedBy kinds.Forward name = name ≡ codes "tcpip-forward"
NamedBy kinds.Done name =
    (name ≡ codes "cancel-tcpip-forward") ⊎ (name ≡ codes "streamlocal-forward@openssh.com")
    ⊎ (name ≡ codes "cancel-streamlocal-forward@openssh.com")
NamedBy kinds.Ping name = name ≡ codes "keepalive@openssh.com"
NamedBy kinds.Keepalive name = name ≡ codes "keepalive@openssh.com"
NamedBy kinds.NoMoreSessions name = name ≡ codes "no-more-sessions@openssh.com"
NamedBy kinds.Proof name = name ≡ codes "hostkeys-prove-00@openssh.com"
NamedBy kinds.Own name = Unit {0}

-- only a request to prove host keys remembers keys: those that its packet holds, each blob as a string
abbrev pub HoldsKeys : ReplyKind → List (Key × List ℕ) → List ℕ → Type 0
HoldsKeys kinds.Proof keys body = body ≡ flat_map blob_text keys
HoldsKeys kind keys body = keys ≡ []

-- an entry for a request of this name with these fields
pub record IsEntry (name body : List ℕ) (entry : ReplyEntry) : Type 0 where
  pub named : NamedBy entry.kind name
  pub keys : HoldsKeys entry.kind entry.keys body

-- the entries of these records, in order; a packet 80 has a name, a byte that says whether a reply is wanted, and fields
abbrev pub Queues : List Record → List ReplyEntry → Type 0
Queues [] entries = entries ≡ []
Queues (Payload (n ∷ rest) ∷ records) entries =
    (n ≡ GLOBAL_REQUEST → (name : List ℕ) × (body : List ℕ)
    × (((rest ≡ string_text name ++ 1 ∷ body) × (first : ReplyEntry) × (others : List ReplyEntry)
    × (entries ≡ first ∷ others) × IsEntry name body first × Queues records others)
    ⊎ ((rest ≡ string_text name ++ 0 ∷ body) × Queues records entries)))
    × (n ≢ GLOBAL_REQUEST → Queues records entries)
Queues (output ∷ records) entries = Queues records entries
