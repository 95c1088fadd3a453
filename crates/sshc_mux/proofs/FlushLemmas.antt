-- A flow's turn to send, part by part.
use Rattle.std.proofs.Common.{◌≡◌, ℕ, Bool, List, [], length, eqb, if◌then◌else◌, ◌&&◌, ap, sym, ◌∙◌}
use Rattle.sshc_wire.specs.Outgoing.{Outgoing}
use Rattle.sshc_wire.specs.declared.record.Record.{Record}
use Rattle.sshc_mux.specs.ChannelState.{Head, ChannelFlow}
use Rattle.sshc_mux.specs.Packets.{Packet, adding, payloads}
use Rattle.sshc_mux.specs.ChannelTable.Sending.{sent_of, left_of, room_of, due_of, ends_of, emptied, flushed}
use Rattle.sshc_mux.proofs.AddingLemmas.{adding-append}
use Rattle.sshc_mux.proofs.PieceLemmas.{payloads-append}
use Rattle.sshc_mux.proofs.SendingLemmas.{append_none}

-- the bytes, and then the ends that are due
pub flushed_said : (exchanging is_empty : Bool) (h : Head) (f : ChannelFlow) (room : ℕ) (before mid after : Outgoing) →
    room ≡ room_of exchanging h f →
    mid ≡ adding before (payloads h.recipient (sent_of h.packet_size room f.pending)) →
    is_empty ≡ eqb (length (left_of room f.pending)) 0 →
    after ≡ adding mid (payloads h.recipient (if h.established && is_empty then due_of f else [])) →
    after ≡ adding before (payloads h.recipient (flushed exchanging h f).packets)
unfolding flushed
flushed_said exchanging is_empty h f room before mid after room_is first empty_is second =
    let bytes : mid ≡ adding before (payloads h.recipient (sent_of h.packet_size (room_of exchanging h f) f.pending)) =
    first ∙ ap (λ (r : ℕ). adding before (payloads h.recipient (sent_of h.packet_size r f.pending))) room_is in
    let all : is_empty ≡ eqb (length (left_of (room_of exchanging h f) f.pending)) 0 = empty_is ∙ ap (λ (r : ℕ). eqb (length (left_of r f.pending)) 0) room_is in
    let ends : (if h.established && is_empty then due_of f else []) ≡ ends_of h (emptied (room_of exchanging h f) f) = ap (λ (b : Bool). if h.established && b then due_of f else []) all in
    second
    ∙ ap (λ (ps : List Packet). adding mid (payloads h.recipient ps)) ends
    ∙ ap (λ (o : Outgoing). adding o (payloads h.recipient (ends_of h (emptied (room_of exchanging h f) f)))) bytes
    ∙ adding-append before (payloads h.recipient (sent_of h.packet_size (room_of exchanging h f) f.pending)) (payloads h.recipient (ends_of h (emptied (room_of exchanging h f) f)))
    ∙ ap (λ (rs : List Record). adding before rs) (sym (payloads-append h.recipient (sent_of h.packet_size (room_of exchanging h f) f.pending) (ends_of h (emptied (room_of exchanging h f) f))))

-- if nothing is written, no bytes are sent, and neither EOF nor close

pub no_bytes_go : (exchanging : Bool) (h : Head) (f : ChannelFlow) (room : ℕ) → room ≡ room_of exchanging h f → (flushed exchanging h f).packets ≡ [] → sent_of h.packet_size room f.pending ≡ []
unfolding flushed
no_bytes_go exchanging h f room room_is none =
    ap (λ (r : ℕ). sent_of h.packet_size r f.pending) room_is
    ∙ (append_none (sent_of h.packet_size (room_of exchanging h f) f.pending) (ends_of h (emptied (room_of exchanging h f) f)) none).0

pub no_ends_go : (exchanging is_empty : Bool) (h : Head) (f : ChannelFlow) (room : ℕ) → room ≡ room_of exchanging h f → is_empty ≡ eqb (length (left_of room f.pending)) 0 → (flushed exchanging h f).packets ≡ [] →
    (if h.established && is_empty then due_of f else []) ≡ []
unfolding flushed
no_ends_go exchanging is_empty h f room room_is empty_is none =
    let all : is_empty ≡ eqb (length (left_of (room_of exchanging h f) f.pending)) 0 = empty_is ∙ ap (λ (r : ℕ). eqb (length (left_of r f.pending)) 0) room_is in
    ap (λ (b : Bool). if h.established && b then due_of f else []) all
    ∙ (append_none (sent_of h.packet_size (room_of exchanging h f) f.pending) (ends_of h (emptied (room_of exchanging h f) f)) none).1
