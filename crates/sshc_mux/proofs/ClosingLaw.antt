-- The peer's close ends a life of a number.
use Rattle.std.proofs.Common.{◌≡◌, ℕ, Bool, true, false, List, [], ◌∷◌, ◌++◌, if◌then◌else◌, Option, None, refl, ap, sym, subst, ◌∙◌}
use Rattle.sshc_mux.specs.ChannelState.{ChannelState, TableState, channel_of}
use Rattle.sshc_mux.specs.Packets.{Packet, Close}
use Rattle.sshc_mux.specs.ChannelTable.{Effect, said_by, removed, taken_away, is_up, unmoved, last_packets, close_peer}
use Rattle.sshc_mux.specs.ChannelTable.Ends.{is_sent}
use Rattle.sshc_mux.specs.ChannelAccount.{PeerClose, packets_by, Orderly, Life, table_after, sent, Closing}
use Rattle.sshc_mux.proofs.AccountLemmas.{orderly_then}
use Rattle.sshc_mux.proofs.NumbersLemmas.{number_of, without_same}
use Rattle.sshc_mux.proofs.CallLemmas.{packets-own}
use Rattle.sshc_mux.proofs.AccountLaw.{made_life, ended_front}

-- our close is written if it wasn't yet
last_order : (e k : Bool) → Orderly e k (if k then [] else Close ∷ []) e true
last_order e true = (refl, refl)
last_order e false = (refl, (refl, refl))

pub closing : (n : ℕ) (l : Life n) → l.end.head.established ≡ true → Closing n l
closing n l up =
    let life_made = made_life n l in
    let all = life_made.account in
    let end : ChannelState = l.end in
    let t : TableState = table_after n l in
    let ps : List Packet = sent n l in
    let effect : close_peer n t ≡ record { table = removed n t; output = said_by end (last_packets end) } =
    ap (λ (o : Option ChannelState). taken_away n o is_up last_packets t) l.there ∙ ap (λ (b : Bool). if b then record { table = removed n t; output = said_by end (last_packets end) } else unmoved t) up in
    let last : packets_by n (close_peer n t).output ≡ last_packets end =
    ap (λ (e : Effect). packets_by n e.output) effect ∙ packets-own n end (last_packets end) (number_of n t.channels end l.there) in
    let P : List Packet → Type 0 = λ qs. Orderly false false (ps ++ qs) (is_sent end.flow.eof) true in
    let free : channel_of n (close_peer n t).table.channels ≡ None = ap (λ (e : Effect). channel_of n e.table.channels) effect ∙ without_same n t.channels life_made.apart in
    record {
      once = (is_sent end.flow.eof, subst P (sym last) (orderly_then _ _ _ _ _ _ ps (last_packets end) all.order (last_order (is_sent end.flow.eof) (is_sent end.flow.close))));
      front = ended_front n l (PeerClose n) free;
      free = free;
    }
