-- A packet's row after a move that is done first, since the row reads nothing that the move changes.
use Rattle.std.proofs.Common.{◌≡◌, ℕ, Bool, true, false, if◌then◌else◌, List, [], ◌∷◌, Result, Ok, Err, refl, ap, sym, subst, ◌∙◌}
use Rattle.sshc_transport.specs.declared.exchange.ExchangeFlag.{ExchangeFlag}
use Rattle.sshc_transport.specs.declared.exchange.ExchangeFlag.TheVariants.{Idle, Ours, Peer}
use Rattle.sshc_auth.specs.OpeningTable.Packets.{counted_with, is_ignored, waits_for_exchange}
use Rattle.sshc_auth.specs.declared.error.Error.{Error}
use Rattle.sshc_client_packets.specs.HostKeyProof.{Accepts}
use Rattle.sshc_wire.specs.MessageNumbers.{DISCONNECT, GLOBAL_REQUEST}
use Rattle.std.specs.Prelude.{◌==◌, length}
use Rattle.sshc_client_table.specs.SessionState.{SessionState, is_live}
use Rattle.sshc_client_table.specs.Moves.{Counts, Hears, Move, after}
use Rattle.sshc_client_table.specs.MoveLaws.{is_done}
use Rattle.sshc_client_table.specs.SessionRow.{Opinions, SessionRow, behind_moves, calls_of, passed_over}
use Rattle.sshc_client_table.specs.SessionTable.{disconnect_row, held_row, numbered_row, packet_row, payload_row}
use Rattle.sshc_client_table.specs.SessionTable.Opens.{channel_open_row, open_confirmation_row, open_failure_row}
use Rattle.sshc_client_table.specs.SessionTable.Replies.{request_failure_row, request_success_row}
use Rattle.sshc_client_table.specs.SessionTable.Requests.{channel_request_row}
use Rattle.sshc_client_table.specs.SessionTable.Streams.{channel_close_row, channel_data_row, channel_extended_data_row, channel_report_row, window_adjust_row}
use Rattle.sshc_client_rows.specs.declared.flow.RowFlow.{RowFlow}
use Rattle.sshc_client_rows.specs.Follows.{Follows, default_opinions}
use Rattle.sshc_client.specs.declared.stop.Stop.{Stop}
use Rattle.sshc_client.specs.Handling.{HandlerAt, HandlerHeard}
use Rattle.sshc_client.specs.HandledRow.{FollowsRow, FollowsWith, own_result}
use Rattle.sshc_client.proofs.HandlerLemmas.{front_row, own_with}

abbrev unheard : SessionState → SessionState
unheard s = record s { keepalives = 0 }

unheard_numbered : (accepts : Accepts) (o : Opinions) (s : SessionState) (number : ℕ) (body : List ℕ) →
    numbered_row accepts o (unheard s) number body ≡ numbered_row accepts o s number body
unfolding numbered_row request_success_row request_failure_row channel_open_row open_confirmation_row open_failure_row window_adjust_row channel_data_row channel_extended_data_row channel_report_row channel_close_row channel_request_row
unheard_numbered accepts o s number body = refl

unheard_held : (flag : ExchangeFlag) (s : SessionState) (len : ℕ) (row : SessionRow) →
    held_row flag (unheard s) len row ≡ held_row flag s len row
unheard_held Idle s len row = refl
unheard_held Ours s len row = refl
unheard_held Peer s len row = refl

-- where the packet isn't passed over
abbrev unless_ignored : ℕ → SessionRow → SessionRow → SessionRow
unless_ignored number waits goes_on =
    if is_ignored number then passed_over else if waits_for_exchange number then waits else goes_on

unheard_packet : (accepts : Accepts) (o : Opinions) (s : SessionState) (len number : ℕ) (body : List ℕ) →
    packet_row accepts o (unheard s) len number body ≡ packet_row accepts o s len number body
unheard_packet accepts o s len number body =
    ap (λ (row : SessionRow). unless_ignored number (held_row s.opening.flag (unheard s) len row) row) (unheard_numbered accepts o s number body)
    ∙ ap (λ (row : SessionRow). unless_ignored number row (numbered_row accepts o s number body))
    (unheard_held s.opening.flag s len (numbered_row accepts o s number body))

abbrev counted : ℕ → SessionState → SessionState
counted n s = record s { opening = record (s.opening) { counted = n } }

uncounted_packet : (accepts : Accepts) (o : Opinions) (s : SessionState) (n number : ℕ) (body : List ℕ) →
    numbered_row accepts o (counted n s) number body ≡ numbered_row accepts o s number body
unfolding numbered_row request_success_row request_failure_row channel_open_row open_confirmation_row open_failure_row window_adjust_row channel_data_row channel_extended_data_row channel_report_row channel_close_row channel_request_row
uncounted_packet accepts o s n number body = refl

hears : (s : SessionState) → is_live s ≡ true → after Hears s ≡ record s { keepalives = 0 }
hears s live = is_done Hears s live

counts : (len : ℕ) (s : SessionState) → is_live s ≡ true → after (Counts len) s ≡ counted (counted_with s.opening len) s
counts len s live = is_done (Counts len) s live

pub heard_lives : (s t : SessionState) → t ≡ after Hears s → is_live s ≡ true → is_live t ≡ true
heard_lives s t heard live = ap is_live (heard ∙ hears s live) ∙ live

pub counted_lives : (len : ℕ) (s t : SessionState) → t ≡ after (Counts len) s → is_live s ≡ true → is_live t ≡ true
counted_lives len s t counted_is live = ap is_live (counted_is ∙ counts len s live) ∙ live

-- a row with a move before it, by the row that is the same after the move
first_move : {E : Type 0} (defaults : Type 0) (was is : HandlerAt) (m : Move) (late row : Opinions → SessionRow) (s new : SessionState) (r : Result RowFlow (Stop E)) →
    default_opinions (after m s) ≡ default_opinions s → ((o : Opinions) → late o ≡ row o) →
    FollowsWith defaults was is late (after m s) new r → FollowsWith defaults was is (λ o. behind_moves (m ∷ []) (row o)) s new r
first_move defaults was is m late row s new r opinions same f = record {
  opinions = f.opinions;
  default = λ plain. f.default plain ∙ opinions;
  follows = front_row defaults was is m (row f.opinions) s new r (subst (λ (x : SessionRow). FollowsRow defaults was is x (after m s) new r) (same f.opinions) f.follows);
  keeps = subst (λ (x : SessionRow). HandlerHeard (calls_of x) was is) (same f.opinions) f.keeps;
}

pub heard_first : {E : Type 0} (defaults : Type 0) (was is : HandlerAt) (accepts : Accepts) (s t new : SessionState) (len number : ℕ) (body : List ℕ) (r : Result RowFlow (Stop E)) → is_live s ≡ true → t ≡ after Hears s →
    FollowsWith defaults was is (λ o. packet_row accepts o t len number body) t new r →
    FollowsWith defaults was is (λ o. behind_moves (Hears ∷ []) (packet_row accepts o s len number body)) s new r
heard_first defaults was is accepts s t new len number body r live heard f =
    first_move defaults was is Hears (λ o. packet_row accepts o (after Hears s) len number body) (λ o. packet_row accepts o s len number body) s new r
    (ap default_opinions (hears s live))
    (λ o. ap (λ (x : SessionState). packet_row accepts o x len number body) (hears s live) ∙ unheard_packet accepts o s len number body)
    (subst (λ (x : SessionState). FollowsWith defaults was is (λ o. packet_row accepts o x len number body) x new r) heard f)

pub counted_first : {E : Type 0} (defaults : Type 0) (was is : HandlerAt) (accepts : Accepts) (s t new : SessionState) (len number : ℕ) (body : List ℕ) (r : Result RowFlow (Stop E)) → is_live s ≡ true → t ≡ after (Counts len) s →
    FollowsWith defaults was is (λ o. numbered_row accepts o t number body) t new r →
    FollowsWith defaults was is (λ o. behind_moves (Counts len ∷ []) (numbered_row accepts o s number body)) s new r
counted_first defaults was is accepts s t new len number body r live counted_is f =
    first_move defaults was is (Counts len) (λ o. numbered_row accepts o (after (Counts len) s) number body) (λ o. numbered_row accepts o s number body) s new r
    (ap default_opinions (counts len s live))
    (λ o. ap (λ (x : SessionState). numbered_row accepts o x number body) (counts len s live) ∙ uncounted_packet accepts o s (counted_with s.opening len) number body)
    (subst (λ (x : SessionState). FollowsWith defaults was is (λ o. numbered_row accepts o x number body) x new r) counted_is f)

-- ---- a packet by its first byte

pub disconnect_first : {E : Type 0} (defaults : Type 0) (h : HandlerAt) (accepts : Accepts) (s new : SessionState) (packet : List ℕ) (number : ℕ) (body : List ℕ) (own : Result RowFlow Error) (r : Result RowFlow (Stop E)) →
    packet ≡ number ∷ body → number ≡ DISCONNECT → r ≡ own_result own → Follows (disconnect_row body) s new own →
    FollowsWith {E = E} defaults h h (λ o. payload_row accepts o s packet) s new r
unfolding payload_row
disconnect_first {E = E} defaults h accepts s new packet number body own r whole is told f = rw (whole, is) (own_with {E = E} defaults h (λ o. disconnect_row body) s new own r told f)

pub global_first : {E : Type 0} (defaults : Type 0) (was is : HandlerAt) (accepts : Accepts) (s new : SessionState) (packet : List ℕ) (len number : ℕ) (body : List ℕ) (r : Result RowFlow (Stop E)) →
    packet ≡ number ∷ body → len ≡ length packet → number ≡ GLOBAL_REQUEST →
    FollowsWith defaults was is (λ o. packet_row accepts o s len GLOBAL_REQUEST body) s new r →
    FollowsWith defaults was is (λ o. payload_row accepts o s packet) s new r
unfolding payload_row
global_first defaults was is accepts s new packet len number body r whole long is_so f =
    rw (whole, is_so) (rw (long, whole) at f)

pub other_first : {E : Type 0} (defaults : Type 0) (was is : HandlerAt) (accepts : Accepts) (s new : SessionState) (packet : List ℕ) (len number : ℕ) (body : List ℕ) (r : Result RowFlow (Stop E)) →
    packet ≡ number ∷ body → len ≡ length packet → (number == DISCONNECT) ≡ false → (number == GLOBAL_REQUEST) ≡ false →
    FollowsWith defaults was is (λ o. behind_moves (Hears ∷ []) (packet_row accepts o s len number body)) s new r →
    FollowsWith defaults was is (λ o. payload_row accepts o s packet) s new r
unfolding payload_row
other_first defaults was is accepts s new packet len number body r whole long no_end no_request f =
    rw (whole, no_end, no_request) (rw (long, whole) at f)
