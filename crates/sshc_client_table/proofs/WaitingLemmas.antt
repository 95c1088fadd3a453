-- An open of ours that waits goes on waiting through every call of the channel table, unless the peer's packet answers
-- it.
use Rattle.std.proofs.Common.{◌≡◌, ◌⊎◌, inl, inr, ℕ, Bool, true, false, not, ◌&&◌, List, [], ◌∷◌, ◌++◌, if◌then◌else◌, Option, Some, None, refl, ap, sym, subst, ◌∙◌, arith}
use Rattle.std.specs.Prelude.{◌==◌}
use Rattle.std.proofs.lemmas.Bool.Decides.{nat_tests}
use Rattle.std.specs.List.{AllByRecursion}
use Rattle.sshc_wire.specs.declared.ticket.Ticket.{Ticket}
use Rattle.sshc_auth_event.specs.declared.event.Event.{Event}
use Rattle.sshc_mux.specs.ChannelState.{ChannelState, TableState, channel_of, with_channel, without}
use Rattle.sshc_mux.specs.ChannelTable.{Turn, accept_turn, all_flushed, close_turn, confirm_turn, data_turn, eof_turn, grant_turn, is_awaited, is_up, last_packets, no_packets_of, received_turn, removed, take_at, taken_away, turn_at, turned}
use Rattle.sshc_mux.specs.ChannelTable.Opens.{accepted, awaited, awaited_by, awaited_in, confirmed, is_by_server, is_reserved, next_number, opened_by_user, reserved_by_server}
use Rattle.sshc_mux.specs.ChannelAccount.{AskClose, AskEof, Bytes, Call, Confirm, Fail, FlushAll, Grant, OpenUser, PeerClose, Received, ReserveServer, SettleServer, called, opened, ran}
use Rattle.sshc_mux.specs.declared.channel.Opener.{Opener}
use Rattle.sshc_mux.specs.declared.channel.Opener.TheVariants.{Server, User}
use Rattle.sshc_mux.specs.Packets.{Packet}
use Rattle.sshc_mux.proofs.NumbersLemmas.{flushed_found, number_of, with_other, with_same, without_other}
use Rattle.sshc_client_table.specs.Moves.{Move, done}
use Rattle.sshc_client_table.specs.PeerSays.{AnswersOpenOf, MayCall}
use Rattle.sshc_client_table.specs.SessionState.{SessionState}
use Rattle.sshc_client_table.specs.StepLaws.{OpensWait}
use Rattle.sshc_client_table.proofs.PeerLemmas.{makes_calls, not_same}
use Rattle.sshc_client_table.proofs.StepMoves.{AllFit}

same_number : (n k : ℕ) → (n == k) ≡ true → n ≡ k
same_number n k is = grind (arith, nat_tests)

-- ---- an open that waits

module _ (id : ℕ) (ticket : Option Ticket) where
  abbrev Waits : Option ChannelState → Type 0
  Waits o = awaited_by o ≡ Some ticket

  -- it is ours, and isn't established
  not_reserved : (established : Bool) (opener : Opener) → awaited_in established opener ≡ Some ticket → (not established && is_by_server opener) ≡ false
  not_reserved true opener is = refl
  not_reserved false (User own) is = refl
  not_reserved false Server is = absurd cc

  not_up : (established : Bool) (opener : Opener) → awaited_in established opener ≡ Some ticket → established ≡ false
  not_up true opener is = absurd cc
  not_up false opener is = refl

  -- ---- one channel's turn

  -- the turn of the channel with this number keeps it
  abbrev Keeps : ℕ → (ChannelState → Turn) → Type 0
  Keeps n turn = n ≡ id → (c : ChannelState) → Waits (Some c) → Waits (Some (turn c).channel)

  abbrev KeepsNumber : (ChannelState → Turn) → Type 0
  KeepsNumber turn = (c : ChannelState) → (turn c).channel.head.number ≡ c.head.number

  turned_at : (n : ℕ) (turn : ChannelState → Turn) (c : ChannelState) (t : TableState) (same : Bool) → Keeps n turn → KeepsNumber turn →
      channel_of n t.channels ≡ Some c → (n == id) ≡ same → Waits (channel_of id t.channels) →
      Waits (channel_of id (with_channel n (turn c).channel t.channels))
  turned_at n turn c t true keeps number found is waits =
      let one : n ≡ id = same_number n id is in
      let here : channel_of id t.channels ≡ Some c = subst (λ (k : ℕ). channel_of k t.channels ≡ Some c) one found in
      ap awaited_by (subst (λ (k : ℕ). channel_of id (with_channel k (turn c).channel t.channels) ≡ Some (turn c).channel) (sym one)
      (with_same id (turn c).channel t.channels c here (number c ∙ number_of id t.channels c here)))
      ∙ keeps one c (sym (ap awaited_by here) ∙ waits)
  turned_at n turn c t false keeps number found is waits =
      ap awaited_by (with_other id n (turn c).channel t.channels (not_same n id is) (number c ∙ number_of n t.channels c found)) ∙ waits

  turn_waits : (n : ℕ) (turn : ChannelState → Turn) (t : TableState) → Keeps n turn → KeepsNumber turn → awaited id t ≡ Some ticket → awaited id (turn_at n turn t).table ≡ Some ticket
  turn_waits n turn t keeps number waits = by (channel_of n t.channels) refl
    where
      by : (o : Option ChannelState) → channel_of n t.channels ≡ o → awaited id (turned n o turn t).table ≡ Some ticket
      by None found = waits
      by (Some c) found = turned_at n turn c t (n == id) keeps number found refl waits

  -- ---- one channel is taken away

  abbrev StaysAt : ℕ → (ChannelState → Bool) → Type 0
  StaysAt n goes = n ≡ id → (c : ChannelState) → Waits (Some c) → goes c ≡ false

  gone_at : (n : ℕ) (goes : ChannelState → Bool) (c : ChannelState) (t : TableState) (same : Bool) → StaysAt n goes → channel_of n t.channels ≡ Some c →
      goes c ≡ true → (n == id) ≡ same → Waits (channel_of id t.channels) → Waits (channel_of id (without n t.channels))
  gone_at n goes c t true stays found goes_so is waits =
      let one : n ≡ id = same_number n id is in
      let here : channel_of id t.channels ≡ Some c = subst (λ (k : ℕ). channel_of k t.channels ≡ Some c) one found in
      let clash : true ≡ false = sym goes_so ∙ stays one c (sym (ap awaited_by here) ∙ waits) in
      absurd cc
  gone_at n goes c t false stays found goes_so is waits = ap awaited_by (without_other id n t.channels (not_same n id is)) ∙ waits

  take_waits : (n : ℕ) (goes : ChannelState → Bool) (last : ChannelState → List Packet) (t : TableState) → StaysAt n goes → awaited id t ≡ Some ticket → awaited id (take_at n goes last t).table ≡ Some ticket
  take_waits n goes last t stays waits = by (channel_of n t.channels) refl
    where
      by_test : (c : ChannelState) (b : Bool) → channel_of n t.channels ≡ Some c → goes c ≡ b → awaited id (if b then removed n t else t) ≡ Some ticket
      by_test c true found is = gone_at n goes c t (n == id) stays found is refl waits
      by_test c false found is = waits

      table_of : (c : ChannelState) (b : Bool) → goes c ≡ b → (taken_away n (Some c) goes last t).table ≡ (if b then removed n t else t)
      table_of c true is = rw is refl
      table_of c false is = rw is refl

      by : (o : Option ChannelState) → channel_of n t.channels ≡ o → awaited id (taken_away n o goes last t).table ≡ Some ticket
      by None found = waits
      by (Some c) found = ap (λ (u : TableState). awaited id u) (table_of c (goes c) refl) ∙ by_test c (goes c) found refl

  -- ---- one channel more, and all of them

  by_number : (b : Bool) (c : ChannelState) (some more : Option ChannelState) → (Waits some → Waits more) → Waits (if b then Some c else some) → Waits (if b then Some c else more)
  by_number true c some more later waits = waits
  by_number false c some more later waits = later waits

  found_more : (new : ChannelState) (cs : List ChannelState) → Waits (channel_of id cs) → Waits (channel_of id (cs ++ new ∷ []))
  found_more new [] waits = absurd cc
  found_more new (c ∷ cs) waits = by_number (c.head.number == id) c (channel_of id cs) (channel_of id (cs ++ new ∷ [])) (λ more. found_more new cs more) waits

  made_waits : (next : Option ℕ) (channel : ℕ → ChannelState) (t : TableState) → awaited id t ≡ Some ticket → awaited id (opened next channel t).table ≡ Some ticket
  made_waits None channel t waits = waits
  made_waits (Some n) channel t waits = found_more (channel n) t.channels waits

  flush_waits : (cs : List ChannelState) → Waits (channel_of id cs) → Waits (channel_of id (all_flushed cs))
  flush_waits cs waits = by (channel_of id cs) refl
    where
      by : (o : Option ChannelState) → channel_of id cs ≡ o → Waits (channel_of id (all_flushed cs))
      by None found = let clash : None ≡ Some ticket = sym (ap awaited_by found) ∙ waits in absurd cc
      by (Some c) found = ap awaited_by (flushed_found id cs c found) ∙ sym (ap awaited_by found) ∙ waits

  -- ---- turns that keep it

  accepted_number : (b : Bool) (c : ChannelState) → (if b then accepted c else c).head.number ≡ c.head.number
  accepted_number true c = refl
  accepted_number false c = refl

  confirmed_number : (b : Bool) (recipient window packet : ℕ) (c : ChannelState) → (if b then confirmed recipient window packet c else c).head.number ≡ c.head.number
  confirmed_number true recipient window packet c = refl
  confirmed_number false recipient window packet c = refl

  accept_keeps : (b : Bool) (c : ChannelState) → is_reserved c ≡ b → Waits (Some c) → Waits (Some (if b then accepted c else c))
  accept_keeps true c is waits = let clash : true ≡ false = sym is ∙ not_reserved c.head.established c.head.opener waits in absurd cc
  accept_keeps false c is waits = waits

  -- ---- calls

  abbrev Goes : Event → Call → TableState → Type 0
  Goes event call t = AnswersOpenOf id event ⊎ (awaited id (called call t).table ≡ Some ticket)

  call_waits : (event : Event) (call : Call) (t : TableState) → MayCall event call → awaited id t ≡ Some ticket → Goes event call t
  call_waits event (OpenUser window packet own) t may waits = inr (made_waits (next_number t) (λ n. opened_by_user n window packet own) t waits)
  call_waits event (ReserveServer recipient window packet own) t may waits = inr (made_waits (next_number t) (λ n. reserved_by_server n recipient window packet own) t waits)
  call_waits event (SettleServer n true) t may waits = inr (turn_waits n accept_turn t (λ one c w. accept_keeps (is_reserved c) c refl w) (λ c. accepted_number (is_reserved c) c) waits)
  call_waits event (SettleServer n false) t may waits = inr (take_waits n is_reserved no_packets_of t (λ one c w. not_reserved c.head.established c.head.opener w) waits)
  call_waits event (Confirm n recipient window packet) t may waits = by (n == id) refl
    where
      by : (same : Bool) → (n == id) ≡ same → Goes event (Confirm n recipient window packet) t
      by true is = inl (inl (record { recipient = n; sender = record { channel = recipient; window_size = window; max_packet_size = packet } }, may, same_number n id is))
      by false is = inr (turn_waits n (confirm_turn recipient window packet) t (λ one. absurd (not_same n id is one)) (λ c. confirmed_number (is_awaited c) recipient window packet c) waits)
  call_waits event (Fail n) t may waits = by (n == id) refl
    where
      by : (same : Bool) → (n == id) ≡ same → Goes event (Fail n) t
      by true is = inl (inr (may.0, may.1, may.2 ∙ same_number n id is))
      by false is = inr (take_waits n is_awaited no_packets_of t (λ one. absurd (not_same n id is one)) waits)
  call_waits event (Bytes n stream bytes exchanging) t may waits = inr (turn_waits n (data_turn stream bytes exchanging) t (λ one c w. w) (λ c. refl) waits)
  call_waits event (AskEof n) t may waits = inr (turn_waits n eof_turn t (λ one c w. w) (λ c. refl) waits)
  call_waits event (AskClose n) t may waits = inr (turn_waits n close_turn t (λ one c w. w) (λ c. refl) waits)
  call_waits event (PeerClose n) t may waits = inr (take_waits n is_up last_packets t (λ one c w. not_up c.head.established c.head.opener w) waits)
  call_waits event (Grant n amount exchanging) t may waits = inr (turn_waits n (grant_turn amount exchanging) t (λ one c w. w) (λ c. refl) waits)
  call_waits event FlushAll t may waits = inr (flush_waits t.channels waits)
  call_waits event (Received n len target) t may waits = inr (turn_waits n (received_turn len target) t (λ one c w. w) (λ c. refl) waits)

  goes_on : (event : Event) (t u : TableState) → (awaited id t ≡ Some ticket → AnswersOpenOf id event ⊎ (awaited id u ≡ Some ticket)) → AnswersOpenOf id event ⊎ (awaited id t ≡ Some ticket) → AnswersOpenOf id event ⊎ (awaited id u ≡ Some ticket)
  goes_on event t u later (inl answered) = inl answered
  goes_on event t u later (inr waits) = later waits

  calls_wait : (event : Event) (calls : List Call) (t : TableState) → AllByRecursion (MayCall event) calls → awaited id t ≡ Some ticket → AnswersOpenOf id event ⊎ (awaited id (ran calls t).table ≡ Some ticket)
  calls_wait event [] t all waits = inr waits
  calls_wait event (call ∷ calls) t (may, all) waits =
      goes_on event (called call t).table (ran calls (called call t).table).table (λ w. calls_wait event calls (called call t).table all w) (call_waits event call t may waits)

-- ---- a step

pub opens_wait : (event : Event) (moves : List Move) (s new : SessionState) → AllFit event moves → new ≡ done moves s → OpensWait event s new
opens_wait event moves s new fit is = λ id ticket waits.
    let made = makes_calls event moves s new fit is in
    subst (λ (t : TableState). AnswersOpenOf id event ⊎ (awaited id t ≡ Some ticket)) (sym made.table) (calls_wait id ticket event made.calls s.table made.by waits)
