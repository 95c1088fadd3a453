-- Over a whole run each channel has its account, and opens are answered once: the law of each row's moves, and of each
-- move at the states that the session comes to, joined over the steps.
use Rattle.std.proofs.Common.{◌≡◌, ℕ, true, false, List, [], ◌∷◌, ◌++◌, length, drop, Option, refl, ap, sym, ◌∙◌, subst, append_assoc}
use Rattle.std.specs.List.{AllByRecursion}
use Rattle.sshc_mux.specs.ChannelState.{TableState, channel_of}
use Rattle.sshc_mux.specs.ChannelTable.{ChannelPacket}
use Rattle.sshc_mux.specs.ChannelAccount.{Call, EachEndLeavesAFront, EachLifeHasItsAccount, IsLegal, LegalStays, Life, born, called, no_channels, ran}
use Rattle.sshc_mux.specs.Packets.{packet_text}
use Rattle.sshc_client_table.specs.Moves.{Move, calls_in, done as when_done}
use Rattle.sshc_client_table.specs.OpensOnce.{OpensAreAnsweredOnce}
use Rattle.sshc_client_table.specs.SessionAccount.{ChannelsAreAccounted, channel_packet, channel_packets, said_packets}
use Rattle.sshc_run_script.specs.ChannelRuns.{calls_along, calls_at, calls_by, said_along, said_open, IsLife, HasAccount, AreAccounted}
use Rattle.sshc_run_script.specs.OpenAnswers.{AnswersOpens, OpensAreAnswered}
use Rattle.sshc_run_script.specs.Path.{StepOf}
use Rattle.sshc_run_script.proofs.RunNames.{Record, SignCall, Answer, Makes, Accepts, SessionState, is_open, session_row, all_moves, default_opinions, Frame, RunSettings, Hosts, SessionTurn, said_by, session_turn}
use Rattle.sshc_run_script.proofs.RunSteps.{session_along}
use Rattle.sshc_run_script.proofs.SessionTurns.{turn_by}

-- ---- lists of calls in sequence

ran_table : (a b : List Call) (t : TableState) → (ran (a ++ b) t).table ≡ (ran b (ran a t).table).table
ran_table [] b t = refl
ran_table (call ∷ a) b t = ran_table a b (called call t).table

ran_said : (a b : List Call) (t : TableState) → (ran (a ++ b) t).output ≡ (ran a t).output ++ (ran b (ran a t).table).output
ran_said [] b t = refl
ran_said (call ∷ a) b t =
    ap (λ (output : List ChannelPacket). (called call t).output ++ output) (ran_said a b (called call t).table) ∙ sym (append_assoc (called call t).output (ran a (called call t).table).output (ran b (ran a (called call t).table).table).output)

said_two : (a b : List ChannelPacket) → said_packets (a ++ b) ≡ said_packets a ++ said_packets b
said_two [] b = refl
said_two (s ∷ a) b = ap (λ (ps : List (List ℕ)). packet_text s.recipient s.packet ∷ ps) (said_two a b)

packets_two : (a b : List Record) → channel_packets (a ++ b) ≡ channel_packets a ++ channel_packets b
packets_two [] b = refl
packets_two (r ∷ a) b = ap (λ (ps : List (List ℕ)). channel_packet r ++ ps) (packets_two a b) ∙ sym (append_assoc (channel_packet r) (channel_packets a) (channel_packets b))

-- ---- from one state to another

-- the calls make the one table the other, and the packets among these records are theirs
pub record Leads (s t : SessionState) (calls : List Call) (output : List Record) : Type 0 where
  pub table : t.table ≡ (ran calls s.table).table
  pub packets : channel_packets output ≡ said_packets (ran calls s.table).output

leads_two : (s t u : SessionState) (a b : List Call) (x y : List Record) → Leads s t a x → Leads t u b y → Leads s u (a ++ b) (x ++ y)
leads_two s t u a b x y one other =
    let mid : (ran b t.table).table ≡ (ran b (ran a s.table).table).table = ap (λ (table : TableState). (ran b table).table) one.table in
    let mid_said : (ran b t.table).output ≡ (ran b (ran a s.table).table).output = ap (λ (table : TableState). (ran b table).output) one.table in
    record {
      table = other.table ∙ mid ∙ sym (ran_table a b s.table);
      packets = packets_two x y ∙ ap (λ (ps : List (List ℕ)). ps ++ channel_packets y) one.packets
          ∙ ap (λ (ps : List (List ℕ)). said_packets (ran a s.table).output ++ ps) (other.packets ∙ ap said_packets mid_said)
          ∙ sym (said_two (ran a s.table).output (ran b (ran a s.table).table).output) ∙ ap said_packets (sym (ran_said a b s.table));
    }

module _ (law : ChannelsAreAccounted) (hosts : Hosts) (accepts : Accepts) where
  row_leads : (moves : List Move) (s : SessionState) → s.records ≡ [] → channel_packets (said_by moves s) ≡ said_packets (ran (calls_in moves s) s.table).output
  row_leads moves s none =
      ap (λ (rs : List Record). channel_packets (drop (length rs) (when_done moves s).records)) none ∙ (law moves s).packets ∙ ap (λ (rs : List Record). channel_packets rs ++ said_packets (ran (calls_in moves s) s.table).output) none

  pub turn_leads : (s : SessionState) (frame : Frame) (gained : List SignCall) (t : SessionTurn) → s.records ≡ [] → Makes (session_turn hosts accepts s frame) gained t → Leads s t.state (calls_at accepts s frame) (said_open (is_open s.opening.phase) t.records)
  turn_leads s frame gained t none =
      turn_by hosts accepts s frame (λ read gained t. Leads s t.state (calls_by accepts s read) (said_open (is_open s.opening.phase) t.records))
      (λ event on.
      let moves : List Move = all_moves (session_row accepts (default_opinions s) s event) in
      rw on (record { table = (law moves s).table; packets = row_leads moves s none }))
      (λ event gained t un makes. rw un (record { table = refl; packets = refl }))
      (λ e. record {
        table = refl;
        packets = elim (is_open s.opening.phase) as (λ opened. channel_packets (said_open opened []) ≡ [])
            [ true ↦ refl | false ↦ refl ];
      }) gained t

  life_has : (accounts : EachLifeHasItsAccount) (s : SessionState) (calls : List Call) → s.table ≡ (ran calls (no_channels 0)).table → (n : ℕ) (l : Life n) → IsLife calls n l → HasAccount s n l
  life_has accounts s calls table n l life =
      let from : s.table ≡ (ran (l.before ++ life.opener ∷ l.calls) (no_channels l.last)).table =
      table ∙ ap (λ (last : ℕ). (ran calls (no_channels last)).table) (sym life.first) ∙ ap (λ (cs : List Call). (ran cs (no_channels l.last)).table) life.all in
      let parts : (ran (l.before ++ life.opener ∷ l.calls) (no_channels l.last)).table ≡ (ran l.calls (born n l)).table =
      ran_table l.before (life.opener ∷ l.calls) (no_channels l.last) ∙ ap (λ (t : TableState). (ran l.calls t).table) life.opens in
      record { end = ap (λ (t : TableState). channel_of n t.channels) (from ∙ parts) ∙ l.there; account = accounts n l }

  -- each state that the session comes to
  pub accounted : EachLifeHasItsAccount → EachEndLeavesAFront → (settings : RunSettings) (max : ℕ) (answers : List Answer) (script : Option (List ℕ)) → AreAccounted hosts accepts settings max answers script
  accounted accounts fronts settings max answers script = λ bytes output steps s path.
      let leads = session_along hosts accepts (λ s steps s'. Leads s s' (calls_along accepts steps) (said_along steps)) (λ s. record { table = refl; packets = refl })
      (λ s frame gained t steps s' so makes on later.
      leads_two s t.state s' (calls_at accepts s frame) (calls_along accepts steps) (said_open (is_open s.opening.phase) t.records) (said_along steps) (turn_leads s frame gained t so.taken makes) later)
      settings max answers script bytes output steps s path
      in
      record { table = leads.table; packets = leads.packets; lives = λ n l life. life_has accounts s (calls_along accepts steps) leads.table n l life; ended = λ n l last life. fronts n l last life.ends }

-- ---- opens are answered once

ran_legal : LegalStays → (calls : List Call) (t : TableState) → IsLegal t → IsLegal (ran calls t).table
ran_legal stays [] t legal = legal
ran_legal stays (call ∷ calls) t legal = ran_legal stays calls (called call t).table (stays.1 call t legal)

module _ (opens : OpensAreAnsweredOnce) (law : ChannelsAreAccounted) (stays : LegalStays) (accepts : Accepts) where
  step_answers : (x : StepOf SessionState) → IsLegal x.before.table → AnswersOpens accepts x
  step_answers x legal = λ front m back moves.
      let here : IsLegal (when_done front x.before).table = subst (λ (t : TableState). IsLegal t) (sym (law front x.before).table) (ran_legal stays (calls_in front x.before) x.before.table legal) in
      record { waits = opens.waits m (when_done front x.before) here; stays = λ n none new. opens.stays n m (when_done front x.before) here none new }

  pub opens_answered : (hosts : Hosts) (settings : RunSettings) (max : ℕ) (answers : List Answer) (script : Option (List ℕ)) → OpensAreAnswered hosts accepts settings max answers script
  opens_answered hosts settings max answers script = λ bytes output steps s path.
      session_along hosts accepts (λ s steps s'. IsLegal s.table → AllByRecursion (AnswersOpens accepts) steps) (λ s legal. tt)
      (λ s frame gained t steps s' so makes on later legal.
      let leads = turn_leads law hosts accepts s frame gained t so.taken makes in
      let legal_then : IsLegal t.state.table = subst (λ (t : TableState). IsLegal t) (sym leads.table) (ran_legal stays (calls_at accepts s frame) s.table legal) in
      (step_answers (record { before = s; frame = frame; gained = gained; turn = t }) legal, later legal_then))
      settings max answers script bytes output steps s path (stays.0 0)
