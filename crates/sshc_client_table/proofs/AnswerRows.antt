-- The rows of replies and of answers to opens, as they stand behind what every packet does first.
use Rattle.std.proofs.Common.{◌≡◌, ◌⊎◌, inl, inr, ℕ, Bool, true, false, List, [], ◌∷◌, ◌++◌, length, drop, Option, Some, None, refl, ap, sym, subst, ◌∙◌}
use Rattle.std.specs.Prelude.{if◌then◌else◌}
use Rattle.std.proofs.lemmas.List.{append-nil}
use Rattle.sshc_wire.specs.MessageNumbers.{REQUEST_SUCCESS, REQUEST_FAILURE, CHANNEL_OPEN_CONFIRMATION, CHANNEL_OPEN_FAILURE}
use Rattle.sshc_wire.specs.declared.record.Record.{Record}
use Rattle.sshc_auth_event.specs.declared.event.Event.TheVariants as events
use Rattle.sshc_transport.specs.declared.exchange.ExchangeFlag.{ExchangeFlag}
use Rattle.sshc_transport.specs.declared.exchange.ExchangeFlag.TheVariants as flags
use Rattle.sshc_auth.specs.declared.error.Error.{Error}
use Rattle.sshc_auth.specs.declared.error.Error.TheVariants.{Inconsistent, Pending}
use Rattle.sshc_auth.specs.OpeningTable.Packets.{is_too_much}
use Rattle.sshc_client_packets.specs.HostKeyProof.{Accepts}
use Rattle.sshc_client_table.specs.declared.reply_entry.ReplyEntry.{ReplyEntry}
use Rattle.sshc_client_table.specs.GrownLaws.{done-append}
use Rattle.sshc_client_table.specs.ListLaws.{onto-append}
use Rattle.sshc_client_table.specs.MoveLaws.{is_done}
use Rattle.sshc_client_table.specs.Moves.{Counts, Hears, Move, Replied, after, done, reply_answer}
use Rattle.sshc_client_table.specs.SessionRow.{Opinions, SessionRow, behind_moves, goes, passed_over, refuses}
use Rattle.sshc_client_table.specs.SessionState.{SessionState, is_live}
use Rattle.sshc_client_table.specs.SessionTable.{held_row, numbered_row, payload_row, session_row}
use Rattle.sshc_client_table.specs.SessionTable.Opens.{open_confirmation_row, open_failure_row}
use Rattle.sshc_client_table.specs.SessionTable.Replies.{failure_for, request_failure_row, request_success_row, success_for}
use Rattle.sshc_client_table.specs.StepLaws.{AnswersOldest, Borrowed, Followed, TellsFailure, TellsSuccess, answer_to, whole}
use Rattle.sshc_client_table.proofs.ReplyAnswers.{Answers, failure_answers, success_answers}
use Rattle.sshc_client_table.proofs.StepMoves.{added_is}

-- ---- what a packet does before its own row

-- heard and counted, a session has the same requests, channels and records
pub record IsSameTalk (s t : SessionState) : Type 0 where
  pub live : is_live t ≡ true
  pub records : t.records ≡ s.records
  pub replies : t.replies ≡ s.replies
  pub table : t.table ≡ s.table

pub heard_same : (s : SessionState) → is_live s ≡ true → IsSameTalk s (after Hears s)
heard_same s live =
    let is = is_done Hears s live in
    record { live = ap is_live is ∙ live; records = ap (λ (t : SessionState). t.records) is; replies = ap (λ (t : SessionState). t.replies) is; table = ap (λ (t : SessionState). t.table) is }

pub counted_same : (len : ℕ) (s : SessionState) → is_live s ≡ true → IsSameTalk s (after (Counts len) s)
counted_same len s live =
    let is = is_done (Counts len) s live in
    record { live = ap is_live is ∙ live; records = ap (λ (t : SessionState). t.records) is; replies = ap (λ (t : SessionState). t.replies) is; table = ap (λ (t : SessionState). t.table) is }

pub talk_on : (s t u : SessionState) → IsSameTalk s t → IsSameTalk t u → IsSameTalk s u
talk_on s t u one other = record { live = other.live; records = other.records ∙ one.records; replies = other.replies ∙ one.replies; table = other.table ∙ one.table }

-- the moves before a packet's own row
pub data IsFirst : List Move → Type 0 where
  heard_alone : IsFirst (Hears ∷ [])
  heard_counted : (len : ℕ) → IsFirst (Hears ∷ Counts len ∷ [])

pub first_same : (first : List Move) (s : SessionState) → IsFirst first → is_live s ≡ true → IsSameTalk s (done first s)
first_same first s heard_alone live = heard_same s live
first_same first s (heard_counted len) live =
    let heard = heard_same s live in
    talk_on s (after Hears s) (after (Counts len) (after Hears s)) heard (counted_same len (after Hears s) heard.live)

-- a packet's row is its own behind these moves, or it refuses
pub record Held (full own : SessionRow) : Type 0 where
  pub first : List Move
  pub is_first : IsFirst first
  pub row_is : full ≡ behind_moves first own

-- the packet may not come now
pub record Refuses (full : SessionRow) : Type 0 where
  pub error : Error
  pub row_is : full ≡ behind_moves (Hears ∷ []) (record { opinion = None; front = []; asks = None; back = λ output. []; next = refuses error })

held_if : (much : Bool) (s : SessionState) (len : ℕ) (own : SessionRow) →
    Held (behind_moves (Hears ∷ []) (if much then record { opinion = None; front = []; asks = None; back = λ output. []; next = refuses Pending } else behind_moves (Counts len ∷ []) own)) own
    ⊎ Refuses (behind_moves (Hears ∷ []) (if much then record { opinion = None; front = []; asks = None; back = λ output. []; next = refuses Pending } else behind_moves (Counts len ∷ []) own))
held_if true s len own = inr (record { error = Pending; row_is = refl })
held_if false s len own = inl (record { first = Hears ∷ Counts len ∷ []; is_first = heard_counted len; row_is = refl })

held_by : (flag : ExchangeFlag) (s : SessionState) (len : ℕ) (own : SessionRow) → Held (behind_moves (Hears ∷ []) (held_row flag s len own)) own ⊎ Refuses (behind_moves (Hears ∷ []) (held_row flag s len own))
held_by flags.Idle s len own = inl (record { first = Hears ∷ []; is_first = heard_alone; row_is = refl })
held_by flags.Ours s len own = held_if (is_too_much s.opening len) s len own
held_by flags.Peer s len own = inr (record { error = Inconsistent; row_is = refl })

abbrev pub HeldOrRefused : SessionRow → SessionRow → Type 0
HeldOrRefused full own = Held full own ⊎ Refuses full

pub success_held : (accepts : Accepts) (o : Opinions) (s : SessionState) (body : List ℕ) → HeldOrRefused (session_row accepts o s (events.Payload (REQUEST_SUCCESS ∷ body))) (request_success_row accepts s body)
unfolding session_row payload_row numbered_row
success_held accepts o s body = held_by s.opening.flag s (length (REQUEST_SUCCESS ∷ body)) (request_success_row accepts s body)

pub failure_held : (accepts : Accepts) (o : Opinions) (s : SessionState) (body : List ℕ) → HeldOrRefused (session_row accepts o s (events.Payload (REQUEST_FAILURE ∷ body))) (request_failure_row s body)
unfolding session_row payload_row numbered_row
failure_held accepts o s body = held_by s.opening.flag s (length (REQUEST_FAILURE ∷ body)) (request_failure_row s body)

pub confirmation_held : (accepts : Accepts) (o : Opinions) (s : SessionState) (body : List ℕ) → HeldOrRefused (session_row accepts o s (events.Payload (CHANNEL_OPEN_CONFIRMATION ∷ body))) (open_confirmation_row s body)
unfolding session_row payload_row numbered_row
confirmation_held accepts o s body = held_by s.opening.flag s (length (CHANNEL_OPEN_CONFIRMATION ∷ body)) (open_confirmation_row s body)

pub refusal_held : (accepts : Accepts) (o : Opinions) (s : SessionState) (body : List ℕ) → HeldOrRefused (session_row accepts o s (events.Payload (CHANNEL_OPEN_FAILURE ∷ body))) (open_failure_row s body)
unfolding session_row payload_row numbered_row
refusal_held accepts o s body = held_by s.opening.flag s (length (CHANNEL_OPEN_FAILURE ∷ body)) (open_failure_row s body)

-- ---- a reply that was followed

-- a row without a call of the handler
pub record IsPlain (row : SessionRow) : Type 0 where
  pub asks : row.asks ≡ None
  pub back : (answer : _) → row.back answer ≡ []

pub went_goes : (row : SessionRow) (s new : SessionState) → Followed row s new true → row.next ≡ goes
went_goes row s new (whole mid answer next borrowed is) = next

borrowed_none : (asks : Option _) (lent mid : SessionState) → asks ≡ None → Borrowed asks lent mid → mid ≡ lent
borrowed_none None lent mid none is = is
borrowed_none (Some callback) lent mid none grown = absurd cc

pub plain_went : (row : SessionRow) (s new : SessionState) → IsPlain row → Followed row s new true → new ≡ done row.front s
plain_went row s new plain (whole mid answer next borrowed is) =
    is ∙ ap (λ (moves : List Move). done moves mid) (plain.back answer) ∙ borrowed_none row.asks (done row.front s) mid plain.asks borrowed

refuses_never : {A : Type 0} (full : SessionRow) → Refuses full → full.next ≡ goes → A
refuses_never full r next = let clash : refuses r.error ≡ goes = sym (ap (λ (row : SessionRow). row.next) r.row_is) ∙ next in absurd cc

-- the oldest request's entry is taken, and its answer written
replied_after : (resolution : Option _) (s : SessionState) → is_live s ≡ true →
    ((after (Replied resolution) s).replies ≡ drop 1 s.replies) × ((after (Replied resolution) s).records ≡ s.records ++ reply_answer s.replies resolution)
replied_after resolution s live =
    let is = is_done (Replied resolution) s live in
    (ap (λ (t : SessionState). t.replies) is, ap (λ (t : SessionState). t.records) is ∙ onto-append s.records (reply_answer s.replies resolution))

-- a row of a reply: nothing where none waits, or an answer to the oldest
pub data IsReplyRow (Tells : ReplyEntry → Option _ → Type 0) (replies : List ReplyEntry) (row : SessionRow) : Type 0 where
  none : replies ≡ [] → row ≡ passed_over → IsReplyRow Tells replies row
  one : (first : ReplyEntry) → (rest : List ReplyEntry) → replies ≡ first ∷ rest → Answers (Tells first) first row → IsReplyRow Tells replies row

answered_oldest : (Tells : ReplyEntry → Option _ → Type 0) (own : SessionRow) (first : List Move) (s new : SessionState) → is_live s ≡ true → IsFirst first → IsReplyRow Tells s.replies own →
    Followed (behind_moves first own) s new true → AnswersOldest Tells s.replies new.replies (drop (length s.records) new.records)
answered_oldest Tells own first s new live is_first (none no_replies own_is) went =
    let talk = first_same first s is_first live in
    let is : new ≡ done (first ++ own.front) s =
    plain_went (behind_moves first own) s new (record { asks = ap (λ (row : SessionRow). row.asks) own_is; back = λ answer. ap (λ (row : SessionRow). row.back answer) own_is }) went in
    let then_ : new ≡ done first s = is ∙ done-append first own.front s ∙ ap (λ (row : SessionRow). done row.front (done first s)) own_is in
    rw no_replies (
      ap (λ (t : SessionState). t.replies) then_ ∙ talk.replies ∙ no_replies,
      added_is s.records new.records [] (ap (λ (t : SessionState). t.records) then_ ∙ talk.records ∙ sym (append-nil s.records)),
    )
answered_oldest Tells own first s new live is_first (one entry rest waits answers) went =
    let talk = first_same first s is_first live in
    let own_is = answers.row_is in
    let is : new ≡ done (first ++ own.front) s =
    plain_went (behind_moves first own) s new (record { asks = ap (λ (row : SessionRow). row.asks) own_is; back = λ answer. ap (λ (row : SessionRow). row.back answer) own_is }) went in
    let then_ : new ≡ after (Replied answers.answer) (done first s) = is ∙ done-append first own.front s ∙ ap (λ (row : SessionRow). done row.front (done first s)) own_is in
    let so = replied_after answers.answer (done first s) talk.live in
    rw waits (
      answers.answer,
      answers.tells,
      ap (λ (t : SessionState). t.replies) then_ ∙ so.0 ∙ ap (drop 1) (talk.replies ∙ waits),
      added_is s.records new.records (answer_to entry.ticket answers.answer)
          (ap (λ (t : SessionState). t.records) then_ ∙ so.1 ∙ ap (λ (rs : List Record). rs ++ reply_answer (done first s).replies answers.answer) talk.records
          ∙ ap (λ (entries : List ReplyEntry). s.records ++ reply_answer entries answers.answer) (talk.replies ∙ waits) ∙ ap (λ (rs : List Record). s.records ++ rs) (answers.written rest)),
    )

reply_by : (Tells : ReplyEntry → Option _ → Type 0) (full own : SessionRow) (s new : SessionState) → is_live s ≡ true → HeldOrRefused full own → (own.next ≡ goes → IsReplyRow Tells s.replies own) →
    Followed full s new true → AnswersOldest Tells s.replies new.replies (drop (length s.records) new.records)
reply_by Tells full own s new live (inr refused) each went = refuses_never full refused (went_goes full s new went)
reply_by Tells full own s new live (inl held) each went =
    let followed : Followed (behind_moves held.first own) s new true = subst (λ (row : SessionRow). Followed row s new true) held.row_is went in
    answered_oldest Tells own held.first s new live held.is_first (each (went_goes (behind_moves held.first own) s new followed)) followed

-- 81
success_row : (accepts : Accepts) (session_id body : List ℕ) (replies : List ReplyEntry) → (success_for accepts session_id replies body).next ≡ goes →
    IsReplyRow (λ first. TellsSuccess accepts session_id body first first.kind) replies (success_for accepts session_id replies body)
success_row accepts session_id body [] next = none refl refl
success_row accepts session_id body (first ∷ rest) next = one first rest refl (success_answers accepts session_id body first first.kind next)

pub success_answered : (accepts : Accepts) (o : Opinions) (s new : SessionState) (body : List ℕ) → is_live s ≡ true → Followed (session_row accepts o s (events.Payload (REQUEST_SUCCESS ∷ body))) s new true →
    AnswersOldest (λ first. TellsSuccess accepts s.opening.session_id body first first.kind) s.replies new.replies (drop (length s.records) new.records)
unfolding request_success_row
success_answered accepts o s new body live went =
    reply_by (λ first. TellsSuccess accepts s.opening.session_id body first first.kind) (session_row accepts o s (events.Payload (REQUEST_SUCCESS ∷ body))) (request_success_row accepts s body) s new live
    (success_held accepts o s body) (λ next. success_row accepts s.opening.session_id body s.replies next) went

-- 82
failure_row : (body : List ℕ) (s : SessionState) (replies : List ReplyEntry) → s.replies ≡ replies → (request_failure_row s body).next ≡ goes →
    IsReplyRow (λ first. TellsFailure body first.kind) replies (request_failure_row s body)
unfolding request_failure_row
failure_row [] s [] is next = none refl (ap failure_for is)
failure_row [] s (first ∷ rest) is next =
    one first rest refl (let a = failure_answers first first.kind in record { answer = a.answer; tells = a.tells; row_is = ap failure_for is ∙ a.row_is; written = a.written })
failure_row (b ∷ body) s replies is next = absurd cc

pub failure_answered : (accepts : Accepts) (o : Opinions) (s new : SessionState) (body : List ℕ) → is_live s ≡ true → Followed (session_row accepts o s (events.Payload (REQUEST_FAILURE ∷ body))) s new true →
    AnswersOldest (λ first. TellsFailure body first.kind) s.replies new.replies (drop (length s.records) new.records)
failure_answered accepts o s new body live went =
    reply_by (λ first. TellsFailure body first.kind) (session_row accepts o s (events.Payload (REQUEST_FAILURE ∷ body))) (request_failure_row s body) s new live
    (failure_held accepts o s body) (λ next. failure_row body s s.replies refl next) went
