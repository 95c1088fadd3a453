-- Which answers to opens a row adds: those of its event, or, where it was cut, none.
use Rattle.std.proofs.Common.{◌≡◌, ◌⊎◌, inl, inr, Bool, true, false, List, [], ◌∷◌, ◌++◌, length, drop, if◌then◌else◌, Option, Some, None, refl, ap, sym, subst, ◌∙◌, append_assoc}
use Rattle.std.proofs.lemmas.List.{append-nil}
use Rattle.std.specs.List.{AllByRecursion}
use Rattle.sshc_wire.specs.declared.record.Record.{Record}
use Rattle.sshc_wire.specs.declared.record.Record.TheVariants as output
use Rattle.sshc_wire.specs.declared.record.Record.TheVariants.{Payload, Resolved}
use Rattle.sshc_wire.specs.declared.resolution.Resolution.TheVariants.{ChannelOpened, ChannelOpenFailed}
use Rattle.sshc_auth_event.specs.declared.event.Event.{Event}
use Rattle.sshc_mux.specs.ChannelTable.{ChannelPacket, records_of}
use Rattle.sshc_client_table.specs.declared.open_answer.OpenAnswer.{OpenAnswer}
use Rattle.sshc_client_table.specs.Grown.{May}
use Rattle.sshc_client_table.specs.Moves as m
use Rattle.sshc_client_table.specs.Moves.{Deed, Fronts, Move, after, deed, deed_of, did, done, done_if, may_go, open_answer, or_none}
use Rattle.sshc_client_table.specs.OpensOnce.{NoOpenAnswer}
use Rattle.sshc_client_table.specs.RowMoves.{IsReport}
use Rattle.sshc_client_table.specs.SessionRow.{Callback, SessionRow, goes}
use Rattle.sshc_client_table.specs.SessionState.{SessionState}
use Rattle.sshc_client_table.specs.StepLaws.{Borrowed, Followed, OpensAnswered, answers_open, behind, front, open_answers, opens_answered, whole}
use Rattle.sshc_client_table.proofs.SaidLemmas.{Kinds, SaysPlainly, says_hold}
use Rattle.sshc_client_table.proofs.StepMoves.{added, added_in, added_is, done_adds}

-- ---- answers to opens

no_open_answer : (record_ : Record) → NoOpenAnswer record_ → answers_open record_ ≡ false
no_open_answer (Resolved ticket (ChannelOpened id)) never = absurd never
no_open_answer (Resolved ticket (ChannelOpenFailed reason)) never = absurd never
no_open_answer (Resolved ticket resolution) none = refl
no_open_answer record_ none = refl

none_there : (records : List Record) → AllByRecursion NoOpenAnswer records → open_answers records ≡ []
none_there [] all = refl
none_there (one ∷ records) (none, all) =
    ap (λ (b : Bool). if b then one ∷ open_answers records else open_answers records) (no_open_answer one none) ∙ none_there records all

report_answers : (record_ : Record) → IsReport record_ → NoOpenAnswer record_
report_answers (output.KexDone kex) is = tt
report_answers (output.Channel id happened) is = tt
report_answers (output.ServerOpened id opened) is = tt
report_answers (output.HostKeysAnnounced blobs) is = tt
report_answers record_ never = absurd never

open_kinds : Kinds NoOpenAnswer
open_kinds = record {
  plain = record {
    message = λ message none. tt;
    disconnection = λ reason description language. tt;
    begins = tt;
    report = report_answers;
  };
  ask = λ ask. tt;
  answer = λ ticket resolution none. none;
}

if_first : (b : Bool) (one : Record) (a b_ : List Record) → (if b then one ∷ (a ++ b_) else a ++ b_) ≡ (if b then one ∷ a else a) ++ b_
if_first true one a b_ = refl
if_first false one a b_ = refl

pub answers_two : (a b : List Record) → open_answers (a ++ b) ≡ open_answers a ++ open_answers b
answers_two [] b = refl
answers_two (one ∷ a) b =
    ap (λ (rs : List Record). if answers_open one then one ∷ rs else rs) (answers_two a b) ∙ if_first (answers_open one) one (open_answers a) (open_answers b)

pub packets_answer : (packets : List ChannelPacket) → open_answers (records_of packets) ≡ []
packets_answer [] = refl
packets_answer (one ∷ packets) = packets_answer packets

plain_answers : (move : Move) (s : SessionState) → SaysPlainly move → open_answers (added move s) ≡ []
plain_answers move s plain =
    answers_two (records_of (did (deed_of move s).call s.table).output) (deed_of move s).says
    ∙ ap (λ (rs : List Record). rs ++ open_answers (deed_of move s).says) (packets_answer (did (deed_of move s).call s.table).output)
    ∙ none_there (deed_of move s).says (says_hold NoOpenAnswer open_kinds move s plain)

abbrev pub AllPlain : List Move → Type 0
AllPlain moves = AllByRecursion SaysPlainly moves

all_plain_answer : (moves : List Move) (s : SessionState) → AllPlain moves → open_answers (added_in moves s) ≡ []
all_plain_answer [] s all = refl
all_plain_answer (move ∷ moves) s (plain, all) =
    answers_two (added move s) (added_in moves (after move s)) ∙ ap (λ (rs : List Record). rs ++ open_answers (added_in moves (after move s))) (plain_answers move s plain)
    ∙ all_plain_answer moves (after move s) all

may_plain : (move : Move) → May move → SaysPlainly move
may_plain (m.Confirms c) never = absurd never
may_plain (m.Fails id reason) never = absurd never
may_plain (m.Tells record_) never = absurd never
may_plain move may = tt

grown_plain : (moves : List Move) → AllByRecursion May moves → AllPlain moves
grown_plain [] all = tt
grown_plain (move ∷ moves) (may, all) = (may_plain move may, grown_plain moves all)

-- at most one of the moves answers an open, with these records
abbrev pub OneAnswer : List Record → List Move → SessionState → Type 0
OneAnswer answer [] s = answer ≡ []
OneAnswer answer (move ∷ moves) s =
    (SaysPlainly move × OneAnswer answer moves (after move s)) ⊎ ((open_answers (added move s) ≡ answer) × AllPlain moves)

pub plain_one : (moves : List Move) (s : SessionState) → AllPlain moves → OneAnswer [] moves s
plain_one [] s all = refl
plain_one (move ∷ moves) s (plain, all) = inl (plain, plain_one moves (after move s) all)

one_whole : (answer : List Record) (moves : List Move) (s : SessionState) → OneAnswer answer moves s → open_answers (added_in moves s) ≡ answer
one_whole answer [] s is = sym is
one_whole answer (move ∷ moves) s (inl (plain, one)) =
    answers_two (added move s) (added_in moves (after move s)) ∙ ap (λ (rs : List Record). rs ++ open_answers (added_in moves (after move s))) (plain_answers move s plain)
    ∙ one_whole answer moves (after move s) one
one_whole answer (move ∷ moves) s (inr (is, all)) =
    answers_two (added move s) (added_in moves (after move s)) ∙ ap (λ (rs : List Record). open_answers (added move s) ++ rs) (all_plain_answer moves (after move s) all)
    ∙ append-nil (open_answers (added move s)) ∙ is

-- the records that lead from one session to another
abbrev AnswersBetween : SessionState → SessionState → List Record → Type 0
AnswersBetween old new answers = (more : List Record) × (new.records ≡ old.records ++ more) × (open_answers more ≡ answers)

between_done : (moves : List Move) (s new : SessionState) (answers : List Record) → new ≡ done moves s → open_answers (added_in moves s) ≡ answers → AnswersBetween s new answers
between_done moves s new answers is answer = (added_in moves s, ap (λ (t : SessionState). t.records) is ∙ done_adds moves s, answer)

between_next : (s t u : SessionState) (a b : List Record) → AnswersBetween s t a → AnswersBetween t u b → AnswersBetween s u (a ++ b)
between_next s t u a b (more, is, answer) (later, then_, other) =
    (more ++ later, then_ ∙ ap (λ (rs : List Record). rs ++ later) is ∙ append_assoc s.records more later, answers_two more later ∙ ap (λ (rs : List Record). rs ++ open_answers later) answer ∙ ap (λ (rs : List Record). a ++ rs) other)

-- a front of the moves has the answer or hasn't
abbrev NoneOr : List Record → SessionState → SessionState → Type 0
NoneOr answer s new = AnswersBetween s new [] ⊎ AnswersBetween s new answer

plain_fronts : (moves : List Move) (s new : SessionState) → AllPlain moves → Fronts moves s new → AnswersBetween s new []
plain_fronts [] s new all is = between_done [] s new [] is refl
plain_fronts (move ∷ moves) s new all (inl is) = between_done [] s new [] is refl
plain_fronts (move ∷ moves) s new (plain, all) (inr cut) =
    between_next s (after move s) new [] [] (between_done (move ∷ []) s (after move s) [] refl (all_plain_answer (move ∷ []) s (plain, tt))) (plain_fronts moves (after move s) new all cut)

behind_first : (move : Move) (answer : List Record) (s new : SessionState) → SaysPlainly move → NoneOr answer (after move s) new → NoneOr answer s new
behind_first move answer s new plain (inl none) =
    inl (between_next s (after move s) new [] [] (between_done (move ∷ []) s (after move s) [] refl (all_plain_answer (move ∷ []) s (plain, tt))) none)
behind_first move answer s new plain (inr all) =
    inr (between_next s (after move s) new [] answer (between_done (move ∷ []) s (after move s) [] refl (all_plain_answer (move ∷ []) s (plain, tt))) all)

one_move : (move : Move) (s : SessionState) (answer : List Record) → open_answers (added move s) ≡ answer → AnswersBetween s (after move s) answer
one_move move s answer is = between_done (move ∷ []) s (after move s) answer refl (ap open_answers (append-nil (added move s)) ∙ is)

one_fronts : (answer : List Record) (moves : List Move) (s new : SessionState) → OneAnswer answer moves s → Fronts moves s new → NoneOr answer s new
one_fronts answer [] s new one is = inl (between_done [] s new [] is refl)
one_fronts answer (move ∷ moves) s new one (inl is) = inl (between_done [] s new [] is refl)
one_fronts answer (move ∷ moves) s new (inl (plain, one)) (inr cut) = behind_first move answer s new plain (one_fronts answer moves (after move s) new one cut)
one_fronts answer (move ∷ moves) s new (inr (is, all)) (inr cut) =
    inr (subst (λ (rs : List Record). AnswersBetween s new rs) (append-nil answer)
    (between_next s (after move s) new answer [] (one_move move s answer is) (plain_fronts moves (after move s) new all cut)))

borrowed_answers : (asks : Option Callback) (lent mid : SessionState) → Borrowed asks lent mid → AnswersBetween lent mid []
borrowed_answers None lent mid is = between_done [] lent mid [] is refl
borrowed_answers (Some callback) lent mid grown = between_done grown.moves lent mid [] grown.is (all_plain_answer grown.moves lent (grown_plain grown.moves grown.may))

-- a row with at most one answer, before the handler's call
pub record AnswersBy (event : Event) (s : SessionState) (row : SessionRow) : Type 0 where
  pub answer : List Record
  pub one : OneAnswer answer row.front s
  pub back : (said_ : OpenAnswer) → AllPlain (row.back said_)
  pub is : (answer ≡ []) ⊎ (answer ≡ opens_answered event s)
  pub goes_on : row.next ≡ goes → answer ≡ opens_answered event s

front_answers : (answer : List Record) (row : SessionRow) (s mid : SessionState) → OneAnswer answer row.front s → Borrowed row.asks (done row.front s) mid → AnswersBetween s mid answer
front_answers answer row s mid one borrowed =
    subst (λ (rs : List Record). AnswersBetween s mid rs) (append-nil answer)
    (between_next s (done row.front s) mid answer [] (between_done row.front s (done row.front s) answer refl (one_whole answer row.front s one)) (borrowed_answers row.asks (done row.front s) mid borrowed))

-- all that was added
added_answers : (s new : SessionState) (answer : List Record) → AnswersBetween s new answer → open_answers (drop (length s.records) new.records) ≡ answer
added_answers s new answer (more, is, answers) = ap open_answers (added_is s.records new.records more is) ∙ answers

or_all : (event : Event) (s new : SessionState) (answer : List Record) → (answer ≡ []) ⊎ (answer ≡ opens_answered event s) → AnswersBetween s new answer → OpensAnswered false event s (drop (length s.records) new.records)
or_all event s new answer (inl none) between = inl (added_answers s new answer between ∙ none)
or_all event s new answer (inr all) between = inr (added_answers s new answer between ∙ all)

none_or_all : (event : Event) (s new : SessionState) (answer : List Record) → (answer ≡ []) ⊎ (answer ≡ opens_answered event s) → NoneOr answer s new → OpensAnswered false event s (drop (length s.records) new.records)
none_or_all event s new answer is (inl none) = inl (added_answers s new [] none)
none_or_all event s new answer is (inr between) = or_all event s new answer is between

pub opened_by : (event : Event) (row : SessionRow) (s new : SessionState) (went : Bool) → AnswersBy event s row → Followed row s new went → OpensAnswered went event s (drop (length s.records) new.records)
opened_by event row s new went by (whole mid answer next borrowed is) =
    added_answers s new (by.answer ++ [])
    (between_next s mid new by.answer [] (front_answers by.answer row s mid by.one borrowed) (between_done (row.back answer) mid new [] is (all_plain_answer (row.back answer) mid (by.back answer))))
    ∙ append-nil by.answer ∙ by.goes_on next
opened_by event row s new went by (front cut) = none_or_all event s new by.answer by.is (one_fronts by.answer row.front s new by.one cut)
opened_by event row s new went by (behind mid answer borrowed cut) =
    or_all event s new by.answer by.is
    (subst (λ (rs : List Record). AnswersBetween s new rs) (append-nil by.answer)
    (between_next s mid new by.answer [] (front_answers by.answer row s mid by.one borrowed) (plain_fronts (row.back answer) mid new (by.back answer) cut)))
