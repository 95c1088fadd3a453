-- What a step of an open session does is a list of moves, each of which its event or a handler may bring, and what these
-- moves add to the records.
use Rattle.std.proofs.Common.{◌≡◌, inl, inr, Bool, List, [], ◌∷◌, ◌++◌, length, drop, Option, Some, None, refl, ap, sym, ◌∙◌, append_assoc}
use Rattle.std.proofs.lemmas.List.{append-nil, drop_at}
use Rattle.std.specs.List.{AllByRecursion}
use Rattle.sshc_wire.specs.declared.record.Record.{Record}
use Rattle.sshc_auth_event.specs.declared.event.Event.{Event}
use Rattle.sshc_mux.specs.ChannelTable.{records_of}
use Rattle.sshc_client_table.specs.Grown.{May}
use Rattle.sshc_client_table.specs.GrownLaws.{done-append}
use Rattle.sshc_client_table.specs.ListLaws.{onto-two}
use Rattle.sshc_client_table.specs.Moves as m
use Rattle.sshc_client_table.specs.Moves.{Deed, Fronts, Move, after, deed_of, did, done}
use Rattle.sshc_client_table.specs.RowMoves.{Fits}
use Rattle.sshc_client_table.specs.SessionRow.{Callback, SessionRow}
use Rattle.sshc_client_table.specs.SessionState.{SessionState}
use Rattle.sshc_client_table.specs.StepLaws.{Borrowed, Followed, behind, front, whole}

-- ---- the moves

-- A move of the event's row, or of a handler: whatever a handler may do, users may do too, and the peer's packets bring
-- the rest.
abbrev pub StepFits : Event → Move → Type 0
StepFits event m.Leaves = Unit {0}
StepFits event m.Stops = Unit {0}
StepFits event move = Fits event move

abbrev pub AllFit : Event → List Move → Type 0
AllFit event moves = AllByRecursion (λ move. StepFits event move) moves

fits_step : (event : Event) (move : Move) → Fits event move → StepFits event move
fits_step event m.Leaves never = absurd never
fits_step event m.Stops never = absurd never
fits_step event move fits = fits

may_step : (event : Event) (move : Move) → May move → StepFits event move
may_step event (m.Reserves sender) never = absurd never
may_step event (m.PeerCloses id) never = absurd never
may_step event (m.Grants id amount) never = absurd never
may_step event (m.Receives id len) never = absurd never
may_step event (m.Confirms c) never = absurd never
may_step event (m.Fails id reason) never = absurd never
may_step event (m.Accepts id) never = absurd never
may_step event (m.Rejects id reason) never = absurd never
may_step event (m.AnswersOn id done) never = absurd never
may_step event (m.Answers done) never = absurd never
may_step event (m.Replied resolution) never = absurd never
may_step event (m.Resolves ticket resolution) never = absurd never
may_step event (m.Tells output) never = absurd never
may_step event m.Resumes never = absurd never
may_step event move may = tt

pub row_fit : (event : Event) (moves : List Move) → AllByRecursion (λ move. Fits event move) moves → AllFit event moves
row_fit event [] all = tt
row_fit event (move ∷ moves) (fits, all) = (fits_step event move fits, row_fit event moves all)

grown_fit : (event : Event) (moves : List Move) → AllByRecursion May moves → AllFit event moves
grown_fit event [] all = tt
grown_fit event (move ∷ moves) (may, all) = (may_step event move may, grown_fit event moves all)

fit_two : (event : Event) (a b : List Move) → AllFit event a → AllFit event b → AllFit event (a ++ b)
fit_two event [] b one other = other
fit_two event (move ∷ a) b (fits, one) other = (fits, fit_two event a b one other)

-- ---- from one state to another

pub record Steps (event : Event) (old new : SessionState) : Type 0 where
  pub moves : List Move
  pub fit : AllFit event moves
  pub is : new ≡ done moves old

pub steps_done : (event : Event) (moves : List Move) (s : SessionState) → AllFit event moves → Steps event s (done moves s)
steps_done event moves s fit = record { moves = moves; fit = fit; is = refl }

pub steps_next : (event : Event) (s t u : SessionState) → Steps event s t → Steps event t u → Steps event s u
steps_next event s t u one other = record {
  moves = one.moves ++ other.moves;
  fit = fit_two event one.moves other.moves one.fit other.fit;
  is = other.is ∙ ap (λ (x : SessionState). done other.moves x) one.is ∙ sym (done-append one.moves other.moves s);
}

pub steps_fronts : (event : Event) (moves : List Move) (old new : SessionState) → AllFit event moves → Fronts moves old new → Steps event old new
steps_fronts event [] old new fit is = record { moves = []; fit = tt; is = is }
steps_fronts event (move ∷ moves) old new fit (inl is) = record { moves = []; fit = tt; is = is }
steps_fronts event (move ∷ moves) old new (fits, fit) (inr fronts) =
    let later = steps_fronts event moves (after move old) new fit fronts in
    record { moves = move ∷ later.moves; fit = (fits, later.fit); is = later.is }

pub steps_borrowed : (event : Event) (asks : Option Callback) (lent mid : SessionState) → Borrowed asks lent mid → Steps event lent mid
steps_borrowed event None lent mid is = record { moves = []; fit = tt; is = is }
steps_borrowed event (Some callback) lent mid grown = record { moves = grown.moves; fit = grown_fit event grown.moves grown.may; is = grown.is }

pub followed_steps : (event : Event) (row : SessionRow) (s new : SessionState) (went : Bool) → AllFit event row.front → ((answer : _) → AllFit event (row.back answer)) → Followed row s new went → Steps event s new
followed_steps event row s new went fronts backs (whole mid answer next borrowed is) =
    steps_next event s mid new (steps_next event s (done row.front s) mid (steps_done event row.front s fronts) (steps_borrowed event row.asks (done row.front s) mid borrowed))
    (record { moves = row.back answer; fit = backs answer; is = is })
followed_steps event row s new went fronts backs (front cut) = steps_fronts event row.front s new fronts cut
followed_steps event row s new went fronts backs (behind mid answer borrowed cut) =
    steps_next event s mid new (steps_next event s (done row.front s) mid (steps_done event row.front s fronts) (steps_borrowed event row.asks (done row.front s) mid borrowed))
    (steps_fronts event (row.back answer) mid new (backs answer) cut)

-- ---- the records that moves add

abbrev pub added : Move → SessionState → List Record
added move s = records_of (did (deed_of move s).call s.table).output ++ (deed_of move s).says

abbrev pub added_in : List Move → SessionState → List Record
added_in [] s = []
added_in (move ∷ moves) s = added move s ++ added_in moves (after move s)

after_adds : (move : Move) (s : SessionState) → (after move s).records ≡ s.records ++ added move s
unfolding after
after_adds move s = onto-two s.records (records_of (did (deed_of move s).call s.table).output) (deed_of move s).says

pub done_adds : (moves : List Move) (s : SessionState) → (done moves s).records ≡ s.records ++ added_in moves s
done_adds [] s = sym (append-nil s.records)
done_adds (move ∷ moves) s =
    done_adds moves (after move s) ∙ ap (λ (rs : List Record). rs ++ added_in moves (after move s)) (after_adds move s)
    ∙ append_assoc s.records (added move s) (added_in moves (after move s))

pub added_two : (a b : List Move) (s : SessionState) → added_in (a ++ b) s ≡ added_in a s ++ added_in b (done a s)
added_two [] b s = refl
added_two (move ∷ a) b s =
    ap (λ (rs : List Record). added move s ++ rs) (added_two a b (after move s)) ∙ sym (append_assoc (added move s) (added_in a (after move s)) (added_in b (done a (after move s))))

-- what was added is what stands behind the records before
pub added_is : (before after_ more : List Record) → after_ ≡ before ++ more → drop (length before) after_ ≡ more
added_is before after_ more is = ap (drop (length before)) is ∙ drop_at before more (length before) refl

all_two : (P : Record → Type 0) (a b : List Record) → AllByRecursion P a → AllByRecursion P b → AllByRecursion P (a ++ b)
all_two P [] b one other = other
all_two P (output ∷ a) b (holds, one) other = (holds, all_two P a b one other)

-- what holds of the records of each move, while something stays true, holds of those of all
pub all_added : (P : Record → Type 0) (Q : SessionState → Type 0) (event : Event) →
    ((move : Move) (s : SessionState) → StepFits event move → Q s → AllByRecursion P (records_of (did (deed_of move s).call s.table).output) × AllByRecursion P (deed_of move s).says × Q (after move s)) →
    (moves : List Move) (s : SessionState) → AllFit event moves → Q s → AllByRecursion P (added_in moves s)
all_added P Q event each [] s fit holds = tt
all_added P Q event each (move ∷ moves) s (fits, fit) holds =
    let one = each move s fits holds in
    all_two P (added move s) (added_in moves (after move s))
    (all_two P (records_of (did (deed_of move s).call s.table).output) (deed_of move s).says one.0 one.1)
    (all_added P Q event each moves (after move s) fit one.2)
