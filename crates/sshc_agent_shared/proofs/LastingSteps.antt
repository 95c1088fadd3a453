-- What a call of an agent that lasts does to the lock and with the signer, where a seam comes before it or none does.
use Rattle.std.proofs.Common.{◌≡◌, ℕ, ◌+◌, ◌<◌, ◌≤◌, List, ◌∷◌, Option, Some, None, Result, Ok, Err, IfOk, OnErr, [], ◌++◌, slice_index_or, slice_set, remove, refl, sym, ap, subst, ◌∙◌, arith}
use Rattle.std.proofs.lemmas.List.{set-get_or}
use Rattle.std.proofs.lemmas.Option.{get_or_from_slice_get}
use Rattle.sshc_key.specs.Signers.{SignCall}
use Rattle.sshc_agent_core.specs.declared.input.AgentInput.{AgentInput}
use Rattle.sshc_agent_core.specs.declared.input.AgentOutput.{AgentOutput}
use Rattle.sshc_agent_core.specs.AgentList.{AgentList}
use Rattle.sshc_agent_core.specs.AgentTable.{Steps}
use Rattle.sshc_agent_core.specs.StepLaws.{step_locked, step_permits}
use Rattle.sshc_agent_shared.specs.declared.error.CallRefused.{CallRefused}
use Rattle.sshc_agent_shared.specs.declared.error.CallRefused.TheVariants.{JournalFull}
use Rattle.sshc_agent_shared.specs.declared.error.CloseError.{CloseError}
use Rattle.sshc_agent_shared.specs.declared.error.LastingRefused.{LastingRefused}
use Rattle.sshc_agent_shared.specs.declared.error.LastingRefused.TheVariants.{Call}
use Rattle.sshc_agent_shared.specs.Calls.{entry_weight}
use Rattle.sshc_agent_shared.specs.Generations.{LastingView, PastState}
use Rattle.sshc_agent_shared.specs.Kept.{Adds, GenerationState, SeatState, weight_of}
use Rattle.sshc_agent_shared.specs.Lasting.{Called, HasRoom, HasSeat, IsPermittedOn, KeepsKeysAndLock, KeepsLockOn, Leaves, MakesRoom, RefusesSeat, Takes}

-- a seat is refused where the journal is full
pub seat_refused : (s : LastingView) (g : GenerationState) (e : CallRefused) → g ≡ s.generation → (e ≡ JournalFull) × (g.of.limit < weight_of g.of + 64) → RefusesSeat s (Call e)
seat_refused s g e same (is, full) =
    let past : s.generation.of.limit < weight_of s.generation.of + 64 = subst (λ (x : GenerationState). x.of.limit < weight_of x.of + 64) same full in
    subst (λ (r : CallRefused). RefusesSeat s (Call r)) (sym is) (λ room. omega (arith, past, room))

-- a seat that is removed, and put behind the ended ones
pub leaves_by : (old : LastingView) (g : GenerationState) (live live' ended ended' : List SeatState) (conn at : ℕ) (seat : SeatState)
    → record { generation = g; live = live; ended = ended } ≡ old → HasSeat live conn at → seat ≡ slice_index_or live at seat
    → live' ≡ remove live at → ended' ≡ ended ++ seat ∷ [] → Leaves old (record { generation = g; live = live'; ended = ended' }) conn
leaves_by old g live live' ended ended' conn at seat is has taken left behind =
    let same : has.seat ≡ seat = sym (get_or_from_slice_get live at has.seat seat has.there) ∙ sym taken in
    subst (λ (s : LastingView). Leaves s (record { generation = g; live = live'; ended = ended' }) conn) is
    (record {
      at = at;
      seat = seat;
      there = has.there ∙ ap Some same;
      whose = ap (λ (x : SeatState). x.conn) (sym same) ∙ has.whose;
      generation = refl;
      live = left;
      ended = behind;
    })

-- the seat at this place is the connection's
pub seat_whose : (live : List SeatState) (conn at : ℕ) (seat : SeatState) → HasSeat live conn at → seat ≡ slice_index_or live at seat → seat.conn ≡ conn
seat_whose live conn at seat has found = ap (λ (x : SeatState). x.conn) (found ∙ get_or_from_slice_get live at has.seat seat has.there) ∙ has.whose

-- a call of the seat at this place
pub called_by : (old : LastingView) (g g' : GenerationState) (live ended : List SeatState) (conn at now : ℕ) (input : AgentInput) (gained : List SignCall) (seat seat' : SeatState) (r : Result AgentOutput LastingRefused)
    → record { generation = g; live = live; ended = ended } ≡ old → HasSeat live conn at → seat ≡ slice_index_or live at seat
    → IfOk r (λ out. Adds g.of g'.of seat seat' now input gained out) → (g'.start ≡ g.start) × (g'.last ≡ g.last) → OnErr r ((g' ≡ g) × (seat' ≡ seat))
    → Called old (record { generation = g'; live = slice_set live at seat'; ended = ended }) conn now input gained r
called_by old g g' live ended conn at now input gained seat seat' (Ok output) is has found adds start same =
    let one : has.seat ≡ seat = sym (get_or_from_slice_get live at has.seat seat has.there) ∙ sym found in
    subst (λ (s : LastingView). Takes s (record { generation = g'; live = slice_set live at seat'; ended = ended }) conn now input gained output) is
    (record {
      at = at;
      before = seat;
      after = seat';
      there = has.there ∙ ap Some one;
      whose = ap (λ (x : SeatState). x.conn) (sym one) ∙ has.whose;
      adds = adds;
      live = refl;
      ended = refl;
      start = start.0;
      last = start.1;
    })
called_by old g g' live ended conn at now input gained seat seat' (Err e) is has found adds start same =
    let kept : slice_set live at seat' ≡ live = ap (λ (x : SeatState). slice_set live at x) (same.1 ∙ found) ∙ set-get_or live at seat in
    (λ i. record { generation = same.0 i; live = kept i; ended = ended }) ∙ is

-- a seam keeps keys, clock and lock
room_keeps : (limit heavy : ℕ) (old mid : LastingView) (seam : Option (Result PastState CloseError)) → MakesRoom limit heavy old mid seam
    → KeepsKeysAndLock old.generation.of.list mid.generation.of.list
room_keeps limit heavy old mid None (room, is) =
    let same : mid.generation.of.list ≡ old.generation.of.list = ap (λ (s : LastingView). s.generation.of.list) is in
    record { latest = ap (λ (l : AgentList). l.latest) same; keys = ap (λ (l : AgentList). l.keys) same; passphrase = ap (λ (l : AgentList). l.passphrase) same }
room_keeps limit heavy old mid (Some (Ok past)) (full, is) = record { latest = is.carries.latest; keys = is.carries.keys; passphrase = is.carries.passphrase }
room_keeps limit heavy old mid (Some (Err why)) (full, kept) =
    let same : mid.generation.of.list ≡ old.generation.of.list = ap (λ (s : LastingView). s.generation.of.list) kept.0 in
    record { latest = ap (λ (l : AgentList). l.latest) same; keys = ap (λ (l : AgentList). l.keys) same; passphrase = ap (λ (l : AgentList). l.passphrase) same }

-- the step of a call, which is the connection's
takes_step : (old new : LastingView) (conn now : ℕ) (input : AgentInput) (gained : List SignCall) (output : AgentOutput) → Takes old new conn now input gained output
    → Steps now conn input old.generation.of.list new.generation.of.list gained output
takes_step old new conn now input gained output t =
    subst (λ (c : ℕ). Steps now c input old.generation.of.list new.generation.of.list gained output) t.whose t.adds.step

module _ (limit conn now : ℕ) (old mid new : LastingView) (input : AgentInput) (gained : List SignCall) (seam : Option (Result PastState CloseError)) where
  pub takes_locked : (r : Result AgentOutput LastingRefused) → MakesRoom limit (entry_weight input) old mid seam → Called mid new conn now input gained r
      → IfOk r (λ out. (p : List ℕ) → old.generation.of.list.passphrase ≡ Some p → KeepsLockOn p now conn input old.generation.of.list new.generation.of.list gained out)
  takes_locked (Err e) room called = tt
  takes_locked (Ok output) room called = λ p lock.
      let keeps = room_keeps limit (entry_weight input) old mid seam room in
      let step = takes_step mid new conn now input gained output called in
      record {
        mid = mid.generation.of.list;
        keeps = keeps;
        lock = step_locked p now conn input mid.generation.of.list new.generation.of.list gained output step (keeps.passphrase ∙ lock);
      }

  pub takes_signed : (r : Result AgentOutput LastingRefused) → MakesRoom limit (entry_weight input) old mid seam → Called mid new conn now input gained r
      → IfOk r (λ out. (call : SignCall) (calls : List SignCall) → gained ≡ call ∷ calls → IsPermittedOn now conn input old.generation.of.list call.by call.key)
  takes_signed (Err e) room called = tt
  takes_signed (Ok output) room called = λ call calls some.
      let step = takes_step mid new conn now input gained output called in
      record {
        mid = mid.generation.of.list;
        keeps = room_keeps limit (entry_weight input) old mid seam room;
        permitted = step_permits now conn input mid.generation.of.list new.generation.of.list gained output call calls step some;
      }
