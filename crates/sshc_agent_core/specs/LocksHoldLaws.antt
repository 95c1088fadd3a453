-- In every history of an agent its locks hold (LockLaw): an acknowledged lock is set, by cases on what its step did.
use Rattle.std.proofs.Common.{◌≡◌, ℕ, Bool, List, [], ◌∷◌, drop, Option, Some, None, Result, Ok, Err, refl, sym, ap, subst, ◌∙◌, arith}
use Rattle.sshc_wire.specs.declared.error.WireError.{WireError}
use Rattle.sshc_wire.specs.Reads.{string_at}
use Rattle.sshc_wire.specs.Wire.{string_text}
use Rattle.sshc_agent_core.specs.declared.entry.Entry.{Entry}
use Rattle.sshc_agent_core.specs.declared.input.AgentOutput.{AgentOutput}
use Rattle.sshc_agent_core.specs.declared.input.AgentOutput.TheVariants as outputs
use Rattle.sshc_agent_core.specs.AgentHistory.{IsEntry, IsUnlock, request_of, stands_in, success}
use Rattle.sshc_agent_core.specs.AgentList.{AgentList}
use Rattle.sshc_agent_core.specs.KeyList.{listing}
use Rattle.sshc_agent_core.specs.LockLaw.{IsLock, IsLockRequest, Locks, LocksHold}
use Rattle.sshc_agent_core.specs.LockLaws.{lock_holds}
use Rattle.sshc_agent_core.specs.ShapeLaws.{shown_step, step_does}
use Rattle.sshc_agent_core.specs.StepLaws.{behind_length}
use Rattle.sshc_agent_core.specs.StepShape.{Changes, IsEnd, Made, Says, StepDoes, begun}
use Rattle.sshc_agent_core.specs.Turn.{frame}

-- ---- answers that acknowledge nothing

abbrev body_of : AgentOutput → List ℕ
body_of (outputs.Answer frame) = drop 4 frame
body_of output = []

other_frame : (a b : List ℕ) → outputs.Answer (string_text a) ≡ outputs.Answer (string_text b) → a ≡ b
other_frame a b e = sym (behind_length a) ∙ (ap body_of e ∙ behind_length b)

heads : (a b : ℕ) (xs ys : List ℕ) → a ∷ xs ≡ b ∷ ys → a ≡ b
heads a b xs ys e = cc

-- a frame that begins with another number
unacknowledged : (output : AgentOutput) (number : ℕ) (body : List ℕ) → output ≡ frame (number ∷ body) → (number ≡ 6 → ⊥) → output ≡ success → ⊥
unacknowledged output number body is other acknowledged =
    let same : number ∷ body ≡ 6 ∷ [] = other_frame (number ∷ body) (6 ∷ []) (sym is ∙ acknowledged) in
    other (heads number 6 body [] same)

ended : (output : AgentOutput) → IsEnd output → output ≡ success → ⊥
ended output ends acknowledged = subst IsEnd acknowledged ends

-- ---- a lock request

abbrev word_in : Result (List ℕ × List ℕ) WireError → List ℕ
word_in (Err e) = []
word_in (Ok x) = x.0

tails : (a b : ℕ) (xs ys : List ℕ) → a ∷ xs ≡ b ∷ ys → xs ≡ ys
tails a b xs ys e = cc

-- one request has one passphrase
same_word : (p q whole : List ℕ) → IsLock p whole → IsLock q whole → q ≡ p
same_word p q whole one other =
    let bodies : one.body ≡ other.body = tails 22 22 one.body other.body (sym one.number ∙ other.number) in
    ap word_in (sym other.passphrase ∙ (ap string_at (sym bodies) ∙ one.passphrase))

-- and is no unlock
no_unlock : (p q whole : List ℕ) → IsLock p whole → IsUnlock q whole → ⊥
no_unlock p q whole lock unlock = let clash : 22 ≡ 23 = heads 22 23 lock.body unlock.body (sym lock.number ∙ unlock.number) in omega (arith, clash)

change_sets : (p : List ℕ) (l : AgentList) (whole : List ℕ) (next : AgentList) → IsLock p whole → Changes l whole next → next.passphrase ≡ Some p
change_sets p l whole next lock (Changes.keyed keys unlocked other is) = absurd (other p lock)
change_sets p l whole next lock (Changes.locks word unlocked asked is) = ap (λ (x : AgentList). x.passphrase) is ∙ ap Some (same_word p word whole lock asked)
change_sets p l whole next lock (Changes.unlocks word own asked is) = absurd (no_unlock p word whole lock asked)

says_sets : (p : List ℕ) (l : AgentList) (whole : List ℕ) (next : AgentList) (output : AgentOutput) → IsLock p whole → Says l whole next output → output ≡ success → next.passphrase ≡ Some p
says_sets p l whole next output lock (Says.fails is said) acknowledged = absurd (unacknowledged output 5 [] said (λ e. omega (arith, e)) acknowledged)
says_sets p l whole next output lock (Says.lists unlocked is said) acknowledged = absurd (unacknowledged output 12 _ said (λ e. omega (arith, e)) acknowledged)
says_sets p l whole next output lock (Says.closes is said) acknowledged = let clash = sym said ∙ acknowledged in absurd cc
says_sets p l whole next output lock (Says.asks_request message is said) acknowledged = let clash = sym said ∙ acknowledged in absurd cc
says_sets p l whole next output lock (Says.asks_key blob key unlocked there is said) acknowledged = let clash = sym said ∙ acknowledged in absurd cc
says_sets p l whole next output lock (Says.changes change said) acknowledged = change_sets p l whole next lock change

module _ (p : List ℕ) (before after : AgentList) (e : Entry) where
  made_locks : (gained : _) → Made e.moment e.conn e.input before after gained e.output → Locks p before e → after.passphrase ≡ Some p
  made_locks gained (Made.passed none is said) (asked, acknowledged) = let clash = sym said ∙ acknowledged in absurd cc
  made_locks gained (Made.ended none is ends) (asked, acknowledged) = absurd (ended e.output ends acknowledged)
  made_locks gained (Made.answered none whole next stands request says is) (asked, acknowledged) =
      ap (λ (l : AgentList). l.passphrase) is
      ∙ says_sets p (begun e.moment e.conn before) whole next e.output (subst (IsLockRequest p) request asked) says acknowledged
  made_locks gained (Made.signed q signature one may is said) (asked, acknowledged) = absurd (unacknowledged e.output 14 _ said (λ x. omega (arith, x)) acknowledged)
  made_locks gained (Made.refused q one may is said) (asked, acknowledged) = let clash = sym said ∙ acknowledged in absurd cc

  does_lock : (gained : _) → StepDoes e.moment e.conn e.input before after gained e.output → Locks p before e → after.passphrase ≡ Some p
  does_lock gained (StepDoes.made made) locks = made_locks gained made locks
  does_lock gained (StepDoes.starves cut is said) (asked, acknowledged) = let clash = sym said ∙ acknowledged in absurd cc

  entry_locks : IsEntry before e after → Locks p before e → after.passphrase ≡ Some p
  entry_locks is locks =
      does_lock is.gained (step_does e.moment e.conn e.input before after is.gained e.output (shown_step e.moment e.conn e.input before after is.gained e.output is.step)) locks

-- locks hold in every history
pub locks_hold : (history : List Entry) → LocksHold history
locks_hold history asking p before locked after earlier between later e cut leads is locks more none = lock_holds p locked between after more (entry_locks p before locked e is locks) none
