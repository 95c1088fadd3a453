-- An acknowledged lock is set, and a signature is permitted, by any agent: as LocksHoldLaws and SignedEntriesLaws of
-- sshc_agent_core say it of a history that begins with nothing.
use Rattle.std.proofs.Common.{◌≡◌, ℕ, max, List, [], ◌∷◌, drop, Option, Some, None, Result, Ok, Err, refl, sym, ap, subst, ◌∙◌, inl, inr, arith}
use Rattle.sshc_wire.specs.declared.error.WireError.{WireError}
use Rattle.sshc_wire.specs.Reads.{string_at}
use Rattle.sshc_wire.specs.Wire.{string_text}
use Rattle.sshc_key.specs.Signers.{SignCall}
use Rattle.sshc_agent_core.specs.declared.entry.Entry.{Entry}
use Rattle.sshc_agent_core.specs.declared.input.AgentOutput.{AgentOutput}
use Rattle.sshc_agent_core.specs.declared.input.AgentOutput.TheVariants as outputs
use Rattle.sshc_agent_core.specs.AgentHistory.{IsEntry, IsLockedOutput, IsUnlock, Unlocks, signature_in, success}
use Rattle.sshc_agent_core.specs.AgentList.{AgentList, aged}
use Rattle.sshc_agent_core.specs.LockLaw.{IsLock, IsLockRequest, Locks}
use Rattle.sshc_agent_core.specs.ShapeLaws.{shown_step, step_does}
use Rattle.sshc_agent_core.specs.SignedEntries.{IsSignedBy}
use Rattle.sshc_agent_core.specs.StepLaws.{behind_length, step_locked, step_permits}
use Rattle.sshc_agent_core.specs.StepShape.{Changes, IsEnd, Made, Says, StepDoes, begun}
use Rattle.sshc_agent_core.specs.Turn.{frame}

-- ---- a locked agent

-- what holds of an entry of a locked agent that it doesn't unlock
pub record Locked (p : List ℕ) (before mid : AgentList) (e : Entry) : Type 0 where
  pub passphrase : mid.passphrase ≡ Some p
  pub keys : mid.keys ≡ (aged e.moment before).keys
  pub latest : mid.latest ≡ (aged e.moment before).latest
  pub unsigned : e.signature ≡ None
  pub quiet : IsLockedOutput e.output

pub entry_locked : (p : List ℕ) (before mid : AgentList) (e : Entry) → IsEntry before e mid → before.passphrase ≡ Some p → (Unlocks p before e → ⊥) → Locked p before mid e
entry_locked p before mid e is lock none =
    let h = step_locked p e.moment e.conn e.input before mid is.gained e.output (shown_step e.moment e.conn e.input before mid is.gained e.output is.step) lock in
    let unsigned : e.signature ≡ None = is.signature ∙ ap signature_in h.unsigned in
    elim h.lock [
      | inl stays ↦ record { passphrase = stays.passphrase; keys = stays.keys; latest = stays.latest; unsigned = unsigned; quiet = stays.quiet }
      | inr off ↦ absurd (none (off.request, off.acknowledged))
    ]

-- ---- an acknowledged lock

abbrev body_of : AgentOutput → List ℕ
body_of (outputs.Answer frame) = drop 4 frame
body_of output = []

heads : (a b : ℕ) (xs ys : List ℕ) → a ∷ xs ≡ b ∷ ys → a ≡ b
heads a b xs ys e = cc

tails : (a b : ℕ) (xs ys : List ℕ) → a ∷ xs ≡ b ∷ ys → xs ≡ ys
tails a b xs ys e = cc

-- a frame that begins with another number acknowledges nothing
unacknowledged : (output : AgentOutput) (number : ℕ) (body : List ℕ) → output ≡ frame (number ∷ body) → (number ≡ 6 → ⊥) → output ≡ success → ⊥
unacknowledged output number body is other acknowledged =
    let same : number ∷ body ≡ 6 ∷ [] = sym (behind_length (number ∷ body)) ∙ (ap body_of (sym is ∙ acknowledged) ∙ behind_length (6 ∷ [])) in
    other (heads number 6 body [] same)

abbrev word_in : Result (List ℕ × List ℕ) WireError → List ℕ
word_in (Err e) = []
word_in (Ok x) = x.0

change_sets : (p : List ℕ) (l : AgentList) (whole : List ℕ) (next : AgentList) → IsLock p whole → Changes l whole next → next.passphrase ≡ Some p
change_sets p l whole next lock (Changes.keyed keys unlocked other is) = absurd (other p lock)
change_sets p l whole next lock (Changes.locks word unlocked asked is) =
    let bodies : lock.body ≡ asked.body = tails 22 22 lock.body asked.body (sym lock.number ∙ asked.number) in
    let same : word ≡ p = ap word_in (sym asked.passphrase ∙ (ap string_at (sym bodies) ∙ lock.passphrase)) in
    ap (λ (x : AgentList). x.passphrase) is ∙ ap Some same
change_sets p l whole next lock (Changes.unlocks word own asked is) =
    let clash : 22 ≡ 23 = heads 22 23 lock.body asked.body (sym lock.number ∙ asked.number) in
    absurd (omega (arith, clash))

says_sets : (p : List ℕ) (l : AgentList) (whole : List ℕ) (next : AgentList) (output : AgentOutput) → IsLock p whole → Says l whole next output → output ≡ success → next.passphrase ≡ Some p
says_sets p l whole next output lock (Says.fails is said) acknowledged = absurd (unacknowledged output 5 [] said (λ e. omega (arith, e)) acknowledged)
says_sets p l whole next output lock (Says.lists unlocked is said) acknowledged = absurd (unacknowledged output 12 _ said (λ e. omega (arith, e)) acknowledged)
says_sets p l whole next output lock (Says.closes is said) acknowledged = let clash = sym said ∙ acknowledged in absurd cc
says_sets p l whole next output lock (Says.asks_request message is said) acknowledged = let clash = sym said ∙ acknowledged in absurd cc
says_sets p l whole next output lock (Says.asks_key blob key unlocked there is said) acknowledged = let clash = sym said ∙ acknowledged in absurd cc
says_sets p l whole next output lock (Says.changes change said) acknowledged = change_sets p l whole next lock change

module _ (p : List ℕ) (before after : AgentList) (e : Entry) where
  made_locks : (gained : List SignCall) → Made e.moment e.conn e.input before after gained e.output → Locks p before e → after.passphrase ≡ Some p
  made_locks gained (Made.passed none is said) (asked, acknowledged) = let clash = sym said ∙ acknowledged in absurd cc
  made_locks gained (Made.ended none is ends) (asked, acknowledged) = absurd (subst IsEnd acknowledged ends)
  made_locks gained (Made.answered none whole next stands request says is) (asked, acknowledged) =
      ap (λ (l : AgentList). l.passphrase) is
      ∙ says_sets p (begun e.moment e.conn before) whole next e.output (subst (IsLockRequest p) request asked) says acknowledged
  made_locks gained (Made.signed q signature one may is said) (asked, acknowledged) = absurd (unacknowledged e.output 14 _ said (λ x. omega (arith, x)) acknowledged)
  made_locks gained (Made.refused q one may is said) (asked, acknowledged) = let clash = sym said ∙ acknowledged in absurd cc

  does_lock : (gained : List SignCall) → StepDoes e.moment e.conn e.input before after gained e.output → Locks p before e → after.passphrase ≡ Some p
  does_lock gained (StepDoes.made made) locks = made_locks gained made locks
  does_lock gained (StepDoes.starves cut is said) (asked, acknowledged) = let clash = sym said ∙ acknowledged in absurd cc

  -- an acknowledged lock is set
  pub entry_locks : IsEntry before e after → Locks p before e → after.passphrase ≡ Some p
  entry_locks is locks =
      does_lock is.gained (step_does e.moment e.conn e.input before after is.gained e.output (shown_step e.moment e.conn e.input before after is.gained e.output is.step)) locks

-- ---- signatures

signed_by : (before after : AgentList) (e : Entry) (gained : List SignCall) (signature : List ℕ) (is : IsEntry before e after) → is.gained ≡ gained → e.signature ≡ Some signature → IsSignedBy before e signature
signed_by before after e [] signature is none some = let clash : signature_in [] ≡ Some signature = sym (is.signature ∙ ap signature_in none) ∙ some in absurd cc
signed_by before after e (call ∷ calls) signature is gained some = record {
  call = call;
  answer = sym (is.signature ∙ ap signature_in gained) ∙ some;
  permitted = step_permits e.moment e.conn e.input before after is.gained e.output call calls (shown_step e.moment e.conn e.input before after is.gained e.output is.step) gained;
}

-- an entry that has a signature may have it
pub entry_signed : (before after : AgentList) (e : Entry) (signature : List ℕ) → IsEntry before e after → e.signature ≡ Some signature → IsSignedBy before e signature
entry_signed before after e signature is some = signed_by before after e is.gained signature is refl some
