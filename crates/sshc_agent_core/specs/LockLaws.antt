-- A lock holds until it is taken off with its passphrase: by induction over the entries of a history, each of which is a
-- step.
use Rattle.std.proofs.Common.{◌≡◌, ℕ, max, List, [], ◌∷◌, Option, Some, None, sym, ap, ◌∙◌, inl, inr}
use Rattle.sshc_agent_core.specs.declared.entry.Entry.{Entry}
use Rattle.sshc_agent_core.specs.AgentHistory.{AreLockedOut, IsEntry, IsLockedOutput, IsUnlockRequest, Leads, NoneUnlocks, aged_along, request_of, signature_in, stands_in, success}
use Rattle.sshc_agent_core.specs.AgentList.{AgentList, aged}
use Rattle.sshc_agent_core.specs.KeyList.{unexpired}
use Rattle.sshc_agent_core.specs.ShapeLaws.{shown_step}
use Rattle.sshc_agent_core.specs.StepLaws.{step_locked}

-- what holds of an entry because of its step
pub record Locked (p : List ℕ) (before mid : AgentList) (e : Entry) : Type 0 where
  pub passphrase : mid.passphrase ≡ Some p
  pub keys : mid.keys ≡ (aged e.moment before).keys
  pub latest : mid.latest ≡ (aged e.moment before).latest
  pub unsigned : e.signature ≡ None
  pub quiet : IsLockedOutput e.output

one_locked : (p : List ℕ) (before mid : AgentList) (e : Entry) → IsEntry before e mid → before.passphrase ≡ Some p → (IsUnlockRequest p (request_of (stands_in before e.conn) e.input) × (e.output ≡ success) → ⊥) → Locked p before mid e
one_locked p before mid e is lock none =
    let h = step_locked p e.moment e.conn e.input before mid is.gained e.output (shown_step e.moment e.conn e.input before mid is.gained e.output is.step) lock in
    let unsigned : e.signature ≡ None = is.signature ∙ ap signature_in h.unsigned in
    elim h.lock [
      | inl stays ↦ record { passphrase = stays.passphrase; keys = stays.keys; latest = stays.latest; unsigned = unsigned; quiet = stays.quiet }
      | inr off ↦ absurd (none (off.request, off.acknowledged))
    ]

-- the effect of time on keys depends only on them and on the greatest moment
aged_alike : (entries : List Entry) (a b : AgentList) → a.keys ≡ b.keys → a.latest ≡ b.latest → (aged_along entries a).keys ≡ (aged_along entries b).keys
aged_alike [] a b keys latest = keys
aged_alike (e ∷ entries) a b keys latest =
    let late : max a.latest e.moment ≡ max b.latest e.moment = ap (λ (n : ℕ). max n e.moment) latest in
    aged_alike entries (aged e.moment a) (aged e.moment b)
    (ap (λ (n : ℕ). unexpired n a.keys) late ∙ ap (unexpired (max b.latest e.moment)) keys) late

-- A lock holds until it is taken off with its passphrase: until then no signature, no listing, no acknowledgement, and
-- the remaining keys are exactly those whose deadline is still to come.
pub lock_holds : (p : List ℕ) (before : AgentList) (entries : List Entry) (after : AgentList) (leads : Leads before entries after) → before.passphrase ≡ Some p → NoneUnlocks p before entries after leads
    → (after.passphrase ≡ Some p) × (after.keys ≡ (aged_along entries before).keys) × AreLockedOut entries
lock_holds p before [] after leads is none = (ap (λ (l : AgentList). l.passphrase) (sym leads) ∙ is, ap (λ (l : AgentList). l.keys) (sym leads), tt)
lock_holds p before (e ∷ entries) after (mid, entry, leads) is none =
    let one = one_locked p before mid e entry is none.0 in
    let rest = lock_holds p mid entries after leads one.passphrase none.1 in
    (rest.0, rest.1 ∙ aged_alike entries mid (aged e.moment before) one.keys one.latest, (one.unsigned, one.quiet, rest.2))
