-- What a lock means over a whole history (draft-miller-ssh-agent, section 3.7): from its acknowledgement on, until an
-- unlock with its passphrase is acknowledged, nothing is signed, listed or acknowledged.
-- It holds for any split of the history into what came before the lock, the lock, and what came after.
use Rattle.std.specs.Prelude.{◌≡◌, ℕ, Bool, List, ◌∷◌, ◌++◌, Option, Some, None, Ok}
use Rattle.sshc_wire.specs.Reads.{string_at}
use Rattle.sshc_agent_core.specs.declared.entry.Entry.{Entry}
use Rattle.sshc_key.specs.AgentNumbers.{LOCK}
use Rattle.sshc_agent_core.specs.AgentHistory.{AreLockedOut, IsEntry, Leads, NoneUnlocks, aged_along, request_of, stands_in, success}
use Rattle.sshc_agent_core.specs.AgentList.{AgentList, empty_list}

-- a lock with this passphrase
pub record IsLock (p : List ℕ) (request : List ℕ) : Type 0 where
  pub body : List ℕ
  pub rest : List ℕ
  pub number : request ≡ LOCK ∷ body
  pub passphrase : string_at body ≡ Ok (p, rest)

abbrev pub IsLockRequest : List ℕ → Option (List ℕ) → Type 0
IsLockRequest p None = ⊥
IsLockRequest p (Some request) = IsLock p request

-- the entry acknowledges a lock with this passphrase
abbrev pub Locks : List ℕ → AgentList → Entry → Type 0
Locks p before e = IsLockRequest p (request_of (stands_in before e.conn) e.input) × (e.output ≡ success)

-- after each acknowledged lock, as long as no unlock with its passphrase is acknowledged: the agent stays locked, keys
-- change only by expiring, and no entry has a signature, lists the keys or is acknowledged
abbrev pub LocksHold : List Entry → Type 0
LocksHold history =
    (asks : Bool) (p : List ℕ) (before locked after : AgentList) (earlier between later : List Entry) (e : Entry)
    → history ≡ earlier ++ (e ∷ (between ++ later))
    → Leads (empty_list asks) earlier before → IsEntry before e locked → Locks p before e
    → (leads : Leads locked between after) → NoneUnlocks p locked between after leads
    → (after.passphrase ≡ Some p) × (after.keys ≡ (aged_along between locked).keys) × AreLockedOut between
