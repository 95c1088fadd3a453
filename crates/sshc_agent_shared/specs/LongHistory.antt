-- What happens to an agent that lasts, over all its generations: calls, and seams at which connections that ended are
-- forgotten. The laws of the lock and of signatures (draft-miller-ssh-agent, sections 3.6 and 3.7) hold across seams.
-- They hold for any split of what happened. The code keeps the calls of one generation alone.
use Rattle.std.specs.Prelude.{◌≡◌, ℕ, Bool, List, [], ◌∷◌, ◌++◌, map, Option, Some, None}
use Rattle.sshc_agent_core.specs.declared.entry.Entry.{Entry}
use Rattle.sshc_agent_core.specs.AgentHistory.{IsEntry, IsLockedOutput, Unlocks, success}
use Rattle.sshc_agent_core.specs.AgentList.{AgentList, aged, empty_list}
use Rattle.sshc_agent_core.specs.LockLaw.{Locks}
use Rattle.sshc_agent_core.specs.SignedEntries.{IsSignedBy}
use Rattle.sshc_agent_shared.specs.Generations.{LeadOn, Past, PastState, forgotten_all}
use Rattle.sshc_agent_shared.specs.Kept.{IsHistoryFrom}

pub data Happening : Type 0 where
  called : Entry → Happening
  -- a generation is closed, and these connections are forgotten
  seam : List ℕ → Happening

-- the calls and the seams of generations, and then the calls of the last one
abbrev pub happenings : List Past → List Entry → List Happening
happenings [] entries = map called entries
happenings (past ∷ more) entries = map called past.entries ++ (seam past.gone ∷ happenings more entries)

-- they lead from one agent state to another
abbrev pub LeadsAlong : AgentList → List Happening → AgentList → Type 0
LeadsAlong before [] after = before ≡ after
LeadsAlong before (called e ∷ more) after = (mid : AgentList) × IsEntry before e mid × LeadsAlong mid more after
LeadsAlong before (seam gone ∷ more) after = LeadsAlong (forgotten_all gone before) more after

-- ---- the lock

-- no call acknowledges an unlock with this passphrase
abbrev pub NoneUnlocksAlong : List ℕ → (before : AgentList) (hs : List Happening) (after : AgentList) → LeadsAlong before hs after → Type 0
NoneUnlocksAlong p before [] after leads = Unit {0}
NoneUnlocksAlong p before (called e ∷ more) after (mid, is, leads) = (Unlocks p before e → ⊥) × NoneUnlocksAlong p mid more after leads
NoneUnlocksAlong p before (seam gone ∷ more) after leads = NoneUnlocksAlong p (forgotten_all gone before) more after leads

-- no call has a signature, lists the keys or is acknowledged
abbrev pub AllLockedOut : List Happening → Type 0
AllLockedOut [] = Unit {0}
AllLockedOut (called e ∷ more) = (e.signature ≡ None) × IsLockedOutput e.output × AllLockedOut more
AllLockedOut (seam gone ∷ more) = AllLockedOut more

-- the agent's state if only time passes
abbrev pub aged_over : List Happening → AgentList → AgentList
aged_over [] l = l
aged_over (called e ∷ more) l = aged_over more (aged e.moment l)
aged_over (seam gone ∷ more) l = aged_over more l

-- after each acknowledged lock, as long as no unlock with its passphrase is acknowledged: the agent stays locked, keys
-- change only by expiring, and no call has a signature, lists the keys or is acknowledged
abbrev pub LocksHoldAlong : List Happening → Type 0
LocksHoldAlong history =
    (asks : Bool) (p : List ℕ) (before locked after : AgentList) (earlier between later : List Happening) (e : Entry)
    → history ≡ earlier ++ (called e ∷ (between ++ later))
    → LeadsAlong (empty_list asks) earlier before → IsEntry before e locked → Locks p before e
    → (leads : LeadsAlong locked between after) → NoneUnlocksAlong p locked between after leads
    → (after.passphrase ≡ Some p) × (after.keys ≡ (aged_over between locked).keys) × AllLockedOut between

-- ---- signatures

-- each call that has a signature may have it
abbrev pub SignaturesArePermittedAlong : List Happening → Type 0
SignaturesArePermittedAlong history =
    (asks : Bool) (before after : AgentList) (earlier later : List Happening) (e : Entry) (signature : List ℕ)
    → history ≡ earlier ++ (called e ∷ later) → LeadsAlong (empty_list asks) earlier before → IsEntry before e after → e.signature ≡ Some signature
    → IsSignedBy before e signature

-- ---- all generations

-- this generation is the last of an agent that began with nothing; the laws hold over all that happened to the agent
pub record IsLastOf (asks : Bool) (past : PastState) : Type 0 where
  pub earlier : List Past
  pub reached : LeadOn (empty_list asks) earlier past.start
  pub legal : IsHistoryFrom past.start past.entries past.last
  pub leads : LeadsAlong (empty_list asks) (happenings earlier past.entries) past.last
  pub locks : LocksHoldAlong (happenings earlier past.entries)
  pub signed : SignaturesArePermittedAlong (happenings earlier past.entries)
