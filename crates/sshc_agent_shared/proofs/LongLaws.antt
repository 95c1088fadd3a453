-- The laws of the lock and of signatures over all generations of an agent: by induction over what happened, of which each
-- call is a step, and each seam keeps keys, clock and lock.
use Rattle.std.proofs.Common.{◌≡◌, ℕ, max, Bool, List, [], ◌∷◌, ◌++◌, map, Some, refl, sym, ap, subst, ◌∙◌}
use Rattle.sshc_agent_core.specs.declared.entry.Entry.{Entry}
use Rattle.sshc_agent_core.specs.AgentHistory.{Leads}
use Rattle.sshc_agent_core.specs.AgentList.{AgentList, aged, empty_list}
use Rattle.sshc_agent_core.specs.KeyList.{unexpired}
use Rattle.sshc_agent_shared.specs.Generations.{CarriesOn, IsReached, LeadOn, Past, PastState, forgotten_all}
use Rattle.sshc_agent_shared.specs.Kept.{IsHistoryFrom}
use Rattle.sshc_agent_shared.specs.LongHistory.{AllLockedOut, Happening, IsLastOf, LeadsAlong, LocksHoldAlong, NoneUnlocksAlong, SignaturesArePermittedAlong, aged_over, happenings}
use Rattle.sshc_agent_shared.specs.LongHistory.Happening.{called, seam}
use Rattle.sshc_agent_shared.proofs.LockSteps.{entry_locked, entry_locks, entry_signed}
use Rattle.sshc_agent_shared.proofs.Seams.{carries_on}

-- ---- the lock

-- the effect of time on keys depends only on them and on the greatest moment
aged_alike : (hs : List Happening) (a b : AgentList) → a.keys ≡ b.keys → a.latest ≡ b.latest → (aged_over hs a).keys ≡ (aged_over hs b).keys
aged_alike [] a b keys latest = keys
aged_alike (called e ∷ hs) a b keys latest =
    let late : max a.latest e.moment ≡ max b.latest e.moment = ap (λ (n : ℕ). max n e.moment) latest in
    aged_alike hs (aged e.moment a) (aged e.moment b)
    (ap (λ (n : ℕ). unexpired n a.keys) late ∙ ap (unexpired (max b.latest e.moment)) keys) late
aged_alike (seam gone ∷ hs) a b keys latest = aged_alike hs a b keys latest

-- a lock holds until it is taken off with its passphrase, whatever seams there are
lock_holds : (p : List ℕ) (before : AgentList) (hs : List Happening) (after : AgentList) (leads : LeadsAlong before hs after) → before.passphrase ≡ Some p → NoneUnlocksAlong p before hs after leads
    → (after.passphrase ≡ Some p) × (after.keys ≡ (aged_over hs before).keys) × AllLockedOut hs
lock_holds p before [] after leads is none = (ap (λ (l : AgentList). l.passphrase) (sym leads) ∙ is, ap (λ (l : AgentList). l.keys) (sym leads), tt)
lock_holds p before (called e ∷ hs) after (mid, entry, leads) is none =
    let one = entry_locked p before mid e entry is none.0 in
    let rest = lock_holds p mid hs after leads one.passphrase none.1 in
    (rest.0, rest.1 ∙ aged_alike hs mid (aged e.moment before) one.keys one.latest, (one.unsigned, one.quiet, rest.2))
lock_holds p before (seam gone ∷ hs) after leads is none =
    let on : CarriesOn gone before (forgotten_all gone before) = carries_on gone before in
    let rest = lock_holds p (forgotten_all gone before) hs after leads (on.passphrase ∙ is) none in
    (rest.0, rest.1 ∙ aged_alike hs (forgotten_all gone before) before on.keys on.latest, rest.2)

-- locks hold over all that happens to an agent
locks_hold_along : (history : List Happening) → LocksHoldAlong history
locks_hold_along history asking p before locked after earlier between later e cut leads is locks more none =
    lock_holds p locked between after more (entry_locks p before locked e is locks) none

-- so are signatures permitted
signatures_permitted_along : (history : List Happening) → SignaturesArePermittedAlong history
signatures_permitted_along history asks before after earlier later e signature cut leads is some = entry_signed before after e signature is some

-- ---- all generations

-- what happens first, and then more
along_more : (hs more : List Happening) (before mid after : AgentList) → LeadsAlong before hs mid → LeadsAlong mid more after → LeadsAlong before (hs ++ more) after
along_more [] more before mid after is on = subst (λ (l : AgentList). LeadsAlong l more after) (sym is) on
along_more (called e ∷ hs) more before mid after (first, entry, leads) on = (first, entry, along_more hs more first mid after leads on)
along_more (seam gone ∷ hs) more before mid after leads on = along_more hs more (forgotten_all gone before) mid after leads on

-- the entries of one generation
along_calls : (entries : List Entry) (before after : AgentList) → Leads before entries after → LeadsAlong before (map called entries) after
along_calls [] before after is = is
along_calls (e ∷ entries) before after (mid, entry, leads) = (mid, entry, along_calls entries mid after leads)

along_all : (pasts : List Past) (entries : List Entry) (before start after : AgentList) → LeadOn before pasts start → Leads start entries after → LeadsAlong before (happenings pasts entries) after
along_all [] entries before start after is leads = along_calls entries before after (subst (λ (l : AgentList). Leads l entries after) (sym is) leads)
along_all (past ∷ more) entries before start after (mid, first, numbers, on) leads =
    along_more (map called past.entries) (seam past.gone ∷ happenings more entries) before mid after (along_calls past.entries before mid first)
    (along_all more entries (forgotten_all past.gone mid) start after on leads)

-- the last generation of an agent to whose begin generations lead
pub last_of : (asks : Bool) (past : PastState) → IsReached asks past.start → IsHistoryFrom past.start past.entries past.last → IsLastOf asks past
last_of asks past is legal =
    record {
      earlier = is.past;
      reached = is.leads;
      legal = legal;
      leads = along_all is.past past.entries (empty_list asks) past.start past.last is.leads legal.leads;
      locks = locks_hold_along (happenings is.past past.entries);
      signed = signatures_permitted_along (happenings is.past past.entries);
    }
