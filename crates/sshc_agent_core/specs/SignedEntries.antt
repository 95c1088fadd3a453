-- An entry has a signature only if its step may sign: the agent isn't locked, the request is a sign request, its key is
-- held and hasn't expired, and if the key requires it, the entry is the yes to this connection's own question
-- (draft-miller-ssh-agent, section 3.6).
-- It holds for any split of a history into what came before the entry, the entry, and what came after.
use Rattle.std.proofs.Common.{◌≡◌, ℕ, Bool, List, ◌∷◌, ◌++◌, Some}
use Rattle.sshc_key.specs.Signers.{SignCall}
use Rattle.sshc_agent_core.specs.declared.entry.Entry.{Entry}
use Rattle.sshc_agent_core.specs.AgentHistory.{IsEntry, IsPermitted, Leads}
use Rattle.sshc_agent_core.specs.AgentList.{AgentList, empty_list}

-- the call that returned the signature, which the step permits
pub record IsSignedBy (before : AgentList) (e : Entry) (signature : List ℕ) : Type 0 where
  pub call : SignCall
  pub answer : call.answer ≡ Some signature
  pub permitted : IsPermitted e.moment e.conn e.input before call.by call.key

-- each entry that has a signature may have it
abbrev pub SignaturesArePermitted : List Entry → Type 0
SignaturesArePermitted history =
    (asks : Bool) (before after : AgentList) (earlier later : List Entry) (e : Entry) (signature : List ℕ)
    → history ≡ earlier ++ (e ∷ later) → Leads (empty_list asks) earlier before → IsEntry before e after → e.signature ≡ Some signature
    → IsSignedBy before e signature
