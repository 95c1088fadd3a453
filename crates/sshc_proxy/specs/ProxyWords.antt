-- The command-line arguments `UPSTREAM POLICY`: how the program ends, by what is said, and its status.
-- One case an ending, over what was there before and afterwards; the code asks the files, the opener and the streams in
-- turn.
use Rattle.std.specs.Prelude.{◌≡◌, ◌⊎◌, ℕ, List, [], ◌∷◌, ◌++◌, Option, Some, None, Result, Ok, Err, codes}
use Rattle.std.specs.Fmt.{decimal}
use Rattle.sshc_wire.specs.declared.files.Found.TheVariants as found
use Rattle.sshc_wire.specs.Contents.{IsFound}
use Rattle.sshc_wire.specs.Faults.{Rose}
use Rattle.sshc_ask.specs.Opens.{and_path}
use Rattle.sshc_proxy.specs.declared.error.ProxyError.{ProxyError}
use Rattle.sshc_proxy.specs.declared.error.ProxyError.TheVariants as errors
use Rattle.sshc_proxy.specs.declared.words.NoPolicy.{NoPolicy}
use Rattle.sshc_proxy.specs.declared.words.NoPolicy.TheVariants as refusals
use Rattle.sshc_proxy.specs.Binding.{Accepts}
use Rattle.sshc_proxy.specs.Frames.{IsWriteFault, IsWritten, Stream}
use Rattle.sshc_proxy.specs.Policy.{Rule, bad_line, rules}
use Rattle.sshc_proxy.specs.ProxyRun.{Relays, Terms, streams, terms}

-- ---- the outside

-- paths and bytes, where they are known
abbrev pub Held : Type 0
Held = Option (List (List ℕ × List ℕ))

-- what contracts see of an opener: the paths that it was asked to open, and how many failed
pub record Opened : Type 0 where
  pub paths : Option (List (List ℕ))
  pub missing : ℕ
  pub failures : ℕ

abbrev pub opened : Option (List (List ℕ)) → ℕ → ℕ → Opened
opened paths missing failures = record { paths = paths; missing = missing; failures = failures }

-- the files, how many reads of them failed, the opener and the client's stream
pub record Outside : Type 0 where
  pub files : Held
  pub reads : ℕ
  pub opener : Opened
  pub client : Stream

abbrev pub outside : Held → ℕ → Opened → Stream → Outside
outside files reads opener client = record { files = files; reads = reads; opener = opener; client = client }

-- ---- the policy

-- the file of this path was opened and has this text
abbrev pub IsText : Held → List ℕ → List ℕ → Type 0
IsText files path text = IsFound files path (found.Text text)

-- it wasn't opened, isn't text, or a failed read was counted
abbrev pub IsUnread : Held → List ℕ → ℕ → ℕ → Type 0
IsUnread files path reads reads' = Rose reads reads' ⊎ (IsFound files path found.NotOpened ⊎ IsFound files path found.NotText)

-- the policy in a file, or why there is none
abbrev pub IsPolicyAt : Held → List ℕ → ℕ → ℕ → Result (List Rule) NoPolicy → Type 0
IsPolicyAt files path reads reads' (Ok policy) = (text : List ℕ) × IsText files path text × (bad_line text ≡ None) × (policy ≡ rules text)
IsPolicyAt files path reads reads' (Err (refusals.BadLine line)) = (text : List ℕ) × IsText files path text × (bad_line text ≡ Some line)
IsPolicyAt files path reads reads' (Err refusals.Unread) = IsUnread files path reads reads'
IsPolicyAt files path reads reads' (Err refusals.NoMemory) = Unit {0}

-- ---- statuses and lines

abbrev pub run_status : Result (Unit {0}) ProxyError → ℕ
run_status (Ok u) = 0
run_status (Err errors.NoMemory) = 20
run_status (Err errors.ClientFault) = 21
run_status (Err errors.AgentFault) = 22
run_status (Err errors.TooLong) = 24
run_status (Err errors.UnexpectedEnd) = 25

abbrev pub words_line : List ℕ
words_line = codes "error words\n"

abbrev pub policy_line : ℕ → List ℕ
policy_line line = codes "error policy " ++ decimal line ++ codes "\n"

-- the line was written and the status is its own; or a front of it was, and the status is 21 where the write failed, else 20
abbrev pub Says : List ℕ → ℕ → Stream → Stream → ℕ → Type 0
Says line own before after status =
    ((status ≡ own) × IsWritten line before after)
    ⊎ ((front : List ℕ) × (rest : List ℕ) × (line ≡ front ++ rest) × (((status ≡ 21) × IsWriteFault front before after) ⊎ ((status ≡ 20) × IsWritten front before after)))

-- ---- serving

-- how serving ends, with this policy and the agent at this path, which is opened once
pub data Serving (terms : Terms) (upstream : List ℕ) (opener opener' : Opened) (client client' : Stream) (status : ℕ) : Type 0 where
  -- a run between the client and the stream that was opened
  served : (agent agent' : Stream) → (result : Result (Unit {0}) ProxyError) → Relays terms (streams client agent) (streams client' agent') result → status ≡ run_status result
      → opener'.paths ≡ and_path opener.paths upstream → Serving terms upstream opener opener' client client' status
  -- the opener failed
  unopened : status ≡ 22 → Rose opener.missing opener'.missing ⊎ Rose opener.failures opener'.failures → client' ≡ client
      → opener'.paths ≡ and_path opener.paths upstream → Serving terms upstream opener opener' client client' status
  -- memory ran out before
  starved : status ≡ 20 → client' ≡ client → opener'.paths ≡ and_path opener.paths upstream → Serving terms upstream opener opener' client client' status

-- ---- the arguments

-- there are two
abbrev pub AreTwo : List (List ℕ) → Type 0
AreTwo words = (upstream : List ℕ) × (path : List ℕ) × (words ≡ upstream ∷ path ∷ [])

-- how the program ends with these two arguments
pub data Proxying (accepts : Accepts) (upstream path : List ℕ) (before after : Outside) (status : ℕ) : Type 0 where
  -- no policy could be read
  unread : status ≡ 3 → IsUnread before.files path before.reads after.reads → after.client ≡ before.client → after.opener ≡ before.opener → Proxying accepts upstream path before after status
  -- this line of the policy is the first bad one
  bad_policy : (text : List ℕ) → (line : ℕ) → IsText before.files path text → bad_line text ≡ Some line → Says (policy_line line) 5 before.client after.client status → after.opener ≡ before.opener
      → Proxying accepts upstream path before after status
  -- the policy has the rules of this text
  serving : (text : List ℕ) → IsText before.files path text → bad_line text ≡ None
      → Serving (terms accepts (rules text)) upstream before.opener after.opener before.client after.client status → Proxying accepts upstream path before after status
  -- memory ran out before
  out_of_memory : status ≡ 20 → after.client ≡ before.client → after.opener ≡ before.opener → Proxying accepts upstream path before after status

-- how the program ends: `error words` exactly where there aren't two arguments
pub data ProxyEnds (accepts : Accepts) (words : List (List ℕ)) (before after : Outside) (status : ℕ) : Type 0 where
  wrong_words : (AreTwo words → ⊥) → Says words_line 2 before.client after.client status → after.opener ≡ before.opener → ProxyEnds accepts words before after status
  two_words : (upstream path : List ℕ) → words ≡ upstream ∷ path ∷ [] → Proxying accepts upstream path before after status → ProxyEnds accepts words before after status
