-- The `hosts` command-line arguments: `hosts check HOST PORT KNOWN KEY`, `hosts keys HOST PORT KNOWN`, `hosts learn
-- HOST PORT KNOWN KEY`.
-- One equation on the list of arguments; the code goes through them one by one.
use Rattle.std.specs.Prelude.{◌≡◌, ℕ, List, [], ◌∷◌, codes}
use Rattle.sshc_hosts_words.specs.Port.{IsPort}
use Rattle.sshc_hosts_words.specs.declared.asked.KnownAt.{KnownAt}
use Rattle.sshc_hosts_words.specs.declared.asked.HostsWords.{HostsWords}
use Rattle.sshc_hosts_words.specs.declared.asked.HostsWords.TheVariants as code

-- a host at a port, and the path of a known hosts file
pub record Place : Type 0 where
  pub host : List ℕ
  pub port : ℕ
  pub path : List ℕ

-- the request, with the argument KEY
pub data Asked : Type 0 where
  check : Place → List ℕ → Asked
  keys : Place → Asked
  learn : Place → List ℕ → Asked

-- the second argument
abbrev pub verb_of : Asked → List ℕ
verb_of (check at key) = codes "check"
verb_of (keys at) = codes "keys"
verb_of (learn at key) = codes "learn"

-- the place that HOST, PORT and KNOWN name
abbrev pub place_of : Asked → Place
place_of (check at key) = at
place_of (keys at) = at
place_of (learn at key) = at

-- the arguments after KNOWN
abbrev pub last_words : Asked → List (List ℕ)
last_words (check at key) = key ∷ []
last_words (keys at) = []
last_words (learn at key) = key ∷ []

-- the arguments make this request
abbrev pub Asks : List (List ℕ) → Asked → Type 0
Asks words asked =
    (port : List ℕ) × (words ≡ codes "hosts" ∷ verb_of asked ∷ (place_of asked).host ∷ port ∷ (place_of asked).path ∷ last_words asked)
    × IsPort port (place_of asked).port

-- ---- what values of the code's types represent

abbrev pub place : KnownAt → Place
place at = record { host = at.host.now; port = at.port; path = at.path.now }

abbrev pub asked_by : HostsWords → Asked
asked_by (code.Check at key) = check (place at) key.now
asked_by (code.Keys at) = keys (place at)
asked_by (code.Learn at key) = learn (place at) key.now

-- the second argument, the place and the arguments after KNOWN are those of the request
abbrev pub HasParts : List ℕ → Place → List (List ℕ) → Asked → Type 0
HasParts verb at last asked = (verb ≡ verb_of asked) × (at ≡ place_of asked) × (last ≡ last_words asked)
