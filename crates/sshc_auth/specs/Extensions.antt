-- Extensions of a server and what they change (RFC 8308, sections 2.3 and 3.1): names that are seen, the signature
-- names of `server-sig-algs`, and who waits for an extension.
-- Extensions are read whole, and then taken in order.
use Rattle.std.specs.Prelude.{ℕ, ◌+◌, Bool, true, false, not, List, [], ◌∷◌, ◌++◌, Option, Some, None, Result, Ok, Err, filter, map, bytes_eq, codes, if◌then◌else◌}
use Rattle.std.specs.Int.{w32}
use Rattle.sshc_wire.specs.Counted.{counted_at}
use Rattle.sshc_wire.specs.Names.{names_at}
use Rattle.sshc_wire.specs.Reads.{Reader, number_at, string_at, text_at}
use Rattle.sshc_wire.specs.declared.error.WireError.{WireError}
use Rattle.sshc_wire.specs.declared.error.WireError.TheVariants.{Short}
use Rattle.sshc_wire.specs.declared.record.Record.{Record}
use Rattle.sshc_wire.specs.declared.resolution.Resolution.TheVariants.{ExtInfoSeen}
use Rattle.sshc_auth.specs.declared.extension.Extension.{Extension}
use Rattle.sshc_auth.specs.declared.opening.Waiter.{Waiter}
use Rattle.sshc_auth.specs.Row.{resolved}
use Rattle.sshc_auth.specs.SignatureNames.{is_signature_name}

-- ---- the packet's parts

-- the value of `server-sig-algs` is a list, of which the known names are kept
abbrev pub listed_as : List ℕ → Result (List (List ℕ) × List ℕ) WireError → Result (Extension × List ℕ) WireError
listed_as name (Ok names) = Ok (record { name = name; sig_algs = Some (filter is_signature_name names.0) }, names.1)
listed_as name (Err e) = Err e

-- the value of any other extension is ignored
abbrev pub valued_as : List ℕ → Result (List ℕ × List ℕ) WireError → Result (Extension × List ℕ) WireError
valued_as name (Ok value) = Ok (record { name = name; sig_algs = None }, value.1)
valued_as name (Err e) = Err e

abbrev pub value_at : Bool → List ℕ → List ℕ → Result (Extension × List ℕ) WireError
value_at true name body = listed_as name (names_at body)
value_at false name body = valued_as name (string_at body)

abbrev pub named_as : Result (List ℕ × List ℕ) WireError → Result (Extension × List ℕ) WireError
named_as (Ok name) = value_at (bytes_eq name.0 (codes "server-sig-algs")) name.0 name.1
named_as (Err e) = Err e

-- an extension: its name, a text, and its value
abbrev pub extension_at : Reader WireError Extension
extension_at body = named_as (text_at body)

-- An extension has two strings, and a string has at least its length, which takes four bytes (RFC 4251, section 5).
abbrev pub least_extension : ℕ
least_extension = 4 + 4

-- their number, and that many extensions; a number that is too large for the remaining bytes is refused at once
unfoldable pub extensions_at : Reader WireError (List Extension)
extensions_at body = counted_at least_extension Short (number_at w32) extension_at body

-- ---- what they change

abbrev pub waits_for : List ℕ → Waiter → Bool
waits_for name waiter = bytes_eq waiter.extension_name name

-- the records that resolve the tickets of those who wait for this name, in their order
abbrev pub answers_seen : List ℕ → List Waiter → List Record
answers_seen name [] = []
answers_seen name (waiter ∷ waiters) = (if waits_for name waiter then resolved waiter.ticket ExtInfoSeen else []) ++ answers_seen name waiters

-- those who wait for another name
abbrev pub others : List ℕ → List Waiter → List Waiter
others name waiters = filter (λ waiter. not (waits_for name waiter)) waiters

-- the answers to those who wait for one of these extensions, extension by extension
abbrev pub answers_to : List Extension → List Waiter → List Record
answers_to [] waiters = []
answers_to (extension ∷ extensions) waiters = answers_seen extension.name waiters ++ answers_to extensions (others extension.name waiters)

-- those who wait for none of these extensions
abbrev pub still_waiting : List Extension → List Waiter → List Waiter
still_waiting [] waiters = waiters
still_waiting (extension ∷ extensions) waiters = still_waiting extensions (others extension.name waiters)

-- a list of signature names takes the place of the one before
abbrev pub newer : Option (List (List ℕ)) → Option (List (List ℕ)) → Option (List (List ℕ))
newer None old = old
newer (Some names) old = Some names

-- the signature names after these extensions
abbrev pub last_listed : List Extension → Option (List (List ℕ)) → Option (List (List ℕ))
last_listed [] old = old
last_listed (extension ∷ extensions) old = last_listed extensions (newer extension.sig_algs old)

abbrev pub names_of : List Extension → List (List ℕ)
names_of extensions = map (λ extension. extension.name) extensions
