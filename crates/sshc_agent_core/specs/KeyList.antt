-- The keys that an agent holds, in the order in which they were added: plain data. No two keys have the same blob,
-- since a key that is already held keeps its place.
use Rattle.std.specs.Prelude.{ℕ, ◌+◌, ◌*◌, ◌-◌, ◌^◌, ◌≤◌, min, Bool, false, not, nat_le, List, [], ◌∷◌, ◌++◌, length, filter, find, position, slice_set, sum_by, bytes_eq, Option, Some, None, if◌then◌else◌}
use Rattle.std.specs.Option.{is_some}
use Rattle.sshc_wire.specs.Wire.{counted_text, string_text}
use Rattle.sshc_agent_core.specs.declared.key_list.HeldKey.{HeldKey}
use Rattle.sshc_key.specs.AgentNumbers.{IDENTITIES_ANSWER, MAX_AGENT_FRAME_LEN}

abbrev pub is_key : List ℕ → HeldKey → Bool
is_key blob key = bytes_eq key.blob blob

-- the key of this blob
abbrev pub held : List HeldKey → List ℕ → Option HeldKey
held keys blob = find (is_key blob) keys

abbrev pub put_at : Option ℕ → List HeldKey → HeldKey → List HeldKey
put_at None keys key = keys ++ key ∷ []
put_at (Some at) keys key = slice_set keys at key

-- the key replaces the one with its blob, or is appended
abbrev pub with_key : List HeldKey → HeldKey → List HeldKey
with_key keys key = put_at (position (is_key key.blob) keys) keys key

abbrev pub without_key : List HeldKey → List ℕ → List HeldKey
without_key keys blob = filter (λ k. not (is_key blob k)) keys

-- a key without a deadline never expires
abbrev pub is_past : Option ℕ → ℕ → Bool
is_past None now = false
is_past (Some deadline) now = nat_le deadline now

-- the keys whose deadline is still to come
abbrev pub unexpired : ℕ → List HeldKey → List HeldKey
unexpired now keys = filter (λ k. not (is_past k.deadline now)) keys

-- a key in a listing: its blob and an empty comment
abbrev pub identity_text : HeldKey → List ℕ
identity_text key = string_text key.blob ++ string_text []

-- the answer that lists the keys (draft-miller-ssh-agent, section 3.5)
abbrev pub listing : List HeldKey → List ℕ
listing keys = IDENTITIES_ANSWER ∷ counted_text identity_text keys

-- how many bytes a key takes in a listing: two lengths and its blob
abbrev pub listed : HeldKey → ℕ
listed key = length key.blob + 8

-- the listing with such a key in it still fits in a frame
abbrev pub has_room : List HeldKey → List ℕ → Bool
has_room keys blob = nat_le ((if is_some (held keys blob) then 5 else length blob + 13) + sum_by listed keys) MAX_AGENT_FRAME_LEN

-- the listing of the keys fits in a frame
abbrev pub AreListable : List HeldKey → Type 0
AreListable keys = 5 + sum_by listed keys ≤ MAX_AGENT_FRAME_LEN

-- the moment plus the lifetime in seconds, in milliseconds; it saturates at the type's greatest number
abbrev pub deadline_of : ℕ → Option ℕ → Option ℕ
deadline_of now None = None
deadline_of now (Some seconds) = Some (min (now + 1000 * seconds) (2 ^ 64 - 1))
