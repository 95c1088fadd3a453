-- What a step asks to be signed, said without the table: by the state of its connection and the parts of its request.
-- It is what the table's row asks (proofs/AskedLemmas).
use Rattle.std.specs.Prelude.{ℕ, Bool, true, false, not, ◌&&◌, ◌==◌, List, [], ◌∷◌, Option, Some, None, Result, Ok, Err, if◌then◌else◌}
use Rattle.std.specs.Int.{w32}
use Rattle.std.specs.Option.{is_some}
use Rattle.sshc_wire.specs.declared.error.WireError.{WireError}
use Rattle.sshc_wire.specs.Reads.{number_at, string_at}
use Rattle.sshc_key.specs.Asking.{SignRequest}
use Rattle.sshc_key.specs.AgentNumbers.{SIGN_REQUEST}
use Rattle.sshc_key.specs.declared.signer.Asker.TheVariants.{Agent}
use Rattle.sshc_agent_core.specs.declared.connections.Standing.{Standing}
use Rattle.sshc_agent_core.specs.declared.connections.Standing.TheVariants as standings
use Rattle.sshc_agent_core.specs.declared.input.AgentInput.{AgentInput}
use Rattle.sshc_agent_core.specs.declared.input.AgentInput.TheVariants as inputs
use Rattle.sshc_agent_core.specs.declared.key_list.HeldKey.{HeldKey}
use Rattle.sshc_agent_core.specs.declared.signing.Taken.{Taken}
use Rattle.sshc_agent_core.specs.AgentList.{AgentList}
use Rattle.sshc_agent_core.specs.AgentTable.Sign.{hash_of}
use Rattle.sshc_agent_core.specs.KeyList.{held, is_past}

abbrev pub flags_ask : ℕ → HeldKey → List ℕ → Result (ℕ × List ℕ) WireError → Option SignRequest
flags_ask conn key bytes (Err e) = None
flags_ask conn key bytes (Ok flags) = Some (record { by = Agent conn; key = key.pair; hash = hash_of key.pair.public.0 flags.0; bytes = bytes })

abbrev pub bytes_ask : ℕ → HeldKey → Result (List ℕ × List ℕ) WireError → Option SignRequest
bytes_ask conn key (Err e) = None
bytes_ask conn key (Ok bytes) = flags_ask conn key bytes.0 (number_at w32 bytes.1)

-- the bytes and the flags that follow the blob of a key that signs
abbrev pub rest_asks : ℕ → HeldKey → List ℕ → Option SignRequest
rest_asks conn key rest = bytes_ask conn key (string_at rest)

-- a key that is held signs, unless it still wants a confirmation
abbrev pub key_asks : ℕ → Bool → Option HeldKey → List ℕ → Option SignRequest
key_asks conn confirmed None rest = None
key_asks conn confirmed (Some key) rest = if key.constraints.confirm && not confirmed then None else rest_asks conn key rest

abbrev pub body_asks : ℕ → Bool → List HeldKey → Result (List ℕ × List ℕ) WireError → Option SignRequest
body_asks conn confirmed keys (Err e) = None
body_asks conn confirmed keys (Ok blob) = key_asks conn confirmed (held keys blob.0) blob.1

-- a sign request to an unlocked agent
abbrev pub frame_asks : ℕ → Bool → AgentList → List ℕ → Option SignRequest
frame_asks conn confirmed l [] = None
frame_asks conn confirmed l (number ∷ body) =
    if number == SIGN_REQUEST then (if is_some l.passphrase then None else body_asks conn confirmed l.keys (string_at body)) else None

-- the frame that an input has the agent take without a further question about the request, and whether the user said yes
-- to the use of its key
abbrev pub taken_now : Bool → Option Standing → AgentInput → Option (Bool × List ℕ)
taken_now asks None (inputs.Frame whole) = if asks then None else Some (false, whole)
taken_now asks (Some standings.Open) (inputs.Frame whole) = if asks then None else Some (false, whole)
taken_now asks (Some (standings.RequestAsked whole)) (inputs.RequestAnswer true) = Some (false, whole)
taken_now asks (Some (standings.KeyAsked whole)) (inputs.KeyAnswer true) = Some (true, whole)
taken_now asks stands input = None

-- the same of what the code takes
abbrev pub taken_by : Option Taken → Option (Bool × List ℕ)
taken_by None = None
taken_by (Some taken) = Some (taken.is_confirmed, taken.whole.now)

-- the key, unless its deadline has come
abbrev pub live : ℕ → Option HeldKey → Option HeldKey
live now None = None
live now (Some key) = if is_past key.deadline now then None else Some key

-- a frame asks only if it begins with the number of a sign request
abbrev pub begins_sign : List ℕ → Bool
begins_sign [] = false
begins_sign (number ∷ body) = number == SIGN_REQUEST

-- an input other than a frame answers a question, which may be about one
abbrev pub may_ask : AgentInput → Bool
may_ask (inputs.Frame whole) = begins_sign whole
may_ask input = true
