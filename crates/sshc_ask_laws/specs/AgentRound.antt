-- The agent round: the messages of a client's calls and how an agent takes them, and the agent's answers and how the
-- calls read them.
-- Client and agent each have definitions of their own, which this file only compares.
use Rattle.std.specs.Prelude.{◌≡◌, ℕ, ◌<◌, ◌≤◌, ◌^◌, false, List, [], ◌∷◌, ◌++◌, length, Option, Some, None, Result, Ok, Err, if◌then◌else◌}
use Rattle.std.specs.Option.{is_some}
use Rattle.sshc_wire.specs.Reads.{◌>>=◌}
use Rattle.sshc_wire.specs.Wire.{string_text, u32_text}
use Rattle.sshc_wire.specs.declared.hash_alg.HashAlg.{HashAlg}
use Rattle.sshc_key.specs.declared.agent.AgentIdentity.{AgentIdentity}
use Rattle.sshc_key.specs.declared.agent.Constraint.{Constraint}
use Rattle.sshc_key.specs.declared.agent.Constraint.TheVariants.{KeyLifetime, Confirm, Extensions}
use Rattle.sshc_key.specs.declared.error.Error.{Error}
use Rattle.sshc_key.specs.declared.error.Error.TheVariants.{AgentFailure, AgentProtocolError}
use Rattle.sshc_key.specs.declared.signature.Signature.{Signature}
use Rattle.sshc_key.specs.KeyGrammar.{Key, SignatureFits, key_text, plain, rsa, signature_text}
use Rattle.sshc_key.specs.Nesting.{blob_key, key_or_fault}
use Rattle.sshc_key.specs.PairGrammar.{Pair, PairFits, key_pair, pair_in}
use Rattle.sshc_agent_core.specs.declared.connections.Standing.TheVariants as standings
use Rattle.sshc_agent_core.specs.declared.constraints.Constraints.{Constraints}
use Rattle.sshc_agent_core.specs.declared.input.AgentInput.TheVariants as inputs
use Rattle.sshc_agent_core.specs.declared.key_list.HeldKey.{HeldKey}
use Rattle.sshc_key.specs.AgentNumbers.{FAILURE, SUCCESS, SIGN_RESPONSE, MAX_AGENT_FRAME_LEN}
use Rattle.sshc_agent_core.specs.AgentList.{AgentList, aged, seen}
use Rattle.sshc_agent_core.specs.AgentTable.{agent_row, turned}
use Rattle.sshc_agent_core.specs.AgentTable.Add.{added_turn, and_so, unconstrained, with_one}
use Rattle.sshc_agent_core.specs.AgentTable.Lock.{is_passphrase}
use Rattle.sshc_agent_core.specs.AgentTable.Sign.{asked_row, hash_of, held_turn, sign_row}
use Rattle.sshc_agent_core.specs.Connections.{standing_of}
use Rattle.sshc_agent_core.specs.KeyList.{held, listing, without_key}
use Rattle.sshc_agent_core.specs.Turn.{Turn, answers, fails, succeeds}
use Rattle.sshc_ask.specs.AgentCalls.Frames.{Call, add_identity, add_smartcard_key, bind_session, extension, hash_flag, lock, message, query_extension, remove_all_identities, remove_identity, remove_smartcard_key, request_identities, sent_hash, sign_request, unlock}
use Rattle.sshc_ask.specs.AgentCalls.Readings.{base64_reading, extension_reading, identities_reading, identity_of, is_asked, query_reading, sign_reading, signature_reading, success_reading}

-- ---- what the agent does for a call, in the call's own terms

-- a locked agent refuses
abbrev pub unlocked : AgentList → Turn → Turn
unlocked l turn = if is_some l.passphrase then fails l else turn

-- the constraints under which a key is held; an extension or a second lifetime is refused
abbrev pub held_under : List Constraint → Constraints → Option Constraints
held_under [] c = Some c
held_under (KeyLifetime seconds ∷ more) c = and_so (with_one c (Some seconds)) (held_under more)
held_under (Confirm ∷ more) c = and_so (with_one c None) (held_under more)
held_under (Extensions name details ∷ more) c = None

-- a pair of the grammar is added under its constraints
abbrev pub added : Option Pair → List Constraint → AgentList → Turn
added None constraints l = fails l
added (Some p) constraints l = added_turn (held_under constraints unconstrained) (key_pair p) l

-- what follows the blob in a sign request
abbrev pub asked_rest : Key → Option HashAlg → List ℕ → List ℕ
asked_rest key hash bytes = string_text bytes ++ u32_text (hash_flag (sent_hash key hash))

abbrev pub removed : AgentList → List ℕ → Turn
removed l blob = if is_some (held l.keys blob) then succeeds (record l { keys = without_key l.keys blob }) else fails l

abbrev pub call_turn : Call → AgentList → Turn
call_turn (bind_session binding forwarding) l = fails l
call_turn (add_identity pair constraints) l = unlocked l (added (pair_in pair.public.0 pair.pair) constraints l)
call_turn (add_smartcard_key id pin constraints) l = fails l
call_turn (remove_smartcard_key id pin) l = fails l
call_turn (lock passphrase) l = unlocked l (succeeds (record l { passphrase = Some passphrase }))
call_turn (unlock passphrase) l = if is_passphrase l.passphrase passphrase then succeeds (record l { passphrase = None }) else fails l
call_turn request_identities l = unlocked l (answers l (listing l.keys))
call_turn (sign_request key hash bytes) l = unlocked l (held_turn (held l.keys (key_text key)) (asked_rest key hash bytes) (message (sign_request key hash bytes)) l)
call_turn (remove_identity key) l = unlocked l (removed l (key_text key))
call_turn remove_all_identities l = unlocked l (succeeds (record l { keys = [] }))
call_turn (extension name contents) l = fails l
call_turn (query_extension name) l = fails l

-- ---- the calls that the law covers

-- each number of seconds fits its four bytes
abbrev pub AreSeconds : List Constraint → Type 0
AreSeconds [] = Unit {0}
AreSeconds (KeyLifetime seconds ∷ more) = (seconds < 2 ^ 32) × AreSeconds more
AreSeconds (Confirm ∷ more) = AreSeconds more
AreSeconds (Extensions name details ∷ more) = AreSeconds more

abbrev pub IsPair : Option Pair → Type 0
IsPair None = ⊥
IsPair (Some p) = PairFits p

-- a pair that is added is in the grammar, and its lifetimes are numbers of four bytes; other calls have no condition
abbrev pub IsSayable : Call → Type 0
IsSayable (add_identity pair constraints) = IsPair (pair_in pair.public.0 pair.pair) × AreSeconds constraints
IsSayable call = Unit {0}

-- ---- what the calls read

-- the keys that are held, in order; SshKey if one of them can't be read
abbrev pub readable_keys : List HeldKey → Result (List AgentIdentity) Error
readable_keys [] = Ok []
readable_keys (key ∷ keys) = key_or_fault (blob_key key.blob) >>= λ k. readable_keys keys >>= λ more. Ok (identity_of k [] ∷ more)

-- the results of the calls for SUCCESS and for FAILURE
pub record ReadsAnswers : Type 0 where
  pub success : success_reading (SUCCESS ∷ []) ≡ Ok tt
  pub failure : success_reading (FAILURE ∷ []) ≡ Err AgentFailure
  pub extension_failure : extension_reading (FAILURE ∷ []) ≡ Err AgentFailure
  pub query_failure : query_reading (FAILURE ∷ []) ≡ None
  pub identities_failure : identities_reading (FAILURE ∷ []) ≡ Ok []
  pub sign_failure : (asked : Option HashAlg) (bytes : List ℕ) → sign_reading asked bytes (FAILURE ∷ []) ≡ Err AgentFailure
  pub signature_failure : signature_reading (FAILURE ∷ []) ≡ Err AgentProtocolError
  pub base64_failure : base64_reading (FAILURE ∷ []) ≡ []

-- the answer that signs, with a signature of the grammar
abbrev pub signed_answer : Signature → List ℕ
signed_answer s = SIGN_RESPONSE ∷ string_text (signature_text s)

-- ---- the law

pub record IsAgentRound : Type 0 where
  -- an agent that doesn't ask its user takes the message of a call, on a connection on which no question is open, as
  -- exactly that call
  pub takes : (now conn : ℕ) (l : AgentList) (call : Call) → l.asks ≡ false → standing_of (seen conn (aged now l)).conns conn ≡ Some standings.Open
      → length (message call) ≤ MAX_AGENT_FRAME_LEN → IsSayable call
      → agent_row now conn (inputs.Frame (message call)) l ≡ turned conn (call_turn call (seen conn (aged now l)))
  -- a key that may sign is asked to sign exactly the bytes, with the hash that was asked for
  pub signs : (conn : ℕ) (l : AgentList) (held : HeldKey) (key : Key) (hash : Option HashAlg) (bytes : List ℕ) → length (message (sign_request key hash bytes)) ≤ MAX_AGENT_FRAME_LEN
      → sign_row conn l held (asked_rest key hash bytes) ≡ asked_row conn l held bytes (hash_flag (sent_hash key hash))
  pub hash : (e n : List ℕ) (hash : Option HashAlg) → hash_of (plain (rsa e n)) (hash_flag (sent_hash (plain (rsa e n)) hash)) ≡ hash
  -- the calls read the agent's answers
  pub reads : ReadsAnswers
  pub lists : (keys : List HeldKey) → length (listing keys) ≤ MAX_AGENT_FRAME_LEN → identities_reading (listing keys) ≡ readable_keys keys
  pub signed : (asked : Option HashAlg) (bytes : List ℕ) (s : Signature) → SignatureFits s → length (signature_text s) < 2 ^ 32
      → sign_reading asked bytes (signed_answer s) ≡ (if is_asked asked s.name then Ok (bytes ++ string_text (signature_text s)) else Err AgentProtocolError)
  pub signature : (s : Signature) → SignatureFits s → length (signature_text s) < 2 ^ 32 → signature_reading (signed_answer s) ≡ Ok s
