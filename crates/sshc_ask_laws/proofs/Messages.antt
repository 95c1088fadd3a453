-- The agent takes each message as the call that it is.
use Rattle.std.proofs.Common.{◌≡◌, ℕ, ◌≤◌, ◌<◌, ◌^◌, Bool, true, false, List, [], ◌∷◌, ◌++◌, length, Option, Some, None, Result, Ok, refl, sym, ap, ◌∙◌, arith, length-append}
use Rattle.std.specs.Prelude.{if◌then◌else◌, ◌==◌}
use Rattle.std.specs.Option.{is_some}
use Rattle.std.specs.Int.{w32}
use Rattle.std.proofs.lemmas.List.{append-nil}
use Rattle.sshc_wire.specs.declared.error.WireError.{WireError}
use Rattle.sshc_wire.specs.declared.hash_alg.HashAlg.{HashAlg}
use Rattle.sshc_wire.specs.declared.hash_alg.HashAlg.TheVariants.{Sha256, Sha512}
use Rattle.sshc_wire.specs.declared.message_type.MessageType.{MessageType}
use Rattle.sshc_wire.specs.declared.message_type.MessageType.TheVariants as messages
use Rattle.sshc_wire.specs.PartsLaws.{number32, strings, texts}
use Rattle.sshc_wire.specs.Reads.{number_at, ◌>>=◌}
use Rattle.sshc_wire.specs.Wire.{IsShort, string_text, u32_text}
use Rattle.sshc_key.specs.declared.agent.Constraint.{Constraint}
use Rattle.sshc_key.specs.declared.error.Error.{Error}
use Rattle.sshc_key.specs.KeyGrammar.{Key, key_text, plain, rsa}
use Rattle.sshc_key.specs.KeyLaws.Pairs.{pairs}
use Rattle.sshc_key.specs.PairCode.{KeyPair}
use Rattle.sshc_key.specs.PairGrammar.{Pair, PairFits, key_pair, pair_in, pair_text, text_or_nothing}
use Rattle.sshc_agent_core.specs.declared.connections.Standing.{Standing}
use Rattle.sshc_agent_core.specs.declared.connections.Standing.TheVariants as standings
use Rattle.sshc_agent_core.specs.declared.input.AgentInput.TheVariants as inputs
use Rattle.sshc_agent_core.specs.declared.input.AgentOutput.TheVariants as outputs
use Rattle.sshc_agent_core.specs.declared.key_list.HeldKey.{HeldKey}
use Rattle.sshc_key.specs.AgentNumbers.{ADD_ID_CONSTRAINED, LOCK, REMOVE_IDENTITY, SIGN_REQUEST, UNLOCK, MAX_AGENT_FRAME_LEN}
use Rattle.sshc_agent_core.specs.AgentList.{AgentList, aged, seen}
use Rattle.sshc_agent_core.specs.AgentTable.{agent_row, asked_turn, frame_turn, is_refused, message_turn, seen_row, standing_row, turned}
use Rattle.sshc_agent_core.specs.AgentTable.Add.{add_turn, added_turn, commented_turn, constraints_in, pair_turn, unconstrained}
use Rattle.sshc_agent_core.specs.AgentTable.Lock.{is_passphrase, lock_in, lock_turn, unlock_in, unlock_turn}
use Rattle.sshc_agent_core.specs.AgentTable.Remove.{remove_in, remove_turn}
use Rattle.sshc_agent_core.specs.AgentTable.Sign.{asked_row, bytes_row, flags_row, hash_of, sign_request_in, sign_request_turn, sign_row}
use Rattle.sshc_agent_core.specs.Connections.{standing_of}
use Rattle.sshc_agent_core.specs.Messages.{message_of}
use Rattle.sshc_agent_core.specs.Turn.{Turn, fails, says, succeeds}
use Rattle.sshc_ask.specs.AgentCalls.Frames.{Call, add_identity, add_number, add_smartcard_key, bind_session, constraints_text, extension, hash_flag, lock, message, query_extension, remove_all_identities, remove_identity, remove_smartcard_key, request_identities, sent_hash, sign_request, unlock}
use Rattle.sshc_ask_laws.specs.AgentRound.{AreSeconds, IsPair, IsSayable, added, asked_rest, call_turn, unlocked}
use Rattle.sshc_ask_laws.proofs.Constraints.{constraints_again}
use Rattle.sshc_ask_laws.proofs.Short.{no_text, short_alone, short_front, string_alone}

-- an agent that doesn't ask its user tests its lock, and takes the message
unasked : (m : MessageType) (number : ℕ) (body whole : List ℕ) (l : AgentList) → l.asks ≡ false
    → asked_turn (Some m) number body whole l ≡ (if is_refused m (is_some l.passphrase) then fails l else message_turn m number body whole l)
unasked m number body whole l quiet =
    ap (λ (a : Bool). if is_refused m (is_some l.passphrase) then fails l else (if a then says l (standings.RequestAsked whole) (outputs.AskRequest m) else message_turn m number body whole l)) quiet

-- the result of reading a string
abbrev OneString : Type 0
OneString = Result (List ℕ × List ℕ) WireError

lock_is : (l : AgentList) (p : List ℕ) → l.asks ≡ false → IsShort p → frame_turn (message (lock p)) l ≡ call_turn (lock p) l
unfolding frame_turn message_of lock_turn
lock_is l p quiet short = unasked messages.Lock LOCK (string_text p) (message (lock p)) l quiet ∙ ap (λ (r : OneString). unlocked l (lock_in r l)) (string_alone p short)

-- an unlocked agent refuses an unlock
unlock_by : (o : Option (List ℕ)) (p : List ℕ) (t f : Turn) → (if is_refused messages.Unlock (is_some o) then f else (if is_passphrase o p then t else f)) ≡ (if is_passphrase o p then t else f)
unlock_by None p t f = refl
unlock_by (Some own) p t f = refl

unlock_is : (l : AgentList) (p : List ℕ) → l.asks ≡ false → IsShort p → frame_turn (message (unlock p)) l ≡ call_turn (unlock p) l
unfolding frame_turn message_of unlock_turn
unlock_is l p quiet short =
    unasked messages.Unlock UNLOCK (string_text p) (message (unlock p)) l quiet
    ∙ ap (λ (r : OneString). if is_refused messages.Unlock (is_some l.passphrase) then fails l else unlock_in r l) (string_alone p short)
    ∙ unlock_by l.passphrase p (succeeds (record l { passphrase = None })) (fails l)

list_is : (l : AgentList) → l.asks ≡ false → frame_turn (message request_identities) l ≡ call_turn request_identities l
unfolding frame_turn message_of
list_is l quiet = unasked messages.RequestKeys 11 [] (message request_identities) l quiet

remove_all_is : (l : AgentList) → l.asks ≡ false → frame_turn (message remove_all_identities) l ≡ call_turn remove_all_identities l
unfolding frame_turn message_of
remove_all_is l quiet = unasked messages.RemoveAllKeys 19 [] (message remove_all_identities) l quiet

remove_is : (l : AgentList) (key : Key) → l.asks ≡ false → IsShort (key_text key) → frame_turn (message (remove_identity key)) l ≡ call_turn (remove_identity key) l
unfolding frame_turn message_of remove_turn
remove_is l key quiet short =
    unasked messages.RemoveKeys REMOVE_IDENTITY (string_text (key_text key)) (message (remove_identity key)) l quiet
    ∙ ap (λ (r : OneString). unlocked l (remove_in r l)) (string_alone (key_text key) short)

sign_is : (l : AgentList) (key : Key) (hash : Option HashAlg) (bytes : List ℕ) → l.asks ≡ false → IsShort (key_text key) → frame_turn (message (sign_request key hash bytes)) l ≡ call_turn (sign_request key hash bytes) l
unfolding frame_turn message_of sign_request_turn
sign_is l key hash bytes quiet short =
    let whole = message (sign_request key hash bytes) in
    unasked messages.Sign SIGN_REQUEST (string_text (key_text key) ++ asked_rest key hash bytes) whole l quiet
    ∙ ap (λ (r : OneString). unlocked l (sign_request_in r whole l)) (strings.again (key_text key) (asked_rest key hash bytes) short)

-- ---- adding

-- the pair, its empty comment and what follows them
pair_read : (constrained : Bool) (p : Pair) (rest : List ℕ) (l : AgentList) → PairFits p
    → add_turn constrained (pair_text p ++ (string_text [] ++ rest)) l ≡ added_turn (if constrained then constraints_in rest else Some unconstrained) (key_pair p) l
unfolding add_turn
pair_read constrained p rest l fits =
    ap (λ (r : Result (Pair × List ℕ) Error). pair_turn constrained (r >>= λ x. Ok (key_pair x.0, x.1)) l) (pairs.again p (string_text [] ++ rest) fits)
    ∙ ap (λ (r : OneString). commented_turn constrained r (key_pair p) l) (texts.again [] rest (omega arith, no_text))

added_so : (constraints : List Constraint) (p : Pair) (l : AgentList) → PairFits p → AreSeconds constraints
    → add_turn (add_number constraints == ADD_ID_CONSTRAINED) (pair_text p ++ (string_text [] ++ constraints_text constraints)) l ≡ added (Some p) constraints l
added_so [] p l fits seconds = pair_read false p (constraints_text []) l fits
added_so (c ∷ more) p l fits seconds =
    pair_read true p (constraints_text (c ∷ more)) l fits ∙ ap (λ o. added_turn o (key_pair p) l) (constraints_again (c ∷ more) seconds)

number_adds : (constraints : List Constraint) → message_of (add_number constraints) ≡ Some messages.AddKeys
unfolding message_of
number_adds [] = refl
number_adds (c ∷ more) = refl

add_by : (o : Option Pair) (constraints : List Constraint) (whole : List ℕ) (l : AgentList) → l.asks ≡ false → IsPair o → AreSeconds constraints
    → asked_turn (message_of (add_number constraints)) (add_number constraints) (text_or_nothing o ++ (string_text [] ++ constraints_text constraints)) whole l ≡ unlocked l (added o constraints l)
add_by None constraints whole l quiet fits seconds = absurd fits
add_by (Some p) constraints whole l quiet fits seconds =
    let body = pair_text p ++ (string_text [] ++ constraints_text constraints) in
    ap (λ (m : Option MessageType). asked_turn m (add_number constraints) body whole l) (number_adds constraints)
    ∙ unasked messages.AddKeys (add_number constraints) body whole l quiet
    ∙ ap (unlocked l) (added_so constraints p l fits seconds)

add_is : (l : AgentList) (pair : KeyPair) (constraints : List Constraint) → l.asks ≡ false → IsSayable (add_identity pair constraints)
    → frame_turn (message (add_identity pair constraints)) l ≡ call_turn (add_identity pair constraints) l
unfolding frame_turn
add_is l pair constraints quiet fits = add_by (pair_in pair.public.0 pair.pair) constraints (message (add_identity pair constraints)) l quiet fits.0 fits.1

-- ---- calls that the agent doesn't know

card_is : (l : AgentList) (id pin : List ℕ) (constraints : List Constraint) → frame_turn (message (add_smartcard_key id pin constraints)) l ≡ fails l
unfolding frame_turn message_of
card_is l id pin [] = refl
card_is l id pin (c ∷ more) = refl

-- ---- each call

frame_is : (l : AgentList) (call : Call) → l.asks ≡ false → length (message call) ≤ MAX_AGENT_FRAME_LEN → IsSayable call → frame_turn (message call) l ≡ call_turn call l
unfolding frame_turn message_of
frame_is l (bind_session binding forwarding) quiet few fits = refl
frame_is l (add_identity pair constraints) quiet few fits = add_is l pair constraints quiet fits
frame_is l (add_smartcard_key id pin constraints) quiet few fits = card_is l id pin constraints
frame_is l (remove_smartcard_key id pin) quiet few fits = refl
frame_is l (lock p) quiet few fits = lock_is l p quiet (short_alone p (omega (arith, few)))
frame_is l (unlock p) quiet few fits = unlock_is l p quiet (short_alone p (omega (arith, few)))
frame_is l request_identities quiet few fits = list_is l quiet
frame_is l (sign_request key hash bytes) quiet few fits = sign_is l key hash bytes quiet (short_front (key_text key) (asked_rest key hash bytes) (omega (arith, few)))
frame_is l (remove_identity key) quiet few fits = remove_is l key quiet (short_alone (key_text key) (omega (arith, few)))
frame_is l remove_all_identities quiet few fits = remove_all_is l quiet
frame_is l (extension name contents) quiet few fits = refl
frame_is l (query_extension name) quiet few fits = refl

pub takes_call : (now conn : ℕ) (l : AgentList) (call : Call) → l.asks ≡ false → standing_of (seen conn (aged now l)).conns conn ≡ Some standings.Open → length (message call) ≤ MAX_AGENT_FRAME_LEN → IsSayable call
    → agent_row now conn (inputs.Frame (message call)) l ≡ turned conn (call_turn call (seen conn (aged now l)))
unfolding agent_row seen_row
takes_call now conn l call quiet stands few fits =
    ap (λ (s : Option Standing). standing_row s conn (inputs.Frame (message call)) (seen conn (aged now l))) stands
    ∙ ap (turned conn) (frame_is (seen conn (aged now l)) call quiet few fits)

-- ---- what is signed

flag_is_small : (hash : Option HashAlg) → hash_flag hash < 2 ^ 32
flag_is_small None = omega arith
flag_is_small (Some Sha256) = omega arith
flag_is_small (Some Sha512) = omega arith

flag_read : (hash : Option HashAlg) → number_at w32 (u32_text (hash_flag hash)) ≡ Ok (hash_flag hash, [])
flag_read hash = ap (number_at w32) (sym (append-nil (u32_text (hash_flag hash)))) ∙ number32.again (hash_flag hash) [] (flag_is_small hash)

pub signs_bytes : (conn : ℕ) (l : AgentList) (key : HeldKey) (asked : Key) (hash : Option HashAlg) (bytes : List ℕ) → length (message (sign_request asked hash bytes)) ≤ MAX_AGENT_FRAME_LEN
    → sign_row conn l key (asked_rest asked hash bytes) ≡ asked_row conn l key bytes (hash_flag (sent_hash asked hash))
unfolding sign_row
signs_bytes conn l key asked hash bytes few =
    let flag = sent_hash asked hash in
    let behind : length (asked_rest asked hash bytes) ≤ 262144 = omega (arith, few, length-append (string_text (key_text asked)) (asked_rest asked hash bytes)) in
    ap (λ (r : OneString). bytes_row r conn l key) (strings.again bytes (u32_text (hash_flag flag)) (short_front bytes (u32_text (hash_flag flag)) behind))
    ∙ ap (λ (r : Result (ℕ × List ℕ) WireError). flags_row r bytes conn l key) (flag_read flag)

pub flag_is_hash : (e n : List ℕ) (hash : Option HashAlg) → hash_of (plain (rsa e n)) (hash_flag (sent_hash (plain (rsa e n)) hash)) ≡ hash
flag_is_hash e n None = refl
flag_is_hash e n (Some Sha256) = refl
flag_is_hash e n (Some Sha512) = refl
