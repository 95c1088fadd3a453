-- Each step of the agent does one of the six things of StepShape: by cases on each row once. The laws of a step name no
-- row.
use Rattle.std.proofs.Common.{◌≡◌, ◌⊎◌, ℕ, Bool, true, false, cond, List, [], ◌∷◌, Option, Some, None, Result, Ok, Err, refl, sym, ap, subst, ◌∙◌, inl, inr}
use Rattle.std.specs.Int.{w32}
use Rattle.std.specs.Option.{is_some}
use Rattle.std.specs.Prelude.{◌==◌, bytes_eq}
use Rattle.std.proofs.lemmas.Bool.{eqb-true}
use Rattle.sshc_wire.specs.declared.error.WireError.{WireError}
use Rattle.sshc_wire.specs.declared.message_type.MessageType.{MessageType}
use Rattle.sshc_wire.specs.declared.message_type.MessageType.TheVariants as messages
use Rattle.sshc_wire.specs.Format.{made_at}
use Rattle.sshc_wire.specs.LookupLaws.{same_bytes}
use Rattle.sshc_wire.specs.Reads.{number_at, string_at, text_at}
use Rattle.sshc_wire.specs.Wire.{string_text}
use Rattle.sshc_key.specs.declared.error.Error.{Error}
use Rattle.sshc_key.specs.declared.signer.Asker.TheVariants.{Agent}
use Rattle.sshc_key.specs.KeyGrammar.{key_text}
use Rattle.sshc_key.specs.PairCode.{KeyPair}
use Rattle.sshc_key.specs.PairGrammar.{key_pair, pair_at}
use Rattle.sshc_key.specs.Signers.{SignCall}
use Rattle.sshc_key.specs.Asking.{Answer, Asking, Makes, MakesFirst, SignRequest, asks, call_of, done}
use Rattle.sshc_agent_core.specs.declared.connections.Standing.{Standing}
use Rattle.sshc_agent_core.specs.declared.connections.Standing.TheVariants as standings
use Rattle.sshc_agent_core.specs.declared.constraints.Constraints.{Constraints}
use Rattle.sshc_agent_core.specs.declared.input.AgentInput.{AgentInput}
use Rattle.sshc_agent_core.specs.declared.input.AgentInput.TheVariants as inputs
use Rattle.sshc_agent_core.specs.declared.input.AgentOutput.{AgentOutput}
use Rattle.sshc_agent_core.specs.declared.input.AgentOutput.TheVariants as outputs
use Rattle.sshc_agent_core.specs.declared.input.Cause.TheVariants as causes
use Rattle.sshc_agent_core.specs.declared.key_list.HeldKey.{HeldKey}
use Rattle.sshc_key.specs.AgentNumbers.{ADD_ID_CONSTRAINED, LOCK, SIGN_REQUEST, UNLOCK}
use Rattle.sshc_agent_core.specs.AgentHistory.{IsPermitted, IsUnlock, MaySign, request_of, stands_in}
use Rattle.sshc_agent_core.specs.AgentList.{AgentList, aged, standing}
use Rattle.sshc_agent_core.specs.AgentTable.{Shows, Steps, agent_row, asked_turn, frame_turn, is_refused, key_answer_turn, message_turn, request_answer_turn, seen_row, standing_row, tested_turn, turned}
use Rattle.sshc_agent_core.specs.AgentTable.Add.{add_turn, added_turn, commented_turn, constraints_in, pair_turn, unconstrained}
use Rattle.sshc_agent_core.specs.AgentTable.Lock.{is_passphrase, lock_in, lock_turn, unlock_in, unlock_turn}
use Rattle.sshc_agent_core.specs.AgentTable.Remove.{remove_in, remove_turn}
use Rattle.sshc_agent_core.specs.AgentTable.Sign.{bytes_row, confirmed_in, confirmed_turn, flags_row, hash_of, held_still, held_turn, sign_request_in, sign_request_turn, sign_row, signed_row}
use Rattle.sshc_agent_core.specs.KeyList.{has_room, held, with_key, without_key}
use Rattle.sshc_agent_core.specs.LockLaw.{IsLock}
use Rattle.sshc_agent_core.specs.Messages.{message_of}
use Rattle.sshc_agent_core.specs.StepShape.{Changes, Cut, IsEnd, IsPermittedRequest, Made, RowDoes, Says, StepDoes, Turns, begun}
use Rattle.sshc_agent_core.specs.Turn.{Outcome, Turn, frame, ignored, says, signs}

-- by a test, and by its result
either : (b : Bool) (l : AgentList) (whole : List ℕ) (C : Type 0) (x y : Turn) → (b ≡ true → Turns l whole C x) → (b ≡ false → Turns l whole C y) → Turns l whole C (cond b x y)
either true l whole C x y f g = f refl
either false l whole C x y f g = g refl

-- ---- signing

held_does : (o : Option HeldKey) (l : AgentList) (whole body blob rest : List ℕ) (C : Type 0) → l.passphrase ≡ None → whole ≡ SIGN_REQUEST ∷ body → string_at body ≡ Ok (blob, rest) → held l.keys blob ≡ o
    → Turns l whole C (held_turn o rest whole l)
held_does None l whole body blob rest C unlocked frame names is = Says.fails refl refl
held_does (Some key) l whole body blob rest C unlocked frame names is =
    either key.constraints.confirm l whole C _ _ (λ _. Says.asks_key blob key unlocked is refl refl)
    (λ plain. (refl, record { unlocked = unlocked; body = body; blob = blob; rest = rest; frame = frame; names = names; is_held = is; confirms = inl plain }))

request_does_in : (r : Result (List ℕ × List ℕ) WireError) (l : AgentList) (whole body : List ℕ) (C : Type 0) → l.passphrase ≡ None → whole ≡ SIGN_REQUEST ∷ body → string_at body ≡ r → Turns l whole C (sign_request_in r whole l)
request_does_in (Err e) l whole body C unlocked frame names = Says.closes refl refl
request_does_in (Ok blob) l whole body C unlocked frame names = held_does (held l.keys blob.0) l whole body blob.0 blob.1 C unlocked frame names refl

request_does : (l : AgentList) (whole body : List ℕ) (C : Type 0) → l.passphrase ≡ None → whole ≡ SIGN_REQUEST ∷ body → Turns l whole C (sign_request_turn body whole l)
unfolding sign_request_turn
request_does l whole body C unlocked frame = request_does_in (string_at body) l whole body C unlocked frame refl

still_does : (o : Option HeldKey) (l : AgentList) (whole body blob rest : List ℕ) (C : Type 0) → C → l.passphrase ≡ None → whole ≡ SIGN_REQUEST ∷ body → string_at body ≡ Ok (blob, rest) → held l.keys blob ≡ o
    → Turns l whole C (held_still o rest l)
still_does None l whole body blob rest C said_so unlocked frame names is = Says.fails refl refl
still_does (Some key) l whole body blob rest C said_so unlocked frame names is =
    (refl, record { unlocked = unlocked; body = body; blob = blob; rest = rest; frame = frame; names = names; is_held = is; confirms = inr said_so })

confirmed_does_in : (r : Result (List ℕ × List ℕ) WireError) (l : AgentList) (whole body : List ℕ) (C : Type 0) → C → l.passphrase ≡ None → whole ≡ SIGN_REQUEST ∷ body → string_at body ≡ r → Turns l whole C (confirmed_in r l)
confirmed_does_in (Err e) l whole body C said_so unlocked frame names = Says.fails refl refl
confirmed_does_in (Ok blob) l whole body C said_so unlocked frame names = still_does (held l.keys blob.0) l whole body blob.0 blob.1 C said_so unlocked frame names refl

confirmed_does : (whole : List ℕ) (l : AgentList) (C : Type 0) → C → l.passphrase ≡ None → Turns l whole C (confirmed_turn whole l)
unfolding confirmed_turn
confirmed_does [] l C said_so unlocked = Says.fails refl refl
confirmed_does (number ∷ body) l C said_so unlocked =
    either (number == SIGN_REQUEST) l (number ∷ body) C _ _
    (λ is. confirmed_does_in (string_at body) l (number ∷ body) body C said_so unlocked (ap (λ (n : ℕ). n ∷ body) (eqb-true number SIGN_REQUEST is)) refl) (λ _. Says.fails refl refl)

-- ---- adding and removing

added_does : (o : Option Constraints) (pair : KeyPair) (l : AgentList) (whole : List ℕ) (C : Type 0) → l.passphrase ≡ None → ((p : List ℕ) → IsLock p whole → ⊥) → Turns l whole C (added_turn o pair l)
added_does None pair l whole C unlocked other = Says.fails refl refl
added_does (Some c) pair l whole C unlocked other =
    either (has_room l.keys (key_text pair.public.0)) l whole C _ _ (λ _. Says.changes (Changes.keyed _ unlocked other refl) refl) (λ _. Says.fails refl refl)

commented_does : (constrained : Bool) (r : Result (List ℕ × List ℕ) WireError) (pair : KeyPair) (l : AgentList) (whole : List ℕ) (C : Type 0) → l.passphrase ≡ None → ((p : List ℕ) → IsLock p whole → ⊥) → Turns l whole C (commented_turn constrained r pair l)
commented_does constrained (Err e) pair l whole C unlocked other = Says.fails refl refl
commented_does constrained (Ok comment) pair l whole C unlocked other = added_does (cond constrained (constraints_in comment.1) (Some unconstrained)) pair l whole C unlocked other

pair_does : (constrained : Bool) (r : Result (KeyPair × List ℕ) Error) (l : AgentList) (whole : List ℕ) (C : Type 0) → l.passphrase ≡ None → ((p : List ℕ) → IsLock p whole → ⊥) → Turns l whole C (pair_turn constrained r l)
pair_does constrained (Err e) l whole C unlocked other = Says.fails refl refl
pair_does constrained (Ok pair) l whole C unlocked other = commented_does constrained (text_at pair.1) pair.0 l whole C unlocked other

add_does : (constrained : Bool) (body : List ℕ) (l : AgentList) (whole : List ℕ) (C : Type 0) → l.passphrase ≡ None → ((p : List ℕ) → IsLock p whole → ⊥) → Turns l whole C (add_turn constrained body l)
unfolding add_turn
add_does constrained body l whole C unlocked other = pair_does constrained (made_at key_pair pair_at body) l whole C unlocked other

remove_does_in : (r : Result (List ℕ × List ℕ) WireError) (l : AgentList) (whole : List ℕ) (C : Type 0) → l.passphrase ≡ None → ((p : List ℕ) → IsLock p whole → ⊥) → Turns l whole C (remove_in r l)
remove_does_in (Err e) l whole C unlocked other = Says.fails refl refl
remove_does_in (Ok blob) l whole C unlocked other =
    either (is_some (held l.keys blob.0)) l whole C _ _ (λ _. Says.changes (Changes.keyed (without_key l.keys blob.0) unlocked other refl) refl) (λ _. Says.fails refl refl)

remove_does : (body : List ℕ) (l : AgentList) (whole : List ℕ) (C : Type 0) → l.passphrase ≡ None → ((p : List ℕ) → IsLock p whole → ⊥) → Turns l whole C (remove_turn body l)
unfolding remove_turn
remove_does body l whole C unlocked other = remove_does_in (string_at body) l whole C unlocked other

-- ---- locking

lock_does_in : (r : Result (List ℕ × List ℕ) WireError) (l : AgentList) (whole body : List ℕ) (C : Type 0) → l.passphrase ≡ None → whole ≡ LOCK ∷ body → string_at body ≡ r → Turns l whole C (lock_in r l)
lock_does_in (Err e) l whole body C unlocked number read = Says.fails refl refl
lock_does_in (Ok word) l whole body C unlocked number read =
    Says.changes (Changes.locks word.0 unlocked (record { body = body; rest = word.1; number = number; passphrase = read }) refl) refl

lock_does : (l : AgentList) (whole body : List ℕ) (C : Type 0) → l.passphrase ≡ None → whole ≡ LOCK ∷ body → Turns l whole C (lock_turn body l)
unfolding lock_turn
lock_does l whole body C unlocked number = lock_does_in (string_at body) l whole body C unlocked number refl

own_word : (o : Option (List ℕ)) (word : List ℕ) → is_passphrase o word ≡ true → o ≡ Some word
own_word None word e = absurd cc
own_word (Some own) word e = ap Some (same_bytes own word e)

unlock_does_in : (r : Result (List ℕ × List ℕ) WireError) (l : AgentList) (whole body : List ℕ) (C : Type 0) → whole ≡ UNLOCK ∷ body → string_at body ≡ r → Turns l whole C (unlock_in r l)
unlock_does_in (Err e) l whole body C number read = Says.fails refl refl
unlock_does_in (Ok word) l whole body C number read =
    either (is_passphrase l.passphrase word.0) l whole C _ _
    (λ same. Says.changes (Changes.unlocks word.0 (own_word l.passphrase word.0 same) (record { body = body; rest = word.1; number = number; passphrase = read }) refl) refl) (λ _. Says.fails refl refl)

unlock_does : (l : AgentList) (whole body : List ℕ) (C : Type 0) → whole ≡ UNLOCK ∷ body → Turns l whole C (unlock_turn body l)
unfolding unlock_turn
unlock_does l whole body C number = unlock_does_in (string_at body) l whole body C number refl

-- ---- a message by its number

-- only one number is that of this kind, where two kinds aren't the same
skip : (b : Bool) (m n : MessageType) (o : Option MessageType) → (m ≡ n → ⊥) → cond b (Some m) o ≡ Some n → o ≡ Some n
skip true m n o other e = absurd (other cc)
skip false m n o other e = e

taken_or : (b : Bool) (n : MessageType) (o : Option MessageType) → (o ≡ Some n → ⊥) → cond b (Some n) o ≡ Some n → b ≡ true
taken_or true n o never e = refl
taken_or false n o never e = absurd (never e)

last_is : (b : Bool) (m n : MessageType) → (m ≡ n → ⊥) → cond b (Some m) None ≡ Some n → ⊥
last_is true m n other e = other cc
last_is false m n other e = cc

sign_number : (number : ℕ) → message_of number ≡ Some messages.Sign → number ≡ SIGN_REQUEST
unfolding message_of
sign_number number e =
    eqb-true number SIGN_REQUEST (taken_or (number == 13) messages.Sign _ (λ a.
    let b = skip (number == 17) messages.AddKeys messages.Sign _ (λ x. cc) a in
    let c = skip (number == 18) messages.RemoveKeys messages.Sign _ (λ x. cc) b in
    let d = skip (number == 19) messages.RemoveAllKeys messages.Sign _ (λ x. cc) c in
    let f = skip (number == 22) messages.Lock messages.Sign _ (λ x. cc) d in
    let g = skip (number == 23) messages.Unlock messages.Sign _ (λ x. cc) f in
    last_is (number == 25) messages.AddKeys messages.Sign (λ x. cc) g) (skip (number == 11) messages.RequestKeys messages.Sign _ (λ x. cc) e))

lock_number : (number : ℕ) → message_of number ≡ Some messages.Lock → number ≡ LOCK
unfolding message_of
lock_number number e =
    let a = skip (number == 11) messages.RequestKeys messages.Lock _ (λ x. cc) e in
    let b = skip (number == 13) messages.Sign messages.Lock _ (λ x. cc) a in
    let c = skip (number == 17) messages.AddKeys messages.Lock _ (λ x. cc) b in
    let d = skip (number == 18) messages.RemoveKeys messages.Lock _ (λ x. cc) c in
    let f = skip (number == 19) messages.RemoveAllKeys messages.Lock _ (λ x. cc) d in
    eqb-true number LOCK (taken_or (number == 22) messages.Lock _ (λ g.
    let h = skip (number == 23) messages.Unlock messages.Lock _ (λ x. cc) g in
    last_is (number == 25) messages.AddKeys messages.Lock (λ x. cc) h) f)

unlock_number : (number : ℕ) → message_of number ≡ Some messages.Unlock → number ≡ UNLOCK
unfolding message_of
unlock_number number e =
    let a = skip (number == 11) messages.RequestKeys messages.Unlock _ (λ x. cc) e in
    let b = skip (number == 13) messages.Sign messages.Unlock _ (λ x. cc) a in
    let c = skip (number == 17) messages.AddKeys messages.Unlock _ (λ x. cc) b in
    let d = skip (number == 18) messages.RemoveKeys messages.Unlock _ (λ x. cc) c in
    let f = skip (number == 19) messages.RemoveAllKeys messages.Unlock _ (λ x. cc) d in
    let g = skip (number == 22) messages.Lock messages.Unlock _ (λ x. cc) f in
    eqb-true number UNLOCK (taken_or (number == 23) messages.Unlock _ (λ h. last_is (number == 25) messages.AddKeys messages.Unlock (λ x. cc) h) g)

-- a message of another kind is no lock
lock_first : (m : MessageType) → message_of LOCK ≡ Some m → m ≡ messages.Lock
unfolding message_of
lock_first m e = cc

not_lock : (m : MessageType) (number : ℕ) (body whole : List ℕ) → (m ≡ messages.Lock → ⊥) → message_of number ≡ Some m → whole ≡ number ∷ body → (p : List ℕ) → IsLock p whole → ⊥
not_lock m number body whole other known frame p is =
    let same : number ≡ LOCK = first_is number LOCK body is.body (sym frame ∙ is.number) in
    other (lock_first m (ap message_of (sym same) ∙ known))
  where
    first_is : (a b : ℕ) (xs ys : List ℕ) → a ∷ xs ≡ b ∷ ys → a ≡ b
    first_is a b xs ys e = cc

none_is : (o : Option (List ℕ)) → is_some o ≡ false → o ≡ None
none_is None e = refl
none_is (Some x) e = absurd cc

message_does : (m : MessageType) (number : ℕ) (body whole : List ℕ) (l : AgentList) (C : Type 0) → message_of number ≡ Some m → whole ≡ number ∷ body → is_refused m (is_some l.passphrase) ≡ false
    → Turns l whole C (message_turn m number body whole l)
message_does messages.RequestKeys number body whole l C known frame taken = Says.lists (none_is l.passphrase taken) refl refl
message_does messages.Sign number body whole l C known frame taken =
    request_does l whole body C (none_is l.passphrase taken) (frame ∙ ap (λ (n : ℕ). n ∷ body) (sign_number number known))
message_does messages.AddKeys number body whole l C known frame taken =
    add_does (number == ADD_ID_CONSTRAINED) body l whole C (none_is l.passphrase taken) (not_lock messages.AddKeys number body whole (λ x. cc) known frame)
message_does messages.RemoveKeys number body whole l C known frame taken =
    remove_does body l whole C (none_is l.passphrase taken) (not_lock messages.RemoveKeys number body whole (λ x. cc) known frame)
message_does messages.RemoveAllKeys number body whole l C known frame taken =
    Says.changes (Changes.keyed [] (none_is l.passphrase taken) (not_lock messages.RemoveAllKeys number body whole (λ x. cc) known frame) refl) refl
message_does messages.Lock number body whole l C known frame taken =
    lock_does l whole body C (none_is l.passphrase taken) (frame ∙ ap (λ (n : ℕ). n ∷ body) (lock_number number known))
message_does messages.Unlock number body whole l C known frame taken =
    unlock_does l whole body C (frame ∙ ap (λ (n : ℕ). n ∷ body) (unlock_number number known))

tested_does : (m : Option MessageType) (number : ℕ) (body : List ℕ) (l : AgentList) (C : Type 0) → message_of number ≡ m → Turns l (number ∷ body) C (tested_turn m number body (number ∷ body) l)
tested_does None number body l C known = Says.fails refl refl
tested_does (Some m) number body l C known =
    either (is_refused m (is_some l.passphrase)) l (number ∷ body) C _ _ (λ _. Says.fails refl refl) (λ taken. message_does m number body (number ∷ body) l C known refl taken)

asked_does : (m : Option MessageType) (number : ℕ) (body : List ℕ) (l : AgentList) (C : Type 0) → message_of number ≡ m → Turns l (number ∷ body) C (asked_turn m number body (number ∷ body) l)
asked_does None number body l C known = Says.fails refl refl
asked_does (Some m) number body l C known =
    either (is_refused m (is_some l.passphrase)) l (number ∷ body) C _ _ (λ _. Says.fails refl refl)
    (λ taken. either l.asks l (number ∷ body) C _ _ (λ _. Says.asks_request m refl refl) (λ _. message_does m number body (number ∷ body) l C known refl taken))

-- ---- frames and answers to questions

pub frame_does : (whole : List ℕ) (l : AgentList) (C : Type 0) → Turns l whole C (frame_turn whole l)
unfolding frame_turn
frame_does [] l C = Says.fails refl refl
frame_does (number ∷ body) l C = asked_does (message_of number) number body l C refl

pub request_answer_does : (allowed : Bool) (whole : List ℕ) (l : AgentList) (C : Type 0) → Turns l whole C (request_answer_turn allowed whole l)
unfolding request_answer_turn
request_answer_does false whole l C = Says.fails refl refl
request_answer_does true [] l C = Says.fails refl refl
request_answer_does true (number ∷ body) l C = tested_does (message_of number) number body l C refl

pub key_answer_does : (confirmed : Bool) (whole : List ℕ) (l : AgentList) → Turns l whole (inputs.KeyAnswer confirmed ≡ inputs.KeyAnswer true) (key_answer_turn confirmed whole l)
unfolding key_answer_turn
key_answer_does false whole l = Says.fails refl refl
key_answer_does true whole l = either (is_some l.passphrase) l whole _ _ _ (λ _. Says.fails refl refl) (λ unlocked. confirmed_does whole l _ refl (none_is l.passphrase unlocked))

-- ---- an input

flags_does : (r : Result (ℕ × List ℕ) WireError) (bytes : List ℕ) (conn : ℕ) (l : AgentList) (whole : List ℕ) (C : Type 0) (key : HeldKey) → MaySign l whole C key
    → RowDoes conn l (Some whole) C (flags_row r bytes conn l key)
flags_does (Err e) bytes conn l whole C key may = RowDoes.ends (outputs.Closed causes.Unreadable) tt refl
flags_does (Ok flags) bytes conn l whole C key may =
    RowDoes.wants whole key (record { by = Agent conn; key = key.pair; hash = hash_of key.pair.public.0 flags.0; bytes = bytes }) refl may refl refl refl

bytes_does : (r : Result (List ℕ × List ℕ) WireError) (conn : ℕ) (l : AgentList) (whole : List ℕ) (C : Type 0) (key : HeldKey) → MaySign l whole C key
    → RowDoes conn l (Some whole) C (bytes_row r conn l key)
bytes_does (Err e) conn l whole C key may = RowDoes.ends (outputs.Closed causes.Unreadable) tt refl
bytes_does (Ok bytes) conn l whole C key may = flags_does (number_at w32 bytes.1) bytes.0 conn l whole C key may

sign_does : (conn : ℕ) (l : AgentList) (whole : List ℕ) (C : Type 0) (key : HeldKey) (rest : List ℕ) → MaySign l whole C key → RowDoes conn l (Some whole) C (sign_row conn l key rest)
unfolding sign_row
sign_does conn l whole C key rest may = bytes_does (string_at rest) conn l whole C key may

pub turned_does : (conn : ℕ) (l : AgentList) (whole : List ℕ) (C : Type 0) (turn : Turn) → Turns l whole C turn → RowDoes conn l (Some whole) C (turned conn turn)
turned_does conn l whole C (says next stands output) said = RowDoes.answers whole next stands output refl said refl
turned_does conn l whole C (signs next key rest) (is, may) =
    subst (λ (x : AgentList). RowDoes conn l (Some whole) C (sign_row conn x key rest)) (sym is) (sign_does conn l whole C key rest may)

standing_does : (stands : Option Standing) (conn : ℕ) (input : AgentInput) (l : AgentList) → RowDoes conn l (request_of stands input) (input ≡ inputs.KeyAnswer true) (standing_row stands conn input l)
standing_does None conn input l = RowDoes.passes refl
standing_does (Some standings.Closed) conn input l = RowDoes.passes refl
standing_does (Some stands) conn (inputs.Oversize length) l = RowDoes.ends (outputs.Closed causes.TooLong) tt refl
standing_does (Some stands) conn inputs.Close l = RowDoes.ends outputs.Nothing tt refl
standing_does (Some standings.Open) conn (inputs.Frame whole) l = turned_does conn l whole _ (frame_turn whole l) (frame_does whole l _)
standing_does (Some (standings.RequestAsked whole)) conn (inputs.RequestAnswer allowed) l = turned_does conn l whole _ (request_answer_turn allowed whole l) (request_answer_does allowed whole l _)
standing_does (Some (standings.KeyAsked whole)) conn (inputs.KeyAnswer confirmed) l = turned_does conn l whole _ (key_answer_turn confirmed whole l) (key_answer_does confirmed whole l)
standing_does (Some stands) conn input l = RowDoes.passes refl

-- each row
pub row_does : (now conn : ℕ) (input : AgentInput) (before : AgentList)
    → RowDoes conn (begun now conn before) (request_of (stands_in before conn) input) (input ≡ inputs.KeyAnswer true) (agent_row now conn input before)
unfolding agent_row seen_row
row_does now conn input before = standing_does (stands_in before conn) conn input (begun now conn before)

-- ---- a step

done_made : (x o : Outcome) (gained : List SignCall) → Makes (done x) gained o → (gained ≡ []) × (x ≡ o)
done_made x o [] is = (refl, is)
done_made x o (call ∷ gained) never = absurd never

done_first : (x : Outcome) (gained : List SignCall) → MakesFirst (done x) gained → gained ≡ []
done_first x [] is = refl
done_first x (call ∷ gained) never = absurd never

next_is : {x o : Outcome} → x ≡ o → o.next ≡ x.next
next_is is = ap (λ (y : Outcome). y.next) (sym is)

output_is : {x o : Outcome} → x ≡ o → o.output ≡ x.output
output_is is = ap (λ (y : Outcome). y.output) (sym is)

module _ (now conn : ℕ) (input : AgentInput) (before : AgentList) where
  abbrev At : AgentList
  At = begun now conn before

  permitted : (whole : List ℕ) (key : HeldKey) (q : SignRequest) → request_of (stands_in before conn) input ≡ Some whole → MaySign At whole (input ≡ inputs.KeyAnswer true) key → q.key ≡ key.pair → q.by ≡ Agent conn
      → IsPermittedRequest now conn input before q
  permitted whole key q request may pair by =
      record {
        whole = whole;
        request = request;
        key = key;
        may = record { unlocked = may.unlocked; body = may.body; blob = may.blob; rest = may.rest; frame = may.frame; names = may.names; is_held = may.is_held; confirms = may.confirms };
        pair_is = pair;
        asker = by;
      }

  module _ (after : AgentList) (output : AgentOutput) where
    abbrev Out : Outcome
    Out = record { next = after; output = output }

    by_answer : (q : SignRequest) (answer : Answer) (call : SignCall) (calls : List SignCall) → IsPermittedRequest now conn input before q → call ≡ call_of q answer → Makes (signed_row conn At answer) calls Out
        → Made now conn input before after (call ∷ calls) output
    by_answer q None call calls may is makes =
        let made = done_made _ Out calls makes in
        Made.refused q (λ i. is i ∷ made.0 i) may (next_is made.1) (output_is made.1)
    by_answer q (Some signature) call calls may is makes =
        let made = done_made _ Out calls makes in
        Made.signed q signature (λ i. is i ∷ made.0 i) may (next_is made.1) (output_is made.1)

    wanted : (q : SignRequest) (gained : List SignCall) → IsPermittedRequest now conn input before q → Makes (asks q (λ answer. signed_row conn At answer)) gained Out → Made now conn input before after gained output
    wanted q [] may never = absurd never
    wanted q (call ∷ calls) may (is, makes) = by_answer q call.answer call calls may is makes

    made_does : (asking : Asking Outcome) (gained : List SignCall) → RowDoes conn At (request_of (stands_in before conn) input) (input ≡ inputs.KeyAnswer true) asking → Makes asking gained Out
        → Made now conn input before after gained output
    made_does asking gained (RowDoes.passes is) makes =
        let made = done_made _ Out gained (subst (λ (a : Asking Outcome). Makes a gained Out) is makes) in
        Made.passed made.0 (next_is made.1) (output_is made.1)
    made_does asking gained (RowDoes.ends said ends is) makes =
        let made = done_made _ Out gained (subst (λ (a : Asking Outcome). Makes a gained Out) is makes) in
        Made.ended made.0 (next_is made.1) (subst IsEnd (sym (output_is made.1)) ends)
    made_does asking gained (RowDoes.answers whole next stands said request saying is) makes =
        let made = done_made _ Out gained (subst (λ (a : Asking Outcome). Makes a gained Out) is makes) in
        Made.answered made.0 whole next stands request (subst (λ (o : AgentOutput). Says At whole next o) (sym (output_is made.1)) saying) (next_is made.1)
    made_does asking gained (RowDoes.wants whole key q request may pair by is) makes =
        wanted q gained (permitted whole key q request may pair by) (subst (λ (a : Asking Outcome). Makes a gained Out) is makes)

  -- the calls before memory ran out
  cut_answer : (answer : Answer) (calls : List SignCall) → MakesFirst (signed_row conn At answer) calls → calls ≡ []
  cut_answer None calls first = done_first (record { next = standing conn standings.Closed At; output = outputs.Closed causes.SignerRefused }) calls first
  cut_answer (Some signature) calls first = done_first (record { next = standing conn standings.Open At; output = frame (14 ∷ string_text signature) }) calls first

  cut_wanted : (q : SignRequest) (gained : List SignCall) → IsPermittedRequest now conn input before q → MakesFirst (asks q (λ answer. signed_row conn At answer)) gained → Cut now conn input before gained
  cut_wanted q [] may first = inl refl
  cut_wanted q (call ∷ calls) may (is, first) =
      let none = cut_answer call.answer calls first in
      inr (q, call.answer, (λ i. is i ∷ none i), may)

  first_does : (asking : Asking Outcome) (gained : List SignCall) → RowDoes conn At (request_of (stands_in before conn) input) (input ≡ inputs.KeyAnswer true) asking → MakesFirst asking gained → Cut now conn input before gained
  first_does asking gained (RowDoes.passes is) first = inl (done_first (ignored At) gained (subst (λ (a : Asking Outcome). MakesFirst a gained) is first))
  first_does asking gained (RowDoes.ends said ends is) first = inl (done_first (record { next = standing conn standings.Closed At; output = said }) gained (subst (λ (a : Asking Outcome). MakesFirst a gained) is first))
  first_does asking gained (RowDoes.answers whole next stands said request saying is) first = inl (done_first (record { next = standing conn stands next; output = said }) gained (subst (λ (a : Asking Outcome). MakesFirst a gained) is first))
  first_does asking gained (RowDoes.wants whole key q request may pair by is) first =
      cut_wanted q gained (permitted whole key q request may pair by) (subst (λ (a : Asking Outcome). MakesFirst a gained) is first)

-- what a row with the signer's calls did
pub row_made : (now conn : ℕ) (input : AgentInput) (before after : AgentList) (gained : List SignCall) (output : AgentOutput) → Makes (agent_row now conn input before) gained (record { next = after; output = output })
    → Made now conn input before after gained output
row_made now conn input before after gained output makes = made_does now conn input before after output (agent_row now conn input before) gained (row_does now conn input before) makes

-- each step
pub step_does : (now conn : ℕ) (input : AgentInput) (before after : AgentList) (gained : List SignCall) (output : AgentOutput) → Steps now conn input before after gained output
    → StepDoes now conn input before after gained output
step_does now conn input before after gained output (inl makes) = StepDoes.made (row_made now conn input before after gained output makes)
step_does now conn input before after gained output (inr starves) =
    StepDoes.starves (first_does now conn input before (agent_row now conn input before) gained (row_does now conn input before) starves.asked) starves.list starves.closed

-- a step that a history shows
pub shown_step : (now conn : ℕ) (input : AgentInput) (before after : AgentList) (gained : List SignCall) (output : AgentOutput) → Shows now conn input before after gained output → Steps now conn input before after gained output
shown_step now conn input before after gained output (inl makes) = inl makes
shown_step now conn input before after gained output (inr starves) = inr starves.1
