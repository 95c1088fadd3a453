-- The calls read the agent's answers.
use Rattle.std.proofs.Common.{◌≡◌, ℕ, ◌+◌, ◌≤◌, ◌<◌, ◌^◌, Bool, true, false, List, [], ◌∷◌, ◌++◌, length, Option, None, Result, Ok, Err, refl, sym, ap, ◌∙◌, arith, append_assoc, length-append}
use Rattle.std.specs.Prelude.{if◌then◌else◌}
use Rattle.std.specs.List.{flat_map}
use Rattle.std.proofs.lemmas.List.{append-nil}
use Rattle.std.proofs.lemmas.List.Concat.{flat_map-cons}
use Rattle.sshc_wire.specs.declared.hash_alg.HashAlg.{HashAlg}
use Rattle.sshc_wire.specs.Counted.{times_at}
use Rattle.sshc_wire.specs.Reads.{◌>>=◌}
use Rattle.sshc_wire.specs.WholeLaws.{whole}
use Rattle.sshc_wire.specs.Wire.{IsShort, counted_text, string_text, u32_text}
use Rattle.sshc_key.specs.declared.agent.AgentIdentity.{AgentIdentity}
use Rattle.sshc_key.specs.declared.error.Error.{Error}
use Rattle.sshc_key.specs.declared.error.Error.TheVariants.{AgentProtocolError, SshEncoding}
use Rattle.sshc_key.specs.declared.signature.Signature.{Signature}
use Rattle.sshc_key.specs.KeyGrammar.{Key, SignatureFits, signature_text, sk_text}
use Rattle.sshc_key.specs.KeyLaws.Fields.{numbers32, octets, utf8s}
use Rattle.sshc_key.specs.KeyLaws.Keys.{signatures}
use Rattle.sshc_key.specs.KeyReading.{octets_at, utf8_at}
use Rattle.sshc_key.specs.Nesting.{blob_key, key_or_fault}
use Rattle.sshc_agent_core.specs.declared.key_list.HeldKey.{HeldKey}
use Rattle.sshc_key.specs.AgentNumbers.{MAX_AGENT_FRAME_LEN}
use Rattle.sshc_agent_core.specs.KeyList.{identity_text, listing}
use Rattle.sshc_ask.specs.AgentCalls.Readings.{asked_signature, base64_reading, extension_reading, identities_reading, identity_at, identity_of, is_asked, listed, query_reading, sign_reading, signature_reading, signature_text_in, success_reading}
use Rattle.sshc_ask_laws.specs.AgentRound.{ReadsAnswers, readable_keys, signed_answer}
use Rattle.sshc_ask_laws.proofs.Short.{length-string_text, no_text}

pub reads_answers : ReadsAnswers
unfolding success_reading extension_reading query_reading identities_reading sign_reading signature_reading base64_reading
reads_answers = record {
  success = refl;
  failure = refl;
  extension_failure = refl;
  query_failure = refl;
  identities_failure = refl;
  sign_failure = λ asked bytes. refl;
  signature_failure = refl;
  base64_failure = refl;
}

-- ---- listings

abbrev Found : Type 0
Found = Result (List AgentIdentity × List ℕ) Error

-- these, and no bytes remain
abbrev all_of : List AgentIdentity → Found
all_of xs = Ok (xs, [])

-- a key under an empty comment, and what follows it
abbrev one_of : List ℕ → Key → Result (AgentIdentity × List ℕ) Error
one_of rest key = Ok (identity_of key [], rest)

-- a key of a listing is its blob's key, under an empty comment
identity_again : (blob rest : List ℕ) → IsShort blob → identity_at ((string_text blob ++ string_text []) ++ rest) ≡ (key_or_fault (blob_key blob) >>= one_of rest)
unfolding identity_at
identity_again blob rest short =
    ap (λ (bytes : List ℕ). octets_at bytes >>= λ b. utf8_at b.1 >>= λ comment. key_or_fault (blob_key b.0) >>= λ key. Ok (identity_of key comment.0, comment.1)) (append_assoc (string_text blob) (string_text []) rest)
    ∙ rw (octets.again blob (string_text [] ++ rest) short, utf8s.again [] rest (omega arith, no_text)) refl

-- a key in front of those that follow
abbrev in_front : AgentIdentity → Found → Found
in_front x (Ok xs) = Ok (x ∷ xs.0, xs.1)
in_front x (Err e) = Err e

in_front_is : (x : AgentIdentity) (r : Found) → (r >>= λ xs. Ok (x ∷ xs.0, xs.1)) ≡ in_front x r
in_front_is x (Ok xs) = refl
in_front_is x (Err e) = refl

abbrev keys_in_front : Key → Result (List AgentIdentity) Error → Result (List AgentIdentity) Error
keys_in_front key more = more >>= λ xs. Ok (identity_of key [] ∷ xs)

-- a key and those that follow, and the remaining bytes
then_found : (k : Result Key Error) (rest : List ℕ) (later : List ℕ → Found) (more : Result (List AgentIdentity) Error) → later rest ≡ (more >>= all_of)
    → ((k >>= one_of rest) >>= λ x. in_front x.0 (later x.1)) ≡ ((k >>= λ key. keys_in_front key more) >>= all_of)
then_found (Err e) rest later more is = refl
then_found (Ok key) rest later (Ok xs) is = rw is refl
then_found (Ok key) rest later (Err e) is = rw is refl

-- the first of several keys and then the others
first_key : (n : ℕ) (r : Result (AgentIdentity × List ℕ) Error) → (r >>= λ x. times_at n identity_at x.1 >>= λ xs. Ok (x.0 ∷ xs.0, xs.1)) ≡ (r >>= λ x. in_front x.0 (times_at n identity_at x.1))
first_key n (Ok x) = in_front_is x.0 (times_at n identity_at x.1)
first_key n (Err e) = refl

keys_again : (keys : List HeldKey) → length (flat_map identity_text keys) < 2 ^ 32 → times_at (length keys) identity_at (flat_map identity_text keys) ≡ (readable_keys keys >>= all_of)
keys_again [] few = refl
keys_again (key ∷ keys) few =
    let rest = flat_map identity_text keys in
    let front = flat_map-cons identity_text key keys in
    let size : length (flat_map identity_text (key ∷ keys)) ≡ (length (string_text key.blob) + length (string_text [])) + length rest =
    ap length front ∙ length-append (identity_text key) rest ∙ ap (λ (n : ℕ). n + length rest) (length-append (string_text key.blob) (string_text [])) in
    let short : IsShort key.blob = omega (arith, few, size, length-string_text key.blob) in
    let later = keys_again keys (omega (arith, few, size)) in
    ap (times_at (length (key ∷ keys)) identity_at) front
    ∙ ap (λ (r : Result (AgentIdentity × List ℕ) Error). r >>= λ x. times_at (length keys) identity_at x.1 >>= λ xs. Ok (x.0 ∷ xs.0, xs.1)) (identity_again key.blob rest short)
    ∙ first_key (length keys) (key_or_fault (blob_key key.blob) >>= one_of rest)
    ∙ then_found (key_or_fault (blob_key key.blob)) rest (times_at (length keys) identity_at) (readable_keys keys) later

only : (r : Result (List AgentIdentity) Error) → ((r >>= all_of) >>= λ found. Ok found.0) ≡ r
only (Ok xs) = refl
only (Err e) = refl

-- a listing has at least as many bytes as keys
few_keys : (keys : List HeldKey) → length keys ≤ length (flat_map identity_text keys)
few_keys [] = omega arith
few_keys (key ∷ keys) =
    omega (arith, few_keys keys, ap length (flat_map-cons identity_text key keys), length-append (identity_text key) (flat_map identity_text keys), length-append (string_text key.blob) (string_text []), length-string_text key.blob)

pub lists_keys : (keys : List HeldKey) → length (listing keys) ≤ MAX_AGENT_FRAME_LEN → identities_reading (listing keys) ≡ readable_keys keys
unfolding identities_reading listed counted_text
lists_keys keys few =
    let texts = flat_map identity_text keys in
    let size = length-append (u32_text (length keys)) texts in
    let small : length texts < 2 ^ 32 = omega (arith, few, size) in
    ap (λ (r : Result (ℕ × List ℕ) Error). r >>= λ count. times_at count.0 identity_at count.1 >>= λ found. Ok found.0) (numbers32.again (length keys) texts (omega (arith, small, few_keys keys)))
    ∙ ap (λ (r : Found). r >>= λ found. Ok found.0) (keys_again keys small)
    ∙ only (readable_keys keys)

-- ---- signatures

-- the string of a signature
string_read : (sig : List ℕ) → IsShort sig → octets_at (string_text sig) ≡ Ok (sig, [])
string_read sig short = ap octets_at (sym (append-nil (string_text sig))) ∙ octets.again sig [] short

asked_again : (asked : Option HashAlg) (s : Signature) → SignatureFits s → asked_signature asked (signature_text s) ≡ (if is_asked asked s.name then Ok s else Err AgentProtocolError)
unfolding asked_signature
asked_again asked s fits =
    rw (utf8s.again s.name (string_text s.body ++ sk_text s.sk) fits.name, (whole SshEncoding signatures).again s fits) refl

-- by whether the name is one that was asked for
signed_by : (b : Bool) (s : Signature) (bytes sig : List ℕ) → (((if b then Ok s else Err AgentProtocolError) >>= λ x. Ok sig) >>= λ text. Ok (bytes ++ string_text text)) ≡ (if b then Ok (bytes ++ string_text sig) else Err AgentProtocolError)
signed_by true s bytes sig = refl
signed_by false s bytes sig = refl

pub signed_again : (asked : Option HashAlg) (bytes : List ℕ) (s : Signature) → SignatureFits s → length (signature_text s) < 2 ^ 32
    → sign_reading asked bytes (signed_answer s) ≡ (if is_asked asked s.name then Ok (bytes ++ string_text (signature_text s)) else Err AgentProtocolError)
unfolding sign_reading signature_text_in
signed_again asked bytes s fits short =
    ap (λ (r : Result (List ℕ × List ℕ) Error). (r >>= λ text. asked_signature asked text.0 >>= λ x. Ok text.0) >>= λ text. Ok (bytes ++ string_text text)) (string_read (signature_text s) short)
    ∙ ap (λ (r : Result Signature Error). (r >>= λ x. Ok (signature_text s)) >>= λ text. Ok (bytes ++ string_text text)) (asked_again asked s fits)
    ∙ signed_by (is_asked asked s.name) s bytes (signature_text s)

pub signature_again : (s : Signature) → SignatureFits s → length (signature_text s) < 2 ^ 32 → signature_reading (signed_answer s) ≡ Ok s
unfolding signature_reading
signature_again s fits short =
    ap (λ (r : Result (List ℕ × List ℕ) Error). r >>= λ text. asked_signature None text.0) (string_read (signature_text s) short) ∙ asked_again None s fits
