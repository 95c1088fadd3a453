-- Reading keys of strings one after another, as a loop does.
use Rattle.std.proofs.Common.{◌≡◌, ℕ, ◌<◌, List, [], ◌∷◌, ◌++◌, length, Result, Ok, Err, refl, sym, ap, ◌∙◌, append_assoc, arith}
use Rattle.std.proofs.lemmas.List.{append-nil}
use Rattle.std.proofs.lemmas.List.Concat.{flat_map-cons}
use Rattle.sshc_wire.specs.FormatLaws.{faults_ok}
use Rattle.sshc_wire.specs.PartsLaws.{string_takes_bytes}
use Rattle.sshc_wire.specs.Reads.{◌>>=◌, string_at}
use Rattle.sshc_wire.specs.Whole.{Takes, all_at}
use Rattle.sshc_wire.specs.WholeLaws.{all_none, all_more, all_fails}
use Rattle.sshc_key.specs.KeyGrammar.{Key}
use Rattle.sshc_key.specs.Nesting.{blob_key}
use Rattle.sshc_client_packets.specs.declared.error.PacketError.{PacketError}
use Rattle.sshc_client_packets.specs.declared.error.PacketError.TheVariants as errors
use Rattle.sshc_client_packets.specs.Parts.{Fails, as_encoding, octets_at}
use Rattle.sshc_client_packets.specs.PeerGlobals.{found_key, readable_keys}

-- the keys that were kept before, and those of the strings still to be read
abbrev pub with_keys : List (Key × List ℕ) → Result (List (List ℕ)) PacketError → Result (List (Key × List ℕ)) PacketError
with_keys front read = read >>= λ strings. Ok (front ++ readable_keys strings)

pub octets_take : Takes octets_at
unfolding octets_at
octets_take bytes x rest e = string_takes_bytes bytes x rest (faults_ok as_encoding (string_at bytes) (x, rest) e)

more_keys : (front : List (Key × List ℕ)) (s : List ℕ) (strings : List (List ℕ)) → front ++ readable_keys (s ∷ strings) ≡ (front ++ found_key (blob_key s)) ++ readable_keys strings
more_keys front s strings =
    ap (λ (keys : List (Key × List ℕ)). front ++ keys) (flat_map-cons (λ t. found_key (blob_key t)) s strings)
    ∙ sym (append_assoc front (found_key (blob_key s)) (readable_keys strings))

regroup : (front : List (Key × List ℕ)) (s : List ℕ) (read : Result (List (List ℕ)) PacketError) → with_keys front (read >>= λ strings. Ok (s ∷ strings)) ≡ with_keys (front ++ found_key (blob_key s)) read
regroup front s (Ok strings) = ap (λ (keys : List (Key × List ℕ)). Ok keys) (more_keys front s strings)
regroup front s (Err e) = refl

pub goes_on : (front : List (Key × List ℕ)) (bytes s rest : List ℕ) (total : Result (List (Key × List ℕ)) PacketError) → octets_at bytes ≡ Ok (s, rest)
    → with_keys front (all_at octets_at bytes) ≡ total → with_keys (front ++ found_key (blob_key s)) (all_at octets_at rest) ≡ total
goes_on front bytes s rest total e so_far =
    sym (ap (with_keys front) (all_more octets_at octets_take bytes s rest e) ∙ regroup front s (all_at octets_at rest)) ∙ so_far

pub stops : (e : PacketError) (front : List (Key × List ℕ)) (bytes : List ℕ) (total : Result (List (Key × List ℕ)) PacketError) → 0 < length bytes → Fails e (octets_at bytes)
    → with_keys front (all_at octets_at bytes) ≡ total → Fails e total
stops errors.NoMemory front bytes total h fails so_far = tt
stops errors.SshEncoding front bytes total h fails so_far =
    sym so_far ∙ ap (with_keys front) (all_fails octets_at bytes errors.SshEncoding h fails)

pub is_done : (front : List (Key × List ℕ)) (bytes : List ℕ) (total : Result (List (Key × List ℕ)) PacketError) → length bytes ≡ 0
    → with_keys front (all_at octets_at bytes) ≡ total → total ≡ Ok front
is_done front [] total h so_far =
    sym so_far ∙ ap (with_keys front) (all_none octets_at) ∙ ap (λ (keys : List (Key × List ℕ)). Ok keys) (append-nil front)
is_done front (b ∷ bytes) total h so_far = absurd (omega arith)
