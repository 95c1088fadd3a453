-- Which errors reading and judging return: laws about the definitions, also for crates that use this one.
use Rattle.std.proofs.Common.{ℕ, Bool, true, false, List, [], ◌∷◌, Option, Some, None, Result, Ok, Err, IfErr}
use Rattle.std.specs.Prelude.{if◌then◌else◌, filter}
use Rattle.sshc_wire.specs.Reads.{◌>>=◌}
use Rattle.base64.specs.Engines.{standard}
use Rattle.base64.specs.GeneralPurpose.{decode_of}
use Rattle.sshc_key.specs.KeyGrammar.{Key}
use Rattle.sshc_key.specs.KeyText.{decoded, decoded_key, is_no_line_end}
use Rattle.sshc_key.specs.Nesting.{blob_key, key_or_fault}
use Rattle.sshc_key.specs.declared.error.Error.{Error}
use Rattle.sshc_key.specs.declared.error.Error.TheVariants.{KeyChanged, Revoked}
use Rattle.sshc_hosts.specs.declared.marks.Mark.{Mark}
use Rattle.sshc_hosts.specs.MatchingLines.{LineKey, matching}
use Rattle.sshc_hosts.specs.Judgement.{KeysByMark, contradicts, first_line, has_key, verdict, judged_among, is_certificate, with_key, read_lines, marked_keys, known_keys, revoked_keys, judged, IsUnreadable, IsRefusal}

fault_case : (o : Option Key) → IfErr (key_or_fault o) IsUnreadable
fault_case None = tt
fault_case (Some key) = tt

decoded_case : {E : Type 0} (bytes : Result (List ℕ) E) → IfErr (decoded bytes) IsUnreadable
decoded_case (Ok blob) = fault_case (blob_key blob)
decoded_case (Err e) = tt

decoded_key-refuses : (text : List ℕ) → IfErr (decoded_key text) IsUnreadable
unfolding decoded_key
decoded_key-refuses text = decoded_case (decode_of standard (filter is_no_line_end text))

line_case : (n : ℕ) (mark : Mark) (key : Result Key Error) (rest : Result KeysByMark Error) → IfErr key IsUnreadable → IfErr rest IsUnreadable
    → IfErr (key >>= (λ k. rest >>= (λ keys. Ok (with_key mark (n, (k, [])) keys)))) IsUnreadable
line_case n mark (Ok key) (Ok rest) h k = tt
line_case n mark (Ok key) (Err e) h k = k
line_case n mark (Err e) rest h k = h

pub read_lines-refuses : (lines : List (ℕ × LineKey)) → IfErr (read_lines lines) IsUnreadable
read_lines-refuses [] = tt
read_lines-refuses (line ∷ lines) =
    line_case line.0 line.1.mark (decoded_key line.1.text) (read_lines lines) (decoded_key-refuses line.1.text) (read_lines-refuses lines)

pub marked_keys-refuses : (text host : List ℕ) → IfErr (marked_keys text host) IsUnreadable
unfolding marked_keys
marked_keys-refuses text host = read_lines-refuses (matching text host)

pub also_refusal : (e : Error) → IsUnreadable e → IsRefusal e
also_refusal (KeyChanged line) h = absurd h
also_refusal (Revoked line) h = absurd h
also_refusal e h = h

pub verdict_refuses : (revoking contrary recording : Option ℕ) → IfErr (verdict revoking contrary recording) IsRefusal
verdict_refuses (Some line) contrary recording = tt
verdict_refuses None (Some line) recording = tt
verdict_refuses None None recording = tt

keys_case : (keys : Result KeysByMark Error) (key : Key) → IfErr keys IsUnreadable → IfErr (keys >>= judged_among key) IsRefusal
keys_case (Ok keys) key h =
    verdict_refuses (first_line (has_key key) keys.revoked) (first_line (contradicts key) keys.recorded) (first_line (has_key key) keys.recorded)
keys_case (Err e) key h = also_refusal e h

certificate_case : (b : Bool) (keys : Result KeysByMark Error) (key : Key) → IfErr keys IsUnreadable
    → IfErr (if b then Ok false else (keys >>= judged_among key)) IsRefusal
certificate_case true keys key h = tt
certificate_case false keys key h = keys_case keys key h

pub judged-refuses : (text host : List ℕ) (key : Key) → IfErr (judged text host key) IsRefusal
unfolding judged
judged-refuses text host key = certificate_case (is_certificate key) (marked_keys text host) key (marked_keys-refuses text host)

-- the keys of one mark are refused as all of them are
part_case : {X : Type 0} (pick : KeysByMark → X) (keys : Result KeysByMark Error) → IfErr keys IsUnreadable → IfErr (keys >>= (λ k. Ok (pick k))) IsUnreadable
part_case pick (Ok keys) h = tt
part_case pick (Err e) h = h

pub known_keys-refuses : (text host : List ℕ) → IfErr (known_keys text host) IsUnreadable
unfolding known_keys
known_keys-refuses text host = part_case (λ keys. keys.recorded) (marked_keys text host) (marked_keys-refuses text host)

pub revoked_keys-refuses : (text host : List ℕ) → IfErr (revoked_keys text host) IsUnreadable
unfolding revoked_keys
revoked_keys-refuses text host = part_case (λ keys. keys.revoked) (marked_keys text host) (marked_keys-refuses text host)
