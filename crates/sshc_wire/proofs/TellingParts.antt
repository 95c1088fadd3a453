-- Parts of a text that were written are read again.
use Rattle.std.proofs.Common.{◌≡◌, ℕ, suc, ◌<◌, ◌^◌, Bool, List, [], ◌∷◌, ◌++◌, length, Ok, refl, sym, ap, ◌∙◌, append_assoc, arith}
use Rattle.std.proofs.lemmas.List.{append-nil}
use Rattle.std.proofs.lemmas.List.Concat.{flat_map-cons}
use Rattle.std.specs.Int.{w32}
use Rattle.std.specs.List.{flat_map, All}
use Rattle.sshc_wire.specs.Counted.{times_at}
use Rattle.sshc_wire.specs.CountedLaws.{boolean-again}
use Rattle.sshc_wire.specs.PartsLaws.{number32, strings}
use Rattle.sshc_wire.specs.Reads.{Reader, boolean_at, number_at, string_at}
use Rattle.sshc_wire.specs.Reasons.{open_failure_code}
use Rattle.sshc_wire.specs.Records.{prompt_text}
use Rattle.sshc_wire.specs.Wire.{IsShort, bool_text, counted_text, string_text, u32_text}
use Rattle.sshc_wire.specs.declared.auth_record.Prompt.{Prompt}
use Rattle.sshc_wire.specs.declared.channel_open_failure.ChannelOpenFailure.{ChannelOpenFailure}
use Rattle.sshc_wire.specs.declared.channel_open_failure.ChannelOpenFailure.TheVariants.{AdministrativelyProhibited, ConnectFailed, UnknownChannelType, ResourceShortage}
use Rattle.sshc_wire.specs.declared.error.WireError.{WireError}
use Rattle.sshc_wire.specs.Fitting.{FitsPrompt}
use Rattle.sshc_wire.specs.RecordReads.{prompt_at, prompts_at, reason_at, strings_at}

pub last_number : (n : ℕ) → n < 2 ^ 32 → number_at w32 (u32_text n) ≡ Ok (n, [])
last_number n small = ap (number_at w32) (sym (append-nil (u32_text n))) ∙ number32.again n [] small

pub last_string : (t : List ℕ) → IsShort t → string_at (string_text t) ≡ Ok (t, [])
last_string t short = ap string_at (sym (append-nil (string_text t))) ∙ strings.again t [] short

pub last_flag : (flag : Bool) → boolean_at (bool_text flag) ≡ Ok (flag, [])
last_flag flag = ap boolean_at (sym (append-nil (bool_text flag))) ∙ boolean-again flag []

-- ---- reasons

pub again_reason : (r : ChannelOpenFailure) (rest : List ℕ) → reason_at (u32_text (open_failure_code r) ++ rest) ≡ Ok (r, rest)
unfolding reason_at
again_reason AdministrativelyProhibited rest = rw (number32.again 1 rest (omega arith)) refl
again_reason ConnectFailed rest = rw (number32.again 2 rest (omega arith)) refl
again_reason UnknownChannelType rest = rw (number32.again 3 rest (omega arith)) refl
again_reason ResourceShortage rest = rw (number32.again 4 rest (omega arith)) refl

pub last_reason : (r : ChannelOpenFailure) → reason_at (u32_text (open_failure_code r)) ≡ Ok (r, [])
last_reason r = ap reason_at (sym (append-nil (u32_text (open_failure_code r)))) ∙ again_reason r []

-- ---- counted parts

-- each value with this property is read again
abbrev IsRead : {A : Type 0} → (A → List ℕ) → (A → Type 0) → Reader WireError A → Type 0
IsRead {A} t F f = (x : A) (rest : List ℕ) → F x → f (t x ++ rest) ≡ Ok (x, rest)

times_again : {A : Type 0} (t : A → List ℕ) (F : A → Type 0) (f : Reader WireError A) → IsRead t F f → (xs : List A) (rest : List ℕ) → All F xs
    → times_at (length xs) f (flat_map t xs ++ rest) ≡ Ok (xs, rest)
times_again t F f again [] rest fits = refl
times_again {A} t F f again (x ∷ xs) rest fits =
    let behind : flat_map t (x ∷ xs) ++ rest ≡ t x ++ (flat_map t xs ++ rest) = ap (λ (s : List ℕ). s ++ rest) (flat_map-cons t x xs) ∙ append_assoc (t x) (flat_map t xs) rest in
    ap (times_at (length (x ∷ xs)) f) behind ∙ rw (again x (flat_map t xs ++ rest) (fits 0 x (omega arith)), times_again t F f again xs rest (λ k d lt. fits (suc k) d (omega (arith, lt)))) refl

last_times : {A : Type 0} (t : A → List ℕ) (F : A → Type 0) (f : Reader WireError A) → IsRead t F f → (xs : List A) → All F xs → times_at (length xs) f (flat_map t xs) ≡ Ok (xs, [])
last_times t F f again xs fits = ap (times_at (length xs) f) (sym (append-nil (flat_map t xs))) ∙ times_again t F f again xs [] fits

pub last_strings : (xs : List (List ℕ)) → length xs < 2 ^ 32 → All IsShort xs → strings_at (counted_text string_text xs) ≡ Ok (xs, [])
unfolding strings_at counted_text
last_strings xs small fits = rw (number32.again (length xs) (flat_map string_text xs) small) (last_times string_text IsShort string_at strings.again xs fits)

again_prompt : (p : Prompt) (rest : List ℕ) → FitsPrompt p → prompt_at (prompt_text p ++ rest) ≡ Ok (p, rest)
unfolding prompt_at
again_prompt p rest short = rw (append_assoc (string_text p.prompt) (bool_text p.echo) rest, strings.again p.prompt (bool_text p.echo ++ rest) short, boolean-again p.echo rest) refl

pub last_prompts : (xs : List Prompt) → length xs < 2 ^ 32 → All FitsPrompt xs → prompts_at (counted_text prompt_text xs) ≡ Ok (xs, [])
unfolding prompts_at counted_text
last_prompts xs small fits = rw (number32.again (length xs) (flat_map prompt_text xs) small) (last_times prompt_text FitsPrompt prompt_at again_prompt xs fits)
