-- Prompts that were read, and those that are still to be read.
use Rattle.std.proofs.Common.{◌≡◌, ◌⊎◌, inl, inr, ℕ, suc, ◌+◌, ◌-◌, ◌<◌, List, [], ◌∷◌, ◌++◌, Result, Ok, Err, refl, ap, sym, ◌∙◌, append-nil, append_assoc, arith}
use Rattle.sshc_wire.specs.declared.error.WireError.{WireError}
use Rattle.sshc_wire.specs.declared.auth_record.Prompt.{Prompt}
use Rattle.sshc_auth.specs.declared.error.Error.{Error}
use Rattle.sshc_auth.specs.declared.error.Error.TheVariants.{NoMemory, SshEncoding}
use Rattle.sshc_auth.specs.Reading.{IsBroken}
use Rattle.sshc_auth.specs.OpeningTable.AuthPrompts.{prompt_at, prompts_at, prompts_from, behind_prompt}

abbrev pub Prompts : Type 0
Prompts = Result (List Prompt × List ℕ) WireError

-- the prompts that were read come first
abbrev pub behind_all : List Prompt → Prompts → Prompts
behind_all prompts (Ok more) = Ok (prompts ++ more.0, more.1)
behind_all prompts (Err e) = Err e

pub behind_none : (read : Prompts) → behind_all [] read ≡ read
behind_none (Ok more) = refl
behind_none (Err e) = refl

pub behind_one : (prompts : List Prompt) (prompt : Prompt) (read : Prompts) → behind_all prompts (behind_prompt prompt read) ≡ behind_all (prompts ++ prompt ∷ []) read
behind_one prompts prompt (Ok more) = ap (λ (ps : List Prompt). Ok (ps, more.1)) (sym (append_assoc prompts (prompt ∷ []) more.0))
behind_one prompts prompt (Err e) = refl

-- the next of the prompts that are still to be read
next_at : (left : ℕ) (body : List ℕ) → prompts_at (suc left) body ≡ prompts_from (λ rest. prompts_at left rest) (prompt_at body)
unfolding prompts_at
next_at left body = refl

one_of : (n k : ℕ) → k < n → n - k ≡ suc (n - (k + 1))
one_of n k below = omega arith

pub next_prompt : (n k : ℕ) (body rest : List ℕ) (prompt : Prompt) → k < n → prompt_at body ≡ Ok (prompt, rest) → prompts_at (n - k) body ≡ behind_prompt prompt (prompts_at (n - (k + 1)) rest)
next_prompt n k body rest prompt below read =
    ap (λ (m : ℕ). prompts_at m body) (one_of n k below) ∙ next_at (n - (k + 1)) body ∙ ap (prompts_from (λ r. prompts_at (n - (k + 1)) r)) read

broken_from : (on : List ℕ → Prompts) (read : Result (Prompt × List ℕ) WireError) → IsBroken read → IsBroken (prompts_from on read)
broken_from on (Ok x) broken = absurd broken
broken_from on (Err e) broken = tt

broken_behind : (prompts : List Prompt) (read : Prompts) → IsBroken read → IsBroken (behind_all prompts read)
broken_behind prompts (Ok more) broken = absurd broken
broken_behind prompts (Err e) broken = tt

-- if the next prompt is broken, all of them are
pub broken_prompt : (n k : ℕ) (start body : List ℕ) (prompts : List Prompt) → k < n → prompts_at n start ≡ behind_all prompts (prompts_at (n - k) body) → IsBroken (prompt_at body) → IsBroken (prompts_at n start)
broken_prompt n k start body prompts below is broken =
    let next : prompts_at (n - k) body ≡ prompts_from (λ rest. prompts_at (n - (k + 1)) rest) (prompt_at body) = ap (λ (m : ℕ). prompts_at m body) (one_of n k below) ∙ next_at (n - (k + 1)) body in
    rw is (broken_behind prompts (prompts_at (n - k) body) (rw next (broken_from (λ rest. prompts_at (n - (k + 1)) rest) (prompt_at body) broken)))

none_left : (body : List ℕ) → prompts_at 0 body ≡ Ok ([], body)
unfolding prompts_at
none_left body = refl

-- at the end no prompts remain to be read
pub all_read : (n k : ℕ) (start body : List ℕ) (prompts : List Prompt) → n - k ≡ 0 → prompts_at n start ≡ behind_all prompts (prompts_at (n - k) body) → prompts_at n start ≡ Ok (prompts, body)
all_read n k start body prompts done is =
    is ∙ ap (λ (m : ℕ). behind_all prompts (prompts_at m body)) done ∙ ap (behind_all prompts) (none_left body) ∙ ap (λ (ps : List Prompt). Ok (ps, body)) (append-nil prompts)

-- if a prompt can't be read, none of them can
pub err_prompt : (n k : ℕ) (start body : List ℕ) (prompts : List Prompt) (e : Error) → k < n → prompts_at n start ≡ behind_all prompts (prompts_at (n - k) body) →
    ((e ≡ NoMemory) ⊎ ((e ≡ SshEncoding) × IsBroken (prompt_at body))) → (e ≡ NoMemory) ⊎ ((e ≡ SshEncoding) × IsBroken (prompts_at n start))
err_prompt n k start body prompts e below is (inl memory) = inl memory
err_prompt n k start body prompts e below is (inr (encoding, broken)) = inr (encoding, broken_prompt n k start body prompts below is broken)
