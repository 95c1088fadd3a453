-- Prompts that were read are those of the bytes: of each its text and its echo.
use Rattle.std.proofs.Common.{◌≡◌, ℕ, zero, suc, List, [], ◌∷◌, length, Bool, Result, Ok, Err, refl, ap, sym, ◌∙◌, subst}
use Rattle.sshc_wire.specs.Reads.{boolean_at, text_at}
use Rattle.sshc_wire.specs.declared.error.WireError.{WireError}
use Rattle.sshc_wire.specs.declared.auth_record.Prompt.{Prompt}
use Rattle.sshc_auth.specs.OpeningTable.AuthPrompts.{behind_prompt, prompt_at, prompt_from, prompts_at, prompts_from, with_echo}
use Rattle.sshc_auth.specs.OpeningAnswers.{ArePrompts}

abbrev Prompts : Type 0
Prompts = Result (List Prompt × List ℕ) WireError

-- the first of the prompts, and those after it
record First (on : List ℕ → Prompts) (body : List ℕ) (asked : List Prompt) (left : List ℕ) : Type 0 where
  one : Prompt
  more : List Prompt
  rest : List ℕ
  after : List ℕ
  text : text_at body ≡ Ok (one.prompt, rest)
  echo : boolean_at rest ≡ Ok (one.echo, after)
  others : on after ≡ Ok (more, left)
  all : asked ≡ one ∷ more

first : (on : List ℕ → Prompts) (body : List ℕ) (asked : List Prompt) (left : List ℕ) → prompts_from on (prompt_at body) ≡ Ok (asked, left) → First on body asked left
first on body asked left is = by_text (text_at body) refl is
  where
    by_more : (prompt : Prompt) (rest after : List ℕ) (read : Prompts) → text_at body ≡ Ok (prompt.prompt, rest) → boolean_at rest ≡ Ok (prompt.echo, after) → on after ≡ read → behind_prompt prompt read ≡ Ok (asked, left) → First on body asked left
    by_more prompt rest after (Ok more) text echo others is =
        let same : ◌≡◌ {A = List Prompt × List ℕ} (prompt ∷ more.0, more.1) (asked, left) = cc in
        record { one = prompt; more = more.0; rest = rest; after = after; text = text; echo = echo; others = others ∙ ap (λ (end : List ℕ). Ok (more.0, end)) (ap (λ (p : List Prompt × List ℕ). p.1) same); all = sym (ap (λ (p : List Prompt × List ℕ). p.0) same) }
    by_more prompt rest after (Err e) text echo others is = absurd cc

    by_echo : (prompt rest : List ℕ) (read : Result (Bool × List ℕ) WireError) → text_at body ≡ Ok (prompt, rest) → boolean_at rest ≡ read → prompts_from on (with_echo prompt read) ≡ Ok (asked, left) → First on body asked left
    by_echo prompt rest (Ok echo) text read is = by_more (record { prompt = prompt; echo = echo.0 }) rest echo.1 (on echo.1) text read refl is
    by_echo prompt rest (Err e) text read is = absurd cc

    by_text : (read : Result (List ℕ × List ℕ) WireError) → text_at body ≡ read → prompts_from on (prompt_from read) ≡ Ok (asked, left) → First on body asked left
    by_text (Ok prompt) text is = by_echo prompt.0 prompt.1 (boolean_at prompt.1) text refl is
    by_text (Err e) text is = absurd cc

-- as many as were counted
pub record AreRead (n : ℕ) (asked : List Prompt) (body left : List ℕ) : Type 0 where
  pub count : n ≡ length asked
  pub prompts : ArePrompts asked body left

pub are_prompts : (n : ℕ) (body : List ℕ) (asked : List Prompt) (left : List ℕ) → prompts_at n body ≡ Ok (asked, left) → AreRead n asked body left
unfolding prompts_at
are_prompts zero body asked left is =
    let same : ◌≡◌ {A = List Prompt × List ℕ} ([], body) (asked, left) = cc in
    let none : [] ≡ asked = ap (λ (p : List Prompt × List ℕ). p.0) same in
    subst (λ (all : List Prompt). AreRead 0 all body left) none (record { count = refl; prompts = sym (ap (λ (p : List Prompt × List ℕ). p.1) same) })
are_prompts (suc n) body asked left is =
    let one = first (λ rest. prompts_at n rest) body asked left is in
    let more = are_prompts n one.after one.more left one.others in
    rw one.all (record { count = ap suc more.count; prompts = (one.rest, one.after, one.text, one.echo, more.prompts) })
