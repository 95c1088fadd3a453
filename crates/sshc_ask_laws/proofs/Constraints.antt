-- Constraints that a client wrote are those that the agent reads.
use Rattle.std.proofs.Common.{◌≡◌, ℕ, ◌<◌, ◌^◌, List, [], ◌∷◌, ◌++◌, Option, Some, None, Ok, Err, refl, ap, ◌∙◌, arith}
use Rattle.std.specs.List.{flat_map}
use Rattle.std.proofs.lemmas.List.Concat.{flat_map-cons}
use Rattle.sshc_wire.specs.declared.error.WireError.TheVariants.{Short}
use Rattle.sshc_wire.specs.Reads.{byte_at}
use Rattle.sshc_wire.specs.PartsLaws.{number32}
use Rattle.sshc_wire.specs.Whole.{all_at}
use Rattle.sshc_key.specs.declared.agent.Constraint.{Constraint}
use Rattle.sshc_key.specs.declared.agent.Constraint.TheVariants.{KeyLifetime, Confirm, Extensions}
use Rattle.sshc_agent_core.specs.declared.constraints.Constraints.{Constraints}
use Rattle.sshc_agent_core.specs.AgentTable.Add.{and_so, constraint_at, constraints_in, kept_in, unconstrained, with_one}
use Rattle.sshc_agent_core.proofs.Constrained.{kept_all, kept_fails, kept_next, kept_no_more}
use Rattle.sshc_ask.specs.AgentCalls.Frames.{constraint_text, constraints_text}
use Rattle.sshc_ask_laws.specs.AgentRound.{AreSeconds, held_under}

lifetime_again : (seconds : ℕ) (rest : List ℕ) → seconds < 2 ^ 32 → constraint_at (constraint_text (KeyLifetime seconds) ++ rest) ≡ Ok (Some seconds, rest)
unfolding constraint_at byte_at
lifetime_again seconds rest small = rw (number32.again seconds rest small) refl

confirm_again : (rest : List ℕ) → constraint_at (constraint_text Confirm ++ rest) ≡ Ok (None, rest)
unfolding constraint_at byte_at
confirm_again rest = refl

extension_refused : (name details rest : List ℕ) → constraint_at (constraint_text (Extensions name details) ++ rest) ≡ Err Short
unfolding constraint_at byte_at
extension_refused name details rest = refl

-- one constraint, and then the others
one_held : (text rest : List ℕ) (one : Option ℕ) (c : Constraints) (o : Option Constraints) (more : Constraints → Option Constraints) → constraint_at (text ++ rest) ≡ Ok (one, rest) → with_one c one ≡ o
    → ((d : Constraints) → kept_in (all_at constraint_at rest) d ≡ more d) → kept_in (all_at constraint_at (text ++ rest)) c ≡ and_so o more
one_held text rest one c None more read is later = kept_no_more (text ++ rest) one rest c read is
one_held text rest one c (Some d) more read is later = kept_next (text ++ rest) one rest c d read is ∙ later d

all_held : (constraints : List Constraint) (c : Constraints) → AreSeconds constraints → kept_in (all_at constraint_at (flat_map constraint_text constraints)) c ≡ held_under constraints c
all_held [] c fits = kept_all c
all_held (KeyLifetime seconds ∷ more) c fits =
    let rest = flat_map constraint_text more in
    ap (λ (bytes : List ℕ). kept_in (all_at constraint_at bytes) c) (flat_map-cons constraint_text (KeyLifetime seconds) more)
    ∙ one_held (constraint_text (KeyLifetime seconds)) rest (Some seconds) c (with_one c (Some seconds)) (held_under more) (lifetime_again seconds rest fits.0) refl (λ d. all_held more d fits.1)
all_held (Confirm ∷ more) c fits =
    let rest = flat_map constraint_text more in
    ap (λ (bytes : List ℕ). kept_in (all_at constraint_at bytes) c) (flat_map-cons constraint_text Confirm more)
    ∙ one_held (constraint_text Confirm) rest None c (with_one c None) (held_under more) (confirm_again rest) refl (λ d. all_held more d fits)
all_held (Extensions name details ∷ more) c fits =
    let rest = flat_map constraint_text more in
    ap (λ (bytes : List ℕ). kept_in (all_at constraint_at bytes) c) (flat_map-cons constraint_text (Extensions name details) more)
    ∙ kept_fails (constraint_text (Extensions name details) ++ rest) c Short (omega arith) (extension_refused name details rest)

pub constraints_again : (constraints : List Constraint) → AreSeconds constraints → constraints_in (constraints_text constraints) ≡ held_under constraints unconstrained
constraints_again constraints fits = all_held constraints unconstrained fits
