-- The answer for a judgement.
use Rattle.std.proofs.Common.{◌≡◌, inl, inr, Bool, true, Result, Ok, Err, refl, ap, sym, ◌∙◌, arith}
use Rattle.sshc_key.specs.Gives.{GivesAll}
use Rattle.sshc_key.specs.declared.error.Error.{Error}
use Rattle.sshc_key.specs.declared.error.Error.TheVariants.{NoMemory, CouldNotReadKey, NoHomeDir, KeyChanged, AgentProtocolError, AgentFailure, Decode, SshKey, SshEncoding, EnvVar, BadAuthSock, Utf8, ReadFault, WriteFault, UnexpectedEnd, Revoked}
use Rattle.sshc_c_calls.specs.declared.hosts.HostAnswer.{HostAnswer}
use Rattle.sshc_hosts_openssh.specs.declared.judgement.HostStatus.{HostStatus}
use Rattle.sshc_hosts_openssh.specs.declared.judgement.HostStatus.TheVariants.{Known, Certified, Changed, Unknown}
use Rattle.sshc_hosts_openssh.specs.declared.judgement.HostStatus.TheVariants as status
use Rattle.sshc_hosts_openssh.specs.Acceptance.{is_accepted}
use Rattle.sshc_c_calls.specs.HostAnswers.{IsAnswer, answer_of, answer_of_status}

-- the answer for what a call returned is that for what it yields, or out of memory
pub judged_says : (v r : Result Bool Error) (given : HostAnswer) → GivesAll (λ b. b) v r → given ≡ answer_of v → IsAnswer (answer_of r) given
judged_says (Ok b) r given e f = inr (f ∙ ap answer_of (sym e))
judged_says (Err NoMemory) r given e f = inl f
judged_says (Err CouldNotReadKey) r given e f = inr (f ∙ ap answer_of (sym e))
judged_says (Err NoHomeDir) r given e f = inr (f ∙ ap answer_of (sym e))
judged_says (Err (KeyChanged line)) r given e f = inr (f ∙ ap answer_of (sym e))
judged_says (Err AgentProtocolError) r given e f = inr (f ∙ ap answer_of (sym e))
judged_says (Err AgentFailure) r given e f = inr (f ∙ ap answer_of (sym e))
judged_says (Err Decode) r given e f = inr (f ∙ ap answer_of (sym e))
judged_says (Err SshKey) r given e f = inr (f ∙ ap answer_of (sym e))
judged_says (Err SshEncoding) r given e f = inr (f ∙ ap answer_of (sym e))
judged_says (Err EnvVar) r given e f = inr (f ∙ ap answer_of (sym e))
judged_says (Err BadAuthSock) r given e f = inr (f ∙ ap answer_of (sym e))
judged_says (Err Utf8) r given e f = inr (f ∙ ap answer_of (sym e))
judged_says (Err ReadFault) r given e f = inr (f ∙ ap answer_of (sym e))
judged_says (Err WriteFault) r given e f = inr (f ∙ ap answer_of (sym e))
judged_says (Err UnexpectedEnd) r given e f = inr (f ∙ ap answer_of (sym e))
judged_says (Err (Revoked line)) r given e f = inr (f ∙ ap answer_of (sym e))

-- by OpenSSH's reading, the answer that a key is known is that for an accepted one
pub accepted_says : (status : HostStatus) (given : HostAnswer) → given ≡ answer_of_status status → given.status ≡ 0 → is_accepted status ≡ true
accepted_says (Known line) given is zero = refl
accepted_says (Certified line) given is zero = refl
accepted_says (Changed line) given is zero = absurd (omega (arith, ap (λ (a : HostAnswer). a.status) is, zero))
accepted_says (status.Revoked line) given is zero = absurd (omega (arith, ap (λ (a : HostAnswer). a.status) is, zero))
accepted_says Unknown given is zero = absurd (omega (arith, ap (λ (a : HostAnswer). a.status) is, zero))
