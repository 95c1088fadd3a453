-- A signer that has one answer ready: what its list of calls says. The list begins with the call that made the answer, so
-- that whoever has the list knows which answer it is; the signer's own calls come after it.
use Rattle.std.specs.Prelude.{◌≤◌, ℕ, Bool, true, false, List, [], ◌∷◌, length, Option, Some, None, Vec}
use Rattle.std.specs.declared.alloc.Global.{Global}
use Rattle.sshc_key.specs.Asking.{Answer, SignRequest, call_of}
use Rattle.sshc_key.specs.Signers.{IsSignature, SignCall}

abbrev pub answer_in : Option (Vec ℕ Global) → Answer
answer_in None = None
answer_in (Some v) = Some v.items

-- a question with its answer is a call of a signer
abbrev pub answered : SignRequest → Option (Vec ℕ Global) → SignCall
answered q answer = call_of q (answer_in answer)

-- the answer is one whole signature (RFC 4253, section 6.6), or a refusal
abbrev pub IsWhole : Option (Vec ℕ Global) → Type 0
IsWhole None = Unit {0}
IsWhole (Some v) = IsSignature v.items × (length v.items ≤ 65536)

-- the call that made the answer, and the same call once the answer was returned
abbrev pub ready_calls : SignCall → Bool → List SignCall
ready_calls call false = call ∷ []
ready_calls call true = call ∷ call ∷ []

abbrev pub refusals_in : Answer → ℕ
refusals_in None = 1
refusals_in (Some signature) = 0

abbrev pub ready_refusals : SignCall → Bool → ℕ
ready_refusals call false = 0
ready_refusals call true = refusals_in call.answer
