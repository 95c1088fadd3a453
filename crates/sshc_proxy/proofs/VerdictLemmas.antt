-- A step depends on a verifier only by its verdict on the binding that it asks about.
use Rattle.std.proofs.Common.{◌≡◌, ◌⊎◌, ℕ, Bool, true, false, List, [], ◌∷◌, ◌++◌, Option, Some, None, refl, ap, sym, ◌∙◌, inl, inr, subst}
use Rattle.std.specs.Prelude.{◌==◌, if◌then◌else◌}
use Rattle.sshc_key.specs.declared.signature.Signature.{Signature}
use Rattle.sshc_key.specs.AgentNumbers.{EXTENSION, REQUEST_IDENTITIES, SIGN_REQUEST}
use Rattle.sshc_key.specs.Algorithms.{is_accepted, whole_signature}
use Rattle.sshc_key.specs.KeyGrammar.{Key, plain, certificate}
use Rattle.sshc_key.specs.Nesting.{whole_blob_key}
use Rattle.sshc_proxy.specs.declared.input.ProxyInput.{ProxyInput}
use Rattle.sshc_proxy.specs.declared.input.ProxyInput.TheVariants as inputs
use Rattle.sshc_proxy.specs.declared.input.ProxyOutput.{ProxyOutput}
use Rattle.sshc_proxy.specs.declared.waiting.Awaited.{Awaited}
use Rattle.sshc_proxy.specs.Policy.{Rule}
use Rattle.sshc_proxy.specs.Binding.{Accepts, Binding, binding_in, binding_of, is_signed, signed_by}
use Rattle.sshc_proxy.specs.ProxyTable.{Proxy, Starves, Takes, awaited_at, bound_at, binding_by, extension_row, fails, forwards, frame_in, frame_row, row_in, sign_request_row, succeeds}
use Rattle.sshc_proxy.specs.ProxyHistory.{Remembers, Step}
use Rattle.sshc_proxy.specs.Verdicts.{IsTold, question_by, question_in, told, verdict}
use Rattle.sshc_proxy.proofs.HistoryLemmas.{remembers_more}

by_verdict : (a b : Accepts) (question : Option Binding) → verdict a question ≡ verdict b question → binding_by a question ≡ binding_by b question
by_verdict a b None same = refl
by_verdict a b (Some binding) same = ap (λ (said : Bool). if said then succeeds else fails) same

by_number : (a b : Accepts) (is_extension : Bool) (body : List ℕ) → verdict a (if is_extension then binding_in body else None) ≡ verdict b (if is_extension then binding_in body else None)
    → (if is_extension then extension_row a body else fails) ≡ (if is_extension then extension_row b body else fails)
unfolding extension_row
by_number a b true body same = by_verdict a b (binding_in body) same
by_number a b false body same = refl

frame_by : (a b : Accepts) (policy : List Rule) (hosts : List (List ℕ)) (whole : List ℕ) → verdict a (binding_of whole) ≡ verdict b (binding_of whole) → frame_row a policy hosts whole ≡ frame_row b policy hosts whole
unfolding frame_row
frame_by a b policy hosts [] same = refl
frame_by a b policy hosts (number ∷ body) same =
    ap (λ (row : ProxyOutput). if number == REQUEST_IDENTITIES then forwards (number ∷ body) else (if number == SIGN_REQUEST then sign_request_row policy hosts body (number ∷ body) else row))
    (by_number a b (number == EXTENSION) body same)

frame_in_by : (a b : Accepts) (policy : List Rule) (hosts : List (List ℕ)) (waits : Option Awaited) (whole : List ℕ) → verdict a (question_by waits whole) ≡ verdict b (question_by waits whole)
    → frame_in a policy hosts waits whole ≡ frame_in b policy hosts waits whole
frame_in_by a b policy hosts None whole same = frame_by a b policy hosts whole same
frame_in_by a b policy hosts (Some kind) whole same = refl

row_by : (a b : Accepts) (before : Proxy) (conn : ℕ) (input : ProxyInput) → verdict a (question_in before conn input) ≡ verdict b (question_in before conn input) → row_in a before conn input ≡ row_in b before conn input
row_by a b before conn (inputs.Frame whole) same = frame_in_by a b before.policy (bound_at before.bound conn) (awaited_at before.awaits conn) whole same
row_by a b before conn (inputs.Upstream answer) same = refl
row_by a b before conn inputs.Close same = refl

-- a step that is told what is accepted is the step of what is accepted
pub told_takes : (accepts : Accepts) (said : Bool) (conn : ℕ) (input : ProxyInput) (before after : Proxy) (output : ProxyOutput) → IsTold accepts (question_in before conn input) said
    → Takes (told said) conn input before after output ⊎ Starves before after output → Takes accepts conn input before after output ⊎ Starves before after output
told_takes accepts said conn input before after output is (inl takes) = inl (record { row = takes.row ∙ row_by (told said) accepts before conn input is; moves = takes.moves })
told_takes accepts said conn input before after output is (inr starves) = inr starves

pub told_remembers : (accepts : Accepts) (said : Bool) (conn : ℕ) (input : ProxyInput) (before after : Proxy) (output : ProxyOutput) (steps : List Step) → IsTold accepts (question_in before conn input) said
    → Takes (told said) conn input before after output ⊎ Starves before after output → Remembers accepts before steps
    → Remembers accepts after (steps ++ record { conn = conn; input = input; output = output } ∷ [])
told_remembers accepts said conn input before after output steps is does knows =
    remembers_more accepts before after steps conn input output (told_takes accepts said conn input before after output is does) knows

-- ---- the verifier's own verdict

judged : (accepts : Accepts) (key : Key) (session_id : List ℕ) (signature : Option Signature)
    → is_accepted (told (is_accepted (accepts key session_id) signature) key session_id) signature ≡ is_accepted (accepts key session_id) signature
judged accepts key session_id (Some signature) = refl
judged accepts key session_id None = refl

by_key : (accepts : Accepts) (key : Option Key) (session_id signature : List ℕ) → signed_by (told (signed_by accepts key session_id signature)) key session_id signature ≡ signed_by accepts key session_id signature
by_key accepts None session_id signature = refl
by_key accepts (Some (plain k)) session_id signature = judged accepts (plain k) session_id (whole_signature signature)
by_key accepts (Some (certificate nonce key says by sealed)) session_id signature = refl

pub own_verdict : (accepts : Accepts) (question : Option Binding) → IsTold accepts question (verdict accepts question)
unfolding is_signed
own_verdict accepts None = refl
own_verdict accepts (Some binding) = by_key accepts (whole_blob_key binding.host_key) binding.session_id binding.signature
