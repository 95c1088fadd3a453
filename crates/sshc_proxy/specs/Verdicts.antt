-- Whose verdict on a binding's signature a step takes: that of a verifier, or what the step is told.
use Rattle.std.specs.Prelude.{◌≡◌, ℕ, Bool, false, List, Option, Some, None}
use Rattle.sshc_proxy.specs.declared.input.ProxyInput.{ProxyInput}
use Rattle.sshc_proxy.specs.declared.input.ProxyInput.TheVariants as inputs
use Rattle.sshc_proxy.specs.declared.waiting.Awaited.{Awaited}
use Rattle.sshc_proxy.specs.Binding.{Accepts, Binding, binding_of, is_signed}
use Rattle.sshc_proxy.specs.ProxyTable.{Proxy, awaited_at}

-- while an answer is awaited nothing is asked
abbrev pub question_by : Option Awaited → List ℕ → Option Binding
question_by None whole = binding_of whole
question_by (Some kind) whole = None

-- the binding of which a step has to know whether it is signed
abbrev pub question_in : Proxy → ℕ → ProxyInput → Option Binding
question_in before conn (inputs.Frame whole) = question_by (awaited_at before.awaits conn) whole
question_in before conn input = None

-- every signature is a key's, or none is
abbrev pub told : Bool → Accepts
told said key bytes signature = said

abbrev pub verdict : Accepts → Option Binding → Bool
verdict accepts None = false
verdict accepts (Some binding) = is_signed accepts binding

-- what the step is told of this binding is what is accepted
abbrev pub IsTold : Accepts → Option Binding → Bool → Type 0
IsTold accepts question said = verdict (told said) question ≡ verdict accepts question
