-- What the calls that sign a stored request do: a row whose change of the opening is made afterwards.
use Rattle.std.specs.Prelude.{◌≡◌, ℕ, List, [], Option, Some, None, Result, Ok, Err, Vec}
use Rattle.std.specs.declared.alloc.Global.{Global}
use Rattle.sshc_wire.specs.Outgoing.{Outgoing}
use Rattle.sshc_wire.specs.declared.hash_alg.HashAlg.{HashAlg}
use Rattle.sshc_key.specs.KeyGrammar.{Key}
use Rattle.sshc_key.specs.declared.signer.SignRefused.{SignRefused}
use Rattle.sshc_key.specs.declared.signer.SignRefused.TheVariants as refusals
use Rattle.sshc_auth.specs.declared.error.Error.{Error}
use Rattle.sshc_auth.specs.declared.error.Error.TheVariants as errors
use Rattle.sshc_auth.specs.declared.opening.Phase.TheVariants.{AwaitSignature}
use Rattle.sshc_auth.specs.declared.step.Flow.{Flow}
use Rattle.sshc_auth.specs.declared.step.Flow.TheVariants as flows
use Rattle.sshc_auth.specs.OpeningState.{OpeningState}
use Rattle.sshc_auth.specs.OpeningTable.AuthKey.{taken, signed_by_row}
use Rattle.sshc_auth.specs.Row.{Row, Span, Adds, Follows, span}

-- bytes that were handed out are kept until the answer comes; the method is cleared
abbrev pub signing_leaves : OpeningState → Option (List ℕ) → OpeningState
signing_leaves s None = taken s
signing_leaves s (Some bytes) = record (taken s) { phase = AwaitSignature; handed = bytes }

-- the opening afterwards
abbrev pub leaves : OpeningState → Result (Option (List ℕ)) Error → OpeningState
leaves s (Ok handed) = signing_leaves s handed
leaves s (Err e) = s

abbrev pub flow_of : Result (Option (List ℕ)) Error → Result Flow Error
flow_of (Ok handed) = Ok flows.Went
flow_of (Err e) = Err e

abbrev pub signing_span : OpeningState → Outgoing → Outgoing → Result (Option (List ℕ)) Error → Span
signing_span s old new result = span s (leaves s result) old new

-- a row that asks the signer nothing
abbrev pub Handed : Row → OpeningState → Outgoing → Outgoing → Result (Option (List ℕ)) Error → Type 0
Handed row s old new result = Follows row (signing_span s old new result) (flow_of result)

-- by what the signer returned: the row of that answer, or out of memory
abbrev pub SignedBy : OpeningState → Key → Option HashAlg → Result (Vec ℕ Global) SignRefused → Outgoing → Outgoing → Result (Option (List ℕ)) Error → Type 0
SignedBy s key hash (Ok signature) old new result = Handed (signed_by_row s key hash (Some signature.items)) s old new result
SignedBy s key hash (Err refusals.Refused) old new result = Handed (signed_by_row s key hash None) s old new result
SignedBy s key hash (Err refusals.NoMemory) old new result = (result ≡ Err errors.NoMemory) × Adds [] (span s s old new)
