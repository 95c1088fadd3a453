-- Laws of the definitions in specs/SignedRuns.antt.
use Rattle.std.proofs.Common.{◌≡◌, inl, inr, ℕ, List, [], ◌∷◌, Option, Some, None, refl, sym}
use Rattle.std.specs.List.{AllByRecursion}
use Rattle.sshc_wire.specs.declared.auth_record.AuthRecord.TheVariants.{SignRequest, SignRequestCert}
use Rattle.sshc_wire.specs.declared.hash_alg.HashAlg.{HashAlg}
use Rattle.sshc_wire.specs.declared.record.Record.{Record}
use Rattle.sshc_wire.specs.declared.record.Record.TheVariants.{Auth}
use Rattle.sshc_key.specs.Signers.{SignCall}
use Rattle.sshc_key.specs.declared.signer.Asker.TheVariants.{Session}
use Rattle.sshc_auth_event.specs.declared.event.Event.{Event}
use Rattle.sshc_auth_event.specs.declared.event.Event.TheVariants as events
use Rattle.sshc_auth_event.specs.declared.method.Method.{Method}
use Rattle.sshc_auth_event.specs.declared.method.Method.TheVariants as methods
use Rattle.sshc_auth.specs.OpeningState.{OpeningState}
use Rattle.sshc_auth.specs.SessionWords.{Kept, kept_of, HandsCertificate, HandsKey, HandsStored, KeepsRequest, SignsStored, AsksOnce, Stores}
use Rattle.sshc_auth.specs.SignedRuns.{HasRequest, request_of, IsSignedFor, IsAskedFor, IsHandedFor}

signs_for : (id : List ℕ) (past : List Event) (k : Kept) (method : Option Method) (call : SignCall) → k.session_id ≡ id → IsAskedFor past k.user method → call.by ≡ Session → SignsStored method k call.key call.hash call.bytes → IsSignedFor id past call
signs_for id past k (Some (methods.PublicKey key)) call is asked by signs = (by, (k.user, methods.PublicKey key, asked, rw (sym is) signs))
signs_for id past k (Some (methods.OpenSshCertificate key cert)) call is asked by signs = (by, (k.user, methods.OpenSshCertificate key cert, asked, rw (sym is) signs))
signs_for id past k method call is asked by never = absurd never

pub calls_for : (id : List ℕ) (past : List Event) (k : Kept) (t : OpeningState) (calls : List SignCall) → k.session_id ≡ id → IsAskedFor past k.user k.method → AsksOnce k t calls → AllByRecursion (IsSignedFor id past) calls
calls_for id past k t [] is asked once = tt
calls_for id past k t (call ∷ []) is asked (by, signs, settled) = (signs_for id past k k.method call is asked by signs, tt)
calls_for id past k t (call ∷ other ∷ calls) is asked never = absurd never

key_for : (id : List ℕ) (past : List Event) (k : Kept) (method : Option Method) (blob : List ℕ) (hash : Option HashAlg) (bytes : List ℕ) → k.session_id ≡ id → IsAskedFor past k.user method → HandsKey method k blob hash bytes →
    (user : List ℕ) × (asked : Method) × HasRequest past user asked × HandsKey (Some asked) (request_of id user asked) blob hash bytes
key_for id past k (Some (methods.FuturePublicKey key own)) blob hash bytes is asked hands = (k.user, methods.FuturePublicKey key own, asked, rw (sym is) hands)
key_for id past k method blob hash bytes is asked never = absurd never

certificate_for : (id : List ℕ) (past : List Event) (k : Kept) (method : Option Method) (blob : List ℕ) (hash : Option HashAlg) (bytes : List ℕ) → k.session_id ≡ id → IsAskedFor past k.user method → HandsCertificate method k blob hash bytes →
    (user : List ℕ) × (asked : Method) × HasRequest past user asked × HandsCertificate (Some asked) (request_of id user asked) blob hash bytes
certificate_for id past k (Some (methods.FutureCertificate cert own)) blob hash bytes is asked hands = (k.user, methods.FutureCertificate cert own, asked, rw (sym is) hands)
certificate_for id past k method blob hash bytes is asked never = absurd never

record_for : (id : List ℕ) (past : List Event) (k : Kept) (output : Record) → k.session_id ≡ id → IsAskedFor past k.user k.method → HandsStored k output → IsHandedFor id past output
record_for id past k (Auth ticket (SignRequest blob hash bytes)) is asked hands = key_for id past k k.method blob hash bytes is asked hands
record_for id past k (Auth ticket (SignRequestCert blob hash bytes)) is asked hands = certificate_for id past k k.method blob hash bytes is asked hands
record_for id past k output is asked hands = tt

-- what is handed out of the stored request is handed out of one among the events
pub handed_for : (id : List ℕ) (past : List Event) (k : Kept) (output : List Record) → k.session_id ≡ id → IsAskedFor past k.user k.method → AllByRecursion (HandsStored k) output → AllByRecursion (IsHandedFor id past) output
handed_for id past k [] is asked hands = tt
handed_for id past k (one ∷ output) is asked hands = (record_for id past k one is asked hands.0, handed_for id past k output is asked hands.1)

one_more : (event : Event) (past : List Event) (user : List ℕ) (method : Method) → HasRequest past user method → HasRequest (event ∷ past) user method
one_more (events.Authenticate ticket own asked) past user method has = inr has
one_more event past user method has = has

asked_more : (event : Event) (past : List Event) (user : List ℕ) (method : Option Method) → IsAskedFor past user method → IsAskedFor (event ∷ past) user method
asked_more event past user None asked = tt
asked_more event past user (Some method) asked = one_more event past user method asked

asked_now : (event : Event) (past : List Event) (t : OpeningState) → Stores event t → IsAskedFor (event ∷ past) t.user t.method
asked_now (events.Authenticate ticket user method) past t (own, stored) = rw (own, stored) (inl (refl, refl))
asked_now event past t never = absurd never

pub asked_next : (s : OpeningState) (event : Event) (past : List Event) (t : OpeningState) → IsAskedFor past s.user s.method → KeepsRequest (kept_of s) event t → IsAskedFor (event ∷ past) t.user t.method
asked_next s event past t asked (inl (user, inl method)) = rw (user, method) (asked_more event past s.user s.method asked)
asked_next s event past t asked (inl (user, inr none)) = rw none tt
asked_next s event past t asked (inr stores) = asked_now event past t stores
