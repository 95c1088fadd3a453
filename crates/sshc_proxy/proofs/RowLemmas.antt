-- Each row of the table keeps the policy.
use Rattle.std.proofs.Common.{◌≡◌, ℕ, List, [], ◌∷◌, Option, Some, None, Ok, Err, Result, refl, ap, sym, subst, ◌∙◌, inl, inr}
use Rattle.std.specs.Prelude.{◌==◌, option_map}
use Rattle.std.proofs.lemmas.Bool.{cond-true, cond_both, eqb-true}
use Rattle.sshc_wire.specs.declared.error.WireError.{WireError}
use Rattle.sshc_wire.specs.Reads.{string_at}
use Rattle.sshc_key.specs.declared.error.Error.{Error}
use Rattle.sshc_key.specs.AgentNumbers.{EXTENSION, IDENTITIES_ANSWER, REQUEST_IDENTITIES, SIGN_REQUEST, SIGN_RESPONSE}
use Rattle.sshc_proxy.specs.declared.input.ProxyInput.{ProxyInput}
use Rattle.sshc_proxy.specs.declared.input.ProxyInput.TheVariants as inputs
use Rattle.sshc_proxy.specs.declared.input.ProxyOutput.{ProxyOutput}
use Rattle.sshc_proxy.specs.declared.input.ProxyOutput.TheVariants as outputs
use Rattle.sshc_proxy.specs.Policy.{Rule, allowed}
use Rattle.sshc_proxy.specs.Listing.{Listed, listed_keys}
use Rattle.sshc_proxy.specs.Binding.{Accepts, Binding, binding_in, binding_of, is_signed}
use Rattle.sshc_proxy.specs.ProxyTable.{answer_row, answers, asked_by, binding_by, extension_row, fails, forwards, frame_row, listing_by, listing_row, proxy_row, sign_request_by, sign_request_row, signature_row, succeeds}
use Rattle.sshc_proxy.specs.ProxyHistory.{AreRequests, AsksAllowed, ForwardsAllowed, IsRequest, Keeps, MayFollow, Says, Step, bound, forwarded}
use Rattle.sshc_proxy.proofs.AllowedLaws.{allowed_by, allowed_is}

-- an allowed sign request is forwarded
sign_forwarded : (accepts : Accepts) (policy : List Rule) (hosts : List (List ℕ)) (whole : List ℕ) → AsksAllowed policy hosts whole → frame_row accepts policy hosts whole ≡ forwards whole
unfolding frame_row sign_request_row
sign_forwarded accepts policy hosts whole asks =
    ap (frame_row accepts policy hosts) asks.number ∙ ap (λ (read : Result (List ℕ × List ℕ) WireError). sign_request_by policy hosts read (SIGN_REQUEST ∷ asks.body)) asks.names
    ∙ cond-true (allowed policy hosts asks.key) (forwards (SIGN_REQUEST ∷ asks.body)) fails (allowed_by policy hosts asks.key asks.allowed) ∙ ap forwards (sym asks.number)

-- ---- rows of a frame

module _ (accepts : Accepts) (policy : List Rule) (steps : List Step) (conn : ℕ) where
  -- the step of an input; only its output isn't known yet
  abbrev at : ProxyInput → Step
  at input = record { conn = conn; input = input; output = outputs.Nothing }

  abbrev Good : ProxyInput → ProxyOutput → Type 0
  Good input output = Says accepts policy steps (at input) output

  sign_request_by_good : (read : Result (List ℕ × List ℕ) WireError) (body whole : List ℕ) → whole ≡ SIGN_REQUEST ∷ body → string_at body ≡ read
      → Good (inputs.Frame whole) (sign_request_by policy (bound conn steps) read whole)
  sign_request_by_good (Err e) body whole is reads = inl refl
  sign_request_by_good (Ok blob) body whole is reads =
      cond_both (allowed policy (bound conn steps) blob.0) (forwards whole) fails (Good (inputs.Frame whole))
      (λ e. record {
        whole = whole;
        client = refl;
        same = refl;
        asks = inr (record { body = body; key = blob.0; rest = blob.1; number = is; names = reads; allowed = allowed_is policy (bound conn steps) blob.0 e });
      })
      (λ e. inl refl)

  sign_request_good : (body whole : List ℕ) → whole ≡ SIGN_REQUEST ∷ body → Good (inputs.Frame whole) (sign_request_row policy (bound conn steps) body whole)
  unfolding sign_request_row
  sign_request_good body whole is = sign_request_by_good (string_at body) body whole is refl

  binding_by_good : (read : Option Binding) (whole : List ℕ) → binding_of whole ≡ read → Good (inputs.Frame whole) (binding_by accepts read)
  binding_by_good None whole reads = inl refl
  binding_by_good (Some binding) whole reads =
      cond_both (is_signed accepts binding) succeeds fails (Good (inputs.Frame whole))
      (λ e. inr (inl (record { whole = whole; binding = binding; client = refl; binds = reads; signed = e; success = refl })))
      (λ e. inl refl)

  extension_good : (body whole : List ℕ) → whole ≡ EXTENSION ∷ body → Good (inputs.Frame whole) (extension_row accepts body)
  unfolding extension_row
  extension_good body whole is = binding_by_good (binding_in body) whole (ap binding_of is)

  frame_good : (whole : List ℕ) → Good (inputs.Frame whole) (frame_row accepts policy (bound conn steps) whole)
  unfolding frame_row
  frame_good [] = inl refl
  frame_good (number ∷ body) =
      let P : ProxyOutput → Type 0 = Good (inputs.Frame (number ∷ body)) in
      cond_both (number == REQUEST_IDENTITIES) (forwards (number ∷ body)) _ P
      (λ e. record { whole = number ∷ body; client = refl; same = refl; asks = inl (body, ap (λ (n : ℕ). n ∷ body) (eqb-true number REQUEST_IDENTITIES e)) })
      (λ _. cond_both (number == SIGN_REQUEST) (sign_request_row policy (bound conn steps) body (number ∷ body)) _ P
      (λ e. sign_request_good body (number ∷ body) (ap (λ (n : ℕ). n ∷ body) (eqb-true number SIGN_REQUEST e)))
      (λ _. cond_both (number == EXTENSION) (extension_row accepts body) fails P
      (λ e. extension_good body (number ∷ body) (ap (λ (n : ℕ). n ∷ body) (eqb-true number EXTENSION e)))
      (λ _. inl refl)))

  -- ---- rows of an answer

  listing_by_good : (asked body : List ℕ) (read : Result (List Listed) Error) → forwarded conn steps ≡ Some (REQUEST_IDENTITIES ∷ asked) → listed_keys body ≡ read
      → Good (inputs.Upstream (IDENTITIES_ANSWER ∷ body)) (listing_by policy (bound conn steps) read)
  listing_by_good asked body (Err e) request reads = inl refl
  listing_by_good asked body (Ok keys) request reads =
      inr (inr (inl (record { asked = asked; body = body; keys = keys; request = request; agent = refl; read = reads; listed = refl })))

  listing_good : (asked answer : List ℕ) → forwarded conn steps ≡ Some (REQUEST_IDENTITIES ∷ asked) → Good (inputs.Upstream answer) (listing_row policy (bound conn steps) answer)
  unfolding listing_row
  listing_good asked [] request = inl refl
  listing_good asked (number ∷ body) request =
      cond_both (number == IDENTITIES_ANSWER) (listing_by policy (bound conn steps) (listed_keys body)) fails (Good (inputs.Upstream (number ∷ body)))
      (λ e. subst (λ (n : ℕ). Good (inputs.Upstream (n ∷ body)) (listing_by policy (bound conn steps) (listed_keys body))) (sym (eqb-true number IDENTITIES_ANSWER e))
      (listing_by_good asked body (listed_keys body) request refl))
      (λ _. inl refl)

  signature_good : (asked answer : List ℕ) → forwarded conn steps ≡ Some (SIGN_REQUEST ∷ asked) → Good (inputs.Upstream answer) (signature_row answer)
  unfolding signature_row
  signature_good asked [] request = inl refl
  signature_good asked (number ∷ body) request =
      cond_both (number == SIGN_RESPONSE) (answers (number ∷ body)) fails (Good (inputs.Upstream (number ∷ body)))
      (λ e. subst (λ (n : ℕ). Good (inputs.Upstream (n ∷ body)) (answers (n ∷ body))) (sym (eqb-true number SIGN_RESPONSE e))
      (inr (inr (inr (record { asked = asked; body = body; request = request; agent = refl; same = refl })))))
      (λ _. inl refl)

  answer_good : (last answer : List ℕ) → IsRequest last → forwarded conn steps ≡ Some last → Good (inputs.Upstream answer) (answer_row policy (bound conn steps) (asked_by last) answer)
  answer_good last answer (inl (asked, is)) request =
      subst (λ (l : List ℕ). Good (inputs.Upstream answer) (answer_row policy (bound conn steps) (asked_by l) answer)) (sym is)
      (listing_good asked answer (request ∙ ap (λ (l : List ℕ). Some l) is))
  answer_good last answer (inr (asked, is)) request =
      subst (λ (l : List ℕ). Good (inputs.Upstream answer) (answer_row policy (bound conn steps) (asked_by l) answer)) (sym is)
      (signature_good asked answer (request ∙ ap (λ (l : List ℕ). Some l) is))

  row_good : AreRequests steps → (input : ProxyInput) (last : Option (List ℕ)) → forwarded conn steps ≡ last → Good input (proxy_row accepts policy (bound conn steps) (option_map asked_by last) input)
  row_good requests (inputs.Frame whole) None e = frame_good whole
  row_good requests (inputs.Frame whole) (Some last) e = tt
  row_good requests (inputs.Upstream answer) None e = tt
  row_good requests (inputs.Upstream answer) (Some last) e = answer_good last answer (requests conn last e) e
  row_good requests inputs.Close None e = tt
  row_good requests inputs.Close (Some last) e = tt

  -- what an output says doesn't depend on the output that the step has
  said_at : (input : ProxyInput) (output said : ProxyOutput) → Good input said → Says accepts policy steps (record { conn = conn; input = input; output = output }) said
  said_at input output (outputs.Forward frame) good = good
  said_at input output (outputs.Answer frame) good = good
  said_at input output outputs.Nothing good = tt
  said_at input output outputs.NoMemory good = tt

  says : AreRequests steps → (input : ProxyInput) (output : ProxyOutput) → MayFollow accepts policy steps (record { conn = conn; input = input; output = output })
      → Says accepts policy steps (record { conn = conn; input = input; output = output }) output
  says requests input output (inl row) = said_at input output output (subst (Good input) (sym row) (row_good requests input (forwarded conn steps) refl))
  says requests input output (inr none) = said_at input output output (subst (Good input) (sym none) tt)

  forwards_allowed : (input : ProxyInput) (output : ProxyOutput) → MayFollow accepts policy steps (record { conn = conn; input = input; output = output })
      → ForwardsAllowed policy steps (record { conn = conn; input = input; output = output })
  forwards_allowed input output (inr none) = λ whole is idle asks. inr none
  forwards_allowed input output (inl row) = λ whole is idle asks. inl (
      row ∙ ap (proxy_row accepts policy (bound conn steps) (option_map asked_by (forwarded conn steps))) is
      ∙ ap (λ (last : Option (List ℕ)). proxy_row accepts policy (bound conn steps) (option_map asked_by last) (inputs.Frame whole)) idle
      ∙ sign_forwarded accepts policy (bound conn steps) whole asks
      )

  pub keeps : AreRequests steps → (input : ProxyInput) (output : ProxyOutput) → MayFollow accepts policy steps (record { conn = conn; input = input; output = output })
      → Keeps accepts policy steps (record { conn = conn; input = input; output = output })
  keeps requests input output may = record { says = says requests input output may; allowed = forwards_allowed input output may }
