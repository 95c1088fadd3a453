-- Each row of the table keeps the policy.
use Rattle.std.proofs.Common.{◌≡◌, ℕ, Bool, true, false, List, [], ◌∷◌, ◌++◌, Option, Some, None, Ok, Err, Result, refl, ap, sym, subst, ◌∙◌, inl, inr, cond}
use Rattle.std.specs.Prelude.{All, bytes_eq, filter, map, nat_lt, ◌==◌, if◌then◌else◌, ◌&&◌, length, option_map}
use Rattle.std.specs.List.{AllByRecursion, list_any}
use Rattle.std.proofs.lemmas.Bool.{and_parts, cond_both, eqb-true}
use Rattle.std.proofs.lemmas.List.Elements.{All-from_recursion}
use Rattle.sshc_wire.specs.LookupLaws.{same_bytes}
use Rattle.sshc_wire.specs.FormatLaws.{behind_are_bytes}
use Rattle.sshc_wire.specs.Wire.{IsBytes}
use Rattle.sshc_key.specs.declared.error.Error.{Error}
use Rattle.sshc_key.specs.AgentNumbers.{EXTENSION, IDENTITIES_ANSWER, REQUEST_IDENTITIES, SIGN_REQUEST, SIGN_RESPONSE}
use Rattle.sshc_proxy.specs.declared.waiting.Awaited.{Awaited}
use Rattle.sshc_proxy.specs.Binding.{Accepts, Binding, binding_in, binding_of, is_signed}
use Rattle.sshc_proxy.specs.Listing.{Listed, listed_keys}
use Rattle.sshc_proxy.specs.ProxyTable.{asked_by}
use Rattle.sshc_proxy_session.specs.declared.bound.Bound.{Bound}
use Rattle.sshc_proxy_session.specs.declared.event.SessionInput.{SessionInput}
use Rattle.sshc_proxy_session.specs.declared.event.SessionInput.TheVariants as inputs
use Rattle.sshc_proxy_session.specs.declared.event.SessionOutput.{SessionOutput}
use Rattle.sshc_proxy_session.specs.declared.event.SessionOutput.TheVariants as outputs
use Rattle.sshc_proxy_session.specs.declared.refusal.Refusal.{Refusal}
use Rattle.sshc_proxy_session.specs.declared.session_policy.SessionRule.{SessionRule}
use Rattle.sshc_proxy_session.specs.Userauth.{Signing, Userauth, signing_of, userauth_of}
use Rattle.sshc_proxy_session.specs.SessionTable.{agent_refused, answer_row, answers, bind_refusal, binding_row, bound_of, bytes_refusal, forwards, frame_row, is_direct, is_login_bound, is_towards, is_usable, is_user, listing_by, listing_row, login_refusal, names_host, parted, permits, place_refusal, sign_refusal, sign_request_row, signature_row, unless, usable_keys, verdict}
use Rattle.sshc_proxy_session.specs.SessionHistory.{AreHops, AsksLogin, IsLogin, IsRequest, IsWay, Says, Step, bound, forwarded}
use Rattle.sshc_proxy_session.proofs.UserauthLemmas.{IsSpelled, login_spelled, signing_spelled}
use Rattle.sshc_proxy_session.proofs.WayLemmas.{all_forward, any_there, parted_is, parted_seen, parts_seen, towards_is, usable_is, user_is}

-- ---- what passes all tests

pub passed : (b : Bool) (o : Option Refusal) (reason : Refusal) → (if b then o else Some reason) ≡ None → (b ≡ true) × (o ≡ None)
passed true o reason e = (refl, e)
passed false o reason e = absurd cc

pub failed : (b : Bool) (o : Option Refusal) (reason : Refusal) → (if b then Some reason else o) ≡ None → (b ≡ false) × (o ≡ None)
failed true o reason e = absurd cc
failed false o reason e = (refl, e)

-- ---- a request to sign

module _ (policy : List SessionRule) (bindings : List Binding) (forwarding : AreHops bindings) where
  login_is : (hops : List Binding) (last : Binding) (user algorithm key bytes : List ℕ) (host : Option (List ℕ)) → names_host (map bound_of hops) (bound_of last) host ≡ true
      → IsSpelled last.session_id user algorithm key host bytes → IsLogin hops last user algorithm key bytes
  login_is [] last user algorithm key bytes None named spelled = inl (refl, spelled)
  login_is (hop ∷ hops) last user algorithm key bytes None named spelled = absurd cc
  login_is hops last user algorithm key bytes (Some host) named spelled =
      inr (subst (λ (h : List ℕ). IsSpelled last.session_id user algorithm key (Some h) bytes) (same_bytes host last.host_key named) spelled)

  by_login : (body : List ℕ) (s : Signing) (hops : List Binding) (last : Binding) (login : Option Userauth) → IsBytes body → signing_of body ≡ Some s → bindings ≡ hops ++ last ∷ [] → last.is_forwarding ≡ false
      → userauth_of s.bytes ≡ login → bytes_refusal policy (map bound_of hops) (bound_of last) s.key login ≡ None → AsksLogin policy bindings (SIGN_REQUEST ∷ body)
  by_login body s hops last None fits signs is own reads e = absurd cc
  by_login body s hops last (Some login) fits signs is own reads e =
      let a = passed (bytes_eq login.key s.key) _ _ e in
      let b = passed (bytes_eq login.session_id last.session_id) _ _ a.1 in
      let c = passed (names_host (map bound_of hops) (bound_of last) login.host_key) _ _ b.1 in
      let d = passed (permits policy (map bound_of hops) (bound_of last) s.key login.user) None _ c.1 in
      let r = any_there (λ (rule : SessionRule). is_towards (map bound_of hops) (bound_of last) s.key rule && is_user rule.user login.user) policy d.0 in
      let both = and_parts (is_towards (map bound_of hops) (bound_of last) s.key r.0) _ r.2 in
      let named = towards_is hops last s.key r.0 both.0 in
      let text = signing_spelled body s fits signs in
      let spelled = login_spelled s.bytes login text.1 reads in
      let own_key = subst (λ (k : List ℕ). IsSpelled login.session_id login.user login.algorithm k login.host_key s.bytes) (same_bytes login.key s.key a.0) spelled in
      let own_session = subst (λ (sid : List ℕ). IsSpelled sid login.user login.algorithm s.key login.host_key s.bytes) (same_bytes login.session_id last.session_id b.0) own_key in
      record {
        key = s.key;
        bytes = s.bytes;
        flags = s.flags;
        frame = ap (λ (t : List ℕ). SIGN_REQUEST ∷ t) text.0;
        way = record {
          hops = hops;
          last = last;
          bound = is;
          login = own;
          forwarding = forwarding hops last is;
          rule = r.0;
          named = r.1;
          key = named.key;
          host = named.host;
          via = named.via;
        };
        user = login.user;
        algorithm = login.algorithm;
        login = login_is hops last login.user login.algorithm s.key s.bytes login.host_key c.0 own_session;
        permitted = user_is r.0.user login.user both.1;
      }

  by_parts : (body : List ℕ) (s : Signing) (parts : Option (List Binding × Binding)) → IsBytes body → signing_of body ≡ Some s → parted bindings ≡ parts → place_refusal policy (parts_seen parts) s ≡ None
      → AsksLogin policy bindings (SIGN_REQUEST ∷ body)
  by_parts body s None fits signs is e = absurd cc
  by_parts body s (Some parts) fits signs is e =
      let a = failed parts.1.is_forwarding _ _ e in
      by_login body s parts.0 parts.1 (userauth_of s.bytes) fits signs (parted_is bindings parts is) a.0 refl a.1

  by_signing : (body : List ℕ) (s : Option Signing) → IsBytes body → signing_of body ≡ s → sign_refusal policy (map bound_of bindings) s ≡ None → AsksLogin policy bindings (SIGN_REQUEST ∷ body)
  by_signing body None fits signs e = absurd cc
  by_signing body (Some s) fits signs e =
      by_parts body s (parted bindings) fits signs refl (ap (λ (p : Option (List Bound × Bound)). place_refusal policy p s) (sym (parted_seen bindings)) ∙ e)

-- ---- rows of a frame

module _ (accepts : Accepts) (policy : List SessionRule) (steps : List Step) (forwarding : AreHops (bound steps)) where
  abbrev Good : SessionInput → SessionOutput → Type 0
  Good input output = Says accepts policy steps input output

  unless_good : (input : SessionInput) (output : SessionOutput) (refusal : Option Refusal) → (refusal ≡ None → Good input output) → Good input (unless refusal output)
  unless_good input output None good = good refl
  unless_good input output (Some reason) good = tt

  sign_good : (body whole : List ℕ) → IsBytes body → whole ≡ SIGN_REQUEST ∷ body → Good (inputs.Frame whole) (sign_request_row policy (map bound_of (bound steps)) body whole)
  unfolding sign_request_row
  sign_good body whole fits is =
      unless_good (inputs.Frame whole) (forwards whole) (sign_refusal policy (map bound_of (bound steps)) (signing_of body))
      (λ e. record {
        whole = whole;
        client = refl;
        same = refl;
        asks = inr (subst (λ (w : List ℕ). AsksLogin policy (bound steps) w) (sym is) (by_signing policy (bound steps) forwarding body (signing_of body) fits refl e));
      })

  pub bind_none : (verified : Bool) (bindings : List Bound) (binding : Binding) → bind_refusal verified bindings binding ≡ None → (is_login_bound (parted bindings) ≡ false) × (verified ≡ true)
  bind_none verified bindings binding e =
      let a = failed (is_login_bound (parted bindings)) _ _ e in
      let b = failed (list_any (λ bound. bytes_eq bound.session_id binding.session_id) bindings) _ _ a.1 in
      let c = passed (nat_lt (length bindings) 16) _ _ b.1 in
      let d = passed verified None _ c.1 in
      (a.0, d.0)

  binding_good : (verified : Bool) (whole : List ℕ) (read : Option Binding) → binding_of whole ≡ read → verified ≡ verdict accepts read → Good (inputs.Frame whole) (binding_row verified (map bound_of (bound steps)) read)
  binding_good verified whole None reads is = tt
  binding_good verified whole (Some binding) reads is =
      unless_good (inputs.Frame whole) outputs.Bound (bind_refusal verified (map bound_of (bound steps)) binding)
      (λ e.
      let passes = bind_none verified (map bound_of (bound steps)) binding e in
      record { whole = whole; binding = binding; client = refl; binds = reads; signed = sym is ∙ passes.1; hops = all_forward (bound steps) forwarding passes.0 })

  pub frame_good : (verified : Bool) (whole : List ℕ) → IsBytes whole → verified ≡ verdict accepts (binding_of whole) → Good (inputs.Frame whole) (frame_row verified policy (map bound_of (bound steps)) whole)
  unfolding frame_row
  frame_good verified [] fits is = tt
  frame_good verified (number ∷ body) fits is =
      let P : SessionOutput → Type 0 = Good (inputs.Frame (number ∷ body)) in
      cond_both (number == REQUEST_IDENTITIES) (forwards (number ∷ body)) _ P
      (λ e. record { whole = number ∷ body; client = refl; same = refl; asks = inl (body, ap (λ (n : ℕ). n ∷ body) (eqb-true number REQUEST_IDENTITIES e)) })
      (λ _. cond_both (number == SIGN_REQUEST) (sign_request_row policy (map bound_of (bound steps)) body (number ∷ body)) _ P
      (λ e. sign_good body (number ∷ body) (behind_are_bytes (number ∷ []) body fits) (ap (λ (n : ℕ). n ∷ body) (eqb-true number SIGN_REQUEST e)))
      (λ _. cond_both (number == EXTENSION) (binding_row verified (map bound_of (bound steps)) (binding_in body)) _ P
      (λ e. let same : binding_of (number ∷ body) ≡ binding_in body = ap (λ (n : ℕ). binding_of (n ∷ body)) (eqb-true number EXTENSION e) in
      binding_good verified (number ∷ body) (binding_in body) same (is ∙ ap (verdict accepts) same))
      (λ _. tt)))

  -- ---- rows of an answer

  keys_good : (keys : List Listed) → AllByRecursion (λ key. IsWay policy (bound steps) key.0) (usable_keys policy (map bound_of (bound steps)) keys)
  keys_good [] = tt
  keys_good (key ∷ keys) =
      cond_both (is_usable policy (parted (map bound_of (bound steps))) key.0) (key ∷ usable_keys policy (map bound_of (bound steps)) keys) (usable_keys policy (map bound_of (bound steps)) keys)
      (AllByRecursion (λ key. IsWay policy (bound steps) key.0))
      (λ e. (usable_is policy (bound steps) key.0 forwarding e, keys_good keys))
      (λ _. keys_good keys)

  listing_by_good : (asked body : List ℕ) (read : Result (List Listed) Error) → forwarded steps ≡ Some (REQUEST_IDENTITIES ∷ asked) → listed_keys body ≡ read
      → Good (inputs.Upstream (IDENTITIES_ANSWER ∷ body)) (listing_by policy (map bound_of (bound steps)) read)
  listing_by_good asked body (Err e) request reads = tt
  listing_by_good asked body (Ok keys) request reads =
      inl (record {
        asked = asked;
        body = body;
        keys = keys;
        request = request;
        agent = refl;
        read = reads;
        listed = refl;
        usable = All-from_recursion (λ (key : Listed). IsWay policy (bound steps) key.0) (usable_keys policy (map bound_of (bound steps)) keys) (keys_good keys);
      })

  listing_good : (asked answer : List ℕ) → forwarded steps ≡ Some (REQUEST_IDENTITIES ∷ asked) → Good (inputs.Upstream answer) (listing_row policy (map bound_of (bound steps)) answer)
  unfolding listing_row
  listing_good asked [] request = tt
  listing_good asked (number ∷ body) request =
      cond_both (number == IDENTITIES_ANSWER) (listing_by policy (map bound_of (bound steps)) (listed_keys body)) agent_refused (Good (inputs.Upstream (number ∷ body)))
      (λ e. subst (λ (n : ℕ). Good (inputs.Upstream (n ∷ body)) (listing_by policy (map bound_of (bound steps)) (listed_keys body))) (sym (eqb-true number IDENTITIES_ANSWER e))
      (listing_by_good asked body (listed_keys body) request refl))
      (λ _. tt)

  signature_good : (asked answer : List ℕ) → forwarded steps ≡ Some (SIGN_REQUEST ∷ asked) → Good (inputs.Upstream answer) (signature_row answer)
  unfolding signature_row
  signature_good asked [] request = tt
  signature_good asked (number ∷ body) request =
      cond_both (number == SIGN_RESPONSE) (answers (number ∷ body)) agent_refused (Good (inputs.Upstream (number ∷ body)))
      (λ e. subst (λ (n : ℕ). Good (inputs.Upstream (n ∷ body)) (answers (n ∷ body))) (sym (eqb-true number SIGN_RESPONSE e))
      (inr (record { asked = asked; body = body; request = request; agent = refl; same = refl })))
      (λ _. tt)

  pub answer_good : (last answer : List ℕ) → IsRequest last → forwarded steps ≡ Some last → Good (inputs.Upstream answer) (answer_row policy (map bound_of (bound steps)) (asked_by last) answer)
  answer_good last answer (inl (asked, is)) request =
      subst (λ (l : List ℕ). Good (inputs.Upstream answer) (answer_row policy (map bound_of (bound steps)) (asked_by l) answer)) (sym is)
      (listing_good asked answer (request ∙ ap (λ (l : List ℕ). Some l) is))
  answer_good last answer (inr (asked, is)) request =
      subst (λ (l : List ℕ). Good (inputs.Upstream answer) (answer_row policy (map bound_of (bound steps)) (asked_by l) answer)) (sym is)
      (signature_good asked answer (request ∙ ap (λ (l : List ℕ). Some l) is))
