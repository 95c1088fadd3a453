-- Where a connection stands, and which ways a policy names.
use Rattle.std.proofs.Common.{◌≡◌, ◌≤◌, ◌+◌, ◌-◌, ℕ, zero, suc, get_or, slice_index_or, take, Bool, true, false, List, [], ◌∷◌, ◌++◌, length, Option, Some, None, refl, ap, sym, subst, ◌∙◌, inl, inr, arith}
use Rattle.std.specs.Prelude.{All, Contains, bytes_eq, map, not, option_map, ◌==◌, if◌then◌else◌}
use Rattle.std.specs.List.{AllByRecursion, list_any}
use Rattle.std.proofs.lemmas.Bool.{and_parts, or_cases}
use Rattle.std.proofs.lemmas.List.{take_all, take_more}
use Rattle.std.proofs.lemmas.List.Elements.{All-from_recursion, recursion_from_All}
use Rattle.sshc_wire.specs.LookupLaws.{same_bytes}
use Rattle.sshc_proxy.specs.Binding.{Binding}
use Rattle.sshc_proxy_session.specs.declared.bound.Bound.{Bound}
use Rattle.sshc_proxy_session.specs.declared.session_policy.SessionRule.{SessionRule}
use Rattle.sshc_proxy_session.specs.SessionTable.{bound_of, has_key, is_login_bound, is_towards, is_usable, is_user, is_way, names, onto, parted, permits}
use Rattle.sshc_proxy_session.specs.SessionHistory.{AreHops, AreOver, IsWay, NamesUser}

-- ---- the last binding

parted_next : {A : Type 0} (x : A) (xs : List A) (parts : List A × A) (rest : Option (List A × A)) → parted xs ≡ rest → ((p : List A × A) → parted xs ≡ Some p → xs ≡ p.0 ++ p.1 ∷ [])
    → (xs' : rest ≡ None → xs ≡ []) → onto x rest ≡ Some parts → x ∷ xs ≡ parts.0 ++ parts.1 ∷ []
parted_next {A} x xs parts None is later none e =
    let same : ([], x) ≡ parts = cc in
    subst (λ (p : List A × A). x ∷ xs ≡ p.0 ++ p.1 ∷ []) same (ap (λ (t : List A). x ∷ t) (none refl))
parted_next {A} x xs parts (Some p) is later none e =
    let same : (x ∷ p.0, p.1) ≡ parts = cc in
    subst (λ (q : List A × A). x ∷ xs ≡ q.0 ++ q.1 ∷ []) same (ap (λ (t : List A). x ∷ t) (later p is))

onto_some : {A : Type 0} (x : A) (rest : Option (List A × A)) → onto x rest ≡ None → ⊥
onto_some x None e = absurd cc
onto_some x (Some p) e = absurd cc

parted_none : {A : Type 0} (xs : List A) → parted xs ≡ None → xs ≡ []
parted_none [] e = refl
parted_none (x ∷ xs) e = absurd (onto_some x (parted xs) e)

pub parted_is : {A : Type 0} (xs : List A) (parts : List A × A) → parted xs ≡ Some parts → xs ≡ parts.0 ++ parts.1 ∷ []
parted_is [] parts e = absurd cc
parted_is (x ∷ xs) parts e = parted_next x xs parts (parted xs) refl (parted_is xs) (parted_none xs) e

pub parted_push : {A : Type 0} (xs : List A) (x : A) → parted (xs ++ x ∷ []) ≡ Some (xs, x)
parted_push [] x = refl
parted_push (y ∷ xs) x = ap (onto y) (parted_push xs x)

-- as a slice gives them
pub parted_at : {A : Type 0} (xs : List A) (x : A) → 1 ≤ length xs → x ≡ slice_index_or xs (length xs - 1) x → Some (take (length xs - 1) xs, x) ≡ parted xs
parted_at {A} xs x some is =
    let n = length xs - 1 in
    let more : take (n + 1) xs ≡ take n xs ++ get_or xs n x ∷ [] = take_more xs n x (omega arith) in
    let all : take (n + 1) xs ≡ xs = take_all (n + 1) xs (omega arith) in
    let whole : xs ≡ take n xs ++ x ∷ [] = sym all ∙ more ∙ ap (λ (y : A). take n xs ++ y ∷ []) (sym is) in
    sym (ap parted whole ∙ parted_push (take n xs) x)

abbrev pub parts_seen : Option (List Binding × Binding) → Option (List Bound × Bound)
parts_seen None = None
parts_seen (Some parts) = Some (map bound_of parts.0, bound_of parts.1)

onto_seen : (b : Binding) (rest : Option (List Binding × Binding)) → onto (bound_of b) (parts_seen rest) ≡ parts_seen (onto b rest)
onto_seen b None = refl
onto_seen b (Some parts) = refl

pub parted_seen : (bindings : List Binding) → parted (map bound_of bindings) ≡ parts_seen (parted bindings)
parted_seen [] = refl
parted_seen (b ∷ bindings) = ap (onto (bound_of b)) (parted_seen bindings) ∙ onto_seen b (parted bindings)

-- ---- a rule of a policy

pub any_there : {A : Type 0} (p : A → Bool) (xs : List A) → list_any p xs ≡ true → (x : A) × Contains xs x × (p x ≡ true)
any_there p [] e = absurd cc
any_there p (x ∷ xs) e = elim (or_cases (p x) (list_any p xs) e) [
  | inl here ↦ (x, (0, omega arith, refl), here)
  | inr later ↦ let c = any_there p xs later in (c.0, (suc c.1.0, omega (arith, c.1.1), c.1.2), c.2)
]

known_key : (keys : List (List ℕ)) (key : List ℕ) → has_key keys key ≡ true → Contains keys key
known_key keys key e =
    let c = any_there (λ (known : List ℕ). bytes_eq known key) keys e in
    subst (λ (k : List ℕ). Contains keys k) (same_bytes c.0 key c.2) c.1

over_hosts : (via : List (List (List ℕ))) (hops : List Binding) → is_way via (map bound_of hops) ≡ true → AreOver via hops
over_hosts [] [] e = tt
over_hosts [] (hop ∷ hops) e = absurd cc
over_hosts (keys ∷ via) [] e = absurd cc
over_hosts (keys ∷ via) (hop ∷ hops) e =
    let h = and_parts (has_key keys hop.host_key) _ e in
    (known_key keys hop.host_key h.0, over_hosts via hops h.1)

-- the parts of a way that a rule names
pub record IsNamed (used : List ℕ) (hops : List Binding) (last : Binding) (rule : SessionRule) : Type 0 where
  pub key : rule.key ≡ used
  pub host : Contains rule.host last.host_key
  pub via : AreOver rule.via hops

pub towards_is : (hops : List Binding) (last : Binding) (key : List ℕ) (rule : SessionRule) → is_towards (map bound_of hops) (bound_of last) key rule ≡ true → IsNamed key hops last rule
towards_is hops last key rule e =
    let a = and_parts (bytes_eq rule.key key) _ e in
    let b = and_parts (has_key rule.host last.host_key) _ a.1 in
    record {
      key = same_bytes rule.key key a.0;
      host = known_key rule.host last.host_key b.0;
      via = over_hosts rule.via hops b.1;
    }

pub user_is : (named : Option (List ℕ)) (user : List ℕ) → is_user named user ≡ true → NamesUser named user
user_is None user e = tt
user_is (Some name) user e = same_bytes name user e

pub way_by : (policy : List SessionRule) (bindings hops : List Binding) (last : Binding) (key : List ℕ) (rule : SessionRule) → bindings ≡ hops ++ last ∷ [] → AreHops bindings → last.is_forwarding ≡ false
    → Contains policy rule → IsNamed key hops last rule → IsWay policy bindings key
way_by policy bindings hops last key rule is forwarding login there named = record {
  hops = hops;
  last = last;
  bound = is;
  login = login;
  forwarding = forwarding hops last is;
  rule = rule;
  named = there;
  key = named.key;
  host = named.host;
  via = named.via;
}

not_is : (b : Bool) → not b ≡ true → b ≡ false
not_is true e = absurd cc
not_is false e = refl

usable_by : (policy : List SessionRule) (bindings : List Binding) (key : List ℕ) (parts : Option (List Binding × Binding)) → AreHops bindings → parted bindings ≡ parts → is_usable policy (parts_seen parts) key ≡ true
    → IsWay policy bindings key
usable_by policy bindings key None forwarding is e = absurd cc
usable_by policy bindings key (Some parts) forwarding is e =
    let h = and_parts (not parts.1.is_forwarding) _ e in
    let r = any_there (is_towards (map bound_of parts.0) (bound_of parts.1) key) policy h.1 in
    way_by policy bindings parts.0 parts.1 key r.0 (parted_is bindings parts is) forwarding (not_is parts.1.is_forwarding h.0) r.1 (towards_is parts.0 parts.1 key r.0 r.2)

-- a key that is shown has a way
pub usable_is : (policy : List SessionRule) (bindings : List Binding) (key : List ℕ) → AreHops bindings → is_usable policy (parted (map bound_of bindings)) key ≡ true → IsWay policy bindings key
usable_is policy bindings key forwarding e =
    usable_by policy bindings key (parted bindings) forwarding refl (ap (λ (p : Option (List Bound × Bound)). is_usable policy p key) (sym (parted_seen bindings)) ∙ e)

-- ---- one more binding

forwarding_last : (bindings : List Binding) (parts : Option (List Binding × Binding)) → AreHops bindings → parted bindings ≡ parts → is_login_bound (parts_seen parts) ≡ false → AllByRecursion (λ hop. hop.is_forwarding ≡ true) bindings
forwarding_last bindings None forwarding is e = subst (λ (l : List Binding). AllByRecursion (λ hop. hop.is_forwarding ≡ true) l) (sym (parted_none bindings is)) tt
forwarding_last bindings (Some parts) forwarding is e =
    let whole = parted_is bindings parts is in
    let hops = recursion_from_All (λ (hop : Binding). hop.is_forwarding ≡ true) parts.0 (forwarding parts.0 parts.1 whole) in
    subst (λ (l : List Binding). AllByRecursion (λ hop. hop.is_forwarding ≡ true) l) (sym whole) (push parts.0 hops)
  where
    is_true : (b : Bool) → not b ≡ false → b ≡ true
    is_true true e = refl
    is_true false e = absurd cc

    push : (hops : List Binding) → AllByRecursion (λ hop. hop.is_forwarding ≡ true) hops → AllByRecursion (λ hop. hop.is_forwarding ≡ true) (hops ++ parts.1 ∷ [])
    push [] all = (is_true parts.1.is_forwarding e, tt)
    push (hop ∷ hops) all = (all.0, push hops all.1)

-- where no login is bound, every session forwards the agent
pub all_forward : (bindings : List Binding) → AreHops bindings → is_login_bound (parted (map bound_of bindings)) ≡ false → All (λ hop. hop.is_forwarding ≡ true) bindings
all_forward bindings forwarding e =
    All-from_recursion (λ (hop : Binding). hop.is_forwarding ≡ true) bindings (forwarding_last bindings (parted bindings) forwarding refl (ap is_login_bound (sym (parted_seen bindings)) ∙ e))

first_is : {A : Type 0} (p q : List A × A) → Some p ≡ Some q → p.0 ≡ q.0
first_is {A} p q e = let same : p ≡ q = cc in ap (λ (x : List A × A). x.0) same

pub hops_more : (bindings : List Binding) (binding : Binding) → All (λ hop. hop.is_forwarding ≡ true) bindings → AreHops (bindings ++ binding ∷ [])
hops_more bindings binding all hops last is =
    let same : bindings ≡ hops = first_is (bindings, binding) (hops, last) (sym (parted_push bindings binding) ∙ ap parted is ∙ parted_push hops last) in
    subst (λ (l : List Binding). All (λ hop. hop.is_forwarding ≡ true) l) same all
