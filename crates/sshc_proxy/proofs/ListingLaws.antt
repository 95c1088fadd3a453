-- A listing is read as the agent's client reads it (sshc_ask): the same answers are refused, with the same error, and the
-- keys and comments are the same.
use Rattle.std.proofs.Common.{◌≡◌, ℕ, zero, suc, List, [], ◌∷◌, Result, Ok, Err, refl, subst}
use Rattle.sshc_wire.specs.Counted.{times_at}
use Rattle.sshc_wire.specs.Reads.{◌>>=◌}
use Rattle.sshc_key.specs.declared.agent.AgentIdentity.{AgentIdentity}
use Rattle.sshc_key.specs.declared.error.Error.{Error}
use Rattle.sshc_key.specs.KeyGrammar.{Key}
use Rattle.sshc_key.specs.KeyReading.{octets_at, u32_at, utf8_at}
use Rattle.sshc_key.specs.Nesting.{blob_key, key_or_fault}
use Rattle.sshc_ask.specs.AgentCalls.Readings.{identity_at, identity_of, listed}
use Rattle.sshc_proxy.specs.Listing.{Listed, listed_at, listed_keys}

-- the identity is the key in the blob, with the comment
abbrev IsOf : Listed → AgentIdentity → Type 0
IsOf key identity = (k : Key) × (key_or_fault (blob_key key.0) ≡ Ok k) × (identity ≡ identity_of k key.1)

abbrev AreOf : List Listed → List AgentIdentity → Type 0
AreOf [] [] = Unit {0}
AreOf (key ∷ keys) (identity ∷ identities) = IsOf key identity × AreOf keys identities
AreOf keys identities = ⊥

-- two readings succeed with values that fit and the same rest, or fail with the same error
abbrev Agree : {A B : Type 0} → (A → B → Type 0) → Result (A × List ℕ) Error → Result (B × List ℕ) Error → Type 0
Agree fit (Ok a) (Ok b) = fit a.0 b.0 × (a.1 ≡ b.1)
Agree fit (Err e) (Err f) = e ≡ f
Agree fit a b = ⊥

by_key : (blob comment rest : List ℕ) (r : Result Key Error) → key_or_fault (blob_key blob) ≡ r → Agree IsOf (r >>= λ key. Ok ((blob, comment), rest)) (r >>= λ key. Ok (identity_of key comment, rest))
by_key blob comment rest (Ok key) is = ((key, is, refl), refl)
by_key blob comment rest (Err e) is = refl

by_comment : (blob : List ℕ) (r : Result (List ℕ × List ℕ) Error)
    → Agree IsOf (r >>= λ comment. key_or_fault (blob_key blob) >>= λ key. Ok ((blob, comment.0), comment.1)) (r >>= λ comment. key_or_fault (blob_key blob) >>= λ key. Ok (identity_of key comment.0, comment.1))
by_comment blob (Ok comment) = by_key blob comment.0 comment.1 (key_or_fault (blob_key blob)) refl
by_comment blob (Err e) = refl

by_blob : (r : Result (List ℕ × List ℕ) Error)
    → Agree IsOf (r >>= λ blob. utf8_at blob.1 >>= λ comment. key_or_fault (blob_key blob.0) >>= λ key. Ok ((blob.0, comment.0), comment.1))
    (r >>= λ blob. utf8_at blob.1 >>= λ comment. key_or_fault (blob_key blob.0) >>= λ key. Ok (identity_of key comment.0, comment.1))
by_blob (Ok blob) = by_comment blob.0 (utf8_at blob.1)
by_blob (Err e) = refl

one_agrees : (bytes : List ℕ) → Agree IsOf (listed_at bytes) (identity_at bytes)
unfolding listed_at identity_at
one_agrees bytes = by_blob (octets_at bytes)

one_more : (key : Listed) (identity : AgentIdentity) (r : Result (List Listed × List ℕ) Error) (s : Result (List AgentIdentity × List ℕ) Error) → IsOf key identity → Agree AreOf r s
    → Agree AreOf (r >>= λ keys. Ok (key ∷ keys.0, keys.1)) (s >>= λ identities. Ok (identity ∷ identities.0, identities.1))
one_more key identity (Ok keys) (Ok identities) is (are, same) = ((is, are), same)
one_more key identity (Ok keys) (Err f) is agree = absurd agree
one_more key identity (Err e) (Ok identities) is agree = absurd agree
one_more key identity (Err e) (Err f) is agree = agree

first_of_many : (n : ℕ) → ((rest : List ℕ) → Agree AreOf (times_at n listed_at rest) (times_at n identity_at rest)) → (r : Result (Listed × List ℕ) Error) (s : Result (AgentIdentity × List ℕ) Error) → Agree IsOf r s
    → Agree AreOf (r >>= λ y. times_at n listed_at y.1 >>= λ ys. Ok (y.0 ∷ ys.0, ys.1)) (s >>= λ y. times_at n identity_at y.1 >>= λ ys. Ok (y.0 ∷ ys.0, ys.1))
first_of_many n later (Ok key) (Ok identity) (is, same) =
    subst (λ (rest : List ℕ). Agree AreOf (times_at n listed_at key.1 >>= λ ys. Ok (key.0 ∷ ys.0, ys.1)) (times_at n identity_at rest >>= λ ys. Ok (identity.0 ∷ ys.0, ys.1))) same
    (one_more key.0 identity.0 (times_at n listed_at key.1) (times_at n identity_at key.1) is (later key.1))
first_of_many n later (Ok key) (Err f) agree = absurd agree
first_of_many n later (Err e) (Ok identity) agree = absurd agree
first_of_many n later (Err e) (Err f) agree = agree

many_agree : (n : ℕ) (bytes : List ℕ) → Agree AreOf (times_at n listed_at bytes) (times_at n identity_at bytes)
many_agree zero bytes = (tt, refl)
many_agree (suc n) bytes = first_of_many n (many_agree n) (listed_at bytes) (identity_at bytes) (one_agrees bytes)

-- whole listings
abbrev pub ReadAlike : Result (List Listed) Error → Result (List AgentIdentity) Error → Type 0
ReadAlike (Ok keys) (Ok identities) = AreOf keys identities
ReadAlike (Err e) (Err f) = e ≡ f
ReadAlike keys identities = ⊥

by_found : (r : Result (List Listed × List ℕ) Error) (s : Result (List AgentIdentity × List ℕ) Error) → Agree AreOf r s → ReadAlike (r >>= λ found. Ok found.0) (s >>= λ found. Ok found.0)
by_found (Ok keys) (Ok identities) agree = agree.0
by_found (Ok keys) (Err f) agree = absurd agree
by_found (Err e) (Ok identities) agree = absurd agree
by_found (Err e) (Err f) agree = agree

by_count : (r : Result (ℕ × List ℕ) Error)
    → ReadAlike (r >>= λ count. times_at count.0 listed_at count.1 >>= λ found. Ok found.0) (r >>= λ count. times_at count.0 identity_at count.1 >>= λ found. Ok found.0)
by_count (Ok count) = by_found (times_at count.0 listed_at count.1) (times_at count.0 identity_at count.1) (many_agree count.0 count.1)
by_count (Err e) = refl

pub read_alike : (body : List ℕ) → ReadAlike (listed_keys body) (listed body)
unfolding listed_keys listed
read_alike body = by_count (u32_at body)
