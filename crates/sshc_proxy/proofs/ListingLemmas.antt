-- The keys of a listing in the code, and those of the definitions.
use Rattle.std.proofs.Common.{◌≡◌, ℕ, suc, Bool, true, false, cond, List, [], ◌∷◌, ◌++◌, length, refl, ap, sym, ◌∙◌}
use Rattle.std.specs.Prelude.{filter}
use Rattle.std.specs.List.{flat_map}
use Rattle.std.proofs.lemmas.List.Concat.{flat_map-cons}
use Rattle.sshc_proxy.specs.declared.listing.Listed.{Listed as Lent}
use Rattle.sshc_proxy.specs.Policy.{Rule, allowed}
use Rattle.sshc_proxy.specs.Listing.{Listed, keys_seen, listed_seen, listed_text}

kept_by : (b : Bool) (x : Lent) (xs : List Lent) → keys_seen (cond b (x ∷ xs) xs) ≡ cond b (listed_seen x ∷ keys_seen xs) (keys_seen xs)
kept_by true x xs = refl
kept_by false x xs = refl

-- the keys that are kept
pub kept_seen : (policy : List Rule) (hosts : List (List ℕ)) (keys : List Lent) → keys_seen (filter (λ k. allowed policy hosts k.blob.now) keys) ≡ filter (λ k. allowed policy hosts k.0) (keys_seen keys)
kept_seen policy hosts [] = refl
kept_seen policy hosts (k ∷ keys) =
    kept_by (allowed policy hosts k.blob.now) k (filter (λ k. allowed policy hosts k.blob.now) keys)
    ∙ ap (λ (ks : List Listed). cond (allowed policy hosts k.blob.now) (listed_seen k ∷ ks) ks) (kept_seen policy hosts keys)

-- how many there are
pub count_seen : (keys : List Lent) → length (keys_seen keys) ≡ length keys
count_seen [] = refl
count_seen (k ∷ keys) = ap (λ (n : ℕ). suc n) (count_seen keys)

-- their text
pub text_seen : (keys : List Lent) → flat_map (λ k. listed_text (listed_seen k)) keys ≡ flat_map listed_text (keys_seen keys)
text_seen [] = refl
text_seen (k ∷ keys) =
    flat_map-cons (λ k. listed_text (listed_seen k)) k keys ∙ ap (λ (t : List ℕ). listed_text (listed_seen k) ++ t) (text_seen keys) ∙ sym (flat_map-cons listed_text (listed_seen k) (keys_seen keys))

-- one more key
pub seen_push : (keys : List Lent) (key : Lent) → keys_seen (keys ++ key ∷ []) ≡ keys_seen keys ++ listed_seen key ∷ []
seen_push [] key = refl
seen_push (k ∷ keys) key = ap (λ (ks : List Listed). listed_seen k ∷ ks) (seen_push keys key)
