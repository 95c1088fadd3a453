-- Keys that are stored by their blobs.
use Rattle.std.proofs.Common.{◌≡◌, ℕ, zero, suc, ◌+◌, ◌<◌, Bool, true, false, cond, not, List, [], ◌∷◌, ◌++◌, length, slice_get, nat_eq, nat_lt, is_some, IfSome, Option, Some, None, refl, sym, ap, ◌∙◌, subst, arith}
use Rattle.std.specs.Prelude.{MatchOption, nat_le, bytes_eq, filter, position, set}
use Rattle.indexmap.specs.IndexMap.{insert_entry, set_value_at}
use Rattle.std.specs.Global.{Vec}
use Rattle.std.specs.Bool.{Decides}
use Rattle.std.specs.Cmp.Lexicographic.{pointwise}
use Rattle.std.specs.Map.{keys_of, lookup, values_of}
use Rattle.std.specs.List.{position_or_len}
use Rattle.std.proofs.lemmas.Bool.{lt-leb}
use Rattle.std.proofs.lemmas.Slice.Eq.{bytes_eq-Decides}
use Rattle.sshc_agent_core.specs.declared.key_list.HeldKey.{HeldKey}
use Rattle.sshc_agent_core.specs.KeyList.{held, is_key, put_at, with_key}
use Rattle.sshc_agent_core.specs.Stored.{AreKeyed}

same_by : (b c : Bool) (a d : List ℕ) → Decides b (a ≡ d) → Decides c (d ≡ a) → b ≡ c
same_by true true a d h k = refl
same_by false false a d h k = refl
same_by true false a d h k = sym (k.1 (sym (h.0 refl)))
same_by false true a d h k = h.1 (sym (k.0 refl))

-- two lists are compared alike in both orders
pub swapped : (a b : List ℕ) → bytes_eq a b ≡ bytes_eq b a
swapped a b = same_by (bytes_eq a b) (bytes_eq b a) a b (bytes_eq-Decides a b) (bytes_eq-Decides b a)

-- the key that is held is the one that is stored by its blob
pub held_stored : (es : List (Vec ℕ × HeldKey)) (blob : List ℕ) → AreKeyed es → held (values_of es) blob ≡ lookup (λ (v : Vec ℕ). bytes_eq blob v.items) es
held_stored [] blob keyed = refl
held_stored (e ∷ es) blob keyed =
    rw (keyed.0, swapped e.1.blob blob) (ap (cond (bytes_eq blob e.1.blob) (Some e.1)) (held_stored es blob keyed.1))

-- the place of the key that is held
pub placed_by : (o : Option ℕ) (h : Option HeldKey) (keys : List HeldKey) → is_some o ≡ is_some h → IfSome o (λ i. i < length keys) → IfSome o (λ i. slice_get keys i ≡ h)
    → MatchOption o (h ≡ None) (λ at. (at < length keys) × (h ≡ slice_get keys at))
placed_by None None keys found within is = refl
placed_by None (Some k) keys found within is = absurd cc
placed_by (Some at) h keys found within is = (within, sym is)

-- ---- what is kept of the keys

abbrev Entries : Type 0
Entries = List (Vec ℕ × HeldKey)

abbrev kept : (HeldKey → Bool) → List (Vec ℕ × HeldKey) → List (Vec ℕ × HeldKey)
kept p es = filter (λ (e : Vec ℕ × HeldKey). p e.1) es

values_by : (b : Bool) (e : Vec ℕ × HeldKey) (fs : List (Vec ℕ × HeldKey)) (ks : List HeldKey) → values_of fs ≡ ks → values_of (cond b (e ∷ fs) fs) ≡ cond b (e.1 ∷ ks) ks
values_by true e fs ks h = ap (λ (k : List HeldKey). e.1 ∷ k) h
values_by false e fs ks h = h

pub kept_values : (p : HeldKey → Bool) (es : List (Vec ℕ × HeldKey)) → values_of (kept p es) ≡ filter p (values_of es)
kept_values p [] = refl
kept_values p (e ∷ es) = values_by (p e.1) e (kept p es) (filter p (values_of es)) (kept_values p es)

keyed_by : (b : Bool) (e : Vec ℕ × HeldKey) (fs : List (Vec ℕ × HeldKey)) → e.0.items ≡ e.1.blob → AreKeyed fs → AreKeyed (cond b (e ∷ fs) fs)
keyed_by true e fs h keyed = (h, keyed)
keyed_by false e fs h keyed = keyed

pub kept_keyed : (p : HeldKey → Bool) (es : List (Vec ℕ × HeldKey)) → AreKeyed es → AreKeyed (kept p es)
kept_keyed p [] keyed = tt
kept_keyed p (e ∷ es) keyed = keyed_by (p e.1) e (kept p es) keyed.0 (kept_keyed p es keyed.1)

-- ---- a key at the end

last_by : (b : Bool) (e : Vec ℕ × HeldKey) (es fs : List (Vec ℕ × HeldKey)) (o : Option HeldKey) (name : Vec ℕ) (key : HeldKey)
    → cond b (Some e.1) o ≡ None → (o ≡ None → fs ≡ es ++ (name, key) ∷ []) → cond b ((e.0, key) ∷ es) (e ∷ fs) ≡ e ∷ es ++ (name, key) ∷ []
last_by true e es fs o name key none later = absurd cc
last_by false e es fs o name key none later = ap (λ (gs : List (Vec ℕ × HeldKey)). e ∷ gs) (later none)

added_last : (eq : Vec ℕ → Vec ℕ → Bool) (es : List (Vec ℕ × HeldKey)) (name : Vec ℕ) (key : HeldKey) → lookup (eq name) es ≡ None → insert_entry eq es name key ≡ es ++ (name, key) ∷ []
added_last eq [] name key none = refl
added_last eq (e ∷ es) name key none = last_by (eq name e.0) e es (insert_entry eq es name key) (lookup (eq name) es) name key none (added_last eq es name key)

values_last : (es : List (Vec ℕ × HeldKey)) (name : Vec ℕ) (key : HeldKey) → values_of (es ++ (name, key) ∷ []) ≡ values_of es ++ key ∷ []
values_last [] name key = refl
values_last (e ∷ es) name key = ap (λ (ks : List HeldKey). e.1 ∷ ks) (values_last es name key)

keyed_last : (es : List (Vec ℕ × HeldKey)) (name : Vec ℕ) (key : HeldKey) → name.items ≡ key.blob → AreKeyed es → AreKeyed (es ++ (name, key) ∷ [])
keyed_last [] name key named keyed = (named, tt)
keyed_last (e ∷ es) name key named keyed = (keyed.0, keyed_last es name key named keyed.1)

-- as the map of keys compares its names
abbrev pub same_name : Vec ℕ → Vec ℕ → Bool
same_name v w = pointwise nat_eq v.items w.items

-- a key whose blob no key has goes last
pushed_entries : (es : List (Vec ℕ × HeldKey)) (name : Vec ℕ) (key : HeldKey) → AreKeyed es → name.items ≡ key.blob → held (values_of es) key.blob ≡ None
    → insert_entry same_name es name key ≡ es ++ (name, key) ∷ []
pushed_entries es name key keyed named none =
    let none_named : held (values_of es) name.items ≡ None = subst (λ (b : List ℕ). held (values_of es) b ≡ None) (sym named) none in
    added_last same_name es name key (sym (held_stored es name.items keyed) ∙ none_named)

pub pushed : (es fs : List (Vec ℕ × HeldKey)) (name : Vec ℕ) (key : HeldKey) → AreKeyed es → name.items ≡ key.blob → held (values_of es) key.blob ≡ None
    → fs ≡ insert_entry same_name es name key → values_of fs ≡ values_of es ++ key ∷ []
pushed es fs name key keyed named none is = ap values_of (is ∙ pushed_entries es name key keyed named none) ∙ values_last es name key

pub pushed_keyed : (es fs : List (Vec ℕ × HeldKey)) (name : Vec ℕ) (key : HeldKey) → AreKeyed es → name.items ≡ key.blob → held (values_of es) key.blob ≡ None
    → fs ≡ insert_entry same_name es name key → AreKeyed fs
pushed_keyed es fs name key keyed named none is = subst AreKeyed (sym (is ∙ pushed_entries es name key keyed named none)) (keyed_last es name key named keyed)

-- ---- the key at an index

pub set_stored : (es : List (Vec ℕ × HeldKey)) (at : ℕ) (key : HeldKey) → values_of (set_value_at es at key) ≡ set (values_of es) at key
set_stored [] at key = refl
set_stored (e ∷ es) zero key = refl
set_stored (e ∷ es) (suc at) key = ap (λ (ks : List HeldKey). e.1 ∷ ks) (set_stored es at key)

pub set_keyed : (es : List (Vec ℕ × HeldKey)) (at : ℕ) (key : HeldKey) → ((k : HeldKey) → slice_get (values_of es) at ≡ Some k → k.blob ≡ key.blob) → AreKeyed es → AreKeyed (set_value_at es at key)
set_keyed [] at key same keyed = tt
set_keyed (e ∷ es) zero key same keyed = (keyed.0 ∙ same e.1 refl, keyed.1)
set_keyed (e ∷ es) (suc at) key same keyed = (keyed.0, set_keyed es at key same keyed.1)

-- ---- the key of a blob

some_is : {A : Type 0} (x y : A) → Some x ≡ Some y → x ≡ y
some_is x y h = cc

blob_by : (c : Bool) (x k : HeldKey) (o : Option HeldKey) (blob : List ℕ) → is_key blob x ≡ c → cond c (Some x) o ≡ Some k → (o ≡ Some k → k.blob ≡ blob) → k.blob ≡ blob
blob_by true x k o blob is h later = ap (λ (y : HeldKey). y.blob) (sym (some_is x k h)) ∙ (bytes_eq-Decides x.blob blob).0 is
blob_by false x k o blob is h later = later h

lengths : (es : List (Vec ℕ × HeldKey)) → length (values_of es) ≡ length (keys_of es)
lengths [] = refl
lengths (e ∷ es) = ap suc (lengths es)

places : (es : List (Vec ℕ × HeldKey)) (blob : List ℕ) → AreKeyed es → position_or_len (is_key blob) (values_of es) ≡ position_or_len (λ (v : Vec ℕ). bytes_eq blob v.items) (keys_of es)
places [] blob keyed = refl
places (e ∷ es) blob keyed = rw (keyed.0, swapped e.1.blob blob) (ap (λ (n : ℕ). cond (not (bytes_eq blob e.1.blob)) (1 + n) 0) (places es blob keyed.1))

-- the key that is held has the blob
pub held_blob : (keys : List HeldKey) (blob : List ℕ) (k : HeldKey) → held keys blob ≡ Some k → k.blob ≡ blob
held_blob [] blob k h = absurd cc
held_blob (x ∷ keys) blob k h = blob_by (is_key blob x) x k (held keys blob) blob refl h (held_blob keys blob k)

-- the place of a blob in the map of keys is that of its key
pub place_stored : (es : List (Vec ℕ × HeldKey)) (blob : List ℕ) → AreKeyed es → position (is_key blob) (values_of es) ≡ position (λ (v : Vec ℕ). bytes_eq blob v.items) (keys_of es)
place_stored es blob keyed = ap (λ (n : ℕ). cond (nat_lt n (length (values_of es))) (Some n) None) (places es blob keyed)
    ∙ ap (λ (m : ℕ). cond (nat_lt (position_or_len (λ (v : Vec ℕ). bytes_eq blob v.items) (keys_of es)) m) (Some (position_or_len (λ (v : Vec ℕ). bytes_eq blob v.items) (keys_of es))) None) (lengths es)

-- the key replaces the one at its place
pub with_held : (keys : List HeldKey) (key : HeldKey) (at : ℕ) → Some at ≡ position (is_key key.blob) keys → set keys at key ≡ with_key keys key
with_held keys key at is = ap (λ (o : Option ℕ). put_at o keys key) is

-- the key is appended
pub with_none : (keys : List HeldKey) (key : HeldKey) → None ≡ position (is_key key.blob) keys → keys ++ key ∷ [] ≡ with_key keys key
with_none keys key is = ap (λ (o : Option ℕ). put_at o keys key) is

-- a part is already too much
pub too_many : (all part rest limit : ℕ) → part + rest ≡ all → limit < part → false ≡ nat_le all limit
too_many all part rest limit is over = sym (lt-leb _ _ (omega (arith, is, over)))
