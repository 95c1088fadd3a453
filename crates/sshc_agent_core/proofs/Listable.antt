-- Keys whose listing fits in a frame keep that property, and then the listing and each blob are short.
use Rattle.std.proofs.Common.{◌≡◌, ℕ, ◌+◌, ◌≤◌, Bool, true, false, cond, not, List, [], ◌∷◌, length, Option, Some, None, get_or, sum_by, refl, sym, ap, arith, length-append}
use Rattle.std.specs.Option.{is_some}
use Rattle.std.specs.Prelude.{filter, nat_le, position, Result, Ok, Err, OnOk, OnErr}
use Rattle.std.proofs.lemmas.Bool.{leb-true}
use Rattle.std.proofs.lemmas.List.Concat.{length-flat_map}
use Rattle.std.proofs.lemmas.List.Filters.{sum_by-filter_both}
use Rattle.std.proofs.lemmas.List.Quantifiers.{position-Some}
use Rattle.std.proofs.lemmas.List.Sums.{sum_by-cons, sum_by-le-sum_by, sum_by-set, sum_by_push}
use Rattle.std.proofs.lemmas.Slice.Eq.{bytes_eq-Decides}
use Rattle.sshc_wire.specs.Wire.{counted_text, string_text, u32_text}
use Rattle.sshc_agent_core.specs.declared.key_list.HeldKey.{HeldKey}
use Rattle.sshc_key.specs.AgentNumbers.{MAX_AGENT_FRAME_LEN}
use Rattle.sshc_agent_core.specs.KeyList.{AreListable, has_room, held, identity_text, is_key, listed, listing, put_at, unexpired, with_key, without_key}
use Rattle.sshc_agent_core.proofs.Listings.{nowhere}

-- ---- lengths

pub length-string_text : (s : List ℕ) → length (string_text s) ≡ 4 + length s
unfolding string_text u32_text
length-string_text s = omega arith

identity_bytes : (key : HeldKey) → length (identity_text key) ≤ listed key
identity_bytes key = omega (arith, length-append (string_text key.blob) (string_text []), length-string_text key.blob, length-string_text [])

-- the listing of such keys
pub listing_short : (keys : List HeldKey) → AreListable keys → length (listing keys) ≤ 262144
unfolding counted_text u32_text
listing_short keys fits =
    omega (arith, fits, length-flat_map identity_text keys, sum_by-le-sum_by (λ (key : HeldKey). length (identity_text key)) listed keys identity_bytes)

found_by : (b : Bool) (x key : HeldKey) (xs : List HeldKey) (o : Option HeldKey) → cond b (Some x) o ≡ Some key → (o ≡ Some key → listed key ≤ sum_by listed xs) → listed key ≤ sum_by listed (x ∷ xs)
found_by true x key xs o is later = let same : x ≡ key = cc in omega (arith, ap listed same, sum_by-cons listed x xs)
found_by false x key xs o is later = omega (arith, later is, sum_by-cons listed x xs)

-- a key that is held is part of the listing
pub held_listed : (keys : List HeldKey) (blob : List ℕ) (key : HeldKey) → held keys blob ≡ Some key → listed key ≤ sum_by listed keys
held_listed [] blob key is = absurd cc
held_listed (x ∷ xs) blob key is = found_by (is_key blob x) x key xs (held xs blob) is (held_listed xs blob key)

-- ---- what preserves it

filtered : (p : HeldKey → Bool) (keys : List HeldKey) → AreListable keys → AreListable (filter p keys)
filtered p keys fits = omega (arith, fits, sum_by-filter_both p (λ (k : HeldKey). not (p k)) (λ x. refl) listed keys)

pub none_listable : AreListable []
none_listable = omega arith

pub unexpired_listable : (now : ℕ) (keys : List HeldKey) → AreListable keys → AreListable (unexpired now keys)
unexpired_listable now keys fits = filtered _ keys fits

pub without_listable : (blob : List ℕ) (keys : List HeldKey) → AreListable keys → AreListable (without_key keys blob)
without_listable blob keys fits = filtered _ keys fits

room_for_new : (keys : List HeldKey) (blob : List ℕ) (o : Option HeldKey) → o ≡ None → nat_le ((cond (is_some o) 5 (length blob + 13)) + sum_by listed keys) MAX_AGENT_FRAME_LEN ≡ true → length blob + 13 + sum_by listed keys ≤ MAX_AGENT_FRAME_LEN
room_for_new keys blob None none room = leb-true _ _ room
room_for_new keys blob (Some key) none room = absurd cc

put_listable : (keys : List HeldKey) (key : HeldKey) (o : Option ℕ) → position (is_key key.blob) keys ≡ o → AreListable keys → has_room keys key.blob ≡ true → AreListable (put_at o keys key)
put_listable keys key None is fits room =
    let absent : held keys key.blob ≡ None = nowhere keys key.blob (sym is) in
    omega (arith, room_for_new keys key.blob (held keys key.blob) absent room, sum_by_push listed keys key)
put_listable keys key (Some at) is fits room =
    let found = position-Some (is_key key.blob) keys at key is in
    let same : (get_or keys at key).blob ≡ key.blob = (bytes_eq-Decides _ _).0 found.1 in
    omega (arith, fits, ap length same, sum_by-set listed keys at key key found.0)

-- a key for which there is room
pub with_listable : (keys : List HeldKey) (key : HeldKey) → AreListable keys → has_room keys key.blob ≡ true → AreListable (with_key keys key)
with_listable keys key fits room = put_listable keys key (position (is_key key.blob) keys) refl fits room

-- whether there was memory for the key or not
pub put_keeps : {X Y : Type 0} (result : Result X Y) (old new : List HeldKey) (key : HeldKey) → OnOk result (new ≡ with_key old key) → OnErr result (new ≡ old) → AreListable old → has_room old key.blob ≡ true → AreListable new
put_keeps (Ok x) old new key there same fits room = rw there (with_listable old key fits room)
put_keeps (Err e) old new key there same fits room = rw same fits
