-- What a name says, and the name that says it.
use Rattle.std.proofs.Common.{lit<, ◌≡◌, ℕ, zero, suc, ◌^◌, ◌≤◌, ◌<◌, true, eqb, ltb, List, [], ◌∷◌, ◌++◌, length, Option, Some, None, refl, sym, ap, subst, ◌∙◌, arith, inl, inr}
use Rattle.std.specs.Str.{IsAscii, is_utf8}
use Rattle.std.proofs.lemmas.Str.{IsUtf8-from_ascii, is_utf8-from_IsUtf8}
use Rattle.std.specs.Prelude.{◌&&◌, not, nat_le, bytes_eq}
use Rattle.std.specs.List.{list_all}
use Rattle.std.proofs.lemmas.Bool.{ltb-true, leb-true}
use Rattle.sshc_wire.specs.LookupLaws.{same_bytes, found_passes}
use Rattle.sshc_key.specs.KeyGrammar.{IsText}
use Rattle.sshc_key.specs.declared.algorithm.EcdsaCurve.TheVariants.{NistP256, NistP384, NistP521}
use Rattle.sshc_key.specs.declared.kind.Known.{Known}
use Rattle.sshc_key.specs.declared.kind.Known.TheVariants.{Dsa, Ecdsa, Ed25519, Rsa, SkEcdsaSha2NistP256, SkEd25519}
use Rattle.sshc_key.specs.declared.kind.Kind.TheVariants as kinds
use Rattle.sshc_key.specs.declared.kind.Tag.{Tag}
use Rattle.sshc_key.specs.declared.kind.Tag.TheVariants as tags
use Rattle.sshc_key.specs.AlgorithmNames.{Parted, parted, at_domain, is_name_byte, is_side, is_marked, is_taken, is_opaque, known_stemmed, known_name, known_certificate_name, known_named, known_certified, all_known, with_mark, marked_name, tag_name, IsTag, unmarked, certified_tag, opaque_tag, certified_or, plain_or, tag_named}
use Rattle.sshc_key.specs.KeyLaws.Names.{chosen, some, some_is, cases_option, parted_back, parted_there, unmarked_there, name_bytes, opaque_short, all_append, sides, opaque_here, marked_is, opaque_again, certified_again}
use Rattle.sshc_wire.specs.CasesLaws.{both_true}

-- ---- the table

pub known_is : (name : List ℕ) (k : Known) → known_named name ≡ Some k → name ≡ known_name k
unfolding known_named
known_is name k e = sym (same_bytes _ _ (found_passes (λ k. bytes_eq (known_name k) name) all_known k e))

certified_is : (name : List ℕ) (k : Known) → known_certified name ≡ Some k → name ≡ known_certificate_name k
unfolding known_certified
certified_is name k e = sym (same_bytes _ _ (found_passes (λ k. bytes_eq (known_certificate_name k) name) all_known k e))

below : (bytes : List ℕ) → list_all (λ b. ltb b 128) bytes ≡ true → IsAscii bytes
below [] h i = omega arith
below (b ∷ bytes) h zero = ltb-true _ _ (both_true (ltb b 128) (list_all (λ b. ltb b 128) bytes) h).0
below (b ∷ bytes) h (suc i) = below bytes (both_true (ltb b 128) (list_all (λ b. ltb b 128) bytes) h).1 i

small_text : (bytes : List ℕ) → list_all (λ b. ltb b 128) bytes ≡ true → is_utf8 bytes ≡ true
small_text bytes h = is_utf8-from_IsUtf8 bytes (IsUtf8-from_ascii bytes (below bytes h))

-- what the table says of each of its names, and that it is no name with a domain
pub record Stands (k : Known) : Type 0 where
  pub named : known_named (known_name k) ≡ Some k
  pub not_named : known_named (known_certificate_name k) ≡ None
  pub certified : known_certified (known_certificate_name k) ≡ Some k
  pub plain_other : opaque_tag (known_name k) (parted (known_name k)) ≡ None
  pub certified_other : opaque_tag (known_certificate_name k) (parted (known_certificate_name k)) ≡ None
  pub short : length (known_certificate_name k) ≤ 64
  pub text : IsText (known_name k)
  pub certified_text : IsText (known_certificate_name k)

pub stands : (k : Known) → Stands k
unfolding known_named known_certified parted is_opaque is_taken known_stemmed is_side is_marked is_name_byte unmarked
stands Dsa = record { named = refl; not_named = refl; certified = refl; plain_other = refl; certified_other = refl; short = omega arith; text = (lit< tt, small_text _ refl); certified_text = (lit< tt, small_text _ refl) }
stands (Ecdsa NistP256) = record { named = refl; not_named = refl; certified = refl; plain_other = refl; certified_other = refl; short = omega arith; text = (lit< tt, small_text _ refl); certified_text = (lit< tt, small_text _ refl) }
stands (Ecdsa NistP384) = record { named = refl; not_named = refl; certified = refl; plain_other = refl; certified_other = refl; short = omega arith; text = (lit< tt, small_text _ refl); certified_text = (lit< tt, small_text _ refl) }
stands (Ecdsa NistP521) = record { named = refl; not_named = refl; certified = refl; plain_other = refl; certified_other = refl; short = omega arith; text = (lit< tt, small_text _ refl); certified_text = (lit< tt, small_text _ refl) }
stands Ed25519 = record { named = refl; not_named = refl; certified = refl; plain_other = refl; certified_other = refl; short = omega arith; text = (lit< tt, small_text _ refl); certified_text = (lit< tt, small_text _ refl) }
stands Rsa = record { named = refl; not_named = refl; certified = refl; plain_other = refl; certified_other = refl; short = omega arith; text = (lit< tt, small_text _ refl); certified_text = (lit< tt, small_text _ refl) }
stands SkEcdsaSha2NistP256 = record { named = refl; not_named = refl; certified = refl; plain_other = refl; certified_other = refl; short = omega arith; text = (lit< tt, small_text _ refl); certified_text = (lit< tt, small_text _ refl) }
stands SkEd25519 = record { named = refl; not_named = refl; certified = refl; plain_other = refl; certified_other = refl; short = omega arith; text = (lit< tt, small_text _ refl); certified_text = (lit< tt, small_text _ refl) }

abbrev no_tag : Option Tag
no_tag = None

not_known : (name : List ℕ) (x : Tag) → opaque_tag name (parted name) ≡ Some x → known_named name ≡ None
not_known name x e =
    elim (cases_option (known_named name)) [
      | inl none ↦ none
      | inr k ↦
          let same = known_is name k.0 k.1 in
          let bad : no_tag ≡ some x = sym (stands k.0).plain_other ∙ ap (λ (s : List ℕ). opaque_tag s (parted s)) (sym same) ∙ e in absurd cc
    ]

not_certified : (name : List ℕ) (x : Tag) → opaque_tag name (parted name) ≡ Some x → known_certified name ≡ None
not_certified name x e =
    elim (cases_option (known_certified name)) [
      | inl none ↦ none
      | inr k ↦
          let same = certified_is name k.0 k.1 in
          let bad : no_tag ≡ some x = sym (stands k.0).certified_other ∙ ap (λ (s : List ℕ). opaque_tag s (parted s)) (sym same) ∙ e in absurd cc
    ]

-- ---- a name read is what it is the text of

with_domain_back : (name : List ℕ) (x : Tag) → opaque_tag name (parted name) ≡ Some x → tag_named name ≡ Some x
unfolding tag_named
with_domain_back name x e = rw (not_known name x e, not_certified name x e) e

pub tag_back : (x : Tag) → IsTag x → tag_named (tag_name x) ≡ Some x
unfolding tag_named
tag_back (tags.Plain (kinds.Known k)) h = rw (stands k).named refl
tag_back (tags.Certified (kinds.Known k)) h = rw ((stands k).not_named, (stands k).certified) refl
tag_back (tags.Plain (kinds.Opaque name)) h = let p = sides name h in with_domain_back name _ (opaque_again name p.0 p.1 p.2)
tag_back (tags.Certified (kinds.Opaque name)) h =
    let p = sides name h.0 in
    let is : name ≡ at_domain p.0 = parted_there name p.0 p.1 in
    let marked : marked_name name ≡ at_domain (with_mark p.0) = ap marked_name is ∙ marked_is p.0 p.2 in
    let few : length (at_domain (with_mark p.0)) ≤ 64 = subst (λ (s : List ℕ). length s ≤ 64) marked h.1 in
    ap tag_named marked ∙ with_domain_back _ _ (certified_again p.0 p.2 few) ∙ ap (λ (s : List ℕ). some (tags.Certified (kinds.Opaque s))) (sym is)

abbrev Named : List ℕ → Tag → Type 0
Named name x = (name ≡ tag_name x) × IsTag x

named_as : (name : List ℕ) (x y : Tag) → some x ≡ some y → Named name x → Named name y
named_as name x y e h = subst (λ (t : Tag). Named name t) (some_is x y e) h

certified_there : (name own : List ℕ) (p : Parted) (x : Tag) → parted name ≡ Some p → unmarked p.front ≡ Some own → certified_tag name p (Some own) ≡ Some x → Named name x
certified_there name own p x at is e =
    let q : Parted = record { front = own; domain = p.domain } in
    elim (chosen (is_opaque q && nat_le (length name) 64) (Some (tags.Certified (kinds.Opaque (at_domain q)))) None (Some x) e) [
      | inl h ↦
          let both = both_true (is_opaque q) (nat_le (length name) 64) h.0 in
          let few : length name ≤ 64 = leb-true _ _ both.1 in
          let text : name ≡ at_domain (with_mark q) = parted_there name p at ∙ ap (λ (f : List ℕ). f ++ (64 ∷ p.domain)) (unmarked_there p.front own is) in
          let same : name ≡ marked_name (at_domain q) = text ∙ sym (marked_is q both.0) in
          let here : parted (at_domain q) ≡ Some q = parted_back own p.domain (name_bytes q both.0).0 in
          named_as name _ x h.1 (same, (opaque_here (at_domain q) q here both.0, subst (λ (s : List ℕ). length s ≤ 64) same few))
      | inr h ↦ let bad = h.1 in absurd cc
    ]

marked_there : (name : List ℕ) (p : Parted) (o : Option (List ℕ)) (x : Tag) → parted name ≡ Some p → unmarked p.front ≡ o → certified_tag name p o ≡ Some x → Named name x
marked_there name p None x at is e = absurd cc
marked_there name p (Some own) x at is e = certified_there name own p x at is e

domain_there : (name : List ℕ) (o : Option Parted) (x : Tag) → parted name ≡ o → opaque_tag name o ≡ Some x → Named name x
domain_there name None x at e = absurd cc
domain_there name (Some p) x at e =
    elim (chosen (is_opaque p) (Some (tags.Plain (kinds.Opaque name))) (certified_tag name p (unmarked p.front)) (Some x) e) [
      | inl h ↦ named_as name _ x h.1 (refl, opaque_here name p at h.0)
      | inr h ↦ marked_there name p (unmarked p.front) x at refl h.1
    ]

table_there : (name : List ℕ) (o : Option Known) (x : Tag) → known_certified name ≡ o → certified_or o name ≡ Some x → Named name x
table_there name None x is e = domain_there name (parted name) x refl e
table_there name (Some k) x is e = named_as name _ x e (certified_is name k is, (tt, subst (λ (s : List ℕ). length s ≤ 64) refl (stands k).short))

plain_there : (name : List ℕ) (o : Option Known) (x : Tag) → known_named name ≡ o → plain_or o name ≡ Some x → Named name x
plain_there name None x is e = table_there name (known_certified name) x refl e
plain_there name (Some k) x is e = named_as name _ x e (known_is name k is, tt)

pub tag_there : (name : List ℕ) (x : Tag) → tag_named name ≡ Some x → (name ≡ tag_name x) × IsTag x
unfolding tag_named
tag_there name x e = plain_there name (known_named name) x refl e

-- ---- names are texts

below_128 : (bytes : List ℕ) → list_all is_name_byte bytes ≡ true → IsAscii bytes
unfolding is_name_byte
below_128 [] h i = omega arith
below_128 (b ∷ bytes) h zero =
    let first = both_true (is_name_byte b) (list_all is_name_byte bytes) h in
    let c = both_true _ (not (eqb b 64)) first.0 in
    let d = both_true _ (not (eqb b 44)) c.0 in
    let few : b ≤ 126 = leb-true _ _ (both_true (nat_le 33 b) (nat_le b 126) d.0).1 in
    omega (arith, few)
below_128 (b ∷ bytes) h (suc i) = below_128 bytes (both_true (is_name_byte b) (list_all is_name_byte bytes) h).1 i

ascii_append : (a b : List ℕ) → IsAscii a → IsAscii b → IsAscii (a ++ b)
ascii_append [] b h k i = k i
ascii_append (x ∷ a) b h k zero = h 0
ascii_append (x ∷ a) b h k (suc i) = ascii_append a b (λ j. h (suc j)) k i

sign_ascii : (bytes : List ℕ) → IsAscii bytes → IsAscii (64 ∷ bytes)
sign_ascii bytes h zero = omega arith
sign_ascii bytes h (suc i) = h i

ascii_text : (bytes : List ℕ) → IsAscii bytes → length bytes ≤ 64 → IsText bytes
ascii_text bytes h few = (lt_of_le few, is_utf8-from_IsUtf8 bytes (IsUtf8-from_ascii bytes h))
  where
    lt_of_le : length bytes ≤ 64 → length bytes < 2 ^ 32
    lt_of_le few = omega (arith, few)

parted_text : (p : Parted) → list_all is_name_byte p.front ≡ true → list_all is_name_byte p.domain ≡ true → length (at_domain p) ≤ 64 → IsText (at_domain p)
parted_text p front domain few = ascii_text (at_domain p) (ascii_append p.front (64 ∷ p.domain) (below_128 p.front front) (sign_ascii p.domain (below_128 p.domain domain))) few

pub tag_text : (x : Tag) → IsTag x → IsText (tag_name x)
tag_text (tags.Plain (kinds.Known k)) h = (stands k).text
tag_text (tags.Certified (kinds.Known k)) h = (stands k).certified_text
tag_text (tags.Plain (kinds.Opaque name)) h =
    let p = sides name h in
    let bytes = name_bytes p.0 p.2 in
    subst IsText (sym (parted_there name p.0 p.1)) (parted_text p.0 bytes.0 bytes.1 (opaque_short p.0 p.2))
tag_text (tags.Certified (kinds.Opaque name)) h =
    let p = sides name h.0 in
    let bytes = name_bytes p.0 p.2 in
    let marked : marked_name name ≡ at_domain (with_mark p.0) = ap marked_name (parted_there name p.0 p.1) ∙ marked_is p.0 p.2 in
    subst IsText (sym marked) (parted_text (with_mark p.0) (all_append p.0.front bytes.0) bytes.1 (subst (λ (s : List ℕ). length s ≤ 64) marked h.1))
