-- Each certificate has a marker, so eight markers bound how deeply certificates are nested.
use Rattle.std.proofs.Common.{◌≡◌, ℕ, ◌+◌, ◌≤◌, Bool, true, false, cond, List, [], ◌∷◌, ◌++◌, length, take, refl, sym, ap, subst, ◌∙◌, append_assoc, arith}
use Rattle.std.specs.Prelude.{nat_eq, bytes_eq, codes}
use Rattle.std.specs.List.{starts_with}
use Rattle.std.proofs.lemmas.List.{take-append-le, length-take}
use Rattle.sshc_wire.specs.Wire.{string_text, u32_text}
use Rattle.sshc_wire.specs.LookupLaws.{same_bytes}
use Rattle.sshc_key.specs.declared.kind.Kind.{Kind}
use Rattle.sshc_key.specs.declared.kind.Kind.TheVariants as kinds
use Rattle.sshc_key.specs.declared.kind.Tag.TheVariants as tags
use Rattle.sshc_key.specs.AlgorithmNames.{tag_name, known_stem, mark, IsTag, with_mark, at_domain, marked_name}
use Rattle.sshc_key.specs.KeyGrammar.{Key, plain, certificate, kind_of, fields_text, statement_text, body_text, signature_text, key_text, Fits, depth}
use Rattle.sshc_key.specs.Nesting.{marker, markers}
use Rattle.sshc_key.specs.KeyLaws.Names.{sides, parted_there, marked_is}

-- a marker at the front stays there
stays : (a b : List ℕ) → starts_with nat_eq a marker ≡ true → starts_with nat_eq (a ++ b) marker ≡ true
stays a b e =
    let is : marker ≡ take 10 a = same_bytes marker (take 10 a) e in
    let long : 10 ≤ length a = omega (arith, ap length is, length-take 10 a) in
    let same : take 10 (a ++ b) ≡ take 10 a = take-append-le 10 a b long in
    ap (bytes_eq marker) same ∙ e

one_more : (b c : Bool) → (b ≡ true → c ≡ true) → cond b 1 0 ≤ cond c 1 0
one_more false c h = omega arith
one_more true true h = omega arith
one_more true false h = let bad : false ≡ true = h refl in absurd cc

pub markers_append : (a b : List ℕ) → markers a + markers b ≤ markers (a ++ b)
markers_append [] b = omega arith
markers_append (x ∷ a) b =
    let first = one_more (starts_with nat_eq (x ∷ a) marker) (starts_with nat_eq (x ∷ (a ++ b)) marker) (λ e. stays (x ∷ a) b e) in
    let others = markers_append a b in
    omega (arith, first, others)

-- at least n markers; a record, so that antt finds the lists
record Marked (n : ℕ) (bytes : List ℕ) : Type 0 where
  at_least : n ≤ markers bytes

behind : (a b : List ℕ) (n : ℕ) → Marked n b → Marked n (a ++ b)
behind a b n h = record { at_least = omega (arith, h.at_least, markers_append a b) }

in_front : (a b : List ℕ) (n : ℕ) → Marked n a → Marked n (a ++ b)
in_front a b n h = record { at_least = omega (arith, h.at_least, markers_append a b) }

in_string : (a : List ℕ) (n : ℕ) → Marked n a → Marked n (string_text a)
unfolding string_text
in_string a n h = behind (u32_text (length a)) a n h

-- ---- each certificate's name has a marker

marked_front : (front domain : List ℕ) → Marked 1 ((front ++ mark) ++ (64 ∷ domain))
marked_front front domain = subst (λ (bytes : List ℕ). Marked 1 bytes) (sym (append_assoc front mark (64 ∷ domain))) (behind front (mark ++ (64 ∷ domain)) 1 (record { at_least = omega arith }))

marked_tag : (kind : Kind) → IsTag (tags.Certified kind) → Marked 1 (tag_name (tags.Certified kind))
marked_tag (kinds.Known k) h = behind (known_stem k) (codes "-cert-v01@openssh.com") 1 (record { at_least = omega arith })
marked_tag (kinds.Opaque name) h =
    let p = sides name h.0 in
    let is : marked_name name ≡ at_domain (with_mark p.0) = ap marked_name (parted_there name p.0 p.1) ∙ marked_is p.0 p.2 in
    subst (λ (bytes : List ℕ). Marked 1 bytes) (sym is) (marked_front p.0.front p.0.domain)

pub depth_marked : (k : Key) → Fits k → depth k ≤ markers (key_text k)
depth_marked (plain k) h = omega arith
depth_marked (certificate nonce key says signer signature) h =
    let name : Marked 1 (string_text (tag_name (tags.Certified (kind_of key)))) = in_string _ 1 (marked_tag (kind_of key) h.0) in
    let inner : Marked (depth signer) (string_text (key_text signer) ++ string_text (signature_text signature)) =
    in_front (string_text (key_text signer)) _ _ (in_string (key_text signer) _ (record { at_least = depth_marked signer h.1.3.1 })) in
    let body : Marked (depth signer) (body_text (certificate nonce key says signer signature)) =
    behind (string_text nonce) _ _ (behind (fields_text key) _ _ (behind (statement_text says) _ _ inner)) in
    omega (arith, name.at_least, body.at_least, markers_append (string_text (tag_name (tags.Certified (kind_of key)))) (body_text (certificate nonce key says signer signature)))
