-- Names of algorithms and base64 are words: ASCII without white space.
use Rattle.std.proofs.Common.{◌≡◌, ℕ, zero, suc, ◌<◌, ◌≤◌, Bool, true, false, List, [], ◌∷◌, ◌++◌, length, replicate, refl, ap, subst, ◌∙◌, arith, inl, inr}
use Rattle.std.specs.Prelude.{◌&&◌, ◌||◌, not, nat_lt, nat_le, ◌==◌, slice_index}
use Rattle.std.specs.Char.{is_whitespace}
use Rattle.std.specs.List.{list_all}
use Rattle.std.proofs.lemmas.Bool.{cases_lt, leb-true}
use Rattle.std.proofs.lemmas.List.{get_or_past}
use Rattle.std.proofs.lemmas.List.Folds.{list_all-append}
use Rattle.std.proofs.lemmas.List.Sums.{AllPass-from_list_all}
use Rattle.base64.specs.Rfc4648.{encode_symbols, padding_len}
use Rattle.base64.specs.GeneralPurpose.{encode_of}
use Rattle.base64.specs.Engines.{standard}
use Rattle.sshc_wire.specs.Wire.{string_text, u32_text}
use Rattle.sshc_key.specs.declared.algorithm.EcdsaCurve.TheVariants.{NistP256, NistP384, NistP521}
use Rattle.sshc_key.specs.declared.kind.Known.{Known}
use Rattle.sshc_key.specs.declared.kind.Known.TheVariants.{Dsa, Ecdsa, Ed25519, Rsa, SkEcdsaSha2NistP256, SkEd25519}
use Rattle.sshc_key.specs.declared.kind.Kind.TheVariants as kinds
use Rattle.sshc_key.specs.declared.kind.Tag.{Tag}
use Rattle.sshc_key.specs.declared.kind.Tag.TheVariants as tags
use Rattle.sshc_key.specs.AlgorithmNames.{is_name_byte, is_opaque_name, known_name, known_certificate_name, tag_name, IsTag, with_mark, at_domain, marked_name, mark}
use Rattle.sshc_key.specs.KeyGrammar.{Key, key_name, key_text, tag_of}
use Rattle.sshc_key.specs.KeyLaws.Names.{sides, name_bytes, parted_there, marked_is, all_append}
use Rattle.sshc_wire.specs.CasesLaws.{both_true}

-- ASCII that is no white space
abbrev pub is_word_byte : ℕ → Bool
is_word_byte b = nat_lt b 128 && not (is_whitespace b)

abbrev pub is_word : List ℕ → Bool
is_word bytes = list_all is_word_byte bytes

both : (a b : Bool) → a ≡ true → b ≡ true → (a && b) ≡ true
both true b e f = f
both false b e f = cc

-- ---- bytes of names

-- a test of each number below a bound
all_below : (ℕ → Bool) → ℕ → Bool
all_below p zero = true
all_below p (suc n) = p n && all_below p n

below_holds : (p : ℕ → Bool) (n k : ℕ) → all_below p n ≡ true → k < n → p k ≡ true
unfolding all_below
below_holds p zero k h less = absurd (omega arith)
below_holds p (suc n) k h less =
    let first = both_true (p n) (all_below p n) h in
    elim (cases_lt k n) [
      | inl within ↦ below_holds p n k first.1 within
      | inr past ↦ let is : n ≡ k = omega arith in subst (λ (m : ℕ). p m ≡ true) is first.0
    ]

kept : (a b : Bool) → (not a || b) ≡ true → a ≡ true → b ≡ true
kept true b h e = h
kept false b h e = cc

name_byte_low : (b : ℕ) → is_name_byte b ≡ true → b < 127
unfolding is_name_byte
name_byte_low b h =
    let low = both_true _ (not (b == 64)) h in
    let lower = both_true _ (not (b == 44)) low.0 in
    let high : nat_le b 126 ≡ true = (both_true (nat_le 33 b) (nat_le b 126) lower.0).1 in
    let few : b ≤ 126 = leb-true _ _ high in
    omega (arith, few)

pub name_byte_word : (b : ℕ) → is_name_byte b ≡ true → is_word_byte b ≡ true
unfolding is_name_byte all_below
name_byte_word b h = kept (is_name_byte b) (is_word_byte b) (below_holds (λ n. not (is_name_byte n) || is_word_byte n) 127 b refl (name_byte_low b h)) h

all_words : (bytes : List ℕ) → list_all is_name_byte bytes ≡ true → is_word bytes ≡ true
all_words [] h = refl
all_words (b ∷ bytes) h =
    let first = both_true (is_name_byte b) (list_all is_name_byte bytes) h in
    both (is_word_byte b) (is_word bytes) (name_byte_word b first.0) (all_words bytes first.1)

pub words_append : (a b : List ℕ) → is_word a ≡ true → is_word b ≡ true → is_word (a ++ b) ≡ true
words_append a b h i = list_all-append is_word_byte a b ∙ both (is_word a) (is_word b) h i

-- ---- names

sided : (front domain : List ℕ) → list_all is_name_byte front ≡ true → list_all is_name_byte domain ≡ true → is_word (front ++ (64 ∷ domain)) ≡ true
sided front domain h i = words_append front (64 ∷ domain) (all_words front h) (all_words domain i)

known_word : (k : Known) → (is_word (known_name k) ≡ true) × (is_word (known_certificate_name k) ≡ true)
known_word Dsa = (refl, refl)
known_word (Ecdsa NistP256) = (refl, refl)
known_word (Ecdsa NistP384) = (refl, refl)
known_word (Ecdsa NistP521) = (refl, refl)
known_word Ed25519 = (refl, refl)
known_word Rsa = (refl, refl)
known_word SkEcdsaSha2NistP256 = (refl, refl)
known_word SkEd25519 = (refl, refl)

opaque_word : (name : List ℕ) → is_opaque_name name ≡ true → is_word name ≡ true
opaque_word name h =
    let p = sides name h in
    let named = name_bytes p.0 p.2 in
    ap is_word (parted_there name p.0 p.1) ∙ sided p.0.front p.0.domain named.0 named.1

marked_word : (name : List ℕ) → is_opaque_name name ≡ true → is_word (marked_name name) ≡ true
marked_word name h =
    let p = sides name h in
    let named = name_bytes p.0 p.2 in
    let is : marked_name name ≡ at_domain (with_mark p.0) = ap marked_name (parted_there name p.0 p.1) ∙ marked_is p.0 p.2 in
    ap is_word is ∙ sided (p.0.front ++ mark) p.0.domain (all_append p.0.front named.0) named.1

tag_word : (x : Tag) → IsTag x → is_word (tag_name x) ≡ true
tag_word (tags.Plain (kinds.Known k)) h = (known_word k).0
tag_word (tags.Plain (kinds.Opaque name)) h = opaque_word name h
tag_word (tags.Certified (kinds.Known k)) h = (known_word k).1
tag_word (tags.Certified (kinds.Opaque name)) h = marked_word name h.0

-- the name that a key's blob begins with
pub name_word : (k : Key) → IsTag (tag_of k) → is_word (key_name k) ≡ true
name_word k h = tag_word (tag_of k) h

-- ---- base64

symbol_word : (i : ℕ) → is_word_byte (slice_index standard.encode_table i) ≡ true
symbol_word i =
    elim (cases_lt i (length standard.encode_table)) [
      | inl within ↦ AllPass-from_list_all is_word_byte standard.encode_table refl i 0 within
      | inr past ↦ ap is_word_byte (get_or_past standard.encode_table i 0 past)
    ]

symbols_word : (m : List ℕ) → is_word (encode_symbols standard.encode_table m) ≡ true
unfolding encode_symbols
symbols_word [] = refl
symbols_word (a ∷ []) = simp symbol_word
symbols_word (a ∷ b ∷ []) = simp symbol_word
symbols_word (a ∷ b ∷ c ∷ rest) = let later : is_word (encode_symbols standard.encode_table rest) ≡ true = symbols_word rest in simp (symbol_word, later)

padding_word : (n : ℕ) → is_word (replicate n 61) ≡ true
padding_word zero = refl
padding_word (suc n) = padding_word n

pub base64_word : (m : List ℕ) → is_word (encode_of standard m) ≡ true
base64_word m = words_append (encode_symbols standard.encode_table m) (replicate (padding_len (length m)) 61) (symbols_word m) (padding_word (padding_len (length m)))

-- the base64 of a blob isn't empty
pub base64_some : (k : Key) → (b : ℕ) × (rest : List ℕ) × (encode_of standard (key_text k) ≡ b ∷ rest)
unfolding string_text u32_text encode_symbols
base64_some k = (_, _, refl)
