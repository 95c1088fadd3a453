-- Base64 has only its symbols, so neither a space nor a line feed.
use Rattle.std.proofs.Common.{◌≡◌, ℕ, zero, suc, Bool, true, false, List, [], ◌∷◌, length, get_or, replicate, refl, ap, ◌∙◌, inl, inr}
use Rattle.std.specs.List.{list_all}
use Rattle.std.specs.Prelude.{◌==◌, not, slice_index}
use Rattle.std.proofs.lemmas.Bool.{cases_lt, not-true}
use Rattle.std.proofs.lemmas.List.{get_or_past}
use Rattle.std.proofs.lemmas.List.Sums.{AllPass-from_list_all}
use Rattle.base64.specs.Rfc4648.{encode_symbols, padding_len}
use Rattle.base64.specs.GeneralPurpose.{encode_of}
use Rattle.base64.specs.Engines.{standard}
use Rattle.sshc_hosts.specs.Learning.{Lacks}
use Rattle.sshc_hosts.proofs.LearningLemmas.{Lacks-nothing, Lacks-append, Lacks-cons}

-- every byte differs from this one
abbrev pub lacks : ℕ → List ℕ → Bool
lacks byte xs = list_all (λ b. not (b == byte)) xs

-- a text lacks a byte if no byte passes the test
pub Lacks-from_test : (byte : ℕ) (xs : List ℕ) → lacks byte xs ≡ true → Lacks xs byte
Lacks-from_test byte xs all k d within = not-true (get_or xs k d == byte) (AllPass-from_list_all (λ b. not (b == byte)) xs all k d within)

apart : (b byte : ℕ) → (b == byte) ≡ false → not (b == byte) ≡ true
apart b byte e = ap not e

-- a byte that a table lacks, and that isn't 0, is never read from it
read_lacks : (table : List ℕ) (byte i : ℕ) → (0 == byte) ≡ false → Lacks table byte → not (slice_index table i == byte) ≡ true
read_lacks table byte i some none =
    elim (cases_lt i (length table)) [
      | inl within ↦ apart (slice_index table i) byte (none i 0 within)
      | inr past ↦ apart (slice_index table i) byte (ap (λ b. b == byte) (get_or_past table i 0 past) ∙ some)
    ]

-- each byte of the text is read from the table
symbols_lack : (table : List ℕ) (byte : ℕ) → ((i : ℕ) → not (slice_index table i == byte) ≡ true) → (m : List ℕ) → lacks byte (encode_symbols table m) ≡ true
unfolding encode_symbols
symbols_lack table byte each [] = refl
symbols_lack table byte each (a ∷ []) = simp each
symbols_lack table byte each (a ∷ b ∷ []) = simp each
symbols_lack table byte each (a ∷ b ∷ c ∷ rest) = let later : lacks byte (encode_symbols table rest) ≡ true = symbols_lack table byte each rest in simp (each, later)

replicate_lacks : (n b byte : ℕ) → (b == byte) ≡ false → Lacks (replicate n b) byte
replicate_lacks zero b byte apart = Lacks-nothing byte
replicate_lacks (suc n) b byte apart = Lacks-cons b (replicate n b) byte apart (replicate_lacks n b byte apart)

pub base64_lacks : (m : List ℕ) (byte : ℕ) → (0 == byte) ≡ false → (61 == byte) ≡ false → Lacks standard.encode_table byte → Lacks (encode_of standard m) byte
base64_lacks m byte some no_pad none =
    Lacks-append (encode_symbols standard.encode_table m) (replicate (padding_len (length m)) 61) byte
    (Lacks-from_test byte (encode_symbols standard.encode_table m) (symbols_lack standard.encode_table byte (λ i. read_lacks standard.encode_table byte i some none) m)) (replicate_lacks (padding_len (length m)) 61 byte no_pad)

pub base64_no_space : (m : List ℕ) → Lacks (encode_of standard m) 32
base64_no_space m = base64_lacks m 32 refl refl (Lacks-from_test 32 standard.encode_table refl)

pub base64_no_line_feed : (m : List ℕ) → Lacks (encode_of standard m) 10
base64_no_line_feed m = base64_lacks m 10 refl refl (Lacks-from_test 10 standard.encode_table refl)
