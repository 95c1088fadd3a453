-- What was written in base64 is read again: it has no line ends, so all of it is decoded.
use Rattle.std.proofs.Common.{◌≡◌, ◌≤◌, ℕ, zero, suc, true, List, [], ◌∷◌, ◌++◌, ◌↔◌, Option, Some, None, Result, Ok, Err, length, replicate, append-nil, refl, sym, ap, subst, ◌∙◌, inl, inr}
use Rattle.std.specs.Prelude.{filter, slice_index, IfOk}
use Rattle.sshc_key.specs.declared.error.Error.{Error}
use Rattle.std.proofs.lemmas.Bool.{cases_lt}
use Rattle.std.proofs.lemmas.List.{get_or_past}
use Rattle.std.proofs.lemmas.List.Sums.{AllPass-from_list_all}
use Rattle.base64.specs.Rfc4648.{encode_symbols, padding_len}
use Rattle.base64.specs.GeneralPurpose.{encode_of, decode_of}
use Rattle.base64.specs.Engines.{standard}
use Rattle.sshc_key.specs.KeyGrammar.{Key, key_text, Fits}
use Rattle.sshc_key.specs.KeyText.{IsKeyText, is_no_line_end, decoded, decoded_key}
use Rattle.sshc_key.specs.Nesting.{IsReadable, Parses, blob_key, key_or_fault, markers}
use Rattle.sshc_key.specs.KeyLaws.Blobs.{front_found}

-- no line end is read from the alphabet
symbol_stays : (i : ℕ) → is_no_line_end (slice_index standard.encode_table i) ≡ true
symbol_stays i =
    elim (cases_lt i (length standard.encode_table)) [
      | inl within ↦ AllPass-from_list_all is_no_line_end standard.encode_table refl i 0 within
      | inr past ↦ ap is_no_line_end (get_or_past standard.encode_table i 0 past)
    ]

all_stay : (m : List ℕ) (end : List ℕ) → filter is_no_line_end end ≡ end → filter is_no_line_end (encode_symbols standard.encode_table m ++ end) ≡ encode_symbols standard.encode_table m ++ end
unfolding encode_symbols
all_stay [] end kept = kept
all_stay (a ∷ []) end kept = simp (symbol_stays, kept)
all_stay (a ∷ b ∷ []) end kept = simp (symbol_stays, kept)
all_stay (a ∷ b ∷ c ∷ rest) end kept = let later = all_stay rest end kept in simp (symbol_stays, later)

padding_stays : (n : ℕ) → filter is_no_line_end (replicate n 61) ≡ replicate n 61
padding_stays zero = refl
padding_stays (suc n) = ap (λ (t : List ℕ). 61 ∷ t) (padding_stays n)

-- the base64 of a blob has no line ends
pub base64_stays : (m : List ℕ) → filter is_no_line_end (encode_of standard m) ≡ encode_of standard m
base64_stays m = all_stay m (replicate (padding_len (length m)) 61) (padding_stays (padding_len (length m)))

-- the key whose blob's base64 the text is
pub base64_is_read : (key : Key) (blob text : List ℕ) → blob ≡ key_text key → text ≡ encode_of standard blob → decode_of standard text ≡ Ok blob
    → ((rest : List ℕ) → Fits key → markers (blob ++ rest) ≤ 8 → blob_key (blob ++ rest) ≡ Some key) → Fits key → markers blob ≤ 8 → decoded_key text ≡ Ok key
unfolding decoded_key
base64_is_read key blob text same written back again fits few =
    let whole : blob ++ [] ≡ blob = append-nil blob in
    let kept : filter is_no_line_end text ≡ text = ap (filter is_no_line_end) written ∙ base64_stays blob ∙ sym written in
    let found : blob_key blob ≡ Some key = subst (λ (b : List ℕ). blob_key b ≡ Some key) whole (again [] fits (subst (λ (b : List ℕ). markers b ≤ 8) (sym whole) few)) in
    ap (λ (t : List ℕ). decoded (decode_of standard t)) kept ∙ ap decoded back ∙ ap key_or_fault found

-- a key whose base64 the text is, is read from it
pub key_text_read : (text : List ℕ) (key : Key) → IsKeyText text key → decoded_key text ≡ Ok key
unfolding decoded_key
key_text_read text key is =
    ap decoded is.base64 ∙ ap key_or_fault (front_found is.blob key is.readable)

-- the key that was found is in the blob of which the text is the base64
pub key_text_found : (text blob : List ℕ) (key : Key) → decode_of standard (filter is_no_line_end text) ≡ Ok blob → IsReadable blob key → IsKeyText text key
key_text_found text blob key decodes stands = record { blob = blob; base64 = decodes; readable = stands }

-- the key that a call parsed from the blob
pub parsed_text : (text blob : List ℕ) (r : Result (Key × List ℕ) Error) → decode_of standard (filter is_no_line_end text) ≡ Ok blob → ((k : Key) → (blob_key blob ≡ Some k) ↔ IsReadable blob k)
    → Parses r (key_or_fault (blob_key blob)) → IfOk r (λ k. IsKeyText text k.0)
parsed_text text blob (Err e) decodes grammar parsed = tt
parsed_text text blob (Ok k) decodes grammar parsed = key_text_found text blob k.0 decodes ((grammar k.0).0 (found_key (blob_key blob) k.0 parsed.0))
  where
    found_key : (o : Option Key) (key : Key) → key_or_fault o ≡ Ok key → o ≡ Some key
    found_key None key e = absurd cc
    found_key (Some x) key e = let is : x ≡ key = cc in ap (λ (y : Key). Some y) is
