-- The words of a text, by its first blank.
use Rattle.std.proofs.Common.{◌≡◌, ℕ, zero, suc, ◌+◌, ◌-◌, Bool, true, false, cond, List, [], ◌∷◌, length, take, drop, Option, Some, None, refl, ap, sym, ◌∙◌, arith, nat_lt, length-drop}
use Rattle.std.specs.Prelude.{position, filter}
use Rattle.std.specs.List.{slice_split, position_or_len}
use Rattle.std.proofs.lemmas.List.Splits.{slice_split-cons_yes}
use Rattle.std.proofs.lemmas.List.Sums.{position_or_len_is}
use Rattle.std.proofs.lemmas.List.Quantifiers.{position-Some}
use Rattle.std.proofs.lemmas.Bool.{lt-ltb, le-ltb, false_from_ne_true}
use Rattle.memchr.specs.Find.{IsFirstByte, is_byte2}
use Rattle.std.proofs.lemmas.List.{nil_from_length, take_rest}
use Rattle.sshc_hosts.proofs.Splits.{split_first, split_whole}
use Rattle.sshc_hosts_openssh.specs.Lines.{is_blank, is_some_word, words}
use Rattle.sshc_hosts_openssh.specs.Cuts.{BeginsWord}

-- a search that finds the first blank, or none
pub first_blank_place : (text : List ℕ) (r : Option ℕ) → IsFirstByte (is_byte2 32 9) text r → r ≡ position is_blank text
first_blank_place text None nowhere =
    let is = position_or_len_is (is_byte2 32 9) text (length text) 0 (omega arith) (λ k lt. false_from_ne_true _ (nowhere k (omega arith) lt)) (λ lt. absurd (omega arith)) in
    sym (ap (λ (n : ℕ). cond (nat_lt n (length text)) (Some n) None) is ∙ ap (λ (b : Bool). cond b (Some (length text)) None) (le-ltb (length text) (length text) (omega arith)))
first_blank_place text (Some k) (before, here) =
    let within = before.high in
    let is : position_or_len (is_byte2 32 9) text ≡ k =
    position_or_len_is (is_byte2 32 9) text k 0 (omega arith) (λ j lt. false_from_ne_true _ (before.before j (omega arith) lt)) (λ lt. here) in
    sym (ap (λ (n : ℕ). cond (nat_lt n (length text)) (Some n) None) is ∙ ap (λ (b : Bool). cond b (Some k) None) (lt-ltb k (length text) within))

-- a blank at the beginning is passed over
pub words_behind : (b : ℕ) (rest : List ℕ) → is_blank b ≡ true → words (b ∷ rest) ≡ words rest
words_behind b rest is = ap (filter is_some_word) (slice_split-cons_yes is_blank b rest is)

-- a text that is one word
pub whole_word : (text : List ℕ) → BeginsWord text → position is_blank text ≡ None → words text ≡ text ∷ words (take (length text - length text) (drop (length text) text))
whole_word [] begins none = absurd begins
whole_word (b ∷ text) begins none =
    let empty : drop (length (b ∷ text)) (b ∷ text) ≡ [] = nil_from_length _ (let e = length-drop (length (b ∷ text)) (b ∷ text) in omega (arith, e)) in
    ap (filter is_some_word) (split_whole is_blank (b ∷ text) none)
    ∙ ap (λ rest. (b ∷ text) ∷ words rest) (sym (take_rest (b ∷ text) (length (b ∷ text)) ∙ empty))

is_word : (b i : ℕ) (text : List ℕ) → is_blank b ≡ false → position is_blank (b ∷ text) ≡ Some i → is_some_word (take i (b ∷ text)) ≡ true
is_word b zero text begins found =
    let (within, blank, before) = position-Some is_blank (b ∷ text) 0 0 found in
    let e : true ≡ false = sym blank ∙ begins in absurd (cc)
is_word b (suc i) text begins found = refl

kept_word : (front : List ℕ) (more : List (List ℕ)) → is_some_word front ≡ true → filter is_some_word (front ∷ more) ≡ front ∷ filter is_some_word more
kept_word front more some = ap (λ (b : Bool). cond b (front ∷ filter is_some_word more) (filter is_some_word more)) some

-- the parts of a text at the first element that passes
pub parts_are : (p : ℕ → Bool) (text : List ℕ) (i : ℕ) → Some i ≡ position p text
    → slice_split p text ≡ take i text ∷ slice_split p (take (length text - (i + 1)) (drop (i + 1) text))
parts_are p text i found = split_first p text i (sym found) ∙ ap (λ rest. take i text ∷ slice_split p rest) (sym (take_rest text (i + 1)))

-- a word that a blank follows
pub word_before : (text : List ℕ) (i : ℕ) → BeginsWord text → Some i ≡ position is_blank text
    → words text ≡ take i text ∷ words (take (length text - (i + 1)) (drop (i + 1) text))
word_before [] i begins found = absurd begins
word_before (b ∷ text) i begins found =
    ap (filter is_some_word) (parts_are is_blank (b ∷ text) i found)
    ∙ kept_word (take i (b ∷ text)) (slice_split is_blank (take (length (b ∷ text) - (i + 1)) (drop (i + 1) (b ∷ text)))) (is_word b i text begins (sym found))
