-- The index of the first occurrence of a byte, as a search returns it.
use Rattle.std.proofs.Common.{◌≡◌, ℕ, ◌<◌, Bool, true, false, cond, List, [], ◌∷◌, suc, length, get_or, Option, Some, None, refl, ap, sym, ◌∙◌, arith, nat_lt}
use Rattle.std.specs.Prelude.{position, ◌==◌, filter, not, ◌&&◌, ◌||◌, is_some}
use Rattle.std.specs.List.{position_or_len}
use Rattle.std.proofs.lemmas.List.Sums.{position_or_len_is}
use Rattle.std.proofs.lemmas.Bool.{lt-ltb, le-ltb, false_from_ne_true}
use Rattle.memchr.specs.Find.{IsFirstByte, is_byte, is_byte2}
use Rattle.sshc_key.specs.KeyText.{is_no_line_end}

-- the index of the first one
place_is : (p : ℕ → Bool) (text : List ℕ) (i : ℕ) → i < length text → position_or_len p text ≡ i → Some i ≡ position p text
place_is p text i within is =
    sym (ap (λ (n : ℕ). cond (nat_lt n (length text)) (Some n) None) is ∙ ap (λ (b : Bool). cond b (Some i) None) (lt-ltb i (length text) within))

pub first_place : (at : ℕ) (text : List ℕ) (r : Option ℕ) → IsFirstByte (is_byte at) text r → r ≡ position (λ b. b == at) text
first_place at text None nowhere =
    let is = position_or_len_is (is_byte at) text (length text) 0 (omega arith) (λ k lt. false_from_ne_true _ (nowhere k (omega arith) lt)) (λ lt. absurd (omega arith)) in
    sym (ap (λ (n : ℕ). cond (nat_lt n (length text)) (Some n) None) is ∙ ap (λ (b : Bool). cond b (Some (length text)) None) (le-ltb (length text) (length text) (omega arith)))
first_place at text (Some k) (before, here) =
    let within = before.high in
    place_is (is_byte at) text k within (position_or_len_is (is_byte at) text k 0 (omega arith) (λ j lt. false_from_ne_true _ (before.before j (omega arith) lt)) (λ lt. here))

-- ---- a text without line ends

keeps_all : (p : ℕ → Bool) (xs : List ℕ) → ((k : ℕ) → k < length xs → p (get_or xs k 0) ≡ true) → filter p xs ≡ xs
keeps_all p [] passes = refl
keeps_all p (x ∷ xs) passes =
    let rest : filter p xs ≡ xs = keeps_all p xs (λ k lt. passes (suc k) (omega arith)) in
    ap (λ (b : Bool). cond b (x ∷ filter p xs) (filter p xs)) (passes 0 (omega arith)) ∙ ap (λ (ys : List ℕ). x ∷ ys) rest

neither : (a b : Bool) → ((a || b) ≡ true → ⊥) → (not a && not b) ≡ true
neither true b h = absurd (h refl)
neither false true h = absurd (h refl)
neither false false h = refl

-- a search that finds no line end
pub no_line_ends : (text : List ℕ) (r : Option ℕ) → IsFirstByte (is_byte2 13 10) text r → is_some r ≡ false → filter is_no_line_end text ≡ text
no_line_ends text None nowhere isnt = keeps_all is_no_line_end text (λ k lt. neither _ _ (nowhere k (omega arith) lt))
no_line_ends text (Some k) found isnt = let e : true ≡ false = isnt in absurd (cc)
