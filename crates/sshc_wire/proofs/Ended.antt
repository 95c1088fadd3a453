-- A string whose length is written once its bytes are there.
use Rattle.std.proofs.Common.{◌≡◌, ℕ, ◌+◌, ◌-◌, ◌≤◌, List, [], ◌++◌, length, take, drop, refl, ap, ◌∙◌, arith, length-append}
use Rattle.std.proofs.lemmas.List.{append-nil, take_all, drop_all, drop-drop, length-drop, length-take-le}
use Rattle.sshc_wire.specs.Wire.{u32_text, string_text}

size_is : (n : ℕ) → length (u32_text n) ≡ 4
unfolding u32_text
size_is n = refl

-- what is behind both parts ends where the text did
as_long : (text front size rest : List ℕ) (at n : ℕ) → length text ≡ n → at + 4 ≤ n → front ≡ take at text → rest ≡ drop (at + 4) text
    → length size ≡ 4 → length (front ++ (size ++ rest)) ≡ n
as_long text front size rest at n long fits is_front is_rest four =
    let a : length front ≡ at = ap length is_front ∙ length-take-le at text (omega (arith, long, fits)) in
    let b : length rest ≡ length text - (at + 4) = ap length is_rest ∙ length-drop (at + 4) text in
    length-append front (size ++ rest) ∙ omega (arith, a, b, four, long, fits, length-append size rest)

pub ended : (text front size rest : List ℕ) (at n m : ℕ) → length text ≡ n → at + 4 ≤ n → front ≡ take at text → rest ≡ drop 4 (drop at text)
    → size ≡ u32_text m → m ≡ n - at - 4
    → take n (front ++ (size ++ rest) ++ drop (length (front ++ (size ++ rest))) text) ≡ take at text ++ string_text (drop (at + 4) text)
unfolding string_text
ended text front size rest at n m long fits is_front is_rest is_size counts =
    let behind : rest ≡ drop (at + 4) text = is_rest ∙ drop-drop 4 at text in
    let all : length (front ++ (size ++ rest)) ≡ n = as_long text front size rest at n long fits is_front behind (ap length is_size ∙ size_is m) in
    let nothing : drop (length (front ++ (size ++ rest))) text ≡ [] = drop_all (length (front ++ (size ++ rest))) text (omega (arith, all, long)) in
    let written : m ≡ length (drop (at + 4) text) = counts ∙ omega (arith, long, fits, length-drop (at + 4) text) in
    ap (λ (more : List ℕ). take n (front ++ (size ++ rest) ++ more)) nothing
    ∙ ap (take n) (append-nil (front ++ (size ++ rest)))
    ∙ take_all n (front ++ (size ++ rest)) (omega (arith, all))
    ∙ ap (λ (f : List ℕ). f ++ (size ++ rest)) is_front
    ∙ ap (λ (s : List ℕ). take at text ++ (s ++ rest)) (is_size ∙ ap u32_text written)
    ∙ ap (λ (r : List ℕ). take at text ++ (u32_text (length (drop (at + 4) text)) ++ r)) behind
