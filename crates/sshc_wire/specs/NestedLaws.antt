-- What a string is whose length was written once its bytes were there.
use Rattle.std.proofs.Common.{◌≡◌, ℕ, ◌+◌, List, [], ◌∷◌, ◌++◌, length, take, drop, ap, sym, ◌∙◌, append_assoc, arith, length-append}
use Rattle.std.proofs.lemmas.List.{take_at, drop_at}
use Rattle.sshc_wire.specs.Wire.{string_text}

-- four bytes were added, and then the body
pub string_ended : (old begun written ended body : List ℕ) (at : ℕ) → begun ≡ old ++ 0 ∷ 0 ∷ 0 ∷ 0 ∷ [] → at ≡ length old → written ≡ begun ++ body
    → ended ≡ take at written ++ string_text (drop (at + 4) written) → ended ≡ old ++ string_text body
string_ended old begun written ended body at is_begun is_at is_written is_ended =
    let room : List ℕ = 0 ∷ 0 ∷ 0 ∷ 0 ∷ [] in
    let all : written ≡ (old ++ room) ++ body = is_written ∙ ap (λ (b : List ℕ). b ++ body) is_begun in
    let front : take at written ≡ old = ap (take at) (all ∙ append_assoc old room body) ∙ take_at old (room ++ body) at (sym is_at) in
    let rest : drop (at + 4) written ≡ body = ap (drop (at + 4)) all ∙ drop_at (old ++ room) body (at + 4) (omega (arith, is_at, length-append old room)) in
    is_ended ∙ ap (λ (f : List ℕ). f ++ string_text (drop (at + 4) written)) front ∙ ap (λ (b : List ℕ). old ++ string_text b) rest
