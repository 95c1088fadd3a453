-- Methods without doubles: a method that isn't there is added at the end.
use Rattle.std.proofs.Common.{◌≡◌, ◌++◌, Bool, true, false, List, [], ◌∷◌, refl, sym}
use Rattle.std.proofs.lemmas.Slice.Eq.{bytes_eq-Decides}
use Rattle.sshc_wire.specs.CasesLaws.{both_false, neither}
use Rattle.sshc_wire.specs.declared.methods.MethodKind.{MethodKind}
use Rattle.sshc_wire.specs.Methods.{HasNoDoubles, has_method, is_method, method_name}

flips_at : (a b : Bool) → (b ≡ true → a ≡ true) → a ≡ false → b ≡ false
flips_at a true h e = absurd (let t = h refl in cc)
flips_at a false h e = refl

other_way : (a b : MethodKind) → is_method a b ≡ false → is_method b a ≡ false
other_way a b e =
    let there = bytes_eq-Decides (method_name b) (method_name a) in
    let back = bytes_eq-Decides (method_name a) (method_name b) in
    flips_at (is_method a b) (is_method b a) (λ t. back.1 (sym (there.0 t))) e

also_apart : (ms : List MethodKind) (x m : MethodKind) → has_method ms x ≡ false → is_method x m ≡ false → has_method (ms ++ m ∷ []) x ≡ false
unfolding has_method
also_apart [] x m h e = both_false (is_method m x) false (other_way x m e) refl
also_apart (y ∷ ms) x m h e =
    let both = neither (is_method y x) (has_method ms x) h in
    both_false (is_method y x) (has_method (ms ++ m ∷ []) x) both.0 (also_apart ms x m both.1 e)

pub added_apart : (ms : List MethodKind) (m : MethodKind) → has_method ms m ≡ false → HasNoDoubles ms → HasNoDoubles (ms ++ m ∷ [])
unfolding has_method
added_apart [] m e h = (refl, tt)
added_apart (x ∷ ms) m e h =
    let both = neither (is_method x m) (has_method ms m) e in
    (also_apart ms x m h.0 both.0, added_apart ms m both.1 h.1)
