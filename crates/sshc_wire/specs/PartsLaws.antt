-- Numbers, strings and texts are formats (RFC 4251, section 5).
use Rattle.std.proofs.Common.{◌≡◌, ℕ, ◌+◌, ◌^◌, ◌<◌, ◌≤◌, Bool, true, false, cond, ltb, List, [], ◌∷◌, ◌++◌, length, take, drop, Ok, Err, refl, sym, ap, subst, ◌∙◌, append_assoc, arith, inl, inr}
use Rattle.std.specs.Int.{Width, w32, w64, byte_len, from_be_bytes, to_be_bytes}
use Rattle.std.specs.Str.{is_utf8}
use Rattle.std.proofs.lemmas.Bool.{cases_lt, ltb-false, le-ltb}
use Rattle.std.proofs.lemmas.List.{take_at, drop_at, take-append-drop, length-append, length-take, length-drop, get_or-take, get_or_past}
use Rattle.std.proofs.lemmas.Nat.{be_bytes_4, be_bytes_8, from_be_bytes-to_be_bytes_4, from_be_bytes-to_be_bytes_8}
use Rattle.sshc_wire.specs.declared.error.WireError.{WireError}
use Rattle.sshc_wire.specs.declared.error.WireError.TheVariants.{Short, NotText}
use Rattle.sshc_wire.specs.Wire.{IsBytes, IsShort, string_text, u32_text, u64_text}
use Rattle.sshc_wire.specs.Reads.{byte_at, number_at, string_at, text_at}
use Rattle.sshc_wire.specs.Format.{IsFormat}
use Rattle.sshc_wire.specs.FormatLaws.{bind_ok, ok_is, tested}

take_are_bytes : (n : ℕ) (bytes : List ℕ) → IsBytes bytes → IsBytes (take n bytes)
take_are_bytes n bytes h i =
    elim (cases_lt i n) [
      | inl lt ↦ rw (get_or-take n bytes i 0 lt) (h i)
      | inr le ↦ rw (get_or_past (take n bytes) i 0 (omega (arith, length-take n bytes))) (omega arith)
    ]

guard_ok : {A E : Type 0} (b : Bool) (d : E) (x y : A) → cond b (Err d) (Ok x) ≡ Ok y → (b ≡ false) × (x ≡ y)
guard_ok true d x y e = absurd cc
guard_ok false d x y e = (refl, cc)

pub record IsWide (w : Width) (limit : ℕ) : Type 0 where
  pub len : (n : ℕ) → length (to_be_bytes w n) ≡ byte_len w
  pub back : (bytes : List ℕ) → length bytes ≡ byte_len w → IsBytes bytes → to_be_bytes w (from_be_bytes w bytes) ≡ bytes
  pub over : (n : ℕ) → n < limit → from_be_bytes w (to_be_bytes w n) ≡ n
  pub below : (bytes : List ℕ) → IsBytes bytes → from_be_bytes w bytes < limit

wide32 : IsWide w32 (2 ^ 32)
wide32 = record {
  len = λ n. refl;
  back = λ bytes len fits. be_bytes_4 bytes _ len fits refl;
  over = λ n lt. from_be_bytes-to_be_bytes_4 n lt;
  below = λ bytes fits. omega (arith, fits 0, fits 1, fits 2, fits 3);
}

wide64 : IsWide w64 (2 ^ 64)
wide64 = record {
  len = λ n. refl;
  back = λ bytes len fits. be_bytes_8 bytes _ len fits refl;
  over = λ n lt. from_be_bytes-to_be_bytes_8 n lt;
  below = λ bytes fits. omega (arith, fits 0, fits 1, fits 2, fits 3, fits 4, fits 5, fits 6, fits 7);
}

number : (w : Width) (limit : ℕ) → IsWide w limit → IsFormat (λ n. to_be_bytes w n) (λ n. n < limit) (number_at w)
unfolding number_at
number w limit wide = record {
  takes = λ bytes n rest fits e.
      let g = guard_ok (ltb (length bytes) (byte_len w)) Short (from_be_bytes w (take (byte_len w) bytes), drop (byte_len w) bytes) (n, rest) e in
      let long : byte_len w ≤ length bytes = ltb-false _ _ g.0 in
      let n-is : from_be_bytes w (take (byte_len w) bytes) ≡ n = ap (λ (p : ℕ × List ℕ). p.0) g.1 in
      let rest-is : drop (byte_len w) bytes ≡ rest = ap (λ (p : ℕ × List ℕ). p.1) g.1 in
      let front : to_be_bytes w n ≡ take (byte_len w) bytes = rw (← n-is) (wide.back (take (byte_len w) bytes) (omega (arith, length-take (byte_len w) bytes)) (take_are_bytes (byte_len w) bytes fits)) in
      (rw (front, ← rest-is) (sym (take-append-drop (byte_len w) bytes)), rw (← n-is) (wide.below (take (byte_len w) bytes) (take_are_bytes (byte_len w) bytes fits)));
  again = λ n rest lt.
      let len = wide.len n in
      let long : ltb (length (to_be_bytes w n ++ rest)) (byte_len w) ≡ false = le-ltb _ _ (omega (arith, length-append (to_be_bytes w n) rest)) in
      rw (long, take_at (to_be_bytes w n) rest (byte_len w) len, drop_at (to_be_bytes w n) rest (byte_len w) len, wide.over n lt) refl;
}

pub number32 : IsFormat u32_text (λ n. n < 2 ^ 32) (number_at w32)
unfolding u32_text
number32 = number w32 (2 ^ 32) wide32

pub number64 : IsFormat u64_text (λ n. n < 2 ^ 64) (number_at w64)
unfolding u64_text
number64 = number w64 (2 ^ 64) wide64

string_takes : (bytes text rest : List ℕ) → IsBytes bytes → string_at bytes ≡ Ok (text, rest) → (bytes ≡ string_text text ++ rest) × IsShort text
unfolding string_at string_text
string_takes bytes text rest fits e =
    let b = bind_ok (number_at w32 bytes) (λ n. cond (ltb (length n.1) n.0) (Err Short) (Ok (take n.0 n.1, drop n.0 n.1))) (text, rest) e in
    let n = b.0 in
    let t = number32.takes bytes n.0 n.1 fits b.1 in
    let g = guard_ok (ltb (length n.1) n.0) Short (take n.0 n.1, drop n.0 n.1) (text, rest) b.2 in
    let long : n.0 ≤ length n.1 = ltb-false _ _ g.0 in
    let len : length (take n.0 n.1) ≡ n.0 = omega (arith, length-take n.0 n.1) in
    let parts : bytes ≡ u32_text n.0 ++ (take n.0 n.1 ++ drop n.0 n.1) = t.0 ∙ ap (λ (r : List ℕ). u32_text n.0 ++ r) (sym (take-append-drop n.0 n.1)) in
    let whole : bytes ≡ string_text (take n.0 n.1) ++ drop n.0 n.1 = parts ∙ sym (append_assoc (u32_text n.0) (take n.0 n.1) (drop n.0 n.1)) ∙ ap (λ (k : ℕ). (u32_text k ++ take n.0 n.1) ++ drop n.0 n.1) (sym len) in
    subst (λ (p : List ℕ × List ℕ). (bytes ≡ string_text p.0 ++ p.1) × IsShort p.0) g.1 (whole, omega (arith, t.1))

string_again : (text rest : List ℕ) → IsShort text → string_at (string_text text ++ rest) ≡ Ok (text, rest)
unfolding string_at string_text
string_again text rest lt =
    let long : ltb (length (text ++ rest)) (length text) ≡ false = le-ltb _ _ (omega (arith, length-append text rest)) in
    rw (append_assoc (u32_text (length text)) text rest, number32.again (length text) (text ++ rest) lt, long, take_at text rest (length text) refl, drop_at text rest (length text) refl) refl

pub strings : IsFormat string_text IsShort string_at
strings = record { takes = string_takes; again = string_again }

pub texts : IsFormat string_text (λ t. IsShort t × (is_utf8 t ≡ true)) text_at
unfolding text_at
texts = tested is_utf8 NotText strings

pub a_byte : IsFormat (λ b. b ∷ []) (λ b. b < 256) byte_at
unfolding byte_at
a_byte = record { takes = byte_takes; again = λ b rest h. refl }
  where
    byte_takes : (bytes : List ℕ) (b : ℕ) (rest : List ℕ) → IsBytes bytes → byte_at bytes ≡ Ok (b, rest) → (bytes ≡ (b ∷ []) ++ rest) × (b < 256)
    byte_takes [] b rest fits e = absurd cc
    byte_takes (c ∷ bytes) b rest fits e =
        let is = ok_is {E = WireError} (c, bytes) (b, rest) e in
        subst (λ (p : ℕ × List ℕ). (c ∷ bytes ≡ (p.0 ∷ []) ++ p.1) × (p.0 < 256)) is (refl, fits 0)

-- a string takes its length's bytes
pub string_takes_bytes : (bytes text rest : List ℕ) → string_at bytes ≡ Ok (text, rest) → length rest < length bytes
unfolding string_at number_at
string_takes_bytes bytes text rest e =
    let b = bind_ok (number_at w32 bytes) (λ n. cond (ltb (length n.1) n.0) (Err Short) (Ok (take n.0 n.1, drop n.0 n.1))) (text, rest) e in
    let n = b.0 in
    let h = guard_ok (ltb (length bytes) 4) Short (from_be_bytes w32 (take 4 bytes), drop 4 bytes) n b.1 in
    let long : 4 ≤ length bytes = ltb-false _ _ h.0 in
    let behind : length n.1 + 4 ≡ length bytes = rw (← ap (λ (p : ℕ × List ℕ). p.1) h.1) (omega (arith, length-drop 4 bytes)) in
    let g = guard_ok (ltb (length n.1) n.0) Short (take n.0 n.1, drop n.0 n.1) (text, rest) b.2 in
    let last : length rest ≤ length n.1 = subst (λ (r : List ℕ). length r ≤ length n.1) (ap (λ (p : List ℕ × List ℕ). p.1) g.1) (omega (arith, length-drop n.0 n.1)) in
    omega arith
