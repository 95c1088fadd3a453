-- A frame is read by its length and then its bytes.
use Rattle.std.proofs.Common.{◌≡◌, ◌≢◌, ℕ, ◌<◌, ◌≤◌, List, [], ◌++◌, length, Option, Some, None, Result, Ok, Err, true, refl, sym, ap, subst, ◌∙◌, arith, length-append, inl, inr}
use Rattle.sshc_wire.specs.Contents.{prepend}
use Rattle.sshc_wire.specs.ContentsLaws.{prepend-nothing, prepend-prepend}
use Rattle.sshc_wire.specs.Faults.{Rose}
use Rattle.sshc_wire.specs.Wire.{string_text, u32_text}
use Rattle.sshc_key.specs.AgentNumbers.{MAX_AGENT_FRAME_LEN}
use Rattle.sshc_wire.specs.declared.source.Failed.TheVariants as failures
use Rattle.sshc_proxy.specs.declared.broken.Broken.{Broken}
use Rattle.sshc_proxy.specs.declared.broken.Broken.TheVariants as broken
use Rattle.sshc_proxy.specs.Frames.{IsRead, IsReadFault, LengthIn, ReadsBody, ReadsFrame, ReadsLength, ReadsPiece, Stream}

four : (n : ℕ) → length (u32_text n) ≡ 4
unfolding u32_text
four n = refl

-- a length and so many bytes are a frame
whole_is : (n : ℕ) (frame : List ℕ) → length frame ≡ n → u32_text n ++ frame ≡ string_text frame
unfolding string_text
whole_is n frame len = ap (λ (k : ℕ). u32_text k ++ frame) (sym len)

-- ---- bytes after bytes

pub nothing_read : (s : Stream) → IsRead [] s s
nothing_read s = record { left = sym (prepend-nothing s.left); held = refl; read_faults = refl; write_faults = refl }

both_read : (a b : List ℕ) (s m t : Stream) → IsRead a s m → IsRead b m t → IsRead (a ++ b) s t
both_read a b s m t first second = record {
  left = first.left ∙ ap (prepend a) second.left ∙ prepend-prepend a b t.left;
  held = second.held ∙ first.held;
  read_faults = second.read_faults ∙ first.read_faults;
  write_faults = second.write_faults ∙ first.write_faults;
}

read_and_fault : (a b : List ℕ) (s m t : Stream) → IsRead a s m → IsReadFault b m t → IsReadFault (a ++ b) s t
read_and_fault a b s m t first second = record {
  left = first.left ∙ ap (prepend a) second.left ∙ prepend-prepend a b t.left;
  held = second.held ∙ first.held;
  read_faults = subst (λ (n : ℕ). Rose n t.read_faults) first.read_faults second.read_faults;
  write_faults = second.write_faults ∙ first.write_faults;
}

-- ---- the length

-- a length that a fault cuts, or for which memory runs out
pub fault_in_length : (bytes : List ℕ) (s t : Stream) → ReadsPiece 4 bytes s t (Err failures.Fault) → ReadsLength s t (Err broken.Fault)
fault_in_length bytes s t (given, short, read) = (given, inl short, read)

pub no_memory_in_length : (bytes : List ℕ) (s t : Stream) → ReadsPiece 4 bytes s t (Err failures.NoMemory) → ReadsLength s t (Err broken.NoMemory)
no_memory_in_length bytes s t (given, short, read) = (given, inl short, read)

pub length_read : (bytes : List ℕ) (s t : Stream) (r : Result (Option ℕ) Broken) → ReadsPiece 4 bytes s t (Ok tt) → LengthIn bytes r → ReadsLength s t r
length_read bytes s t (Ok (Some n)) (few, read, end) (small, is) = (small, subst (λ (b : List ℕ). IsRead b s t) is read)
length_read bytes s t (Ok None) (few, read, end) is = (subst (λ (b : List ℕ). IsRead b s t) is read, end (subst (λ (b : List ℕ). length b < 4) (sym is) (omega arith)))
length_read bytes s t (Err broken.TooLong) (few, read, end) (n, long, is) = (n, long, subst (λ (b : List ℕ). IsRead b s t) is read)
length_read bytes s t (Err broken.UnexpectedEnd) (few, read, end) (short, some) = (bytes, inl short, some, read, end short)
length_read bytes s t (Err broken.Fault) piece is = absurd is
length_read bytes s t (Err broken.NoMemory) piece is = absurd is

-- ---- the bytes

pub body_whole : (n : ℕ) (frame : List ℕ) (s m t : Stream) → n ≤ MAX_AGENT_FRAME_LEN → IsRead (u32_text n) s m → ReadsBody n frame m t (Ok tt) → ReadsFrame frame s t (Ok true)
body_whole n frame s m t small number (len, read) =
    (omega (arith, len, small), subst (λ (b : List ℕ). IsRead b s t) (whole_is n frame len) (both_read (u32_text n) frame s m t number read))

some_bytes : (n : ℕ) (part : List ℕ) → u32_text n ++ part ≢ []
some_bytes n part none = absurd (omega (arith, four n, length-append (u32_text n) part, ap length none))

pub body_cut : (n : ℕ) (e : Broken) (frame : List ℕ) (s m t : Stream) → n ≤ MAX_AGENT_FRAME_LEN → IsRead (u32_text n) s m → ReadsBody n frame m t (Err e) → ReadsFrame frame s t (Err e)
body_cut n broken.TooLong frame s m t small number cut = absurd cut
body_cut n broken.UnexpectedEnd frame s m t small number (part, short, read, end) =
    (u32_text n ++ part, inr (n, part, refl, small, short), some_bytes n part, both_read (u32_text n) part s m t number read, end)
body_cut n broken.Fault frame s m t small number (part, short, read) =
    (u32_text n ++ part, inr (n, part, refl, small, short), read_and_fault (u32_text n) part s m t number read)
body_cut n broken.NoMemory frame s m t small number (part, short, read) =
    (u32_text n ++ part, inr (n, part, refl, small, short), both_read (u32_text n) part s m t number read)
