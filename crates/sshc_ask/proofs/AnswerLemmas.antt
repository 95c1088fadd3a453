-- An answer is read by its length and then its bytes.
use Rattle.std.proofs.Common.{◌≡◌, ℕ, ◌+◌, ◌≤◌, List, ◌++◌, length, Option, Result, Ok, Err, refl, sym, ap, subst, ◌∙◌, arith, length-append, inr}
use Rattle.std.specs.Prelude.{Vec}
use Rattle.std.specs.declared.alloc.Global.{Global}
use Rattle.sshc_wire.specs.Contents.{prepend}
use Rattle.sshc_wire.specs.ContentsLaws.{prepend-prepend}
use Rattle.sshc_wire.specs.Faults.{Rose}
use Rattle.sshc_wire.specs.Wire.{string_text, u32_text}
use Rattle.sshc_key.specs.declared.error.Error.{Error}
use Rattle.sshc_key.specs.declared.error.Error.TheVariants.{NoMemory, ReadFault, UnexpectedEnd}
use Rattle.sshc_key.specs.AgentNumbers.{MAX_AGENT_FRAME_LEN}
use Rattle.sshc_ask.specs.SourceState.{SourceState, TakesWhole, StopsBy, ReadsPart, ReadsAnswer}

-- bytes after bytes
both_left : (a b : List ℕ) (s m t : Option (List ℕ)) → s ≡ prepend a m → m ≡ prepend b t → s ≡ prepend (a ++ b) t
both_left a b s m t first second = first ∙ ap (prepend a) second ∙ prepend-prepend a b t

pub four : (n : ℕ) → length (u32_text n) ≡ 4
unfolding u32_text
four n = refl

whole_is : (n : ℕ) (bytes : List ℕ) → length bytes ≡ n → u32_text n ++ bytes ≡ string_text bytes
unfolding string_text
whole_is n bytes len = ap (λ (k : ℕ). u32_text k ++ bytes) (sym len)

-- a reading that stopped has the same cause seen from an earlier state
stops_from : (e : Error) (s m t : SourceState) → m.faults ≡ s.faults → StopsBy e m t → StopsBy e s t
stops_from ReadFault s m t same stops = subst (λ (f : ℕ). Rose f t.faults) same stops
stops_from UnexpectedEnd s m t same stops = (stops.0 ∙ same, stops.1)
stops_from NoMemory s m t same stops = stops ∙ same
stops_from e s m t same stops = absurd stops

-- a length within the limit and so many bytes are an answer; bytes that are missing are missing of it
pub part_read : (n : ℕ) (s m t : SourceState) (r : Result (Vec ℕ Global) Error) → TakesWhole (u32_text n) s m → n ≤ MAX_AGENT_FRAME_LEN → ReadsPart n m t r → ReadsAnswer s t r
part_read n s m t (Ok v) number small part =
    let whole = whole_is n v.items part.0 in
    let size : length (string_text v.items) ≡ 4 + length v.items = ap length (sym whole) ∙ length-append (u32_text n) v.items ∙ ap (λ (k : ℕ). k + length v.items) (four n) in (
      omega (arith, small, part.0),
      record {
        left = subst (λ (b : List ℕ). s.left ≡ prepend b t.left) whole (both_left (u32_text n) v.items s.left m.left t.left number.left part.1.left);
        reads = omega (arith, size, four n, number.reads, part.1.reads);
        faults = part.1.faults ∙ number.faults;
      },
    )
part_read n s m t (Err e) number small (given, short, takes, stops) =
    inr (
      u32_text n ++ given,
      inr (n, given, refl, small, short),
      record {
        left = both_left (u32_text n) given s.left m.left t.left number.left takes.left;
        reads = omega (arith, length-append (u32_text n) given, four n, number.reads, takes.reads);
      },
      stops_from e s m t number.faults stops,
    )
