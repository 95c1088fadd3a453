-- The next number of a channel.
use Rattle.std.proofs.Common.{true, sym, ◌≡◌, ℕ, suc, ◌+◌, ◌-◌, ◌<◌, List, length, Option, Some, None, ap, ◌∙◌, arith, zero, refl, is_some, ◌%◌, ◌^◌}
use Rattle.std.proofs.Math.Nat.{mod-add-mod}
use Rattle.sshc_mux.specs.ChannelState.{ChannelState, TableState, channel_of}
use Rattle.sshc_mux.specs.Places.{Slots, present, IsPlace}
use Rattle.sshc_mux.specs.ChannelTable.Opens.{above, free_or, free_from, next_number, IsNext}

-- the number is free
pub free_here : (tries n : ℕ) (cs : List ChannelState) → channel_of n cs ≡ None → free_from (suc tries) n cs ≡ Some n
free_here tries n cs none = ap (λ (o : Option ChannelState). free_or o n (free_from tries (above n) cs)) none

-- the number is taken, and the next is tried
pub free_later : (tries n : ℕ) (cs : List ChannelState) (c : ChannelState) → channel_of n cs ≡ Some c → free_from (suc tries) n cs ≡ free_from tries (above n) cs
free_later tries n cs c found = ap (λ (o : Option ChannelState). free_or o n (free_from tries (above n) cs)) found

pub next_found : (last size tries n : ℕ) (cs : List ChannelState) → size ≡ length cs → free_from (size + 1) (above last) cs ≡ free_from (suc tries) n cs → channel_of n cs ≡ None → next_number (record { channels = cs; last = last }) ≡ Some n
unfolding next_number
next_found last size tries n cs sized so_far none = ap (λ (k : ℕ). free_from (k + 1) (above last) cs) (sym sized) ∙ so_far ∙ free_here tries n cs none

pub next_tried : (first : Option ℕ) (size tried n at : ℕ) (slots : Slots) → size ≡ length (present slots) → tried < size → first ≡ free_from (suc (size - tried)) n (present slots) → IsPlace n slots at →
    first ≡ free_from (suc (size - (tried + 1))) (above n) (present slots)
next_tried first size tried n at slots sized within so_far place =
    let fewer : size - tried ≡ suc (size - (tried + 1)) = omega arith in
    so_far ∙ free_later (size - tried) n (present slots) place.channel place.found ∙ ap (λ (k : ℕ). free_from k (above n) (present slots)) fewer

pub next_full : (last size tried n at : ℕ) (slots : Slots) → size ≡ length (present slots) → tried ≡ size → free_from (size + 1) (above last) (present slots) ≡ free_from (suc (size - tried)) n (present slots) → IsPlace n slots at →
    next_number (record { channels = present slots; last = last }) ≡ None
unfolding next_number
next_full last size tried n at slots sized done so_far place =
    let last_try : size - tried ≡ 0 = omega arith in
    ap (λ (k : ℕ). free_from (k + 1) (above last) (present slots)) (sym sized) ∙ so_far ∙ ap (λ (k : ℕ). free_from (suc k) n (present slots)) last_try ∙ free_later 0 n (present slots) place.channel place.found

-- the first free number, counting upward

record First (from n : ℕ) (cs : List ChannelState) : Type 0 where
  steps : ℕ
  counted : n ≡ (from + steps) % 2 ^ 32
  free : channel_of n cs ≡ None
  taken : (k : ℕ) → k < steps → is_some (channel_of ((from + k) % 2 ^ 32) cs) ≡ true

taken_too : (from steps : ℕ) (cs : List ChannelState) → is_some (channel_of (from % 2 ^ 32) cs) ≡ true → ((k : ℕ) → k < steps → is_some (channel_of ((from + 1 + k) % 2 ^ 32) cs) ≡ true) →
    (k : ℕ) → k < steps + 1 → is_some (channel_of ((from + k) % 2 ^ 32) cs) ≡ true
taken_too from steps cs first others zero h =
    let same : from + 0 ≡ from = omega arith in ap (λ (a : ℕ). is_some (channel_of (a % 2 ^ 32) cs)) same ∙ first
taken_too from steps cs first others (suc k) h =
    let same : from + suc k ≡ from + 1 + k = omega arith in ap (λ (a : ℕ). is_some (channel_of (a % 2 ^ 32) cs)) same ∙ others k (omega arith)

first_by : (o : Option ChannelState) (from at n : ℕ) (other : Option ℕ) (cs : List ChannelState) → at ≡ from % 2 ^ 32 → channel_of at cs ≡ o → (other ≡ Some n → First (from + 1) n cs) → free_or o at other ≡ Some n → First from n cs
first_by None from at n other cs at_is found later is =
    let same : at ≡ n = cc in
    let zero_more : from ≡ from + 0 = omega arith in
    record {
      steps = 0;
      counted = sym same ∙ at_is ∙ ap (λ (a : ℕ). a % 2 ^ 32) zero_more;
      free = ap (λ (k : ℕ). channel_of k cs) (sym same) ∙ found;
      taken = λ k h. absurd (omega (arith, h));
    }
first_by (Some c) from at n other cs at_is found later is =
    let rest : First (from + 1) n cs = later is in
    let one_more : from + 1 + rest.steps ≡ from + (rest.steps + 1) = omega arith in
    record {
      steps = rest.steps + 1;
      counted = rest.counted ∙ ap (λ (a : ℕ). a % 2 ^ 32) one_more;
      free = rest.free;
      taken = taken_too from rest.steps cs (ap (λ (k : ℕ). is_some (channel_of k cs)) (sym at_is) ∙ ap (λ (o : Option ChannelState). is_some o) found) rest.taken;
    }

first_from : (tries from at n : ℕ) (cs : List ChannelState) → at ≡ from % 2 ^ 32 → free_from tries at cs ≡ Some n → First from n cs
first_from zero from at n cs at_is found = absurd (cc)
first_from (suc tries) from at n cs at_is found =
    first_by (channel_of at cs) from at n (free_from tries (above at) cs) cs at_is refl
    (λ h. first_from tries (from + 1) (above at) n cs (ap (λ (a : ℕ). (a + 1) % 2 ^ 32) at_is ∙ mod-add-mod from (2 ^ 32) 1) h) found

pub next_is : (t : TableState) (n : ℕ) → next_number t ≡ Some n → IsNext t n
unfolding next_number
next_is t n found =
    let first : First (t.last + 1) n t.channels = first_from (length t.channels + 1) (t.last + 1) (above t.last) n t.channels refl found in
    record { steps = first.steps; counted = first.counted; free = first.free; taken = first.taken }
