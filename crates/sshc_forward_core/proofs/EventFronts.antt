-- The front of the bytes, by its first four bytes and the bytes after them.
use Rattle.std.proofs.Common.{◌≡◌, ℕ, zero, suc, ◌+◌, ◌<◌, ◌≤◌, eqb, false, List, [], ◌∷◌, ◌++◌, length, Option, Some, None, Ok, Err, refl, ap, sym, ◌∙◌, inl, inr, ◌⊎◌, arith, length-append, append_assoc}
use Rattle.std.specs.Int.{w32, from_be_bytes}
use Rattle.std.proofs.lemmas.List.{append-nil, take_at, drop_at}
use Rattle.std.proofs.lemmas.Bool.Decides.{nat_tests}
use Rattle.std.proofs.lemmas.Bool.{cases_lt}
use Rattle.sshc_wire.specs.Contents.{prepend, IsAtEnd}
use Rattle.sshc_wire.specs.ContentsLaws.{prepend-prepend}
use Rattle.sshc_wire.specs.declared.source.Failed.{Failed}
use Rattle.sshc_wire.specs.declared.source.Failed.TheVariants as failures
use Rattle.sshc_forward_core.specs.declared.event.FwdEvent.{FwdEvent}
use Rattle.sshc_forward_core.specs.declared.error.EventFault.{EventFault}
use Rattle.sshc_forward_core.specs.declared.error.EventFault.TheVariants as faults
use Rattle.sshc_forward_core.specs.declared.error.NextFault.{NextFault}
use Rattle.sshc_forward_core.specs.declared.error.NextFault.TheVariants as nexts
use Rattle.sshc_forward_core.specs.EventText.{NoEvent, whole_front, sized_front, front, body_at}
use Rattle.sshc_forward_core.specs.EventReading.{Fails, Gave, IsWhole, IsBad, NextGives}

front_head : (head rest : List ℕ) → length head ≡ 4 → front (head ++ rest) ≡ sized_front (from_be_bytes w32 head) rest
unfolding front
front_head [] rest h = absurd (omega (arith, h))
front_head (a ∷ []) rest h = absurd (omega (arith, h))
front_head (a ∷ b ∷ []) rest h = absurd (omega (arith, h))
front_head (a ∷ b ∷ c ∷ []) rest h = absurd (omega (arith, h))
front_head (a ∷ b ∷ c ∷ d ∷ []) rest h = refl
front_head (a ∷ b ∷ c ∷ d ∷ e ∷ more) rest h = absurd (omega (arith, h))

front_cut : (bytes : List ℕ) → 0 < length bytes → length bytes < 4 → front bytes ≡ NoEvent
unfolding front
front_cut [] p h = absurd (omega (arith, p))
front_cut (a ∷ []) p h = refl
front_cut (a ∷ b ∷ []) p h = refl
front_cut (a ∷ b ∷ c ∷ []) p h = refl
front_cut (a ∷ b ∷ c ∷ d ∷ more) p h = absurd (omega (arith, h))

sized_low : (n : ℕ) (rest : List ℕ) → n < 5 → sized_front n rest ≡ NoEvent
unfolding sized_front
sized_low n rest h = grind (arith, nat_tests)

sized_high : (n : ℕ) (rest : List ℕ) → 262144 < n → sized_front n rest ≡ NoEvent
unfolding sized_front
sized_high n rest h = grind (arith, nat_tests)

sized_short : (n : ℕ) (rest : List ℕ) → length rest < n → sized_front n rest ≡ NoEvent
unfolding sized_front
sized_short n rest h = grind (arith, nat_tests)

sized_whole : (n : ℕ) (body more : List ℕ) → 5 ≤ n → n ≤ 262144 → length body ≡ n → sized_front n (body ++ more) ≡ whole_front (body_at body) more
unfolding sized_front
sized_whole n body more low high size =
    let enough : n ≤ length (body ++ more) = omega (arith, length-append body more) in
    rw (take_at body more n size, drop_at body more n size) (grind (arith, nat_tests))

none_more : (new : Option (List ℕ)) (more : List ℕ) → new ≡ Some more → IsAtEnd new → more ≡ []
none_more None more e end = cc
none_more (Some x) more e end = (let same : x ≡ more = cc in sym same) ∙ end

two_parts : (a b : List ℕ) (old mid new : Option (List ℕ)) → old ≡ prepend a mid → mid ≡ prepend b new → old ≡ prepend (a ++ b) new
two_parts a b old mid new first second = first ∙ ap (prepend a) second ∙ prepend-prepend a b new

bad_sized : (head more : List ℕ) → length head ≡ 4 → (from_be_bytes w32 head < 5) ⊎ (262144 < from_be_bytes w32 head) → front (head ++ more) ≡ NoEvent
bad_sized head more size (inl low) = front_head head more size ∙ sized_low (from_be_bytes w32 head) more low
bad_sized head more size (inr high) = front_head head more size ∙ sized_high (from_be_bytes w32 head) more high

whole_is : (n : ℕ) (head body more : List ℕ) → length head ≡ 4 → n ≡ from_be_bytes w32 head → 5 ≤ n → n ≤ 262144 → length body ≡ n → front (head ++ body ++ more) ≡ whole_front (body_at body) more
whole_is n head body more size is low high full =
    ap front (append_assoc head body more) ∙ front_head head (body ++ more) size
    ∙ ap (λ k. sized_front k (body ++ more)) (sym is) ∙ sized_whole n body more low high full

cut_is_bad : (head : List ℕ) (old new : Option (List ℕ)) → 0 < length head → length head < 4 → IsAtEnd new → old ≡ prepend head new → Gave old new (λ bytes. IsBad new bytes)
cut_is_bad head old new some short end first =
    let bad : front head ≡ NoEvent = front_cut head some short in
    (head, first, record { given = bad; all = λ more e. rw (none_more new more e end, append-nil) bad })

long_or_bad : (head : List ℕ) (old new : Option (List ℕ)) → 0 < length head → length head ≤ 4 → (length head < 4 → IsAtEnd new) → (from_be_bytes w32 head < 5) ⊎ (262144 < from_be_bytes w32 head) →
    (length head < 4) ⊎ (4 ≤ length head) → old ≡ prepend head new → Gave old new (λ bytes. IsBad new bytes)
long_or_bad head old new some few end out (inl short) first = cut_is_bad head old new some short (end short) first
long_or_bad head old new some few end out (inr enough) first =
    let size : length head ≡ 4 = omega (arith, few, enough) in
    (head, first, record { given = ap front (sym (append-nil head)) ∙ bad_sized head [] size out; all = λ more e. bad_sized head more size out })

-- the bytes end within the length, or the length is out of range
pub no_length : (head : List ℕ) (old new : Option (List ℕ)) → 0 < length head → length head ≤ 4 → (length head < 4 → IsAtEnd new) →
    (length head < 4) ⊎ (from_be_bytes w32 head < 5) ⊎ (262144 < from_be_bytes w32 head) → old ≡ prepend head new → Gave old new (λ bytes. IsBad new bytes)
no_length head old new some few end (inl short) first = cut_is_bad head old new some short (end short) first
no_length head old new some few end (inr out) first = long_or_bad head old new some few end out (cases_lt (length head) 4) first

-- the bytes end within the event
pub ends_in_body : (n : ℕ) (head body : List ℕ) (old mid new : Option (List ℕ)) → length head ≡ 4 → n ≡ from_be_bytes w32 head → length body < n →
    old ≡ prepend head mid → mid ≡ prepend body new → IsAtEnd new → Gave old new (λ bytes. IsBad new bytes)
ends_in_body n head body old mid new size is short first second end =
    let bad : front (head ++ body) ≡ NoEvent = front_head head body size ∙ sized_short (from_be_bytes w32 head) body (omega (arith, short, is)) in
    (head ++ body, two_parts _ _ _ _ _ first second, record { given = bad; all = λ more e. rw (none_more new more e end, append-nil) bad })

-- a whole event
pub whole_event : (n : ℕ) (event : FwdEvent) (head body : List ℕ) (old mid new : Option (List ℕ)) → length head ≡ 4 → n ≡ from_be_bytes w32 head → 5 ≤ n → n ≤ 262144 → length body ≡ n →
    old ≡ prepend head mid → mid ≡ prepend body new → body_at body ≡ Ok event → Gave old new (λ bytes. IsWhole event bytes × (length bytes ≡ n + 4))
whole_event n event head body old mid new size is low high full first second good = (
  head ++ body,
  two_parts _ _ _ _ _ first second,
  (record { is = λ more. whole_is n head body more size is low high full ∙ ap (λ r. whole_front r more) good }, omega (arith, length-append head body, size, full)),
)

-- an event that was refused, with the reader's error
pub event_failed : (n : ℕ) (x : EventFault) (e : NextFault) (head body : List ℕ) (old mid new : Option (List ℕ)) → length head ≡ 4 → n ≡ from_be_bytes w32 head → 5 ≤ n → n ≤ 262144 → length body ≡ n →
    old ≡ prepend head mid → mid ≡ prepend body new → Fails x (body_at body) →
    e ≡ (elim x [ faults.NoMemory ↦ nexts.NoMemory | faults.Bad ↦ nexts.Bad ]) → NextGives old new (Err e)
event_failed n faults.NoMemory e head body old mid new size is low high full first second fails told =
    rw told (head ++ body, two_parts _ _ _ _ _ first second, tt)
event_failed n faults.Bad e head body old mid new size is low high full first second fails told =
    let bad_all : (more : List ℕ) → front (head ++ body ++ more) ≡ NoEvent = λ more. whole_is n head body more size is low high full ∙ ap (λ r. whole_front r more) fails in
    rw told (head ++ body, two_parts _ _ _ _ _ first second, record { given = ap front (sym (append-nil (head ++ body))) ∙ bad_all []; all = λ more e. bad_all more })

-- a read that failed, with the reader's error
pub first_failed : (failed : Failed) (e : NextFault) (old new : Option (List ℕ)) →
    e ≡ (elim failed [ failures.Fault ↦ nexts.ReadFault | failures.NoMemory ↦ nexts.NoMemory ]) →
    (given : List ℕ) → old ≡ prepend given new → NextGives old new (Err e)
first_failed failures.Fault e old new is given first = rw is (given, first, tt)
first_failed failures.NoMemory e old new is given first = rw is (given, first, tt)

pub second_failed : (failed : Failed) (e : NextFault) (head : List ℕ) (old mid new : Option (List ℕ)) → old ≡ prepend head mid →
    e ≡ (elim failed [ failures.Fault ↦ nexts.ReadFault | failures.NoMemory ↦ nexts.NoMemory ]) →
    (given : List ℕ) → mid ≡ prepend given new → NextGives old new (Err e)
second_failed failed e head old mid new first is given second = first_failed failed e old new is (head ++ given) (two_parts _ _ _ _ _ first second)

-- a byte was read
pub not_empty : (n : ℕ) → false ≡ eqb n 0 → 0 < n
not_empty zero h = cc
not_empty (suc n) h = omega arith
