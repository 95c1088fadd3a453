-- The front of a script, by its first four bytes and the bytes after them.
use Rattle.std.proofs.Common.{◌≡◌, ℕ, zero, suc, ◌+◌, ◌<◌, ◌≤◌, eqb, false, List, [], ◌∷◌, ◌++◌, length, drop, Option, Some, Result, Ok, Err, refl, ap, sym, ◌∙◌, inl, inr, ◌⊎◌, arith, length-append, append_assoc}
use Rattle.std.specs.Int.{w32, w64, from_be_bytes}
use Rattle.std.proofs.lemmas.List.{append-nil, take_at, drop_at, drop-drop}
use Rattle.std.proofs.lemmas.Bool.Decides.{nat_tests}
use Rattle.std.proofs.lemmas.Bool.{cases_lt}
use Rattle.sshc_wire.specs.Contents.{prepend, IsAtEnd}
use Rattle.sshc_wire.specs.ContentsLaws.{prepend-prepend}
use Rattle.sshc_wire.specs.Reads.{number_at, byte_at}
use Rattle.sshc_wire.specs.declared.source.Failed.{Failed}
use Rattle.sshc_wire.specs.declared.source.Failed.TheVariants as failures
use Rattle.sshc_run_reader.specs.declared.error.EventError.{EventError}
use Rattle.sshc_run_reader.specs.declared.error.EventError.TheVariants as events
use Rattle.sshc_run_reader.specs.declared.event_kind.EventKind.{EventKind}
use Rattle.sshc_run_reader.specs.declared.error.NextError.{NextError}
use Rattle.sshc_run_reader.specs.declared.error.NextError.TheVariants as nexts
use Rattle.sshc_run_reader.specs.EventKinds.{kind_numbered}
use Rattle.sshc_run_reader.specs.Script.{Head, Bad, whole_front, sized_front, front, head_at}
use Rattle.sshc_run_reader.specs.Gives.{Fails}
use Rattle.sshc_run_reader.specs.FrontLaws.{front_cut, none_more}
use Rattle.sshc_run_reader.specs.Reading.{IsNoEvent, IsOneAtMost, IsBad, NextGives}

fields_at : (body c d : List ℕ) (moment number : ℕ) → number_at w64 body ≡ Ok (moment, c) → byte_at c ≡ Ok (number, d) →
    drop 9 body ≡ d
unfolding number_at byte_at
fields_at body [] d moment number h k = cc
fields_at body (b ∷ c) d moment number h k =
    let eight : drop 8 body ≡ b ∷ c = grind (arith, nat_tests) in
    let pair : (b, c) ≡ (number, d) = cc in
    sym (drop-drop 1 8 body) ∙ ap (drop 1) eight ∙ ap (λ (p : ℕ × List ℕ). p.1) pair

-- a moment that isn't below the last, a kind, and the fields after them
pub head_is : (last : ℕ) (body c d : List ℕ) (moment number : ℕ) (kind : EventKind) →
    number_at w64 body ≡ Ok (moment, c) → byte_at c ≡ Ok (number, d) → kind_numbered number ≡ Some kind →
    last ≤ moment → head_at last body ≡ Ok (moment, (kind, drop 9 body))
unfolding head_at
head_is last body c d moment number kind h k is later =
    rw (h, k, is, fields_at body c d moment number h k) (grind (arith, nat_tests))

pub front_head : (last : ℕ) (head rest : List ℕ) → length head ≡ 4 → front last (head ++ rest) ≡ sized_front last (from_be_bytes w32 head) rest
unfolding front
front_head last [] rest h = absurd (omega (arith, h))
front_head last (a ∷ []) rest h = absurd (omega (arith, h))
front_head last (a ∷ b ∷ []) rest h = absurd (omega (arith, h))
front_head last (a ∷ b ∷ c ∷ []) rest h = absurd (omega (arith, h))
front_head last (a ∷ b ∷ c ∷ d ∷ []) rest h = refl
front_head last (a ∷ b ∷ c ∷ d ∷ e ∷ more) rest h = absurd (omega (arith, h))

sized_bad : (last n : ℕ) (rest : List ℕ) → (n < 9) ⊎ (262144 < n) ⊎ (length rest < n) → sized_front last n rest ≡ Bad
unfolding sized_front
sized_bad last n rest h = grind (arith, nat_tests)

sized_whole : (last n : ℕ) (body more : List ℕ) → 9 ≤ n → n ≤ 262144 → length body ≡ n →
    sized_front last n (body ++ more) ≡ whole_front (head_at last body) more
unfolding sized_front
sized_whole last n body more low high size =
    let enough : n ≤ length (body ++ more) = omega (arith, length-append body more) in
    rw (take_at body more n size, drop_at body more n size) (grind (arith, nat_tests))

-- a length, and as many bytes as it says
pub whole_is : (last n : ℕ) (head body more : List ℕ) → length head ≡ 4 → n ≡ from_be_bytes w32 head → 9 ≤ n →
    n ≤ 262144 → length body ≡ n → front last (head ++ body ++ more) ≡ whole_front (head_at last body) more
whole_is last n head body more size is low high full =
    ap (front last) (append_assoc head body more) ∙ front_head last head (body ++ more) size
    ∙ ap (λ k. sized_front last k (body ++ more)) (sym is) ∙ sized_whole last n body more low high full

pub two_parts : (a b : List ℕ) (old mid new : Option (List ℕ)) → old ≡ prepend a mid → mid ≡ prepend b new → old ≡ prepend (a ++ b) new
two_parts a b old mid new first second = first ∙ ap (prepend a) second ∙ prepend-prepend a b new

-- ---- no event

bad_at_end : (last : ℕ) (bytes : List ℕ) (new : Option (List ℕ)) → front last bytes ≡ Bad → IsAtEnd new →
    IsBad last new bytes
bad_at_end last bytes new bad end =
    record { given = bad; all = λ more e. rw (none_more new more e end, append-nil) bad }

bad_always : (last : ℕ) (bytes : List ℕ) (new : Option (List ℕ)) →
    ((more : List ℕ) → front last (bytes ++ more) ≡ Bad) → IsBad last new bytes
bad_always last bytes new bad =
    record { given = ap (front last) (sym (append-nil bytes)) ∙ bad []; all = λ more e. bad more }

-- the script ends within the length, or the length is out of range
pub no_length : (last : ℕ) (head : List ℕ) (new : Option (List ℕ)) → 0 < length head → length head ≤ 4 →
    (length head < 4 → IsAtEnd new) →
    (length head < 4) ⊎ (from_be_bytes w32 head < 9) ⊎ (262144 < from_be_bytes w32 head) → IsBad last new head
no_length last head new some few end out = by_size (cases_lt (length head) 4)
  where
    by_size : (length head < 4) ⊎ (4 ≤ length head) → IsBad last new head
    by_size (inl short) = bad_at_end last head new (front_cut last head some short) (end short)
    by_size (inr enough) = bad_always last head new (λ more.
        front_head last head more (omega (arith, few, enough))
        ∙ sized_bad last (from_be_bytes w32 head) more (grind (arith, out)))

pub cut_body : (last n : ℕ) (head body : List ℕ) → length head ≡ 4 → n ≡ from_be_bytes w32 head → length body < n →
    front last (head ++ body) ≡ Bad
cut_body last n head body size is short =
    front_head last head body size ∙ sized_bad last _ body (inr (inr (omega (arith, short, is))))

-- the script ends within the event
pub ends_in_body : (last n : ℕ) (head body : List ℕ) (new : Option (List ℕ)) → length head ≡ 4 →
    n ≡ from_be_bytes w32 head → length body < n → IsAtEnd new → IsBad last new (head ++ body)
ends_in_body last n head body new size is short end =
    bad_at_end last (head ++ body) new (cut_body last n head body size is short) end

-- ---- errors

-- an event that was refused, with the reader's error
pub event_failed : (last reads reads' : ℕ) (x : EventError) (e : NextError) (r : Result Head EventError)
    (bytes : List ℕ) (old new : Option (List ℕ)) →
    ((more : List ℕ) → front last (bytes ++ more) ≡ whole_front r more) → old ≡ prepend bytes new → Fails x r →
    reads' ≤ reads + length bytes + 1 → e ≡ (elim x [ events.NoMemory ↦ nexts.NoMemory | events.Bad ↦ nexts.Bad ]) →
    NextGives last old new reads reads' (Err e)
event_failed last reads reads' events.NoMemory e r bytes old new is given fails count told =
    rw told (bytes, given, (one_by r (ap (front last) (sym (append-nil bytes)) ∙ is []), count))
  where
    one_by : (r : Result Head EventError) → front last bytes ≡ whole_front r [] → IsOneAtMost last bytes
    one_by (Ok head) h = inr (head, h)
    one_by (Err d) h = inl (inr h)
event_failed last reads reads' events.Bad e r bytes old new is given fails count told =
    rw told (bytes, given, (bad_always last bytes new (λ more. is more ∙ ap (λ q. whole_front q more) fails), count))

-- a read that failed, with the reader's error
pub failed_read : (last reads reads' : ℕ) (failed : Failed) (e : NextError) (bytes : List ℕ)
    (old new : Option (List ℕ)) →
    e ≡ (elim failed [ failures.Fault ↦ nexts.ReadFault | failures.NoMemory ↦ nexts.NoMemory ]) →
    old ≡ prepend bytes new → IsNoEvent last bytes → reads' ≤ reads + length bytes + 1 →
    NextGives last old new reads reads' (Err e)
failed_read last reads reads' failures.Fault e bytes old new is given none count = rw is (bytes, given, (none, count))
failed_read last reads reads' failures.NoMemory e bytes old new is given none count =
    rw is (bytes, given, (inl none, count))

pub not_empty : (n : ℕ) → false ≡ eqb n 0 → 0 < n
not_empty zero h = cc
not_empty (suc n) h = omega arith
