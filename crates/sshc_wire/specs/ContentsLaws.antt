-- Laws of the definitions in specs/Contents.antt.
use Rattle.std.proofs.Common.{◌≡◌, ℕ, List, [], ◌++◌, Option, Some, None, refl, ap, sym, ◌∙◌, append_assoc, length-append, arith}
use Rattle.std.proofs.lemmas.List.{append-nil}
use Rattle.sshc_wire.specs.Contents.{prepend, append, WroteFront, WritesMove, WritesFor}

-- laws of pieces, one after the other

pub prepend-nothing : (o : Option (List ℕ)) → prepend [] o ≡ o
prepend-nothing None = refl
prepend-nothing (Some x) = refl

pub prepend-prepend : (a b : List ℕ) (o : Option (List ℕ)) → prepend a (prepend b o) ≡ prepend (a ++ b) o
prepend-prepend a b None = refl
prepend-prepend a b (Some x) = ap Some (sym (append_assoc a b x))

pub append-nothing : (o : Option (List ℕ)) → append o [] ≡ o
append-nothing None = refl
append-nothing (Some x) = ap Some (append-nil x)

pub append-append : (o : Option (List ℕ)) (a b : List ℕ) → append (append o a) b ≡ append o (a ++ b)
append-append None a b = refl
append-append (Some x) a b = ap Some (append_assoc x a b)

-- writes that each moved a byte, and then writes more

pub no_writes : (o : Option (List ℕ)) (writes : ℕ) → WritesMove o o writes writes
no_writes o writes = ([], sym (append-nothing o), omega arith)

pub writes_on : (a b c : Option (List ℕ)) (writes mid writes' : ℕ) → WritesMove a b writes mid → WritesMove b c mid writes' → WritesMove a c writes writes'
writes_on a b c writes mid writes' (part, is, few) (part', is', few') =
    (part ++ part', is' ∙ ap (λ o. append o part') is ∙ append-append a part part', omega (arith, few, few', length-append part part'))

pub writes_end : (a b c : Option (List ℕ)) (writes mid writes' : ℕ) → WritesMove a b writes mid → WritesFor b c mid writes' → WritesFor a c writes writes'
writes_end a b c writes mid writes' (part, is, few) (part', is', few') =
    (part ++ part', is' ∙ ap (λ o. append o part') is ∙ append-append a part part', omega (arith, few, few', length-append part part'))

pub moved_for : (a b : Option (List ℕ)) (writes writes' : ℕ) → WritesMove a b writes writes' → WritesFor a b writes writes'
moved_for a b writes writes' (part, is, few) = (part, is, omega (arith, few))

-- what was written before, and then a front of a part of what was due
pub wrote_more : (a b c : Option (List ℕ)) (before part after : List ℕ) → b ≡ append a before → WroteFront b c part → WroteFront a c (before ++ part ++ after)
wrote_more a b c before part after first (front, rest, whole, now) = (
  before ++ front,
  rest ++ after,
  ap (λ p. before ++ p ++ after) whole ∙ simp append_assoc,
  now ∙ ap (λ o. append o front) first ∙ append-append a before front,
)
