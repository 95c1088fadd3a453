-- Texts that take their salts from the front of a list, one after the other.
use Rattle.std.proofs.Common.{◌≡◌, ℕ, zero, suc, ◌+◌, ◌≤◌, Bool, true, false, List, [], ◌∷◌, ◌++◌, length, drop, Option, Some, None, IfSome, refl, ap, sym, ◌∙◌, subst, append_assoc, arith, length-append}
use Rattle.std.specs.Prelude.{if◌then◌else◌}
use Rattle.std.specs.List.{join_with_byte, AllByRecursion}
use Rattle.std.proofs.lemmas.List.{append-nil}
use Rattle.sshc_audit.specs.Joining.{Joined, nothing_joined}
use Rattle.sshc_audit.specs.Salts.{SaltState, IsSalt, before_left, Took, TookAtMost, Wants}
use Rattle.sshc_audit.specs.Hashing.{first_salt, with_salts, total, is_name, entry_needs, hashed_entry, hashed_or_same, entries_of, part_needs, hashed_line, hashed_part}
use Rattle.sshc_audit.specs.HashingSteps.{Made, MadeNext}
use Rattle.sshc_audit.specs.Lines.{Line, line_of}
use Rattle.sshc_audit.specs.Removing.{with_host}
use Rattle.sshc_hosts.specs.MatchingLines.{parts_at}
use Rattle.sshc_audit.proofs.Parts.{joined_on, joined_next, joined_all}

-- ---- returned salts

left_same : (o : Option (List (List ℕ))) → o ≡ before_left [] o
left_same None = refl
left_same (Some x) = refl

left_more : (a b : List (List ℕ)) (o : Option (List (List ℕ))) → before_left a (before_left b o) ≡ before_left (a ++ b) o
left_more a b None = refl
left_more a b (Some x) = ap Some (sym (append_assoc a b x))

sized_more : (a b : List (List ℕ)) → AllByRecursion IsSalt a → AllByRecursion IsSalt b → AllByRecursion IsSalt (a ++ b)
sized_more [] b h k = k
sized_more (x ∷ a) b h k = (h.0, sized_more a b h.1 k)

pub took_none : (s : SaltState) → Took s s []
took_none s = record { given = sym (append-nil s.given); left = left_same s.left; sized = tt }

-- salts, and then more
pub took_more : (s mid t : SaltState) (a b : List (List ℕ)) → Took s mid a → Took mid t b → Took s t (a ++ b)
took_more s mid t a b first then_ = record {
  given = then_.given ∙ ap (λ (g : List (List ℕ)). g ++ b) first.given ∙ append_assoc s.given a b;
  left = first.left ∙ ap (before_left a) then_.left ∙ left_more a b t.left;
  sized = sized_more a b first.sized then_.sized;
}

-- ---- at most so many salts

pub took_nothing_at_most : (s t : SaltState) → Took s t [] → TookAtMost s t 0
took_nothing_at_most s t took = record { salts = []; took = took; few = omega arith }

pub took_one_at_most : (s t : SaltState) (salt : List ℕ) → Took s t (salt ∷ []) → TookAtMost s t 1
took_one_at_most s t salt took = record { salts = salt ∷ []; took = took; few = omega arith }

pub untouched_at_most : (s : SaltState) (n : ℕ) → TookAtMost s s n
untouched_at_most s n = record { salts = []; took = took_none s; few = omega arith }

pub at_most_more : (s t : SaltState) (n m : ℕ) → n ≤ m → TookAtMost s t n → TookAtMost s t m
at_most_more s t n m le h = record { salts = h.salts; took = h.took; few = omega (arith, h.few, le) }

-- salts for a text that was not returned
pub made_at_most : (s t : SaltState) (n : ℕ) (make : List (List ℕ) → List ℕ) (text : List ℕ) → Made s t n make text → TookAtMost s t n
made_at_most s t n make text made = record { salts = made.salts; took = made.took; few = omega (arith, made.count) }

wants_case : (salts : List (List ℕ)) (old mid : Option (List (List ℕ))) (m n : ℕ) → old ≡ before_left salts mid → length salts ≡ m → IfSome mid (λ rest. (length rest + 1) ≤ n)
    → IfSome old (λ rest. (length rest + 1) ≤ m + n)
wants_case salts old None m n is long h = rw is tt
wants_case salts old (Some rest) m n is long h = rw is (omega (arith, long, h, length-append salts rest))

wants_most : (old : Option (List (List ℕ))) (m n : ℕ) → m ≤ n → IfSome old (λ rest. (length rest + 1) ≤ m) → IfSome old (λ rest. (length rest + 1) ≤ n)
wants_most None m n le h = tt
wants_most (Some rest) m n le h = omega (arith, le, h)

-- if salts are missing after some were returned, they were missing before
pub wants_before : (s mid : SaltState) (salts : List (List ℕ)) (m n all : ℕ) → Took s mid salts → length salts ≡ m → m + n ≤ all → Wants mid n → Wants s all
wants_before s mid salts m n all took long le wants =
    wants_most s.left (m + n) all le (wants_case salts s.left mid.left m n took.left long wants)

-- ---- what each text takes

drop_front : (salts more : List (List ℕ)) (n : ℕ) → length salts ≡ n → drop n (salts ++ more) ≡ more
drop_front [] more zero e = refl
drop_front [] more (suc n) e = absurd (omega (arith, e))
drop_front (x ∷ salts) more zero e = absurd (omega (arith, e))
drop_front (x ∷ salts) more (suc n) e = drop_front salts more n (omega (arith, e))

-- the result for a text depends only on the salts that it needs
abbrev pub TakesOnly : {Y : Type 0} → (List ℕ → ℕ) → (List (List ℕ) → List ℕ → Y) → Type 0
TakesOnly {Y} needs make = (text : List ℕ) (salts more : List (List ℕ)) → length salts ≡ needs text → make (salts ++ more) text ≡ make salts text

module _ {Y : Type 0} (needs : List ℕ → ℕ) (make : List (List ℕ) → List ℕ → Y) (only : TakesOnly needs make) where
  -- the first text, and then the others
  pub first_made : (text : List ℕ) (texts salts more : List (List ℕ)) → length salts ≡ needs text
      → with_salts needs make (salts ++ more) (text ∷ texts) ≡ make salts text ∷ with_salts needs make more texts
  first_made text texts salts more long =
      ap (λ (y : Y). y ∷ with_salts needs make (drop (needs text) (salts ++ more)) texts) (only text salts more long)
      ∙ ap (λ (rest : List (List ℕ)). make salts text ∷ with_salts needs make rest texts) (drop_front salts more (needs text) long)

-- ---- a loop over texts

-- the progress of a loop that makes a text of each and joins them
pub record SoFar (needs : List ℕ → ℕ) (make : List (List ℕ) → List ℕ → List ℕ) (all rest : List (List ℕ)) (separator : ℕ) (s now : SaltState) (out : Joined) : Type 0 where
  pub done : List (List ℕ)
  pub took : Took s now done
  pub count : total needs all ≡ length done + total needs rest
  pub same : (more : List (List ℕ)) → join_with_byte separator (with_salts needs make (done ++ more) all) ≡ joined_on out (with_salts needs make more rest)

counted : (a d r n t k : ℕ) → a ≡ d + (n + r) → t ≡ n → k ≡ d + t → a ≡ k + r
counted a d r n t k e f g = omega (arith, e, f, g)

module _ (needs : List ℕ → ℕ) (make : List (List ℕ) → List ℕ → List ℕ) (only : TakesOnly needs make) (all : List (List ℕ)) (separator : ℕ) (s : SaltState) where
  pub loop_first : SoFar needs make all all separator s s (nothing_joined separator)
  loop_first = record {
    done = [];
    took = took_none s;
    count = omega arith;
    same = λ more. sym (joined_all separator (with_salts needs make more all));
  }

  next_of : (text : List ℕ) (texts : List (List ℕ)) (mid now : SaltState) (out out' : Joined) → SoFar needs make all (text ∷ texts) separator s mid out
      → MadeNext mid now (needs text) (λ salts. make salts text) out out' → SoFar needs make all texts separator s now out'
  next_of text texts mid now out out' so made = record {
    done = so.done ++ made.salts;
    took = took_more s mid now so.done made.salts so.took made.took;
    count = counted _ _ _ _ _ _ so.count made.count (length-append so.done made.salts);
    same = λ more.
        ap (λ (salts : List (List ℕ)). join_with_byte separator (with_salts needs make salts all)) (append_assoc so.done made.salts more)
        ∙ so.same (made.salts ++ more) ∙ ap (joined_on out) (first_made needs make only text texts made.salts more made.count)
        ∙ joined_next out (Some (make made.salts text)) (with_salts needs make more texts)
        ∙ ap (λ (o : Joined). joined_on o (with_salts needs make more texts)) (sym made.added);
  }

  pub loop_next : (rest : List (List ℕ)) (text : List ℕ) (texts : List (List ℕ)) (mid now : SaltState) (out out' : Joined) → rest ≡ text ∷ texts → SoFar needs make all rest separator s mid out
      → MadeNext mid now (needs text) (λ salts. make salts text) out out' → SoFar needs make all texts separator s now out'
  loop_next rest text texts mid now out out' is so made = next_of text texts mid now out out' (subst (λ (r : List (List ℕ)). SoFar needs make all r separator s mid out) is so) made

  wants_of : (text : List ℕ) (texts : List (List ℕ)) (mid : SaltState) (out : Joined) → SoFar needs make all (text ∷ texts) separator s mid out → Wants mid (needs text) → Wants s (total needs all)
  wants_of text texts mid out so wants = wants_before s mid so.done (length so.done) (needs text) (total needs all) so.took refl (omega (arith, so.count)) wants

  pub loop_wants : (rest : List (List ℕ)) (text : List ℕ) (texts : List (List ℕ)) (mid : SaltState) (out : Joined) → rest ≡ text ∷ texts → SoFar needs make all rest separator s mid out → Wants mid (needs text)
      → Wants s (total needs all)
  loop_wants rest text texts mid out is so wants = wants_of text texts mid out (subst (λ (r : List (List ℕ)). SoFar needs make all r separator s mid out) is so) wants

  few_of : (text : List ℕ) (texts : List (List ℕ)) (mid now : SaltState) (out : Joined) → SoFar needs make all (text ∷ texts) separator s mid out → TookAtMost mid now (needs text) → TookAtMost s now (total needs all)
  few_of text texts mid now out so more = record {
    salts = so.done ++ more.salts;
    took = took_more s mid now so.done more.salts so.took more.took;
    few = omega (arith, so.count, more.few, length-append so.done more.salts);
  }

  -- a text for which there were too few salts
  pub loop_few : (rest : List (List ℕ)) (text : List ℕ) (texts : List (List ℕ)) (mid now : SaltState) (out : Joined) → rest ≡ text ∷ texts → SoFar needs make all rest separator s mid out
      → TookAtMost mid now (needs text) → TookAtMost s now (total needs all)
  loop_few rest text texts mid now out is so more = few_of text texts mid now out (subst (λ (r : List (List ℕ)). SoFar needs make all r separator s mid out) is so) more

  -- all texts were made
  pub all_few : (now : SaltState) (out : Joined) → SoFar needs make all [] separator s now out → TookAtMost s now (total needs all)
  all_few now out so = record { salts = so.done; took = so.took; few = omega (arith, so.count) }

  pub loop_end : (now : SaltState) (out : Joined) (so : SoFar needs make all [] separator s now out) → out.text ≡ join_with_byte separator (with_salts needs make so.done all)
  loop_end now out so = sym (so.same []) ∙ ap (λ (salts : List (List ℕ)). join_with_byte separator (with_salts needs make salts all)) (append-nil so.done)

  pub made_all : (now : SaltState) (out : Joined) (text : List ℕ) → SoFar needs make all [] separator s now out → text ≡ out.text
      → Made s now (total needs all) (λ salts. join_with_byte separator (with_salts needs make salts all)) text
  made_all now out text so is = record { salts = so.done; took = so.took; count = omega (arith, so.count); same = is ∙ loop_end now out so }

-- ---- entries and parts

entry_only_case : (b : Bool) (entry : List ℕ) (salts more : List (List ℕ)) → length salts ≡ (if b then 1 else 0)
    → (if b then hashed_entry (first_salt (salts ++ more)) entry else entry) ≡ (if b then hashed_entry (first_salt salts) entry else entry)
entry_only_case true entry [] more long = absurd (omega (arith, long))
entry_only_case true entry (salt ∷ salts) more long = refl
entry_only_case false entry salts more long = refl

pub entry_only : TakesOnly entry_needs hashed_or_same
entry_only entry salts more long = entry_only_case (is_name entry) entry salts more long

-- the salts that a list of entries needs, and the rest
split_salts : (n m : ℕ) (salts : List (List ℕ)) → length salts ≡ n + m → (front back : List (List ℕ)) × (salts ≡ front ++ back) × (length front ≡ n) × (length back ≡ m)
split_salts zero m salts long = ([], salts, refl, refl, omega (arith, long))
split_salts (suc n) m [] long = absurd (omega (arith, long))
split_salts (suc n) m (x ∷ salts) long =
    let (front, back, is, first, second) = split_salts n m salts (omega (arith, long)) in
    (x ∷ front, back, ap (λ (xs : List (List ℕ)). x ∷ xs) is, omega (arith, first), second)

pub entries_only : (entries salts more : List (List ℕ)) → length salts ≡ total entry_needs entries
    → with_salts entry_needs hashed_or_same (salts ++ more) entries ≡ with_salts entry_needs hashed_or_same salts entries
entries_only [] salts more long = refl
entries_only (entry ∷ entries) salts more long =
    let (front, back, is, first, second) = split_salts (entry_needs entry) (total entry_needs entries) salts long in
    let later : with_salts entry_needs hashed_or_same (back ++ more) entries ≡ with_salts entry_needs hashed_or_same back entries = entries_only entries back more second in
    let regroup : salts ++ more ≡ front ++ (back ++ more) = ap (λ (xs : List (List ℕ)). xs ++ more) is ∙ append_assoc front back more in
    ap (λ (xs : List (List ℕ)). with_salts entry_needs hashed_or_same xs (entry ∷ entries)) regroup
    ∙ first_made entry_needs hashed_or_same entry_only entry entries front (back ++ more) first
    ∙ ap (λ (ys : List (List ℕ)). hashed_or_same front entry ∷ ys) later
    ∙ sym (first_made entry_needs hashed_or_same entry_only entry entries front back first)
    ∙ ap (λ (xs : List (List ℕ)). with_salts entry_needs hashed_or_same xs (entry ∷ entries)) (sym is)

line_only : (part : List ℕ) (o : Option Line) (salts more : List (List ℕ)) → length salts ≡ total entry_needs (entries_of o) → hashed_line (salts ++ more) part o ≡ hashed_line salts part o
line_only part None salts more long = refl
line_only part (Some line) salts more long =
    ap (λ (es : List (List ℕ)). with_host line (join_with_byte 44 es)) (entries_only (parts_at 44 line.host) salts more long)

pub part_only : TakesOnly part_needs hashed_part
part_only part salts more long = line_only part (line_of part) salts more long
