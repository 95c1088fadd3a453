-- Laws of the definitions in specs/Outgoing.antt.
use Rattle.std.proofs.Common.{◌≡◌, Bool, false, List, [], ◌∷◌, ◌++◌, refl, ap, ◌∙◌, sym, append_assoc}
use Rattle.sshc_wire.specs.declared.record.Record.{Record}
use Rattle.sshc_wire.specs.Outgoing.{Grows, kept, shown}

-- nothing is dropped where packets aren't
pub shown-open : (records : List Record) → shown false records ≡ records
shown-open [] = refl
shown-open (output ∷ records) = ap (λ (rs : List Record). output ∷ rs) (shown-open records)

pub shown-append : (muted : Bool) (a b : List Record) → shown muted (a ++ b) ≡ shown muted a ++ shown muted b
shown-append muted [] b = refl
shown-append muted (output ∷ a) b =
    ap (λ (rs : List Record). kept muted output ++ rs) (shown-append muted a b) ∙ sym (append_assoc (kept muted output) (shown muted a) (shown muted b))

-- what was shown first and what was shown next are shown together
pub shown_more : (muted : Bool) (old mid new a b : List Record) → mid ≡ old ++ shown muted a → new ≡ mid ++ shown muted b → new ≡ old ++ shown muted (a ++ b)
shown_more muted old mid new a b first next =
    next ∙ ap (λ (rs : List Record). rs ++ shown muted b) first ∙ append_assoc old (shown muted a) (shown muted b)
    ∙ ap (λ (rs : List Record). old ++ rs) (sym (shown-append muted a b))

-- a list that grew twice grew
pub grows_on : (old mid new : List Record) → Grows old mid → Grows mid new → Grows old new
grows_on old mid new (a, first) (b, next) = (a ++ b, next ∙ ap (λ (rs : List Record). rs ++ b) first ∙ append_assoc old a b)
