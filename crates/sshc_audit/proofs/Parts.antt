-- Parts of a text at a byte, and texts that are joined with it.
use Rattle.std.proofs.Common.{◌≡◌, ℕ, suc, arith, Bool, true, false, List, [], ◌∷◌, ◌++◌, Option, Some, None, refl, ap, sym, ◌∙◌, append_assoc}
use Rattle.std.specs.Prelude.{◌==◌, if◌then◌else◌}
use Rattle.std.specs.List.{join_with_byte, onto_first, cons_option}
use Rattle.std.proofs.lemmas.List.Splits.{join_with_byte-slice_split}
use Rattle.sshc_hosts.specs.MatchingLines.{parts_at}
use Rattle.sshc_hosts.specs.Learning.{Lacks}
use Rattle.sshc_hosts.proofs.LineLemmas.{parts_at-first, parts_at-lacking}
use Rattle.sshc_hosts.proofs.LearningLemmas.{Lacks-nothing, Lacks-single, Lacks-append, Lacks-cons}
use Rattle.sshc_audit.specs.Joining.{Joined, nothing_joined, lead, with_text}

-- each of the texts lacks the byte
abbrev pub EachLacks : List (List ℕ) → ℕ → Type 0
EachLacks [] byte = Unit {0}
EachLacks (x ∷ xs) byte = Lacks x byte × EachLacks xs byte

Lacks-head : (x : ℕ) (xs : List ℕ) (byte : ℕ) → Lacks (x ∷ xs) byte → (x == byte) ≡ false
Lacks-head x xs byte none = none 0 0 (omega arith)

Lacks-tail : (x : ℕ) (xs : List ℕ) (byte : ℕ) → Lacks (x ∷ xs) byte → Lacks xs byte
Lacks-tail x xs byte none k d within = none (suc k) d (omega arith)

front_lacks : (x byte : ℕ) (parts : List (List ℕ)) → (x == byte) ≡ false → EachLacks parts byte → EachLacks (onto_first x parts) byte
front_lacks x byte [] apart each = (Lacks-single x byte apart, tt)
front_lacks x byte (part ∷ parts) apart each = (Lacks-cons x part byte apart each.0, each.1)

parts_lack_case : (c x : ℕ) (parts : List (List ℕ)) (b : Bool) → (x == c) ≡ b → EachLacks parts c → EachLacks (if b then [] ∷ parts else onto_first x parts) c
parts_lack_case c x parts true e each = (Lacks-nothing c, each)
parts_lack_case c x parts false e each = front_lacks x c parts e each

-- the parts at a byte lack it
pub parts_lack : (c : ℕ) (xs : List ℕ) → EachLacks (parts_at c xs) c
parts_lack c [] = (Lacks-nothing c, tt)
parts_lack c (x ∷ xs) = parts_lack_case c x (parts_at c xs) (x == c) refl (parts_lack c xs)

also_lack_case : (byte x : ℕ) (parts : List (List ℕ)) (b : Bool) → (x == byte) ≡ false → EachLacks parts byte → EachLacks (if b then [] ∷ parts else onto_first x parts) byte
also_lack_case byte x parts true e each = (Lacks-nothing byte, each)
also_lack_case byte x parts false e each = front_lacks x byte parts e each

-- the parts lack what the whole lacks
pub parts_also_lack : (c byte : ℕ) (xs : List ℕ) → Lacks xs byte → EachLacks (parts_at c xs) byte
parts_also_lack c byte [] none = (Lacks-nothing byte, tt)
parts_also_lack c byte (x ∷ xs) none =
    also_lack_case byte x (parts_at c xs) (x == c) (Lacks-head x xs byte none) (parts_also_lack c byte xs (Lacks-tail x xs byte none))

-- the parts, joined
pub join_parts : (c : ℕ) (xs : List ℕ) → join_with_byte c (parts_at c xs) ≡ xs
join_parts c xs = join_with_byte-slice_split c xs

-- joined texts, split again
pub parts_join : (c : ℕ) (x : List ℕ) (xs : List (List ℕ)) → EachLacks (x ∷ xs) c → parts_at c (join_with_byte c (x ∷ xs)) ≡ x ∷ xs
parts_join c x [] each = parts_at-lacking c x each.0
parts_join c x (y ∷ ys) each = parts_at-first c x (join_with_byte c (y ∷ ys)) each.0 ∙ ap (λ (parts : List (List ℕ)). x ∷ parts) (parts_join c y ys each.1)

-- joined texts lack what each of them lacks
pub join_lacks : (c byte : ℕ) (xs : List (List ℕ)) → (c == byte) ≡ false → EachLacks xs byte → Lacks (join_with_byte c xs) byte
join_lacks c byte [] apart each = Lacks-nothing byte
join_lacks c byte (x ∷ []) apart each = each.0
join_lacks c byte (x ∷ y ∷ ys) apart each =
    Lacks-append x (c ∷ join_with_byte c (y ∷ ys)) byte each.0 (Lacks-cons c (join_with_byte c (y ∷ ys)) byte apart (join_lacks c byte (y ∷ ys) apart each.1))

-- ---- texts that are joined while they are written

-- all that is written once these texts are added
abbrev pub joined_on : Joined → List (List ℕ) → List ℕ
joined_on out [] = out.text
joined_on out (x ∷ xs) = out.text ++ (lead out.is_first out.separator ++ join_with_byte out.separator (x ∷ xs))

regroup : (a b c d : List ℕ) → a ++ (b ++ (c ++ d)) ≡ ((a ++ b) ++ c) ++ d
regroup a b c d = sym (append_assoc (a ++ b) c d ∙ append_assoc a b (c ++ d))

some_next : (out : Joined) (x : List ℕ) (xs : List (List ℕ)) → joined_on out (x ∷ xs) ≡ joined_on (with_text out (Some x)) xs
some_next out x [] = sym (append_assoc out.text (lead out.is_first out.separator) x)
some_next out x (y ∷ ys) = regroup out.text (lead out.is_first out.separator) x (out.separator ∷ join_with_byte out.separator (y ∷ ys))

-- one text, if there is one, and then the others
pub joined_next : (out : Joined) (o : Option (List ℕ)) (xs : List (List ℕ)) → joined_on out (cons_option o xs) ≡ joined_on (with_text out o) xs
joined_next out None xs = refl
joined_next out (Some x) xs = some_next out x xs

-- nothing was added before
pub joined_all : (c : ℕ) (xs : List (List ℕ)) → joined_on (nothing_joined c) xs ≡ join_with_byte c xs
joined_all c [] = refl
joined_all c (x ∷ xs) = refl

-- the joined text once these texts are added; None if there are none
abbrev pub joined_any : Joined → List (List ℕ) → Option (List ℕ)
joined_any out [] = if out.is_first then None else Some out.text
joined_any out (x ∷ xs) = Some (joined_on out (x ∷ xs))

some_any : (out : Joined) (x : List ℕ) (xs : List (List ℕ)) → joined_any out (x ∷ xs) ≡ joined_any (with_text out (Some x)) xs
some_any out x [] = ap Some (some_next out x [])
some_any out x (y ∷ ys) = ap Some (some_next out x (y ∷ ys))

pub any_next : (out : Joined) (o : Option (List ℕ)) (xs : List (List ℕ)) → joined_any out (cons_option o xs) ≡ joined_any (with_text out o) xs
any_next out None xs = refl
any_next out (Some x) xs = some_any out x xs
