-- A prefix of a line, after the lines before it.
use Rattle.std.proofs.Common.{◌≡◌, ℕ, ◌+◌, ◌<◌, List, [], ◌∷◌, ◌++◌, length, take, drop, get_or, ap, sym, ◌∙◌, Option}
use Rattle.std.proofs.lemmas.List.{take-append-drop, take_more, append-nil}
use Rattle.std.proofs.lemmas.List.Concat.{flat_map-append}
use Rattle.sshc_forward_core.specs.declared.output.FwdOutput.{FwdOutput}
use Rattle.sshc_wire.specs.Contents.{append, WroteFront}
use Rattle.sshc_wire.specs.ContentsLaws.{append-append, wrote_more}
use Rattle.sshc_forward_core.specs.OutputLines.{line, lines}

lines_split : (rs : List FwdOutput) (i : ℕ) (r : FwdOutput) → i < length rs → r ≡ get_or rs i r → lines rs ≡ lines (take i rs) ++ line r ++ lines (drop (i + 1) rs)
lines_split rs i r lt is =
    let more : take (i + 1) rs ≡ take i rs ++ r ∷ [] = take_more rs i r lt ∙ ap (λ x. take i rs ++ x ∷ []) (sym is) in
    let whole : rs ≡ take i rs ++ r ∷ [] ++ drop (i + 1) rs = sym (take-append-drop (i + 1) rs) ∙ ap (λ xs. xs ++ drop (i + 1) rs) more in
    ap lines whole ∙ flat_map-append line (take i rs ++ r ∷ []) (drop (i + 1) rs) ∙ ap (λ t. t ++ lines (drop (i + 1) rs)) (flat_map-append line (take i rs) (r ∷ []))
    ∙ ap (λ t. lines (take i rs) ++ t ++ lines (drop (i + 1) rs)) (append-nil (line r))

pub cut_line : (rs : List FwdOutput) (i : ℕ) (r : FwdOutput) (a b c : Option (List ℕ)) → i < length rs → r ≡ get_or rs i r →
    b ≡ append a (lines (take i rs)) → WroteFront b c (line r) → WroteFront a c (lines rs)
cut_line rs i r a b c lt is first cut =
    rw (lines_split rs i r lt is) (wrote_more a b c (lines (take i rs)) (line r) (lines (drop (i + 1) rs)) first cut)

-- one line more
pub next_line : (rs : List FwdOutput) (i : ℕ) (r : FwdOutput) (a b c : Option (List ℕ)) → i < length rs → r ≡ get_or rs i r →
    b ≡ append a (lines (take i rs)) → c ≡ append b (line r) → c ≡ append a (lines (take (i + 1) rs))
next_line rs i r a b c lt is first more =
    let one : lines (take (i + 1) rs) ≡ lines (take i rs) ++ line r =
    ap lines (take_more rs i r lt ∙ ap (λ x. take i rs ++ x ∷ []) (sym is)) ∙ flat_map-append line (take i rs) (r ∷ []) ∙ ap (λ t. lines (take i rs) ++ t) (append-nil (line r))
    in
    more ∙ ap (λ o. append o (line r)) first ∙ append-append a (lines (take i rs)) (line r) ∙ ap (append a) (sym one)
