-- A prefix of a key's line, after the lines before it.
use Rattle.std.proofs.Common.{◌≡◌, ℕ, ◌+◌, ◌<◌, List, [], ◌∷◌, ◌++◌, length, take, drop, get_or, ap, sym, ◌∙◌, Option}
use Rattle.std.proofs.lemmas.List.{take-append-drop, take_more, append-nil}
use Rattle.std.proofs.lemmas.List.Concat.{flat_map-append}
use Rattle.sshc_hosts.specs.Judgement.{KnownKey}
use Rattle.sshc_wire.specs.Contents.{append, WroteFront}
use Rattle.sshc_wire.specs.ContentsLaws.{wrote_more}
use Rattle.sshc_hosts_words.specs.Told.{key_line, key_lines}

lines_split : (ks : List KnownKey) (i : ℕ) (k : KnownKey) → i < length ks → k ≡ get_or ks i k → key_lines ks ≡ key_lines (take i ks) ++ key_line k ++ key_lines (drop (i + 1) ks)
lines_split ks i k lt is =
    let more : take (i + 1) ks ≡ take i ks ++ k ∷ [] = take_more ks i k lt ∙ ap (λ x. take i ks ++ x ∷ []) (sym is) in
    let whole : ks ≡ take i ks ++ k ∷ [] ++ drop (i + 1) ks = sym (take-append-drop (i + 1) ks) ∙ ap (λ xs. xs ++ drop (i + 1) ks) more in
    ap key_lines whole ∙ flat_map-append key_line (take i ks ++ k ∷ []) (drop (i + 1) ks) ∙ ap (λ t. t ++ key_lines (drop (i + 1) ks)) (flat_map-append key_line (take i ks) (k ∷ []))
    ∙ ap (λ t. key_lines (take i ks) ++ t ++ key_lines (drop (i + 1) ks)) (append-nil (key_line k))

pub cut_line : (ks : List KnownKey) (i : ℕ) (k : KnownKey) (a b c : Option (List ℕ)) → i < length ks → k ≡ get_or ks i k →
    b ≡ append a (key_lines (take i ks)) → WroteFront b c (key_line k) → WroteFront a c (key_lines ks)
cut_line ks i k a b c lt is first cut =
    rw (lines_split ks i k lt is) (wrote_more a b c (key_lines (take i ks)) (key_line k) (key_lines (drop (i + 1) ks)) first cut)
