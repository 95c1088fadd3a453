-- How learning a key affects the judgement: the key is accepted unless an old line refuses it, and no other host's
-- judgement changes.
use Rattle.std.proofs.Common.{◌<◌, ◌^◌, ◌≡◌, ◌≢◌, ℕ, Bool, true, false, List, [], ◌∷◌, ◌++◌, Some, None, Ok, refl, ap, sym, ◌∙◌}
use Rattle.std.specs.Prelude.{if◌then◌else◌, option_map, bytes_eq}
use Rattle.std.specs.List.{cons_option}
use Rattle.std.proofs.lemmas.Bool.{false_from_ne_true}
use Rattle.std.proofs.lemmas.List.{append-nil}
use Rattle.std.proofs.lemmas.Slice.Eq.{bytes_eq-Decides}
use Rattle.sshc_key.specs.KeyGrammar.{Key, key_name, key_text}
use Rattle.sshc_hosts.specs.MatchingLines.{marked_as, parts_at, line_key, matching}
use Rattle.sshc_hosts.specs.Judgement.{is_certificate, read_lines, marked_keys, judged_by, judged}
use Rattle.sshc_key.specs.KeyText.{decoded_key}
use Rattle.sshc_hosts.specs.Learning.{Lacks, IsLearnable, ends_line, added_line, once_learned, learned, IsLearnableKey, Learns}
use Rattle.sshc_hosts.specs.HostText.{host_text}
use Rattle.sshc_hosts.specs.declared.marks.Mark.TheVariants.{Recorded}
use Rattle.base64.specs.Engines.{standard}
use Rattle.base64.specs.GeneralPurpose.{encode_of}
use Rattle.sshc_key.specs.Algorithms.{commented_text, key_base64, openssh_text}
use Rattle.std.proofs.Common.{append_assoc, subst}
use Rattle.sshc_hosts.proofs.Base64Lemmas.{base64_no_space, base64_no_line_feed}
use Rattle.sshc_hosts.proofs.NameLemmas.{name_no_space, name_no_line_feed}
use Rattle.sshc_hosts.proofs.LineLemmas.{matching-added, added_number}
use Rattle.sshc_hosts.proofs.LearningLemmas.{line_key-learned, Lacks-append, Lacks-cons, last_field, field_before, IsLearnable-host_text}
use Rattle.sshc_hosts.proofs.JudgementLemmas.{judged-more}

-- a line of a host text, an algorithm's name, a key's base64 and what follows it
pub record IsLearnedLine (host name field rest : List ℕ) : Type 0 where
  pub learnable : IsLearnable host host
  pub name_space : Lacks name 32
  pub name_line_feed : Lacks name 10
  pub rest_line_feed : Lacks rest 10
  pub later : List (List ℕ)
  pub fields : parts_at 32 rest ≡ field ∷ later

line_of : List ℕ → List ℕ → List ℕ → List ℕ
line_of host name rest = host ++ 32 ∷ (name ++ 32 ∷ rest)

one_line : (host name field rest : List ℕ) → IsLearnedLine host name field rest → Lacks (host ++ 32 ∷ (name ++ 32 ∷ rest)) 10
one_line host name field rest line =
    Lacks-append host (32 ∷ (name ++ 32 ∷ rest)) 10 line.learnable.no_line_feed
    (Lacks-cons 32 (name ++ 32 ∷ rest) 10 refl (Lacks-append name (32 ∷ rest) 10 line.name_line_feed (Lacks-cons 32 rest 10 refl line.rest_line_feed)))

-- the matching lines, by whether the added line matches
added_matches : (old other host name field rest : List ℕ) (b : Bool) → IsLearnedLine host name field rest → bytes_eq host other ≡ b
    → matching (old ++ added_line old (host ++ 32 ∷ (name ++ 32 ∷ rest))) other
    ≡ matching old other ++ cons_option (option_map (λ key. (added_number old (ends_line old), key)) (if b then Some (marked_as Recorded field) else None)) []
added_matches old other host name field rest b line same =
    let text : List ℕ = host ++ 32 ∷ (name ++ 32 ∷ rest) in
    let found : line_key other text ≡ (if b then Some (marked_as Recorded field) else None) =
    line_key-learned other host name rest field line.later line.learnable line.name_space line.fields ∙ ap (λ v. if v then Some (marked_as Recorded field) else None) same in
    matching-added other old text (one_line host name field rest line)
    ∙ ap (λ o. matching old other ++ cons_option (option_map (λ key. (added_number old (ends_line old), key)) o) []) found

-- the key is accepted for its host, unless an old line refuses it
pub learned_is_accepted : (old host name field rest : List ℕ) (key : Key) → IsLearnedLine host name field rest → is_certificate key ≡ false → decoded_key field ≡ Ok key
    → judged (old ++ added_line old (host ++ 32 ∷ (name ++ 32 ∷ rest))) host key ≡ once_learned (judged old host key)
unfolding judged marked_keys
learned_is_accepted old host name field rest key line plain is =
    ap (λ found. judged_by (read_lines found) key) (added_matches old host host name field rest true line ((bytes_eq-Decides host host).1 refl))
    ∙ judged-more (matching old host) (added_number old (ends_line old)) field key plain is

-- no other host text's lines change
pub learning_touches_no_other : (old other host name field rest : List ℕ) → IsLearnedLine host name field rest → other ≢ host
    → matching (old ++ added_line old (host ++ 32 ∷ (name ++ 32 ∷ rest))) other ≡ matching old other
learning_touches_no_other old other host name field rest line apart =
    let differ : bytes_eq host other ≡ false = false_from_ne_true (bytes_eq host other) (λ e. apart (sym ((bytes_eq-Decides host other).0 e))) in
    added_matches old other host name field rest false line differ ∙ append-nil (matching old other)

-- ---- the line of a key

comment_line : (comment : List ℕ) → Lacks comment 10 → Lacks (commented_text comment) 10
comment_line [] none = none
comment_line (b ∷ comment) none = Lacks-cons 32 (b ∷ comment) 10 refl none

comment_fields : (field comment : List ℕ) → Lacks field 32 → (later : List (List ℕ)) × (parts_at 32 (field ++ commented_text comment) ≡ field ∷ later)
comment_fields field [] plain = ([], ap (parts_at 32) (append-nil field) ∙ last_field field plain)
comment_fields field (b ∷ comment) plain = (parts_at 32 (b ∷ comment), field_before field (b ∷ comment) plain)

learned_line : (host : List ℕ) (key : Key × List ℕ) → IsLearnable host host → IsLearnableKey key
    → IsLearnedLine host (key_name key.0) (encode_of standard (key_text key.0)) (encode_of standard (key_text key.0) ++ commented_text key.1)
learned_line host key fit good =
    let field : List ℕ = encode_of standard (key_text key.0) in
    let fields = comment_fields field key.1 (base64_no_space (key_text key.0)) in
    record {
      learnable = fit;
      name_space = name_no_space key.0 good.fits;
      name_line_feed = name_no_line_feed key.0 good.fits;
      rest_line_feed = Lacks-append field (commented_text key.1) 10 (base64_no_line_feed (key_text key.0)) (comment_line key.1 good.one_line);
      later = fields.0;
      fields = fields.1;
    }

line_text : (host : List ℕ) (key : Key) (comment : List ℕ) → host ++ 32 ∷ openssh_text key comment ≡ host ++ 32 ∷ (key_name key ++ 32 ∷ (encode_of standard (key_text key) ++ commented_text comment))
line_text host key comment = simp append_assoc

-- learning a key for a host at a port
pub learns : (old host : List ℕ) (port : ℕ) (key : Key × List ℕ) → port < 2 ^ 64 → IsLearnable host (host_text host port) → IsLearnableKey key
    → decoded_key (key_base64 key.0) ≡ Ok key.0 → Learns old (learned old (host_text host port) key) (host_text host port) key.0
unfolding learned judged marked_keys
learns old host port key short fit good is_read =
    let text : List ℕ = host_text host port in
    let line : IsLearnedLine text (key_name key.0) (encode_of standard (key_text key.0)) (encode_of standard (key_text key.0) ++ commented_text key.1) =
    learned_line text key (IsLearnable-host_text host port short fit) good in
    let parts : host_text host port ++ 32 ∷ openssh_text key.0 key.1 ≡ text ++ 32 ∷ (key_name key.0 ++ 32 ∷ (encode_of standard (key_text key.0) ++ commented_text key.1)) =
    line_text text key.0 key.1 in
    subst (λ (whole : List ℕ). Learns old (added_line old whole) text key.0) (sym parts)
    (record {
      accepted = learned_is_accepted old text (key_name key.0) _ _ key.0 line good.no_certificate is_read;
      others = λ other k apart. ap (λ found. judged_by (read_lines found) k) (learning_touches_no_other old other text (key_name key.0) _ _ line apart);
    })
