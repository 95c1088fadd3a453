-- A run after some of the events that are handed to it.
use Rattle.std.proofs.Common.{◌≡◌, ℕ, ◌+◌, ◌<◌, List, [], ◌∷◌, ◌++◌, length, drop, take, get_or, refl, ap, sym, ◌∙◌, append_assoc}
use Rattle.std.specs.List.{flat_map}
use Rattle.std.proofs.Math.Seq.{drop-append_seam, drop-length}
use Rattle.std.proofs.lemmas.List.{append-nil, take_more}
use Rattle.std.proofs.lemmas.List.Concat.{flat_map-append}
use Rattle.sshc_key.specs.Signers.{SignCall, since}
use Rattle.sshc_run_script.specs.PausedRuns.{History, followed_by, text_since}

-- what was added in two parts
added_two : {A : Type 0} (a b c : List A) → b ≡ a ++ drop (length a) b → c ≡ b ++ drop (length b) c → drop (length a) c ≡ drop (length a) b ++ drop (length b) c
added_two a b c first second =
    let both : c ≡ a ++ (drop (length a) b ++ drop (length b) c) = second ∙ ap (λ (l : List _). l ++ drop (length b) c) first ∙ append_assoc a (drop (length a) b) (drop (length b) c) in
    ap (drop (length a)) both ∙ drop-append_seam a (drop (length a) b ++ drop (length b) c)

-- a history with two parts more
pub followed_two : (h : History) (one other : List ℕ) (calls calls' : List SignCall) (text text' : List ℕ) → followed_by (followed_by h one calls text) other calls' text' ≡ followed_by h (one ++ other) (calls ++ calls') (text ++ text')
followed_two h one other calls calls' text text' =
    ap (λ (s : List ℕ). record { script = s; calls = (h.calls ++ calls) ++ calls'; text = (h.text ++ text) ++ text' }) (append_assoc h.script one other)
    ∙ ap (λ (c : List SignCall). record { script = h.script ++ (one ++ other); calls = c; text = (h.text ++ text) ++ text' }) (append_assoc h.calls calls calls')
    ∙ ap (λ (t : List ℕ). record { script = h.script ++ (one ++ other); calls = h.calls ++ (calls ++ calls'); text = t }) (append_assoc h.text text text')

abbrev pub bytes_of : List (List ℕ) → List ℕ
bytes_of events = flat_map (λ event. event) events

-- after one event more
pub followed_more : (h : History) (handed : List (List ℕ)) (event : List ℕ) (calls calls' calls'' : List SignCall) (text text' text'' : List ℕ) → calls' ≡ calls ++ since calls calls' → calls'' ≡ calls' ++ since calls' calls'' →
    text' ≡ text ++ text_since text text' → text'' ≡ text' ++ text_since text' text'' →
    followed_by (followed_by h (bytes_of handed) (since calls calls') (text_since text text')) event (since calls' calls'') (text_since text' text'') ≡ followed_by h (bytes_of (handed ++ event ∷ [])) (since calls calls'') (text_since text text'')
followed_more h handed event calls calls' calls'' text text' text'' first second one other =
    followed_two h (bytes_of handed) event (since calls calls') (since calls' calls'') (text_since text text') (text_since text' text'')
    ∙ ap (λ (bytes : List ℕ). followed_by h bytes (since calls calls' ++ since calls' calls'') (text_since text text' ++ text_since text' text''))
    (ap (λ (bytes : List ℕ). bytes_of handed ++ bytes) (sym (append-nil event)) ∙ sym (flat_map-append (λ (e : List ℕ). e) handed (event ∷ [])))
    ∙ ap (λ (cs : List SignCall). followed_by h (bytes_of (handed ++ event ∷ [])) cs (text_since text text' ++ text_since text' text'')) (sym (added_two calls calls' calls'' first second))
    ∙ ap (λ (t : List ℕ). followed_by h (bytes_of (handed ++ event ∷ [])) (since calls calls'') t) (sym (added_two text text' text'' one other))

-- ---- what was added

pub none_added : {A : Type 0} (a : List A) → a ≡ a ++ drop (length a) a
none_added a = sym (ap (λ (l : List _). a ++ l) (drop-length a) ∙ append-nil a)

pub added_on : {A : Type 0} (a b c : List A) → b ≡ a ++ drop (length a) b → c ≡ b ++ drop (length b) c → c ≡ a ++ drop (length a) c
added_on a b c first second =
    second ∙ ap (λ (l : List _). l ++ drop (length b) c) first ∙ append_assoc a (drop (length a) b) (drop (length b) c) ∙ ap (λ (l : List _). a ++ l) (sym (added_two a b c first second))

pub followed_none : (h : History) (calls : List SignCall) (text : List ℕ) → h ≡ followed_by h [] (since calls calls) (text_since text text)
followed_none h calls text =
    let no_calls : since calls calls ≡ [] = drop-length calls in
    let no_text : text_since text text ≡ [] = drop-length text in
    rw (no_calls, no_text, append-nil h.script, append-nil h.calls, append-nil h.text) refl

pub one_more : (events : List (List ℕ)) (i : ℕ) (event item : List ℕ) → i < length events → item ≡ get_or events i item → event ≡ item → take (i + 1) events ≡ take i events ++ event ∷ []
one_more events i event item lt is same = take_more events i item lt ∙ ap (λ (e : List ℕ). take i events ++ e ∷ []) (sym is ∙ sym same)
