-- An event's text is read as its head, and the bytes of a head that is read are its text.
use Rattle.std.proofs.Common.{◌≡◌, ℕ, ◌+◌, ◌<◌, ◌≤◌, ◌^◌, Bool, true, false, cond, ltb, List, [], ◌∷◌, ◌++◌, length, take, drop, Option, Some, None, Result, Ok, Err, refl, sym, ap, subst, ◌∙◌, arith}
use Rattle.std.specs.Prelude.{◌||◌}
use Rattle.std.specs.Int.{w32, w64, from_be_bytes}
use Rattle.std.proofs.lemmas.Bool.{ltb-false, le-ltb}
use Rattle.std.proofs.lemmas.List.{take-append-drop, length-take}
use Rattle.std.proofs.lemmas.Nat.{be_bytes_4, from_be_bytes-to_be_bytes_4}
use Rattle.sshc_wire.specs.Wire.{IsBytes, u32_text, u64_text}
use Rattle.sshc_wire.specs.Reads.{◌>>=◌, byte_at, number_at}
use Rattle.sshc_wire.specs.Format.{part_at}
use Rattle.sshc_wire.specs.FormatLaws.{behind_are_bytes, bind_ok, faults_ok}
use Rattle.sshc_wire.specs.WholeLaws.{front_are_bytes}
use Rattle.sshc_wire.specs.PartsLaws.{a_byte, number64}
use Rattle.sshc_run_reader.specs.declared.error.EventError.{EventError}
use Rattle.sshc_run_reader.specs.declared.error.EventError.TheVariants as reads
use Rattle.sshc_run_reader.specs.declared.event_kind.EventKind.{EventKind}
use Rattle.sshc_run_reader.specs.declared.event_kind.EventKind.TheVariants.{PeerKexinit}
use Rattle.sshc_run_reader.specs.EventKinds.{kind_number, kind_numbered}
use Rattle.sshc_run_reader.specs.EventKindsLaws.{number_again, numbered_is}
use Rattle.sshc_run_reader.specs.EventParts.{as_bad}
use Rattle.sshc_run_reader.specs.Script.{Head, Bad, Whole, front, head_at, head_of, sized_front, whole_front}
use Rattle.sshc_run_reader.specs.ScriptGrammar.{event_text}
use Rattle.sshc_run_reader.proofs.Fronts.{whole_is}

-- the bytes after an event's length
abbrev body_text : ℕ → EventKind → List ℕ → List ℕ
body_text moment kind fields = u64_text moment ++ (kind_number kind ∷ fields)

kind_small : (k : EventKind) → kind_number k < 256
kind_small PeerKexinit = omega arith
kind_small k = omega arith

length_of_body : (moment : ℕ) (kind : EventKind) (fields : List ℕ) → length (body_text moment kind fields) ≡ 9 + length fields
unfolding u64_text
length_of_body moment kind fields = omega arith

pub length_of_event : (moment : ℕ) (kind : EventKind) (fields : List ℕ) → length (event_text moment kind fields) ≡ 13 + length fields
unfolding event_text u32_text u64_text
length_of_event moment kind fields = omega arith

head_again : (last moment : ℕ) (kind : EventKind) (fields : List ℕ) → last ≤ moment → moment < 2 ^ 64 →
    head_at last (body_text moment kind fields) ≡ Ok (moment, (kind, fields))
unfolding head_at
head_again last moment kind fields later small =
    let number = number64.again moment (kind_number kind ∷ fields) small in
    let byte = a_byte.again (kind_number kind) fields (kind_small kind) in
    let in_order : ltb moment last ≡ false = le-ltb _ _ later in
    rw (number, byte, number_again kind, in_order) refl

-- an event's text at the front is that event, whatever follows
pub event_again : (last moment : ℕ) (kind : EventKind) (fields rest : List ℕ) → last ≤ moment → moment < 2 ^ 64 →
    9 + length fields ≤ 262144 →
    front last (event_text moment kind fields ++ rest) ≡ Whole (moment, (kind, fields)) rest
unfolding event_text u32_text
event_again last moment kind fields rest later small short =
    let n : ℕ = 9 + length fields in
    let size : n ≡ from_be_bytes w32 (u32_text n) = sym (from_be_bytes-to_be_bytes_4 n (omega arith)) in
    whole_is last n (u32_text n) (body_text moment kind fields) rest refl size (omega arith) short
    (length_of_body moment kind fields)
    ∙ ap (λ r. whole_front r rest) (head_again last moment kind fields later small)

-- ---- what was read

head_of_is : (last moment : ℕ) (o : Option EventKind) (fields : List ℕ) (head : Head) → head_of last moment o fields ≡ Ok head
    → (kind : EventKind) × (o ≡ Some kind) × (last ≤ moment) × ((moment, (kind, fields)) ≡ head)
head_of_is last moment None fields head e = absurd cc
head_of_is last moment (Some kind) fields head e = let h = in_order (ltb moment last) refl e in (kind, refl, h.0, h.1)
  where
    in_order : (b : Bool) → ltb moment last ≡ b → cond b (Err reads.Bad) (Ok (moment, (kind, fields))) ≡ Ok head →
        (last ≤ moment) × ((moment, (kind, fields)) ≡ head)
    in_order true is e = absurd cc
    in_order false is e = (ltb-false _ _ is, cc)

-- the parts of a head that was read
record IsHead (last : ℕ) (body : List ℕ) (head : Head) : Type 0 where
  pub later : last ≤ head.0
  pub small : head.0 < 2 ^ 64
  pub text : body ≡ body_text head.0 head.1.0 head.1.1

head_there : (last : ℕ) (body : List ℕ) (head : Head) → IsBytes body → head_at last body ≡ Ok head → IsHead last body head
unfolding head_at
head_there last body head fits e =
    let m = bind_ok (part_at as_bad (number_at w64) body) (λ moment. part_at as_bad byte_at moment.1 >>= λ number. head_of last moment.0 (kind_numbered number.0) number.1) head e in
    let k = bind_ok (part_at as_bad byte_at m.0.1) (λ number. head_of last m.0.0 (kind_numbered number.0) number.1) head m.2 in
    let moment = number64.takes body m.0.0 m.0.1 fits (faults_ok as_bad (number_at w64 body) m.0 m.1) in
    let later : IsBytes m.0.1 = behind_are_bytes (u64_text m.0.0) m.0.1 (subst IsBytes moment.0 fits) in
    let number = a_byte.takes m.0.1 k.0.0 k.0.1 later (faults_ok as_bad (byte_at m.0.1) k.0 k.1) in
    let is = head_of_is last m.0.0 (kind_numbered k.0.0) k.0.1 head k.2 in
    let named : kind_number is.0 ≡ k.0.0 = numbered_is k.0.0 is.0 is.1 in
    let text : body ≡ body_text m.0.0 is.0 k.0.1 = moment.0 ∙ ap (λ (t : List ℕ). u64_text m.0.0 ++ t) (number.0 ∙ ap (λ (n : ℕ). n ∷ k.0.1) (sym named)) in
    subst (λ (h : Head). IsHead last body h) is.3 (record { later = is.2; small = moment.1; text = text })

-- what is known of an event that was found
pub record IsFound (last : ℕ) (bytes : List ℕ) (head : Head) (rest : List ℕ) : Type 0 where
  pub later : last ≤ head.0
  pub small : head.0 < 2 ^ 64
  pub short : 9 + length head.1.1 ≤ 262144
  pub text : bytes ≡ event_text head.0 head.1.0 head.1.1 ++ rest

whole_of : (r : Result Head EventError) (left : List ℕ) (head : Head) (rest : List ℕ) → whole_front r left ≡ Whole head rest → (r ≡ Ok head) × (left ≡ rest)
whole_of (Ok x) left head rest e = let is : x ≡ head = cc in (ap (λ (h : Head). Ok h) is, cc)
whole_of (Err d) left head rest e = absurd cc

sized_there : (last n : ℕ) (left : List ℕ) (head : Head) (rest : List ℕ) → sized_front last n left ≡ Whole head rest →
    (n ≤ 262144) × (n ≤ length left) × (head_at last (take n left) ≡ Ok head) × (drop n left ≡ rest)
unfolding sized_front
sized_there last n left head rest e = by_tests (ltb n 9) (ltb 262144 n) (ltb (length left) n) refl refl e
  where
    by_tests : (a b c : Bool) → ltb 262144 n ≡ b → ltb (length left) n ≡ c →
        cond ((a || b) || c) Bad (whole_front (head_at last (take n left)) (drop n left)) ≡ Whole head rest →
        (n ≤ 262144) × (n ≤ length left) × (head_at last (take n left) ≡ Ok head) × (drop n left ≡ rest)
    by_tests false false false i j e =
        let h = whole_of (head_at last (take n left)) (drop n left) head rest e in
        (ltb-false _ _ i, ltb-false _ _ j, h.0, h.1)
    by_tests a b c i j e = absurd cc

-- the bytes of an event that is found are its text
pub event_there : (last : ℕ) (bytes : List ℕ) (head : Head) (rest : List ℕ) → IsBytes bytes → front last bytes ≡ Whole head rest → IsFound last bytes head rest
unfolding front event_text u32_text
event_there last [] head rest fits e = absurd cc
event_there last (a ∷ []) head rest fits e = absurd cc
event_there last (a ∷ b ∷ []) head rest fits e = absurd cc
event_there last (a ∷ b ∷ c ∷ []) head rest fits e = absurd cc
event_there last (a ∷ b ∷ c ∷ d ∷ left) head rest fits e =
    let four : List ℕ = a ∷ b ∷ c ∷ d ∷ [] in
    let n : ℕ = from_be_bytes w32 four in
    let sized = sized_there last n left head rest e in
    let number : u32_text n ≡ four = be_bytes_4 four n refl (front_are_bytes four left fits) refl in
    let cut : take n left ++ drop n left ≡ left = take-append-drop n left in
    let later : IsBytes left = behind_are_bytes four left fits in
    let body : IsBytes (take n left) = front_are_bytes (take n left) (drop n left) (subst IsBytes (sym cut) later) in
    let is = head_there last (take n left) head body sized.2 in
    let size : n ≡ 9 + length head.1.1 =
    omega (arith, length-take n left, sized.1, ap length is.text, length_of_body head.0 head.1.0 head.1.1) in
    let whole : left ≡ body_text head.0 head.1.0 head.1.1 ++ rest =
    sym cut ∙ ap (λ (t : List ℕ). t ++ drop n left) is.text
    ∙ ap (λ (t : List ℕ). body_text head.0 head.1.0 head.1.1 ++ t) sized.3 in
    record {
      later = is.later;
      small = is.small;
      short = omega (arith, size, sized.0);
      text = ap (λ (t : List ℕ). t ++ left) (sym number ∙ ap u32_text size)
          ∙ ap (λ (t : List ℕ). u32_text (9 + length head.1.1) ++ t) whole;
    }
