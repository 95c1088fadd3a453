-- Texts in one list of bytes.
use Rattle.std.proofs.Common.{◌≡◌, ℕ, zero, suc, ◌+◌, ◌-◌, ◌<◌, ◌≤◌, List, [], ◌∷◌, ◌++◌, length, take, drop, map, slice_get, Some, None, refl, sym, ap, ◌∙◌, subst, append_assoc, append-nil, length-append, length-drop, length-take, arith}
use Rattle.std.specs.Prelude.{slice_range}
use Rattle.std.specs.Option.{option_map}
use Rattle.std.proofs.lemmas.List.{take_at, drop_at, drop-drop}
use Rattle.std.proofs.lemmas.Option.{slice_get-map}
use Rattle.sshc_wire.specs.declared.place.Place.{Place}
use Rattle.sshc_wire.specs.Packing.{IsPacked, joined, places_from, text_of, texts_in}

pub none_packed : IsPacked [] []
none_packed = record { texts = []; row = refl; laid = refl }

-- ---- texts and their places

text_here : (pre t post : List ℕ) (n : ℕ) → length pre ≡ n → slice_range (pre ++ (t ++ post)) n (n + length t) ≡ t
text_here pre t post n len =
    let count : n + length t - n ≡ length t = omega arith in
    rw (drop_at pre (t ++ post) n len, count) (take_at t post (length t) refl)

-- the texts at their places are the texts
texts_back : (pre : List ℕ) (texts : List (List ℕ)) (n : ℕ) → length pre ≡ n → texts_in (pre ++ joined texts) (places_from n texts) ≡ texts
texts_back pre [] n len = refl
texts_back pre (t ∷ texts) n len =
    let all : pre ++ (t ++ joined texts) ≡ (pre ++ t) ++ joined texts = sym (append_assoc pre t (joined texts)) in
    let next : texts_in (pre ++ (t ++ joined texts)) (places_from (n + length t) texts) ≡ texts =
    ap (λ (b : List ℕ). texts_in b (places_from (n + length t) texts)) all ∙ texts_back (pre ++ t) texts (n + length t) (omega (arith, len, length-append pre t)) in
    ap (λ (x : List ℕ). x ∷ texts_in (pre ++ (t ++ joined texts)) (places_from (n + length t) texts)) (text_here pre t (joined texts) n len)
    ∙ ap (λ (ts : List (List ℕ)). t ∷ ts) next

drop_mapped : {A B : Type 0} (f : A → B) (n : ℕ) (xs : List A) → map f (drop n xs) ≡ drop n (map f xs)
drop_mapped f zero xs = refl
drop_mapped f (suc n) [] = refl
drop_mapped f (suc n) (x ∷ xs) = drop_mapped f n xs

-- what is held
held_are : (bytes : List ℕ) (places : List Place) (first : ℕ) (p : IsPacked bytes places) → texts_in bytes (drop first places) ≡ drop first p.texts
held_are bytes places first p =
    drop_mapped (text_of bytes) first places
    ∙ ap (drop first) (ap (λ (b : List ℕ). texts_in b places) p.row ∙ ap (texts_in (joined p.texts)) p.laid ∙ texts_back [] p.texts 0 refl)

count_places : (n : ℕ) (texts : List (List ℕ)) → length (places_from n texts) ≡ length texts
count_places n [] = refl
count_places n (t ∷ texts) = ap suc (count_places (n + length t) texts)

length_mapped : {A B : Type 0} (f : A → B) (xs : List A) → length (map f xs) ≡ length xs
length_mapped f [] = refl
length_mapped f (x ∷ xs) = ap suc (length_mapped f xs)

pub held_len : (bytes : List ℕ) (places : List Place) (first : ℕ) → length places - first ≡ length (texts_in bytes (drop first places))
held_len bytes places first = sym (length_mapped (text_of bytes) (drop first places) ∙ length-drop first places)

drop_further : {A : Type 0} (n : ℕ) (xs : List A) → drop 1 (drop n xs) ≡ drop (n + 1) xs
drop_further n xs = drop-drop 1 n xs

pub held_rest : (bytes : List ℕ) (places : List Place) (first : ℕ) → texts_in bytes (drop (first + 1) places) ≡ drop 1 (texts_in bytes (drop first places))
held_rest bytes places first = ap (texts_in bytes) (sym (drop_further first places)) ∙ drop_mapped (text_of bytes) 1 (drop first places)

-- ---- one more text

joined_more : (texts : List (List ℕ)) (t : List ℕ) → joined (texts ++ t ∷ []) ≡ joined texts ++ t
joined_more [] t = append-nil t
joined_more (x ∷ texts) t = ap (λ (b : List ℕ). x ++ b) (joined_more texts t) ∙ sym (append_assoc x (joined texts) t)

abbrev at_end : ℕ → List ℕ → List Place
at_end n t = record { start = n; stop = n + length t } ∷ []

places_more : (n m : ℕ) (texts : List (List ℕ)) (t : List ℕ) → m ≡ n + length (joined texts) → places_from n (texts ++ t ∷ []) ≡ places_from n texts ++ at_end m t
places_more n m [] t is = let same : m ≡ n = omega (arith, is) in rw same refl
places_more n m (x ∷ texts) t is =
    ap (λ (ps : List Place). record { start = n; stop = n + length x } ∷ ps) (places_more (n + length x) m texts t (omega (arith, is, length-append x (joined texts))))

more_packed : (bytes t : List ℕ) (places : List Place) → IsPacked bytes places → IsPacked (bytes ++ t) (places ++ at_end (length bytes) t)
more_packed bytes t places p =
    let count : length bytes ≡ 0 + length (joined p.texts) = omega (arith, ap length p.row) in
    record {
      texts = p.texts ++ t ∷ [];
      row = ap (λ (b : List ℕ). b ++ t) p.row ∙ sym (joined_more p.texts t);
      laid = ap (λ (ps : List Place). ps ++ at_end (length bytes) t) p.laid ∙ sym (places_more 0 (length bytes) p.texts t count);
    }

pub pushed_packed : (bytes now t : List ℕ) (places after : List Place) → IsPacked bytes places → now ≡ bytes ++ t → after ≡ places ++ record { start = length bytes; stop = length now } ∷ [] → IsPacked now after
pushed_packed bytes now t places after p is are =
    let stop : length now ≡ length bytes + length t = ap length is ∙ length-append bytes t in
    let ends : after ≡ places ++ at_end (length bytes) t = are ∙ ap (λ (n : ℕ). places ++ record { start = length bytes; stop = n } ∷ []) stop in
    subst (λ (b : List ℕ). IsPacked b after) (sym is) (subst (λ (ps : List Place). IsPacked (bytes ++ t) ps) (sym ends) (more_packed bytes t places p))

drop_before : {A : Type 0} (n : ℕ) (xs ys : List A) → n ≤ length xs → drop n (xs ++ ys) ≡ drop n xs ++ ys
drop_before zero xs ys h = refl
drop_before (suc n) [] ys h = absurd (omega (arith, h))
drop_before (suc n) (x ∷ xs) ys h = drop_before n xs ys (omega (arith, h))

pub pushed_texts : (bytes now t : List ℕ) (places after : List Place) (first : ℕ) → IsPacked bytes places → first ≤ length places → now ≡ bytes ++ t
    → after ≡ places ++ record { start = length bytes; stop = length now } ∷ [] → texts_in now (drop first after) ≡ texts_in bytes (drop first places) ++ t ∷ []
unfolding more_packed
pushed_texts bytes now t places after first p within is are =
    let stop : length now ≡ length bytes + length t = ap length is ∙ length-append bytes t in
    let ends : after ≡ places ++ at_end (length bytes) t = are ∙ ap (λ (n : ℕ). places ++ record { start = length bytes; stop = n } ∷ []) stop in
    let packed : IsPacked (bytes ++ t) (places ++ at_end (length bytes) t) = more_packed bytes t places p in
    let count : length places ≡ length p.texts = ap length p.laid ∙ count_places 0 p.texts in
    ap (λ (b : List ℕ). texts_in b (drop first after)) is ∙ ap (λ (ps : List Place). texts_in (bytes ++ t) (drop first ps)) ends
    ∙ held_are (bytes ++ t) (places ++ at_end (length bytes) t) first packed
    ∙ drop_before first p.texts (t ∷ []) (omega (arith, within, count))
    ∙ ap (λ (ts : List (List ℕ)). ts ++ t ∷ []) (sym (held_are bytes places first p))

-- ---- a place

place_in : (n : ℕ) (texts : List (List ℕ)) (at : ℕ) (q : Place) → slice_get (places_from n texts) at ≡ Some q → (q.start ≤ q.stop) × (q.stop ≤ n + length (joined texts))
place_in n [] at q there = absurd cc
place_in n (t ∷ texts) zero q there =
    let same : record { start = n; stop = n + length t } ≡ q = cc in
    subst (λ (r : Place). (r.start ≤ r.stop) × (r.stop ≤ n + length (t ++ joined texts))) same (omega arith, omega (arith, length-append t (joined texts)))
place_in n (t ∷ texts) (suc at) q there =
    let h = place_in (n + length t) texts at q there in
    (h.0, omega (arith, h.1, length-append t (joined texts)))

dropped_get : {A : Type 0} (n at : ℕ) (xs : List A) → slice_get (drop n xs) at ≡ slice_get xs (n + at)
dropped_get zero at xs = let same : at ≡ 0 + at = omega arith in ap (slice_get xs) same
dropped_get (suc n) at [] = refl
dropped_get (suc n) at (x ∷ xs) = let same : suc (n + at) ≡ suc n + at = omega arith in dropped_get n at xs ∙ ap (slice_get (x ∷ xs)) same

place_bounds : (bytes : List ℕ) (places : List Place) (first at : ℕ) (q : Place) → IsPacked bytes places → slice_get (drop first places) at ≡ Some q → (q.start ≤ q.stop) × (q.stop ≤ length bytes)
place_bounds bytes places first at q p there =
    let h = place_in 0 p.texts (first + at) q (ap (λ (ps : List Place). slice_get ps (first + at)) (sym p.laid) ∙ sym (dropped_get first at places) ∙ there) in
    (h.0, omega (arith, h.1, ap length p.row))

pub place_order : (bytes : List ℕ) (places : List Place) (first at : ℕ) (q : Place) → IsPacked bytes places → Some q ≡ slice_get (drop first places) at → q.start ≤ q.stop
place_order bytes places first at q p there = (place_bounds bytes places first at q p (sym there)).0

pub place_within : (bytes : List ℕ) (places : List Place) (first at : ℕ) (q : Place) → IsPacked bytes places → Some q ≡ slice_get (drop first places) at → q.stop ≤ length bytes
place_within bytes places first at q p there = (place_bounds bytes places first at q p (sym there)).1

pub text_there : (bytes : List ℕ) (places : List Place) (first at : ℕ) (q : Place) (t : List ℕ) → Some q ≡ slice_get (drop first places) at → t ≡ slice_range bytes q.start q.stop
    → Some t ≡ slice_get (texts_in bytes (drop first places)) at
text_there bytes places first at q t there is = ap (λ (x : List ℕ). Some x) is ∙ ap (option_map (text_of bytes)) there ∙ sym (slice_get-map (text_of bytes) (drop first places) at)

pub none_there : (bytes : List ℕ) (places : List Place) (first at : ℕ) → None ≡ slice_get (drop first places) at → None ≡ slice_get (texts_in bytes (drop first places)) at
none_there bytes places first at there = ap (option_map (text_of bytes)) there ∙ sym (slice_get-map (text_of bytes) (drop first places) at)

-- ---- all texts from one on

start_is : (n : ℕ) (texts : List (List ℕ)) (first : ℕ) (q : Place) → slice_get (drop first (places_from n texts)) 0 ≡ Some q → q.start ≡ n + length (joined (take first texts))
start_is n [] zero q there = absurd cc
start_is n [] (suc first) q there = absurd cc
start_is n (t ∷ texts) zero q there = let same : record { start = n; stop = n + length t } ≡ q = cc in sym (ap (λ (r : Place). r.start) same) ∙ omega arith
start_is n (t ∷ texts) (suc first) q there = omega (arith, start_is (n + length t) texts first q there, length-append t (joined (take first texts)))

joined_split : (first : ℕ) (texts : List (List ℕ)) → joined texts ≡ joined (take first texts) ++ joined (drop first texts)
joined_split zero texts = refl
joined_split (suc first) [] = refl
joined_split (suc first) (t ∷ texts) = ap (λ (b : List ℕ). t ++ b) (joined_split first texts) ∙ sym (append_assoc t (joined (take first texts)) (joined (drop first texts)))

pub joined_from : (bytes : List ℕ) (places : List Place) (first : ℕ) (q : Place) → IsPacked bytes places → Some q ≡ slice_get (drop first places) 0 → drop q.start bytes ≡ joined (texts_in bytes (drop first places))
joined_from bytes places first q p there =
    let from_none : q.start ≡ 0 + length (joined (take first p.texts)) = start_is 0 p.texts first q (ap (λ (ps : List Place). slice_get (drop first ps) 0) (sym p.laid) ∙ sym there) in
    let start : q.start ≡ length (joined (take first p.texts)) = omega (arith, from_none) in
    let split : bytes ≡ joined (take first p.texts) ++ joined (drop first p.texts) = p.row ∙ joined_split first p.texts in
    ap (drop q.start) split ∙ drop_at (joined (take first p.texts)) (joined (drop first p.texts)) q.start (sym start) ∙ ap joined (sym (held_are bytes places first p))

pub joined_none : (bytes : List ℕ) (places : List Place) (first : ℕ) → None ≡ slice_get (drop first places) 0 → [] ≡ joined (texts_in bytes (drop first places))
joined_none bytes places first none = by (drop first places) none
  where
    by : (ps : List Place) → None ≡ slice_get ps 0 → [] ≡ joined (texts_in bytes ps)
    by [] h = refl
    by (q ∷ ps) h = absurd cc

pub start_within : (bytes : List ℕ) (places : List Place) (first : ℕ) (q : Place) → IsPacked bytes places → Some q ≡ slice_get (drop first places) 0 → q.start ≤ length bytes
start_within bytes places first q p there = let h = place_bounds bytes places first 0 q p (sym there) in omega (arith, h.0, h.1)

-- a longer list of places has the cursor in it
pub still_within : (places after : List Place) (q : Place) (first : ℕ) → after ≡ places ++ q ∷ [] → first ≤ length places → first ≤ length after
still_within places after q first are within = omega (arith, ap length are, length-append places (q ∷ []), within)

-- ---- fewer texts

start_at : (n : ℕ) (texts : List (List ℕ)) (keep : ℕ) (q : Place) → slice_get (places_from n texts) keep ≡ Some q → q.start ≡ n + length (joined (take keep texts))
start_at n [] keep q there = absurd cc
start_at n (t ∷ texts) zero q there = let same : record { start = n; stop = n + length t } ≡ q = cc in sym (ap (λ (r : Place). r.start) same) ∙ omega arith
start_at n (t ∷ texts) (suc keep) q there = omega (arith, start_at (n + length t) texts keep q there, length-append t (joined (take keep texts)))

take_places : (n keep : ℕ) (texts : List (List ℕ)) → take keep (places_from n texts) ≡ places_from n (take keep texts)
take_places n zero texts = refl
take_places n (suc keep) [] = refl
take_places n (suc keep) (t ∷ texts) = ap (λ (ps : List Place). record { start = n; stop = n + length t } ∷ ps) (take_places (n + length t) keep texts)

some_place : (places : List Place) (keep : ℕ) → keep < length places → (q : Place) × (slice_get places keep ≡ Some q)
some_place [] keep within = absurd (omega (arith, within))
some_place (q ∷ places) zero within = (q, refl)
some_place (q ∷ places) (suc keep) within = some_place places keep (omega (arith, within))

pub cut_packed : (bytes now : List ℕ) (places after : List Place) (keep start : ℕ) → IsPacked bytes places → keep < length places → ((q : Place) → slice_get places keep ≡ Some q → start ≡ q.start)
    → now ≡ take start bytes → after ≡ take keep places → IsPacked now after
cut_packed bytes now places after keep start p within begins is are =
    let found = some_place places keep within in
    let there : slice_get (places_from 0 p.texts) keep ≡ Some found.0 = ap (λ (ps : List Place). slice_get ps keep) (sym p.laid) ∙ found.1 in
    let at : found.0.start ≡ 0 + length (joined (take keep p.texts)) = start_at 0 p.texts keep found.0 there in
    let len : length (joined (take keep p.texts)) ≡ start = omega (arith, at, begins found.0 found.1) in
    record {
      texts = take keep p.texts;
      row = is ∙ ap (take start) (p.row ∙ joined_split keep p.texts) ∙ take_at (joined (take keep p.texts)) (joined (drop keep p.texts)) start len;
      laid = are ∙ ap (take keep) p.laid ∙ take_places 0 keep p.texts;
    }

take_none : {A : Type 0} (n : ℕ) (xs : List A) → xs ≡ [] → take n xs ≡ []
take_none zero xs h = refl
take_none (suc n) [] h = refl
take_none (suc n) (x ∷ xs) h = absurd cc

drop_taken : {A : Type 0} (first keep : ℕ) (xs : List A) → first ≤ keep → drop first (take keep xs) ≡ take (keep - first) (drop first xs)
drop_taken zero keep xs h = let same : keep ≡ keep - 0 = omega arith in ap (λ (n : ℕ). take n xs) same
drop_taken (suc first) zero xs h = absurd (omega (arith, h))
drop_taken (suc first) (suc keep) [] h = sym (take_none (suc keep - suc first) [] refl)
drop_taken (suc first) (suc keep) (x ∷ xs) h = let same : keep - first ≡ suc keep - suc first = omega arith in drop_taken first keep xs (omega (arith, h)) ∙ ap (λ (n : ℕ). take n (drop first xs)) same

pub cut_texts : (bytes now : List ℕ) (places after : List Place) (first keep start : ℕ) → IsPacked bytes places → first ≤ keep → keep < length places → ((q : Place) → slice_get places keep ≡ Some q → start ≡ q.start)
    → now ≡ take start bytes → after ≡ take keep places → texts_in now (drop first after) ≡ take (keep - first) (texts_in bytes (drop first places))
unfolding cut_packed
cut_texts bytes now places after first keep start p held within begins is are =
    held_are now after first (cut_packed bytes now places after keep start p within begins is are)
    ∙ drop_taken first keep p.texts held
    ∙ ap (take (keep - first)) (sym (held_are bytes places first p))

pub cut_within : (places after : List Place) (first keep : ℕ) → first ≤ keep → keep < length places → after ≡ take keep places → first ≤ length after
cut_within places after first keep held within are = omega (arith, held, within, ap length are, length-take keep places)

take_more : {A : Type 0} (n : ℕ) (xs : List A) → length xs ≤ n → take n xs ≡ xs
take_more zero [] h = refl
take_more zero (x ∷ xs) h = absurd (omega (arith, h))
take_more (suc n) [] h = refl
take_more (suc n) (x ∷ xs) h = ap (λ (ys : List _). x ∷ ys) (take_more n xs (omega (arith, h)))

-- all texts are kept
pub kept_all : (bytes : List ℕ) (places : List Place) (first count : ℕ) → length places ≤ first + count → texts_in bytes (drop first places) ≡ take count (texts_in bytes (drop first places))
kept_all bytes places first count h = sym (take_more count (texts_in bytes (drop first places)) (omega (arith, h, sym (held_len bytes places first))))

-- no text is left where the last one goes
pub last_goes : (bytes : List ℕ) (places : List Place) (first : ℕ) → length places ≤ first + 1 → [] ≡ drop 1 (texts_in bytes (drop first places))
last_goes bytes places first few = by (drop first places) (omega (arith, few, length-drop first places))
  where
    by : (ps : List Place) → length ps ≤ 1 → [] ≡ drop 1 (texts_in bytes ps)
    by [] h = refl
    by (q ∷ []) h = refl
    by (q ∷ p ∷ ps) h = absurd (omega (arith, h))
