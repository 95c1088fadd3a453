-- A pattern matches a name where the code says so: what follows a `*` may be tried at the first place where it fits up
-- to the next `*`, since the next `*` takes whatever a later place would leave.
use Rattle.std.proofs.Common.{◌≡◌, ℕ, zero, suc, ◌+◌, Bool, true, false, List, [], ◌∷◌, drop, refl, ap, sym, ◌∙◌, arith}
use Rattle.std.proofs.lemmas.List.{drop-drop}
use Rattle.std.specs.Prelude.{◌==◌, ◌&&◌, ◌||◌, if◌then◌else◌}
use Rattle.std.specs.List.{list_any}
use Rattle.sshc_hosts_openssh.specs.Patterns.{endings, fits, matches}
use Rattle.sshc_hosts_openssh.specs.PatternSteps.{Stop, fails, ends, star, front, or_later, seek, stop_matches}

-- ---- endings of a name

or_no : (a : Bool) → (a || false) ≡ a
or_no true = refl
or_no false = refl

or_left : (a b : Bool) → a ≡ true → (a || b) ≡ true
or_left true b h = refl
or_left false b h = let e : false ≡ true = h in absurd (cc)

or_right : (a b : Bool) → b ≡ true → (a || b) ≡ true
or_right true b h = refl
or_right false b h = h

any_ending : (q : List ℕ → Bool) (d : ℕ) (name : List ℕ) → q (drop d name) ≡ true → list_any q (endings name) ≡ true
any_ending q zero [] h = or_left _ _ h
any_ending q zero (c ∷ name) h = or_left _ _ h
any_ending q (suc d) [] h = or_left _ _ h
any_ending q (suc d) (c ∷ name) h = or_right _ _ (any_ending q d name h)

abbrev HasEnding : (List ℕ → Bool) → List ℕ → Type 0
HasEnding q name = (d : ℕ) × (q (drop d name) ≡ true)

ending_case : (q : List ℕ → Bool) (c : ℕ) (name : List ℕ) (b : Bool) → q (c ∷ name) ≡ b → (b || list_any q (endings name)) ≡ true
    → (list_any q (endings name) ≡ true → HasEnding q name) → HasEnding q (c ∷ name)
ending_case q c name true is h later = (0, is)
ending_case q c name false is h later = let (d, e) = later h in (suc d, e)

some_ending : (q : List ℕ → Bool) (name : List ℕ) → list_any q (endings name) ≡ true → HasEnding q name
some_ending q [] h = (0, sym (or_no (q [])) ∙ h)
some_ending q (c ∷ name) h = ending_case q c name (q (c ∷ name)) refl h (some_ending q name)

-- ---- a pattern up to its first `*`

star_empty : (p : ℕ) (pattern : List ℕ) (b : Bool) → (p == 42) ≡ b → (b && matches pattern []) ≡ stop_matches (if b then star pattern [] else fails)
star_empty p pattern true is = sym (or_no (matches pattern []))
star_empty p pattern false is = refl

fitting : (b : Bool) (pattern name : List ℕ) → matches pattern name ≡ stop_matches (front pattern name)
    → (b && matches pattern name) ≡ stop_matches (if b then front pattern name else fails)
fitting true pattern name h = h
fitting false pattern name h = refl

stepped : (b f : Bool) (pattern name : List ℕ) (c : ℕ) → matches pattern name ≡ stop_matches (front pattern name)
    → (if b then list_any (λ rest. matches pattern rest) (endings (c ∷ name)) else (f && matches pattern name))
    ≡ stop_matches (if b then star pattern (c ∷ name) else if f then front pattern name else fails)
stepped true f pattern name c h = refl
stepped false f pattern name c h = fitting f pattern name h

pub matches_front : (pattern name : List ℕ) → matches pattern name ≡ stop_matches (front pattern name)
matches_front [] [] = refl
matches_front [] (c ∷ name) = refl
matches_front (p ∷ pattern) [] = star_empty p pattern (p == 42) refl
matches_front (p ∷ pattern) (c ∷ name) = stepped (p == 42) (fits p c) pattern name c (matches_front pattern name)

-- ---- what a later place leaves

star_is : (p : ℕ) (pattern name : List ℕ) → (p == 42) ≡ true → matches (p ∷ pattern) name ≡ list_any (λ rest. matches pattern rest) (endings name)
star_is p pattern [] is = ap (λ b. b && matches pattern []) is ∙ sym (or_no (matches pattern []))
star_is p pattern (c ∷ name) is = ap (λ b. if b then list_any (λ rest. matches pattern rest) (endings (c ∷ name)) else (fits p c && matches pattern name)) is

stop_at_star : (p : ℕ) (pattern name : List ℕ) → (p == 42) ≡ true → front (p ∷ pattern) name ≡ star pattern name
stop_at_star p pattern [] is = ap (λ b. if b then star pattern [] else fails) is
stop_at_star p pattern (c ∷ name) is = ap (λ b. if b then star pattern (c ∷ name) else if fits p c then front pattern name else fails) is

-- the `*` takes whatever a later place leaves
absorbed : (later : List ℕ) (rest name : List ℕ) (d : ℕ) → rest ≡ drop d name → list_any (λ r. matches later r) (endings rest) ≡ true
    → list_any (λ r. matches later r) (endings name) ≡ true
absorbed later rest name d is h =
    let (e, so) = some_ending (λ r. matches later r) rest h in
    any_ending (λ r. matches later r) (d + e) name (ap (λ r. matches later r) (sym (ap (drop e) is ∙ drop-drop e d name)) ∙ so)

abbrev MatchesLater : List ℕ → List ℕ → Type 0
MatchesLater later name = list_any (λ r. matches later r) (endings name) ≡ true

star_parts : (p p' n n' : List ℕ) → star p n ≡ star p' n' → (p ≡ p') × (n ≡ n')
star_parts p p' n n' e = (cc, cc)

at_star : (p : ℕ) (pattern name rest later left : List ℕ) (d : ℕ) → (p == 42) ≡ true → rest ≡ drop d name → front (p ∷ pattern) name ≡ star later left
    → matches (p ∷ pattern) rest ≡ true → MatchesLater later left
at_star p pattern name rest later left d is at stop h =
    let (same, whole) = star_parts pattern later name left (sym (stop_at_star p pattern name is) ∙ stop) in
    rw (sym same, sym whole) (absorbed pattern rest name d at (sym (star_is p pattern rest is) ∙ h))

and_right : (a b : Bool) → (a && b) ≡ true → b ≡ true
and_right true b h = h
and_right false b h = let e : false ≡ true = h in absurd (cc)

front_case : (f : Bool) (pattern name later left : List ℕ) → (if f then front pattern name else fails) ≡ star later left → front pattern name ≡ star later left
front_case true pattern name later left h = h
front_case false pattern name later left h = let e : fails ≡ star later left = h in absurd (cc)

next_ending : (d c : ℕ) (rest name : List ℕ) → (c ∷ rest) ≡ drop d name → rest ≡ drop (suc d) name
next_ending d c rest name is = ap (drop 1) is ∙ drop-drop 1 d name ∙ ap (λ (n : ℕ). drop n name) (let e : d + 1 ≡ suc d = omega arith in e)

-- a later place at which the pattern matches
abbrev LaterPlace : List ℕ → Type 0
LaterPlace pattern = (name rest later left : List ℕ) (d : ℕ) → rest ≡ drop d name → front pattern name ≡ star later left → matches pattern rest ≡ true
    → MatchesLater later left

step_rest : (p c : ℕ) (pattern name rest later left : List ℕ) (d : ℕ) → LaterPlace pattern → (p == 42) ≡ false → rest ≡ drop d (c ∷ name)
    → front pattern name ≡ star later left → matches (p ∷ pattern) rest ≡ true → MatchesLater later left
step_rest p c pattern name [] later left d next not_star at stop h =
    let e : false ≡ true = sym (ap (λ b. b && matches pattern []) not_star) ∙ h in absurd (cc)
step_rest p c pattern name (c' ∷ rest) later left d next not_star at stop h =
    let plain : matches (p ∷ pattern) (c' ∷ rest) ≡ (fits p c' && matches pattern rest) =
    ap (λ b. if b then list_any (λ r. matches pattern r) (endings (c' ∷ rest)) else (fits p c' && matches pattern rest)) not_star in
    next name rest later left d (next_ending d c' rest (c ∷ name) at) stop (and_right (fits p c') (matches pattern rest) (sym plain ∙ h))

step_case : (b : Bool) (p c : ℕ) (pattern name rest later left : List ℕ) (d : ℕ) → LaterPlace pattern → (p == 42) ≡ b → rest ≡ drop d (c ∷ name)
    → front (p ∷ pattern) (c ∷ name) ≡ star later left → matches (p ∷ pattern) rest ≡ true → MatchesLater later left
step_case true p c pattern name rest later left d next is at stop h = at_star p pattern (c ∷ name) rest later left d is at stop h
step_case false p c pattern name rest later left d next is at stop h =
    let fit : (if fits p c then front pattern name else fails) ≡ star later left =
    sym (ap (λ b. if b then star pattern (c ∷ name) else if fits p c then front pattern name else fails) is) ∙ stop in
    step_rest p c pattern name rest later left d next is at (front_case (fits p c) pattern name later left fit) h

empty_case : (b : Bool) (p : ℕ) (pattern rest later left : List ℕ) (d : ℕ) → (p == 42) ≡ b → rest ≡ drop d [] → front (p ∷ pattern) [] ≡ star later left
    → matches (p ∷ pattern) rest ≡ true → MatchesLater later left
empty_case true p pattern rest later left d is at stop h = at_star p pattern [] rest later left d is at stop h
empty_case false p pattern rest later left d is at stop h =
    let e : fails ≡ star later left = sym (ap (λ b. if b then star pattern [] else fails) is) ∙ stop in absurd (cc)

pub later_place : (pattern : List ℕ) → LaterPlace pattern
later_place [] [] rest later left d at stop h = let e : ends ≡ star later left = stop in absurd (cc)
later_place [] (c ∷ name) rest later left d at stop h = let e : fails ≡ star later left = stop in absurd (cc)
later_place (p ∷ pattern) [] rest later left d at stop h = empty_case (p == 42) p pattern rest later left d refl at stop h
later_place (p ∷ pattern) (c ∷ name) rest later left d at stop h =
    step_case (p == 42) p c pattern name rest later left d (later_place pattern) refl at stop h

-- ---- the first place where a pattern doesn't fail

whole_case : (pattern : List ℕ) (c : ℕ) (name later left : List ℕ) (b : Bool) → list_any (λ rest. matches pattern rest) (endings name) ≡ b
    → front pattern (c ∷ name) ≡ star later left
    → (list_any (λ rest. matches later rest) (endings left) || b) ≡ list_any (λ rest. matches later rest) (endings left)
whole_case pattern c name later left false is stop = or_no (list_any (λ rest. matches later rest) (endings left))
whole_case pattern c name later left true is stop =
    let (d, so) = some_ending (λ rest. matches pattern rest) name is in
    let found : MatchesLater later left = later_place pattern (c ∷ name) (drop d name) later left (suc d) refl stop so in
    or_left _ _ found ∙ sym found

seek_case : (pattern : List ℕ) (c : ℕ) (name : List ℕ) (stop : Stop) → front pattern (c ∷ name) ≡ stop → list_any (λ rest. matches pattern rest) (endings name) ≡ stop_matches (seek pattern name)
    → (stop_matches stop || list_any (λ rest. matches pattern rest) (endings name)) ≡ stop_matches (or_later stop (seek pattern name))
seek_case pattern c name fails is later = later
seek_case pattern c name ends is later = refl
seek_case pattern c name (star pattern' left) is later = whole_case pattern c name pattern' left (list_any (λ rest. matches pattern rest) (endings name)) refl is

pub seek_any : (pattern name : List ℕ) → list_any (λ rest. matches pattern rest) (endings name) ≡ stop_matches (seek pattern name)
seek_any pattern [] = or_no (matches pattern []) ∙ matches_front pattern []
seek_any pattern (c ∷ name) =
    ap (λ b. b || list_any (λ rest. matches pattern rest) (endings name)) (matches_front pattern (c ∷ name))
    ∙ seek_case pattern c name (front pattern (c ∷ name)) refl (seek_any pattern name)

pub matching_begun : (pattern name : List ℕ) (stop : Stop) → stop ≡ front pattern name → stop_matches stop ≡ matches pattern name
matching_begun pattern name stop is = ap stop_matches is ∙ sym (matches_front pattern name)

pub matching_on : (pattern name : List ℕ) (old stop : Stop) (b : Bool) → old ≡ star pattern name → stop ≡ seek pattern name → stop_matches old ≡ b → stop_matches stop ≡ b
matching_on pattern name old stop b was is h = ap stop_matches is ∙ sym (seek_any pattern name) ∙ sym (ap stop_matches was) ∙ h
