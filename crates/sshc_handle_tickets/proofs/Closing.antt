-- Closed channels by their marks, and the closes that are held.
use Rattle.std.proofs.Common.{ℕ, ◌+◌, ◌≤◌, length, length-append, ◌≡◌, refl, sym, ap, subst, ◌∙◌, arith, Bool, true, false, true≢false, not, ◌||◌, ◌&&◌, nat_eq, List, [], ◌∷◌, ◌++◌, Option, Some, None, is_some, filter, if◌then◌else◌}
use Rattle.std.proofs.lemmas.Bool.Decides.{nat_tests}
use Rattle.std.specs.List.{list_any}
use Rattle.sshc_wire.specs.declared.channel_id.ChannelId.{ChannelId}
use Rattle.sshc_wire.specs.declared.record.Record.{Record}
use Rattle.sshc_wire.specs.declared.record.Record.TheVariants.{Channel}
use Rattle.sshc_wire.specs.declared.channel_record.ChannelRecord.TheVariants.{Close}
use Rattle.sshc_handle_tickets.specs.declared.marks.Marks.{Marks}
use Rattle.sshc_handle_tickets.specs.Marks.{AreMarked, IsKept, is_close, is_marked}
use Rattle.sshc_handle_tickets.specs.Tickets.{first_of, is_channel, without_first}

by_case : {P : Type 0} (b : Bool) → (b ≡ true → P) → (b ≡ false → P) → P
by_case true when_true when_false = when_true refl
by_case false when_true when_false = when_false refl

any_later : (a b : Bool) → b ≡ true → a || b ≡ true
any_later true b good = refl
any_later false b good = good

any_rise : (a b c : Bool) → (b ≡ true → c ≡ true) → a || b ≡ true → a || c ≡ true
any_rise true b c up good = refl
any_rise false b c up good = up good

-- what passes a test among those that are left passed it before
pub any_left : {A : Type 0} (test taken : A → Bool) (xs : List A) → list_any test (without_first taken xs) ≡ true → list_any test xs ≡ true
unfolding without_first
any_left test taken [] good = good
any_left test taken (x ∷ xs) good =
    by_case (taken x)
    (λ hit. any_later (test x) (list_any test xs) (subst (λ b. list_any test (if b then xs else x ∷ without_first taken xs) ≡ true) hit good))
    (λ miss. any_rise (test x) (list_any test (without_first taken xs)) (list_any test xs) (any_left test taken xs) (subst (λ b. list_any test (if b then xs else x ∷ without_first taken xs) ≡ true) miss good))

passes_in : {A : Type 0} → (A → Bool) → Option A → Bool
passes_in test None = false
passes_in test (Some x) = test x

some_same : {A : Type 0} (test : A → Bool) (y x : A) → y ≡ x → test x ≡ true → test y ≡ true
some_same test y x same good = ap test same ∙ good

any_first : (a b : Bool) → a ≡ true → a || b ≡ true
any_first a b good = rw good refl

any_this : {A : Type 0} (test : A → Bool) (y : A) (ys : List A) (x : A) → Some y ≡ Some x → test x ≡ true → test y || list_any test ys ≡ true
unfolding passes_in
any_this test y ys x same good = any_first (test y) (list_any test ys) (some_same (passes_in test) (Some y) (Some x) same good)

-- what is taken passes no test that none passes
pub any_taken : {A : Type 0} (test taken : A → Bool) (xs : List A) (x : A) → first_of taken xs ≡ Some x → test x ≡ true → list_any test xs ≡ true
unfolding first_of
any_taken test taken [] x found good = absurd (true≢false (sym (ap is_some found)))
any_taken test taken (y ∷ ys) x found good =
    by_case (taken y)
    (λ hit. any_this test y ys x (subst (λ b. (if b then Some y else first_of taken ys) ≡ Some x) hit found) good)
    (λ miss. any_later (test y) (list_any test ys) (any_taken test taken ys x (subst (λ b. (if b then Some y else first_of taken ys) ≡ Some x) miss found) good))

exchanged : (a b c : Bool) → a || (b || c) ≡ b || (a || c)
exchanged true true c = refl
exchanged true false c = refl
exchanged false b c = refl

pub any_put : {A : Type 0} (test : A → Bool) (xs : List A) (x : A) → list_any test (xs ++ x ∷ []) ≡ test x || list_any test xs
any_put test [] x = refl
any_put test (y ∷ ys) x = ap (λ b. test y || b) (any_put test ys x) ∙ exchanged (test y) (test x) (list_any test ys)

hit_cut : (k number n : ℕ) (b : Bool) → nat_eq k number ≡ true → not (nat_eq number n) && b ≡ not (nat_eq number n) && (nat_eq k n || b)
hit_cut k number n b hit = grind (arith, nat_tests, hit)

miss_cut : (k number n : ℕ) (b : Bool) → nat_eq k number ≡ false → nat_eq k n || (not (nat_eq number n) && b) ≡ not (nat_eq number n) && (nat_eq k n || b)
miss_cut k number n b miss = grind (arith, nat_tests, miss)

-- those of one number are cut out
pub any_cut : (number n : ℕ) (closed : List ChannelId) → list_any (is_channel n) (filter (λ (id : ChannelId). not (is_channel number id)) closed) ≡ not (nat_eq number n) && list_any (is_channel n) closed
any_cut number n [] = grind (arith, nat_tests)
any_cut number n (id ∷ ids) =
    by_case (is_channel number id)
    (λ hit. rw hit (any_cut number n ids ∙ hit_cut id.0 number n (list_any (is_channel n) ids) hit))
    (λ miss. rw miss (ap (λ b. is_channel n id || b) (any_cut number n ids) ∙ miss_cut id.0 number n (list_any (is_channel n) ids) miss))

-- where there are none, nothing is cut
pub none_cut : (number : ℕ) (closed : List ChannelId) → list_any (is_channel number) closed ≡ false → closed ≡ filter (λ (id : ChannelId). not (is_channel number id)) closed
none_cut number [] none = refl
none_cut number (id ∷ ids) none =
    by_case (is_channel number id)
    (λ hit. absurd (true≢false (subst (λ b. b || list_any (is_channel number) ids ≡ false) hit none)))
    (λ miss. rw miss (ap (λ rest. id ∷ rest) (none_cut number ids (subst (λ b. b || list_any (is_channel number) ids ≡ false) miss none))))

-- the closes that are still held were held before
pub left_by : (taken : Record → Bool) (old new : List Record) → new ≡ without_first taken old → (number : ℕ) → list_any (is_close number) new ≡ true → list_any (is_close number) old ≡ true
left_by taken old new rest number good = any_left (is_close number) taken old (subst (λ xs. list_any (is_close number) xs ≡ true) rest good)

-- what is kept when a record is taken that is no close
pub kept_left : (taken : Record → Bool) (old new : List Record) (closed : List ChannelId) (capacity : ℕ) (marks : Marks) → IsKept old closed capacity marks → new ≡ without_first taken old → length new ≤ length old → IsKept new closed capacity marks
kept_left taken old new closed capacity marks kept rest fewer =
    let room = kept.room in
    record {
      room = omega (arith, fewer, room);
      marked = kept.marked;
      closing = λ number good. kept.closing number (left_by taken old new rest number good);
    }

-- a close that is taken was held
pub any_closed : (taken : Record → Bool) (held : List Record) (output : Option Record) → output ≡ first_of taken held → (id : ChannelId) → output ≡ Some (Channel id Close) → (number : ℕ) → number ≡ id.0 → list_any (is_close number) held ≡ true
any_closed taken held output found id is number same = any_taken (is_close number) taken held (Channel id Close) (sym found ∙ is) (grind (arith, nat_tests, same))

pub marked_put : (marks new : Marks) (closed longer : List ChannelId) (id : ChannelId) → AreMarked marks closed → ((n : ℕ) → is_marked new n ≡ nat_eq id.0 n || is_marked marks n) → longer ≡ closed ++ id ∷ [] → AreMarked new longer
marked_put marks new closed longer id kept marked put = λ n. marked n ∙ ap (λ b. nat_eq id.0 n || b) (kept n) ∙ sym (ap (list_any (is_channel n)) put ∙ any_put (is_channel n) closed id)

pub marked_cut : (marks new : Marks) (closed fewer : List ChannelId) (number : ℕ) → AreMarked marks closed → ((n : ℕ) → is_marked new n ≡ not (nat_eq number n) && is_marked marks n) →
    fewer ≡ filter (λ (id : ChannelId). not (is_channel number id)) closed → AreMarked new fewer
marked_cut marks new closed fewer number kept cleared cut = λ n. cleared n ∙ ap (λ b. not (nat_eq number n) && b) (kept n) ∙ sym (ap (list_any (is_channel n)) cut ∙ any_cut number n closed)

pub room_put : (old new : List Record) (closed longer : List ChannelId) (id : ChannelId) (capacity : ℕ) → length new + 1 ≡ length old → longer ≡ closed ++ id ∷ [] → length old + length closed ≤ capacity → length new + length longer ≤ capacity
room_put old new closed longer id capacity one put room = rw put (grind (arith, length-append, one, room))
