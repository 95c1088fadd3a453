-- Lists of blobs at their deadlines: what is added, what goes, what is moved.
use Rattle.std.proofs.Common.{◌≡◌, ℕ, ◌+◌, ◌<◌, Bool, true, false, cond, not, eqb, List, [], ◌∷◌, ◌++◌, length, Option, Some, None, refl, sym, ap, ◌∙◌, subst, arith}
use Rattle.std.specs.Prelude.{◌&&◌, bytes_eq}
use Rattle.std.proofs.lemmas.List.Sums.{sum_by-cons, sum_by_push}
use Rattle.std.proofs.lemmas.Slice.Eq.{bytes_eq-Decides}
use Rattle.std.proofs.lemmas.Bool.{eqb-true, eq-eqb, false_from_ne_true}
use Rattle.sshc_agent_core.specs.Deadlines.{Adds, Drops, IsDropped, IsMoved, IsReplaced, IsReplacedAt, Leaves, Lists, added, if_there, is_then, listed_at, one, others, times, unless_empty}

-- ---- lists of blobs

listed_unless : (blobs : List (List ℕ)) → listed_at (unless_empty blobs) ≡ blobs
listed_unless [] = refl
listed_unless (b ∷ blobs) = refl

full_unless : (blobs : List (List ℕ)) → unless_empty blobs ≡ Some [] → ⊥
full_unless [] h = absurd cc
full_unless (b ∷ blobs) h = absurd cc

full_pushed : (blobs : List (List ℕ)) (b : List ℕ) → Some (blobs ++ b ∷ []) ≡ Some [] → ⊥
full_pushed [] b h = absurd cc
full_pushed (x ∷ blobs) b h = absurd cc

pub same_blob : (a b : List ℕ) → bytes_eq a b ≡ true → a ≡ b
same_blob a b h = (bytes_eq-Decides a b).0 h

pub is_same : (a : List ℕ) → bytes_eq a a ≡ true
is_same a = (bytes_eq-Decides a a).1 refl

-- how often a blob stands among the others
gone_by : (c d : Bool) (n m : ℕ) → d ≡ c → n ≡ cond c 0 m → n ≡ cond c 0 (one d + m)
gone_by true d n m is h = h
gone_by false true n m is h = absurd cc
gone_by false false n m is h = omega (arith, h)

pub stays_by : (c d : Bool) (n m : ℕ) → (c ≡ true → d ≡ false) → n ≡ cond c 0 m → one d + n ≡ cond c 0 (one d + m)
stays_by true true n m not_both h = let no : true ≡ false = not_both refl in absurd cc
stays_by true false n m not_both h = omega (arith, h)
stays_by false d n m not_both h = ap (λ (k : ℕ). one d + k) h

-- a blob that isn't x, and is b: then b isn't x
pub unlike : (x blob b : List ℕ) → bytes_eq x blob ≡ false → bytes_eq blob b ≡ true → bytes_eq x b ≡ false
unlike x blob b differ is = sym (ap (bytes_eq x) (same_blob blob b is)) ∙ differ

others_by : (e : Bool) (x blob b : List ℕ) (rest blobs : List (List ℕ)) → bytes_eq x blob ≡ e
    → times b rest ≡ cond (bytes_eq blob b) 0 (times b blobs) → times b (cond (not e) (x ∷ rest) rest) ≡ cond (bytes_eq blob b) 0 (times b (x ∷ blobs))
others_by true x blob b rest blobs same h =
    let alike : bytes_eq x b ≡ bytes_eq blob b = ap (λ (a : List ℕ). bytes_eq a b) (same_blob x blob same) in
    gone_by (bytes_eq blob b) (bytes_eq x b) (times b rest) (times b blobs) alike h ∙ ap (λ (n : ℕ). cond (bytes_eq blob b) 0 n) (sym (sum_by-cons (λ (y : List ℕ). one (bytes_eq y b)) x blobs))
others_by false x blob b rest blobs differ h =
    sum_by-cons (λ (y : List ℕ). one (bytes_eq y b)) x rest
    ∙ stays_by (bytes_eq blob b) (bytes_eq x b) (times b rest) (times b blobs) (unlike x blob b differ) h
    ∙ ap (λ (n : ℕ). cond (bytes_eq blob b) 0 n) (sym (sum_by-cons (λ (y : List ℕ). one (bytes_eq y b)) x blobs))

pub no_times : (c : Bool) → 0 ≡ cond {A = ℕ} c 0 0
no_times true = refl
no_times false = refl

times_others : (blob b : List ℕ) (blobs : List (List ℕ)) → times b (others blob blobs) ≡ cond (bytes_eq blob b) 0 (times b blobs)
times_others blob b [] = no_times (bytes_eq blob b)
times_others blob b (x ∷ blobs) = others_by (bytes_eq x blob) x blob b (others blob blobs) blobs refl (times_others blob b blobs)

-- ---- what is added and what goes

-- the counts after a blob was added
pub added_counts : (o : Option ℕ) (blob : List ℕ) (old new : Lists) → Adds o blob old new → (q : ℕ) (b : List ℕ)
    → times b (listed_at (new q)) ≡ times b (listed_at (old q)) + one (is_then o q && bytes_eq blob b)
added_counts None blob old new h q b = rw (h q) (omega arith)
added_counts (Some moment) blob old new h q b = by (eqb moment q) (h q)
  where
    by : (c : Bool) → new q ≡ cond c (Some (listed_at (old q) ++ blob ∷ [])) (old q) → times b (listed_at (new q)) ≡ times b (listed_at (old q)) + one (c && bytes_eq blob b)
    by true is = rw is (sum_by_push (λ (x : List ℕ). one (bytes_eq x b)) (listed_at (old q)) blob)
    by false is = rw is (omega arith)

pub added_full : (o : Option ℕ) (blob : List ℕ) (old new : Lists) → Adds o blob old new → ((q : ℕ) → old q ≡ Some [] → ⊥) → (q : ℕ) → new q ≡ Some [] → ⊥
added_full None blob old new h full q e = full q (sym (h q) ∙ e)
added_full (Some moment) blob old new h full q e = by (eqb moment q) (h q)
  where
    by : (c : Bool) → new q ≡ cond c (Some (listed_at (old q) ++ blob ∷ [])) (old q) → ⊥
    by true is = full_pushed (listed_at (old q)) blob (sym is ∙ e)
    by false is = full q (sym is ∙ e)

-- the counts after a blob went
pub dropped_counts : (o : Option ℕ) (blob : List ℕ) (old new : Lists) → Drops o blob old new → (q : ℕ) (b : List ℕ)
    → times b (listed_at (new q)) ≡ cond (is_then o q && bytes_eq blob b) 0 (times b (listed_at (old q)))
dropped_counts None blob old new h q b = rw (h q) refl
dropped_counts (Some moment) blob old new h q b = by (eqb moment q) (h q)
  where
    by : (c : Bool) → new q ≡ cond c (unless_empty (others blob (listed_at (old q)))) (old q) → times b (listed_at (new q)) ≡ cond (c && bytes_eq blob b) 0 (times b (listed_at (old q)))
    by true is = rw (is, listed_unless (others blob (listed_at (old q)))) (times_others blob b (listed_at (old q)))
    by false is = rw is refl

pub dropped_full : (o : Option ℕ) (blob : List ℕ) (old new : Lists) → Drops o blob old new → ((q : ℕ) → old q ≡ Some [] → ⊥) → (q : ℕ) → new q ≡ Some [] → ⊥
dropped_full None blob old new h full q e = full q (sym (h q) ∙ e)
dropped_full (Some moment) blob old new h full q e = by (eqb moment q) (h q)
  where
    by : (c : Bool) → new q ≡ cond c (unless_empty (others blob (listed_at (old q)))) (old q) → ⊥
    by true is = full_unless (others blob (listed_at (old q))) (sym is ∙ e)
    by false is = full q (sym is ∙ e)

-- ---- truth values and deadlines

pub and_first : (a b : Bool) → (a && b) ≡ true → a ≡ true
and_first true b h = refl
and_first false b h = absurd cc

pub and_later : (a b : Bool) → (a && b) ≡ true → b ≡ true
and_later true b h = h
and_later false b h = absurd cc

-- two deadlines at one moment are the same
pub then_same : (o p : Option ℕ) (q : ℕ) → is_then o q ≡ true → is_then p q ≡ true → o ≡ p
then_same None p q h k = absurd cc
then_same (Some d) None q h k = absurd cc
then_same (Some d) (Some e) q h k = ap (λ (n : ℕ). Some n) (eqb-true d q h ∙ sym (eqb-true e q k))

-- ---- a list is replaced by what is left

pub some_unless : (blobs : List (List ℕ)) → 0 < length blobs → Some blobs ≡ unless_empty blobs
some_unless [] some = absurd (omega (arith, some))
some_unless (b ∷ blobs) some = refl

pub none_unless : (blobs : List (List ℕ)) → length blobs ≡ 0 → None ≡ unless_empty blobs
none_unless [] none = refl
none_unless (b ∷ blobs) none = absurd (omega (arith, none))

there : (rest : Option (List (List ℕ))) (blobs : List (List ℕ)) → if_there rest (Some blobs) ≡ rest
there None blobs = refl
there (Some left) blobs = refl

left_there : (o : Option (List (List ℕ))) (blob : List ℕ) (rest : Option (List (List ℕ))) → rest ≡ unless_empty (others blob (listed_at o)) → if_there rest o ≡ unless_empty (others blob (listed_at o))
left_there None blob rest is = ap (λ (r : Option (List (List ℕ))). if_there r None) is
left_there (Some blobs) blob rest is = there rest blobs ∙ is

-- the blob goes from the list at the moment
dropped_at : (moment : ℕ) (blob : List ℕ) (rest : Option (List (List ℕ))) (old new : Lists) → rest ≡ unless_empty (others blob (listed_at (old moment))) → IsReplaced moment rest old new → IsDropped moment blob old new
dropped_at moment blob rest old new leaves is q = by (eqb moment q) refl
  where
    by : (c : Bool) → eqb moment q ≡ c → new q ≡ cond c (unless_empty (others blob (listed_at (old q)))) (old q)
    by true same =
        let list : new moment ≡ unless_empty (others blob (listed_at (old moment))) = is.list ∙ left_there (old moment) blob rest leaves in
        subst (λ (n : ℕ). new n ≡ unless_empty (others blob (listed_at (old n)))) (eqb-true moment q same) list
    by false differ = is.others q (λ same. let no : true ≡ false = sym (eq-eqb moment q same) ∙ differ in absurd cc)

pub dropped_by : (deadline : Option ℕ) (blob : List ℕ) (rest : Option (List (List ℕ))) (old new : Lists) → Leaves deadline blob old rest → IsReplacedAt deadline rest old new → Drops deadline blob old new
dropped_by None blob rest old new leaves is = is
dropped_by (Some moment) blob rest old new leaves is = dropped_at moment blob rest old new leaves is

-- ---- a blob goes from the list of one deadline to that of another

added_is : (deadline : Option ℕ) (blob : List ℕ) (old mid : Lists) → Adds deadline blob old mid → (q : ℕ) → mid q ≡ added deadline blob old q
added_is None blob old mid adds q = adds q
added_is (Some moment) blob old mid adds q = adds q

pub adds_added : (deadline : Option ℕ) (blob : List ℕ) (old : Lists) → Adds deadline blob old (added deadline blob old)
adds_added None blob old = λ q. refl
adds_added (Some moment) blob old = λ q. refl

-- the list of the one deadline isn't the one to which the blob is added
added_elsewhere : (before deadline : Option ℕ) (blob : List ℕ) (old : Lists) (q : ℕ) → (before ≡ deadline → ⊥) → is_then before q ≡ true → added deadline blob old q ≡ old q
added_elsewhere before deadline blob old q differ is =
    ap (λ (c : Bool). cond c (Some (listed_at (old q) ++ blob ∷ [])) (old q)) (false_from_ne_true (is_then deadline q) (λ t. differ (then_same before deadline q is t)))

moved_at : (moment : ℕ) (deadline : Option ℕ) (blob : List ℕ) (rest : Option (List (List ℕ))) (old mid new : Lists) → (Some moment ≡ deadline → ⊥) → rest ≡ unless_empty (others blob (listed_at (old moment)))
    → Adds deadline blob old mid → IsReplaced moment rest mid new → IsDropped moment blob (added deadline blob old) new
moved_at moment deadline blob rest old mid new differ leaves adds is q =
    let same : mid moment ≡ old moment = added_is deadline blob old mid adds moment ∙ added_elsewhere (Some moment) deadline blob old moment differ (eq-eqb moment moment refl) in
    let left : rest ≡ unless_empty (others blob (listed_at (mid moment))) = leaves ∙ ap (λ (o : Option (List (List ℕ))). unless_empty (others blob (listed_at o))) (sym same) in
    dropped_at moment blob rest mid new left is q
    ∙ ap (λ (o : Option (List (List ℕ))). cond (eqb moment q) (unless_empty (others blob (listed_at o))) o) (added_is deadline blob old mid adds q)

pub moved_by : (before deadline : Option ℕ) (blob : List ℕ) (rest : Option (List (List ℕ))) (old mid new : Lists) → (before ≡ deadline → ⊥) → Leaves before blob old rest
    → Adds deadline blob old mid → IsReplacedAt before rest mid new → IsMoved before deadline blob old new
moved_by None deadline blob rest old mid new differ leaves adds is = λ q. is q ∙ added_is deadline blob old mid adds q
moved_by (Some moment) deadline blob rest old mid new differ leaves adds is = moved_at moment deadline blob rest old mid new differ leaves adds is
