-- What asks the signer, by the calls that it makes and what it comes to.
use Rattle.std.proofs.Common.{List, [], ◌∷◌, ◌++◌, ap, sym}
use Rattle.sshc_key.specs.Signers.{SignCall}
use Rattle.sshc_key.specs.Asking.{Asking, done, asks, Makes, MakesFirst, Always, asked_on, then_asks}

-- what always holds holds of what it comes to
pub always_makes : {A : Type 0} (P : A → Type 0) (asking : Asking A) (gained : List SignCall) (x : A) → Always P asking → Makes asking gained x → P x
always_makes P (done y) [] x holds is = rw (sym is) holds
always_makes P (done y) (call ∷ gained) x holds never = absurd never
always_makes P (asks asked on) [] x holds never = absurd never
always_makes P (asks asked on) (call ∷ gained) x holds (is, makes) = always_makes P (on call.answer) gained x (holds call.answer) makes

pub always_also : {A : Type 0} (P Q : A → Type 0) (asking : Asking A) → ((x : A) → P x → Q x) → Always P asking → Always Q asking
always_also P Q (done x) also holds = also x holds
always_also P Q (asks asked on) also holds = λ answer. always_also P Q (on answer) also (holds answer)

-- the calls and what they come to, mapped
pub makes_on : {A : Type 0} {B : Type 0} (f : A → B) (asking : Asking A) (gained : List SignCall) (x : A) → Makes asking gained x → Makes (asked_on f asking) gained (f x)
makes_on f (done y) [] x is = ap f is
makes_on f (done y) (call ∷ gained) x never = absurd never
makes_on f (asks asked on) [] x never = absurd never
makes_on f (asks asked on) (call ∷ gained) x (is, makes) = (is, makes_on f (on call.answer) gained x makes)

pub first_on : {A : Type 0} {B : Type 0} (f : A → B) (asking : Asking A) (gained : List SignCall) → MakesFirst asking gained → MakesFirst (asked_on f asking) gained
first_on f (done y) [] first = tt
first_on f (done y) (call ∷ gained) never = absurd never
first_on f (asks asked on) [] first = tt
first_on f (asks asked on) (call ∷ gained) (is, first) = (is, first_on f (on call.answer) gained first)

-- two in a row make the calls of the first and then those of the second
pub makes_two : {A : Type 0} {B : Type 0} (asking : Asking A) (f : A → Asking B) (a b : List SignCall) (x : A) (y : B) → Makes asking a x → Makes (f x) b y → Makes (then_asks asking f) (a ++ b) y
makes_two (done z) f [] b x y is makes = rw is makes
makes_two (done z) f (call ∷ a) b x y never makes = absurd never
makes_two (asks asked on) f [] b x y never makes = absurd never
makes_two (asks asked on) f (call ∷ a) b x y (is, first) makes = (is, makes_two (on call.answer) f a b x y first makes)

-- no call at all is the first of any
pub none_first : {A : Type 0} (asking : Asking A) → MakesFirst asking []
none_first (done x) = tt
none_first (asks asked on) = tt

-- the first calls of the first, and all of the first with the first of the second, are first calls of two in a row
pub first_two : {A : Type 0} {B : Type 0} (asking : Asking A) (f : A → Asking B) (a b : List SignCall) (x : A) → Makes asking a x → MakesFirst (f x) b → MakesFirst (then_asks asking f) (a ++ b)
first_two (done z) f [] b x is first = rw is first
first_two (done z) f (call ∷ a) b x never first = absurd never
first_two (asks asked on) f [] b x never first = absurd never
first_two (asks asked on) f (call ∷ a) b x (is, makes) first = (is, first_two (on call.answer) f a b x makes first)

pub first_of_two : {A : Type 0} {B : Type 0} (asking : Asking A) (f : A → Asking B) (a : List SignCall) → MakesFirst asking a → MakesFirst (then_asks asking f) a
first_of_two (done z) f [] first = none_first (f z)
first_of_two (done z) f (call ∷ a) never = absurd never
first_of_two (asks asked on) f [] first = tt
first_of_two (asks asked on) f (call ∷ a) (is, first) = (is, first_of_two (on call.answer) f a first)

-- all calls are first calls
pub all_first : {A : Type 0} (asking : Asking A) (gained : List SignCall) (x : A) → Makes asking gained x → MakesFirst asking gained
all_first (done z) [] x is = tt
all_first (done z) (call ∷ gained) x never = absurd never
all_first (asks asked on) [] x never = absurd never
all_first (asks asked on) (call ∷ gained) x (is, makes) = (is, all_first (on call.answer) gained x makes)

-- what holds of what a mapped one comes to
pub always_on : {A : Type 0} {B : Type 0} (P : A → Type 0) (Q : B → Type 0) (f : A → B) (asking : Asking A) → ((x : A) → P x → Q (f x)) → Always P asking → Always Q (asked_on f asking)
always_on P Q f (done x) also holds = also x holds
always_on P Q f (asks asked on) also holds = λ answer. always_on P Q f (on answer) also (holds answer)

-- and of anything
pub always_any : {A : Type 0} {B : Type 0} (Q : B → Type 0) (f : A → B) (asking : Asking A) → ((x : A) → Q (f x)) → Always Q (asked_on f asking)
always_any Q f (done x) each = each x
always_any Q f (asks asked on) each = λ answer. always_any Q f (on answer) each
