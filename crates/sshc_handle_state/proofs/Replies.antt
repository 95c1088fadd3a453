-- Whether there may be a reply to a channel that the server opens among the submitted events.
use Rattle.std.proofs.Common.{◌≡◌, refl, Bool, true, false, ◌||◌, List, [], ◌∷◌, ◌++◌, Option, Some, None, ap, sym, ◌∙◌}
use Rattle.std.specs.Prelude.{IfNone, if◌then◌else◌, is_some, not}
use Rattle.std.specs.List.{list_any}
use Rattle.sshc_auth_event.specs.declared.event.Event.{Event}
use Rattle.sshc_handle_tickets.specs.Tickets.{first_of, without_first}
use Rattle.sshc_handle_tickets.proofs.Firsts.{none_first}
use Rattle.sshc_handle_state.specs.Picking.{Pops, is_reply}

-- if there is a reply among these events, the flag is set
abbrev pub MayReply : List Event → Bool → Type 0
MayReply items flag = list_any is_reply items ≡ true → flag ≡ true

either_set : (a b : Bool) → a ≡ true → a || b ≡ true
either_set true b set = refl
either_set false b set = absurd cc

last_set : (a : Bool) → a || true ≡ true
last_set true = refl
last_set false = refl

first_or : (a b : Bool) → a || b ≡ true → b ≡ false → a ≡ true
first_or true b or none = refl
first_or false b or none = let clash : true ≡ false = sym or ∙ none in absurd cc

any_on : (b c d : Bool) → (c ≡ true → d ≡ true) → b || c ≡ true → b || d ≡ true
any_on true c d on is = refl
any_on false c d on is = on is

put_any : (items : List Event) (event : Event) → is_reply event ≡ false → list_any is_reply (items ++ event ∷ []) ≡ true → list_any is_reply items ≡ true
put_any [] event none is = first_or false (is_reply event || false) is (rw none refl)
put_any (x ∷ items) event none is = any_on (is_reply x) (list_any is_reply (items ++ event ∷ [])) (list_any is_reply items) (put_any items event none) is

pub put_reply : (items : List Event) (event : Event) (flag : Bool) → MayReply items flag → MayReply (items ++ event ∷ []) (flag || is_reply event)
put_reply items event flag may = by (is_reply event) refl
  where
    by : (b : Bool) → is_reply event ≡ b → MayReply (items ++ event ∷ []) (flag || b)
    by true is = λ any. last_set flag
    by false is = λ any. either_set flag false (may (put_any items event is any))

pub pop_reply : (was is : List Event) (event : Event) (flag : Bool) → was ≡ event ∷ is → MayReply was flag → MayReply is flag
pop_reply was is event flag same may = λ any. may (ap (λ (xs : List Event). list_any is_reply xs) same ∙ later (is_reply event) any)
  where
    later : (b : Bool) → list_any is_reply is ≡ true → b || list_any is_reply is ≡ true
    later true any = refl
    later false any = any

no_any : (a : Bool) → (a ≡ true → false ≡ true) → a ≡ false
no_any true may = let clash : false ≡ true = may refl in absurd cc
no_any false may = refl

-- no flag, no reply
pub no_reply : (items : List Event) (flag : Bool) → flag ≡ false → MayReply items flag → (first_of is_reply items ≡ None) × (without_first is_reply items ≡ items)
no_reply items true off may = absurd cc
no_reply items false off may = none_first is_reply items (no_any (list_any is_reply items) may)

none_on : (x : Event) (b any : Bool) (later : Option Event) → (later ≡ None → any ≡ false) → (if b then Some x else later) ≡ None → b || any ≡ false
none_on x true any later on none = absurd cc
none_on x false any later on none = on none

-- no reply was found, so there is none
pub none_left : (items : List Event) → first_of is_reply items ≡ None → list_any is_reply items ≡ false
unfolding first_of
none_left [] none = refl
none_left (x ∷ items) none = none_on x (is_reply x) (list_any is_reply items) (first_of is_reply items) (none_left items) none

-- after a look for a reply there may be another just where one was found
pub looked : (old new : List Event) (reply : Option Event) (flag : Bool) → reply ≡ first_of is_reply old → IfNone reply (new ≡ old) → flag ≡ is_some reply → MayReply new flag
looked old new (Some x) flag taken none is = λ any. is
looked old new None flag taken none is = λ any.
    let clash : true ≡ false = sym any ∙ ap (λ (xs : List Event). list_any is_reply xs) none ∙ none_left old (sym taken) in absurd cc

pub flag_off : (flag : Bool) → not flag ≡ true → flag ≡ false
flag_off true off = absurd cc
flag_off false off = refl
