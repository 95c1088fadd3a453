-- What is held before and after a session is over, when the open tickets stand for their answers.
use Rattle.std.proofs.Common.{◌≡◌, refl, sym, ap, subst, ◌∙◌, ℕ, ◌+◌, arith, Bool, true, false, true≢false, ◌||◌, List, [], ◌∷◌, ◌++◌, length, take, map, Option, Some, None, is_some, option_map, if◌then◌else◌, ◌&&◌, length-append}
use Rattle.std.proofs.lemmas.List.{append-nil, length-map}
use Rattle.std.proofs.Math.Seq.{take-append_seam, take-length}
use Rattle.std.specs.List.{list_any}
use Rattle.sshc_wire.specs.declared.record.Record.{Record}
use Rattle.sshc_wire.specs.declared.record.Record.TheVariants.{Channel, Resolved}
use Rattle.sshc_wire.specs.declared.channel_id.ChannelId.{ChannelId}
use Rattle.sshc_wire.specs.declared.ticket.Ticket.{Ticket}
use Rattle.sshc_handle_tickets.proofs.Firsts.{none_first}
use Rattle.sshc_handle_tickets.specs.Lines.{has_some, number_in}
use Rattle.sshc_handle_tickets.specs.Tickets.{answered, channel_in, channel_of, dropped, due_behind, first_of, held_at, is_of, is_on, is_on_some, is_ticket, left_due, without_first}

by_case : {P : Type 0} (b : Bool) → (b ≡ true → P) → (b ≡ false → P) → P
by_case true when_true when_false = when_true refl
by_case false when_true when_false = when_false refl

or_false : (b : Bool) → b ≡ b || false
or_false true = refl
or_false false = refl

or_assoc : (a b c : Bool) → a || (b || c) ≡ (a || b) || c
or_assoc true b c = refl
or_assoc false b c = refl

nothing_else : {A : Type 0} (x : A) → None ≡ Some x → Bool → ⊥
nothing_else x h b = true≢false (sym (ap is_some h))

-- ---- two lists, one behind the other

any_both : {A : Type 0} (test : A → Bool) (xs ys : List A) → list_any test (xs ++ ys) ≡ list_any test xs || list_any test ys
any_both test [] ys = refl
any_both test (x ∷ xs) ys = ap (λ b. test x || b) (any_both test xs ys) ∙ or_assoc (test x) (list_any test xs) (list_any test ys)

module _ {A : Type 0} (test : A → Bool) where
  pub some_front : (xs ys : List A) (x : A) → first_of test xs ≡ Some x → first_of test (xs ++ ys) ≡ Some x
  unfolding first_of
  some_front [] ys x found = absurd (nothing_else x found true)
  some_front (z ∷ xs) ys x found =
      by_case (test z)
      (λ good. rw good (subst (λ b. (if b then Some z else first_of test xs) ≡ Some x) good found))
      (λ bad. rw bad (some_front xs ys x (subst (λ b. (if b then Some z else first_of test xs) ≡ Some x) bad found)))

  pub some_cut : (xs ys : List A) (x : A) → first_of test xs ≡ Some x → without_first test (xs ++ ys) ≡ without_first test xs ++ ys
  unfolding first_of without_first
  some_cut [] ys x found = absurd (nothing_else x found true)
  some_cut (z ∷ xs) ys x found =
      by_case (test z)
      (λ good. rw good refl)
      (λ bad. rw bad (ap (λ zs. z ∷ zs) (some_cut xs ys x (subst (λ b. (if b then Some z else first_of test xs) ≡ Some x) bad found))))

  pub none_front : (xs ys : List A) → first_of test xs ≡ None → first_of test (xs ++ ys) ≡ first_of test ys
  unfolding first_of
  none_front [] ys none = refl
  none_front (z ∷ xs) ys none =
      by_case (test z)
      (λ good. absurd (nothing_else z (sym (subst (λ b. (if b then Some z else first_of test xs) ≡ None) good none)) true))
      (λ bad. rw bad (none_front xs ys (subst (λ b. (if b then Some z else first_of test xs) ≡ None) bad none)))

  pub none_cut : (xs ys : List A) → first_of test xs ≡ None → without_first test (xs ++ ys) ≡ without_first test xs ++ without_first test ys
  unfolding first_of without_first
  none_cut [] ys none = refl
  none_cut (z ∷ xs) ys none =
      by_case (test z)
      (λ good. absurd (nothing_else z (sym (subst (λ b. (if b then Some z else first_of test xs) ≡ None) good none)) true))
      (λ bad. rw bad (ap (λ zs. z ∷ zs) (none_cut xs ys (subst (λ b. (if b then Some z else first_of test xs) ≡ None) bad none))))

  -- behind the list nothing passes
  quiet_first : (xs ys : List A) → list_any test ys ≡ false → first_of test (xs ++ ys) ≡ first_of test xs
  unfolding first_of
  quiet_first [] ys quiet = (none_first test ys quiet).0
  quiet_first (z ∷ xs) ys quiet = ap (λ o. if test z then Some z else o) (quiet_first xs ys quiet)

  quiet_rest : (xs ys : List A) → list_any test ys ≡ false → without_first test (xs ++ ys) ≡ without_first test xs ++ ys
  unfolding without_first
  quiet_rest [] ys quiet = (none_first test ys quiet).1
  quiet_rest (z ∷ xs) ys quiet = by_case (test z) (λ good. rw good refl) (λ bad. rw bad (ap (λ zs. z ∷ zs) (quiet_rest xs ys quiet)))

-- ---- the answers of tickets that were dropped

any_dropped : (number : ℕ) (due : List Ticket) → list_any (is_of number) (map dropped due) ≡ list_any (is_ticket number) due
any_dropped number [] = refl
any_dropped number (t ∷ ts) = ap (λ b. is_ticket number t || b) (any_dropped number ts)

pub first_dropped : (number : ℕ) (due : List Ticket) (ticket : Ticket) → first_of (is_ticket number) due ≡ Some ticket → first_of (is_of number) (map dropped due) ≡ Some (dropped ticket)
unfolding first_of
first_dropped number [] ticket found = absurd (nothing_else ticket found true)
first_dropped number (t ∷ ts) ticket found =
    by_case (is_ticket number t)
    (λ good. rw good (ap (option_map dropped) (subst (λ b. (if b then Some t else first_of (is_ticket number) ts) ≡ Some ticket) good found)))
    (λ bad. rw bad (first_dropped number ts ticket (subst (λ b. (if b then Some t else first_of (is_ticket number) ts) ≡ Some ticket) bad found)))

pub none_dropped : (number : ℕ) (due : List Ticket) → first_of (is_ticket number) due ≡ None → first_of (is_of number) (map dropped due) ≡ None
unfolding first_of
none_dropped number [] none = refl
none_dropped number (t ∷ ts) none =
    by_case (is_ticket number t)
    (λ good. absurd (nothing_else t (sym (subst (λ b. (if b then Some t else first_of (is_ticket number) ts) ≡ None) good none)) true))
    (λ bad. rw bad (none_dropped number ts (subst (λ b. (if b then Some t else first_of (is_ticket number) ts) ≡ None) bad none)))

pub without_dropped : (number : ℕ) (due : List Ticket) → map dropped (without_first (is_ticket number) due) ≡ without_first (is_of number) (map dropped due)
unfolding without_first
without_dropped number [] = refl
without_dropped number (t ∷ ts) = by_case (is_ticket number t) (λ good. rw good refl) (λ bad. rw bad (ap (λ rs. dropped t ∷ rs) (without_dropped number ts)))

never_dropped : (test : Record → Bool) → ((ticket : Ticket) → test (dropped ticket) ≡ false) → (due : List Ticket) → list_any test (map dropped due) ≡ false
never_dropped test never [] = refl
never_dropped test never (t ∷ ts) = rw (never t) (never_dropped test never ts)

-- ---- before the end and behind it

pub named_over : (over : Bool) (number : ℕ) (held : List Record) (due : List Ticket) → list_any (is_of number) (held_at over held due) ≡ list_any (is_of number) held || over && list_any (is_ticket number) due
named_over true number held due = any_both (is_of number) held (map dropped due) ∙ ap (λ b. list_any (is_of number) held || b) (any_dropped number due)
named_over false number held due = or_false (list_any (is_of number) held)

pub count_over : (over : Bool) (held : List Record) (due : List Ticket) → length (left_due over due) + length (held_at over held due) ≡ length due + length held
count_over true held due = grind (arith, length-append, length-map)
count_over false held due = refl

pub front_held : (over : Bool) (held : List Record) (due : List Ticket) → take (length held) (held_at over held due) ≡ held
front_held true held due = take-append_seam held (map dropped due)
front_held false held due = take-length held

pub on_first : (over : Bool) (number : ℕ) (held : List Record) (due : List Ticket) → first_of (is_on number) (held_at over held due) ≡ first_of (is_on number) held
on_first true number held due = quiet_first (is_on number) held (map dropped due) (never_dropped (is_on number) (λ t. refl) due)
on_first false number held due = refl

pub on_rest : (over : Bool) (number : ℕ) (held : List Record) (due : List Ticket) → without_first (is_on number) (held_at over held due) ≡ held_at over (without_first (is_on number) held) due
on_rest true number held due = quiet_rest (is_on number) held (map dropped due) (never_dropped (is_on number) (λ t. refl) due)
on_rest false number held due = refl

pub on_any : (over : Bool) (number : ℕ) (held : List Record) (due : List Ticket) → list_any (is_on number) (held_at over held due) ≡ list_any (is_on number) held
on_any true number held due =
    any_both (is_on number) held (map dropped due) ∙ ap (λ b. list_any (is_on number) held || b) (never_dropped (is_on number) (λ t. refl) due) ∙ sym (or_false (list_any (is_on number) held))
on_any false number held due = refl

some_over : (over : Bool) (held : List Record) (due : List Ticket) → first_of is_on_some (held_at over held due) ≡ first_of is_on_some held
some_over true held due = quiet_first is_on_some held (map dropped due) (never_dropped is_on_some (λ t. refl) due)
some_over false held due = refl

abbrev channel : ℕ → ChannelId
channel n = record { 0 = n }

by_number : (o : Option Record) → channel_in o ≡ option_map channel (number_in channel_of o)
by_number None = refl
by_number (Some (Channel id happened)) = refl
by_number (Some output) = refl

channel_over : (over : Bool) (held : List Record) (due : List Ticket) → channel_in (first_of is_on_some (held_at over held due)) ≡ option_map channel (number_in channel_of (first_of (has_some channel_of) held))
channel_over over held due = ap channel_in (some_over over held due) ∙ by_number (first_of is_on_some held)

pub channel_some : (over : Bool) (held : List Record) (due : List Ticket) (number : ℕ) → number_in channel_of (first_of (has_some channel_of) held) ≡ Some number → channel_in (first_of is_on_some (held_at over held due)) ≡ Some (channel number)
channel_some over held due number found = channel_over over held due ∙ ap (option_map channel) found

pub channel_none : (over : Bool) (held : List Record) (due : List Ticket) → number_in channel_of (first_of (has_some channel_of) held) ≡ None → channel_in (first_of is_on_some (held_at over held due)) ≡ None
channel_none over held due none = channel_over over held due ∙ ap (option_map channel) none

settle : Option ℕ → List Ticket → List Ticket
settle None due = due
settle (Some number) due = without_first (is_ticket number) due

by_answer : (output : Record) (due : List Ticket) → due_behind output due ≡ settle (answered output) due
unfolding settle
by_answer (Resolved ticket resolution) due = refl
by_answer output due = refl

pub settled : (output : Record) (due : List Ticket) (number : ℕ) → answered output ≡ Some number → due_behind output due ≡ without_first (is_ticket number) due
unfolding settle
settled output due number found = by_answer output due ∙ ap (λ a. settle a due) found

pub unsettled : (output : Record) (due : List Ticket) → answered output ≡ None → due_behind output due ≡ due
unfolding settle
unsettled output due none = by_answer output due ∙ ap (λ a. settle a due) none

pub all_dropped : (over : Bool) (held : List Record) (due : List Ticket) → held_at true held due ≡ held_at over held due ++ map dropped (left_due over due)
all_dropped true held due = sym (append-nil (held ++ map dropped due))
all_dropped false held due = refl
