-- The first number that isn't taken, by trying one after the other.
use Rattle.std.proofs.Common.{◌≡◌, refl, ℕ, zero, suc, ◌+◌, ◌-◌, ◌<◌, arith, true, false, Some, None}
use Rattle.sshc_handle_tickets.specs.Tickets.{TicketState, free_within, is_taken, number_after}

pub free_found : (tries : ℕ) (s : TicketState) (number : ℕ) → 0 < tries → is_taken s (number_after number) ≡ false → free_within tries s number ≡ Some (number_after number)
unfolding free_within
free_found zero s number some untaken = elim some [ ]
free_found (suc tries) s number some untaken = rw untaken refl

pub free_later : (end at : ℕ) (s : TicketState) (number : ℕ) → at < end → is_taken s (number_after number) ≡ true → free_within (end - at) s number ≡ free_within (end - (at + 1)) s (number_after number)
unfolding free_within
free_later end at s number within taken =
    let one : end - at ≡ suc (end - (at + 1)) = omega (arith, within) in
    rw one (rw taken refl)

pub free_none : (tries : ℕ) (s : TicketState) (number : ℕ) → tries ≡ 0 → free_within tries s number ≡ None
unfolding free_within
free_none tries s number none = rw none refl
