-- Each of two machines side by side is a part of both.
use Rattle.std.proofs.Common.{◌≡◌, Bool, true, false, refl, sym, subst}
use Rattle.sshc_key.specs.declared.signer.Asker.{Asker}
use Rattle.sshc_run_script.specs.Product.{Both, in_one, in_other, both_turn, Apart}
use Rattle.sshc_run_script.proofs.RunNames.{Asking, done, asks, asked_on, Always, always_on, Frame, TurnOf, Turns, IsNoEnd, NeverAtEnd, Own, AsksBy}

pub asks_on : {A : Type 0} {B : Type 0} (test : Asker → Bool) (is : Bool) (f : A → B) (asking : Asking A) → AsksBy test is asking → AsksBy test is (asked_on f asking)
asks_on test is f (done x) by = tt
asks_on test is f (asks asked on) (here, by) = (here, λ answer. asks_on test is f (on answer) (by answer))

module _ {A : Type 0} {B : Type 0} (own : Own) (one : Turns A) (other : Turns B) (apart : Apart own one other) where
  pub one_takes : (s : Both A B) (frame : Frame) → own.event frame ≡ true → both_turn own one other s frame ≡ asked_on (in_one s) (one s.one frame)
  unfolding both_turn
  one_takes s frame is = rw is refl

  pub other_takes : (s : Both A B) (frame : Frame) → own.event frame ≡ false → both_turn own one other s frame ≡ asked_on (in_other s) (other s.other frame)
  unfolding both_turn
  other_takes s frame is = rw is refl

  -- what holds of both machines' turns holds of a turn of both
  pub both_case : (P : Asking (TurnOf (Both A B)) → Type 0) (s : Both A B) (frame : Frame) → (own.event frame ≡ true → P (asked_on (in_one s) (one s.one frame))) → (own.event frame ≡ false → P (asked_on (in_other s) (other s.other frame))) →
      P (both_turn own one other s frame)
  both_case P s frame here there = by (own.event frame) refl
    where
      by : (mine : Bool) → own.event frame ≡ mine → P (both_turn own one other s frame)
      by true is = subst P (sym (one_takes s frame is)) (here is)
      by false is = subst P (sym (other_takes s frame is)) (there is)

  -- ---- both as one machine of a run

  -- no turn of both ends with the script's end
  pub both_never : NeverAtEnd one → NeverAtEnd other → NeverAtEnd (both_turn own one other)
  both_never never never' = λ s frame.
      both_case (Always IsNoEnd) s frame (λ is. always_on IsNoEnd IsNoEnd (in_one s) (one s.one frame) (λ t none. none) (never s.one frame))
      (λ is. always_on IsNoEnd IsNoEnd (in_other s) (other s.other frame) (λ t none. none) (never' s.other frame))
