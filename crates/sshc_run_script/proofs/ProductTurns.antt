-- What taking an event does, by a part's turn and by the turn of the whole: the code of each part is proved alone.
use Rattle.std.proofs.Common.{◌≡◌, inl, inr, ℕ, true, false, List, Option, Some, None, Result, refl, ap, sym, ◌∙◌, subst}
use Rattle.sshc_run_script.specs.Product.{Both, in_one, in_other, both_turn}
use Rattle.sshc_run_script.proofs.RunNames.{append, WroteFront, Record, SignCall, Ended, Asking, asked_on, makes_on, first_on, RunError, TurnOf, Turns, stop_next, Ending, cut, ending_of, Own, lines, Frame, StopsBy, CutBy, TakeAs, TakeGives}

module _ {A : Type 0} {B : Type 0} (f : TurnOf A → TurnOf B) (g : A → B) (keeps : (t : TurnOf A) → ((f t).records ≡ t.records) × ((f t).next ≡ t.next) × ((f t).state ≡ g t.state)) where
  stops_on : (asking : Asking (TurnOf A)) (gained : List SignCall) (held now : Option (List ℕ)) (answer : Result Ended RunError) → StopsBy asking gained held now answer → StopsBy (asked_on f asking) gained held now answer
  stops_on asking gained held now answer (t, makes, stops, wrote) =
      (f t, makes_on f asking gained t makes, ap stop_next (keeps t).1 ∙ stops, wrote ∙ ap (λ (rs : List Record). append held (lines rs)) (sym (keeps t).0))

  cut_on : (asking : Asking (TurnOf A)) (gained : List SignCall) (held now : Option (List ℕ)) → CutBy asking gained held now → CutBy (asked_on f asking) gained held now
  cut_on asking gained held now (inl (first, same)) = inl (first_on f asking gained first, same)
  cut_on asking gained held now (inr (t, makes, wrote)) = inr (f t, makes_on f asking gained t makes, subst (λ (rs : List Record). WroteFront held now (lines rs)) (sym (keeps t).0) wrote)

  takes_as : (ending : Ending) (asking : Asking (TurnOf A)) (gained : List SignCall) (held now : Option (List ℕ)) (answer : Result Ended RunError) → TakeAs ending asking gained held now answer → TakeAs ending (asked_on f asking) gained held now answer
  takes_as cut asking gained held now answer gives = cut_on asking gained held now gives
  takes_as ending asking gained held now answer gives = stops_on asking gained held now answer gives

  -- what taking an event does by one turn, it does by the same turn in the state of the whole
  pub takes_on : (asking : Asking (TurnOf A)) (gained : List SignCall) (a : A) (held now : Option (List ℕ)) (answer : Option (Result Ended RunError)) → TakeGives asking gained a held now answer → TakeGives (asked_on f asking) gained (g a) held now answer
  takes_on asking gained a held now None (t, makes, goes, wrote, is) =
      (f t, makes_on f asking gained t makes, ap stop_next (keeps t).1 ∙ goes, wrote ∙ ap (λ (rs : List Record). append held (lines rs)) (sym (keeps t).0), ap g is ∙ sym (keeps t).2)
  takes_on asking gained a held now (Some answer) gives = takes_as (ending_of answer) asking gained held now answer gives

module _ {A : Type 0} {B : Type 0} (own : Own) (one : Turns A) (other : Turns B) (s : Both A B) (frame : Frame) (gained : List SignCall) (held now : Option (List ℕ)) (answer : Option (Result Ended RunError)) where
  pub one_takes_so : (a : A) → own.event frame ≡ true → TakeGives (one s.one frame) gained a held now answer → TakeGives (both_turn own one other s frame) gained (record s { one = a }) held now answer
  unfolding both_turn
  one_takes_so a is gives = rw is (takes_on (in_one s) (λ (x : A). record s { one = x }) (λ t. (refl, refl, refl)) (one s.one frame) gained a held now answer gives)

  pub other_takes_so : (b : B) → own.event frame ≡ false → TakeGives (other s.other frame) gained b held now answer → TakeGives (both_turn own one other s frame) gained (record s { other = b }) held now answer
  unfolding both_turn
  other_takes_so b is gives = rw is (takes_on (in_other s) (λ (x : B). record s { other = x }) (λ t. (refl, refl, refl)) (other s.other frame) gained b held now answer gives)
