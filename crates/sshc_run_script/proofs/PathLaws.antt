-- Laws along a path: what each step keeps is true all along, and what each step adds to adds up.
use Rattle.std.proofs.Common.{◌≡◌, ◌⊎◌, inl, inr, List, [], ◌∷◌, None, refl, subst, sym}
use Rattle.sshc_run_script.specs.Path.{Path, StepOf, step_of}
use Rattle.sshc_run_script.proofs.RunNames.{SignCall, Answer, Makes, TurnOf, Turns, stop_next, Frame}

-- A ledger is kept between two states by the steps from the one to the other: nothing is added to it without a step, and
-- each step, from a state that the invariant is true of, adds its part in front.
module _ {S : Type 0} (turn : Turns S) (Holds : S → Type 0) (Ledger : S → List (StepOf S) → S → Type 0) (none : (s : S) → Ledger s [] s)
    (stays : (s : S) (frame : Frame) (gained : List SignCall) (t : TurnOf S) → Holds s → Makes (turn s frame) gained t → stop_next t.next ≡ None → Holds t.state)
    (adds : (s : S) (frame : Frame) (gained : List SignCall) (t : TurnOf S) (steps : List (StepOf S)) (s' : S) → Holds s → Makes (turn s frame) gained t → (steps ≡ []) ⊎ (stop_next t.next ≡ None) → Ledger t.state steps s' → Ledger s (step_of s frame gained t ∷ steps) s') where
  pub along : (frames : List Frame) (s : S) (answers : List Answer) (steps : List (StepOf S)) (s' : S) → Holds s → Path turn s frames answers steps s' → Ledger s steps s'
  along frames s answers [] s' holds same = subst (Ledger s []) same (none s)
  along [] s answers (x ∷ steps) s' holds never = absurd never
  along (frame ∷ frames) s answers (x ∷ steps) s' holds (is, makes, inl (last, same)) =
      subst (λ (more : List (StepOf S)). Ledger s (x ∷ more) s') (sym last)
      (subst (λ (y : StepOf S). Ledger s (y ∷ []) s') (sym is) (adds s frame x.gained x.turn [] s' holds makes (inl refl) (subst (Ledger x.turn.state []) same (none x.turn.state))))
  along (frame ∷ frames) s answers (x ∷ steps) s' holds (is, makes, inr (left, goes, given, path)) =
      subst (λ (y : StepOf S). Ledger s (y ∷ steps) s') (sym is)
      (adds s frame x.gained x.turn steps s' holds makes (inr goes) (along frames x.turn.state left steps s' (stays s frame x.gained x.turn holds makes goes) path))
