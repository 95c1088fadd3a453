-- `Grown` holds for doing nothing, for one move of a method, and for one after another.
use Rattle.std.proofs.Common.{◌≡◌, List, [], ◌∷◌, ◌++◌, refl, ap, sym, ◌∙◌}
use Rattle.std.specs.List.{AllByRecursion}
use Rattle.sshc_client_table.specs.SessionState.{SessionState}
use Rattle.sshc_client_table.specs.Moves.{Move, after, done}
use Rattle.sshc_client_table.specs.Grown.{Grown, GrownIsClosed, May}

pub done-append : (a b : List Move) (s : SessionState) → done (a ++ b) s ≡ done b (done a s)
done-append [] b s = refl
done-append (move ∷ a) b s = done-append a b (after move s)

may-append : (a b : List Move) → AllByRecursion May a → AllByRecursion May b → AllByRecursion May (a ++ b)
may-append [] b first second = second
may-append (move ∷ a) b (here, first) second = (here, may-append a b first second)

pub grown_closed : GrownIsClosed
grown_closed = record {
  same = λ s. record { moves = []; may = tt; is = refl };
  next = λ s t u first second. record {
    moves = first.moves ++ second.moves;
    may = may-append first.moves second.moves first.may second.may;
    is = second.is ∙ ap (λ (x : SessionState). done second.moves x) first.is ∙ sym (done-append first.moves second.moves s);
  };
  move = λ move s may. record { moves = move ∷ []; may = (may, tt); is = refl };
}

-- the same, for the calls that do it
pub grown_same : (s : SessionState) → Grown s s
grown_same s = grown_closed.same s

pub grown_next : (s t u : SessionState) → Grown s t → Grown t u → Grown s u
grown_next s t u first second = grown_closed.next s t u first second

pub grown_by : (move : Move) (s : SessionState) → May move → Grown s (after move s)
grown_by move s may = grown_closed.move move s may
