use Rattle.std.proofs.Common.{arith, rules, ◌<◌, length, ap, sym, subst, ◌∙◌}
use Rattle.sshc_wire.specs.Outgoing.{Grows, Outgoing}
use Rattle.sshc_mux.proofs.AddingLemmas.{after_error, grew, same_muted}
use Rattle.sshc_mux.proofs.PieceLemmas.{piece_more, pieces_done}
use Rattle.sshc_mux.proofs.packets.push_pieces.Goals as goal

pub loop-rest-preserved : goal.loop-rest-preserved
loop-rest-preserved c =
    let more : 0 < length c.loop-rest.rest.now = omega arith in
    record {
      size = λ _. c.loop-rest.invariant.size more;
      none = λ empty. absurd (omega (arith, more, ap length (c.loop-rest.invariant.none empty)));
      output = piece_more _ _ _ _ _ _ _ _ _ _ more c.loop-rest.invariant.size (search rules) c.split_at.ensures.front c.split_at.ensures.back c.in_ok-push_piece.ensures.ok c.loop-rest.invariant.output;
      some = grew _ _ _ _ c.loop-rest.invariant.some c.in_ok-push_piece.ensures.ok;
      same = same_muted _ _ _ c.in_ok-push_piece.ensures.ok ∙ c.loop-rest.invariant.same;
    }

pub returns-in_err-push_piece-clause-succeeds : goal.returns-in_err-push_piece-clause-succeeds
returns-in_err-push_piece-clause-succeeds c = λ empty. absurd (omega (arith, c.loop-rest-test.true, ap length (c.loop-rest.invariant.none empty)))

pub returns-in_err-push_piece-clause-some : goal.returns-in_err-push_piece-clause-some
returns-in_err-push_piece-clause-some c = after_error _ _ (subst (λ (o : Outgoing). Grows c.args.out.now.records o.records) (sym c.in_err-push_piece.ensures.err) c.loop-rest.invariant.some)

pub returns-in_err-push_piece-clause-same : goal.returns-in_err-push_piece-clause-same
returns-in_err-push_piece-clause-same c = ap (λ (o : Outgoing). o.muted) c.in_err-push_piece.ensures.err ∙ c.loop-rest.invariant.same

pub returns-clause-output : goal.returns-clause-output
returns-clause-output c = pieces_done _ _ _ _ _ _ (omega arith) c.loop-rest.invariant.output
