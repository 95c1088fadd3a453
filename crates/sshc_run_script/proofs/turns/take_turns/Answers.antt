use Rattle.std.proofs.Common.{arith, refl, subst, ap, sym, ◌∙◌, ◌≡◌, ◌-◌, ℕ, Some}
use Rattle.sshc_run_script.proofs.RunNames.{no_writes, writes_on, writes_end, moved_for, Streams, streams, Ends}
use Rattle.sshc_run_script.proofs.RunNames.{IsReady, Spot, spot, run, RunState, kept, run_turn, hosts_of}
use Rattle.sshc_run_script.proofs.RunLoop.{along_none, along_more, along_ends, pauses_still, turn_ends}
use Rattle.sshc_run_script.proofs.RunUnfold.{limit_ends, limit_still}
use Rattle.sshc_run_script.proofs.turns.take_turns.Goals as goal

pub loop-turn-init : goal.loop-turn-init
loop-turn-init g c =
    record {
      along = along_none (run (run_turn (hosts_of c.args.gate.now) (g.V.Verifier.accepts c.args.verifier.now))) (spot c.args.at.now.place c.args.at.now.last (kept c.args.at.now.session c.args.at.now.agents)) c.args.remaining.now _ _ refl;
      count = omega arith;
      ready = c.requires.ready;
      same = refl;
      room = omega arith;
      moving = refl;
      moving_writes = refl;
      reads = refl;
      moved = no_writes _ _;
      signer = omega arith;
      writes = refl;
    }

pub one_turn-answer-requires-clause-room : goal.one_turn-answer-requires-clause-room
one_turn-answer-requires-clause-room g c = omega (arith, c.loop-turn.invariant.room, c.loop-turn.invariant.count, c.loop-turn-test.true, c.requires.room)

pub one_turn-answer-requires-clause-ready : goal.one_turn-answer-requires-clause-ready
one_turn-answer-requires-clause-ready g c = c.loop-turn.invariant.ready

pub loop-turn-preserved : goal.loop-turn-preserved
loop-turn-preserved g c =
    let gives = rw c.loop-turn.invariant.same at c.in_default.ensures.gives in
    record {
      along = along_more (run (run_turn (hosts_of c.args.gate.now) (g.V.Verifier.accepts c.args.verifier.now))) (spot c.args.at.now.place c.args.at.now.last (kept c.args.at.now.session c.args.at.now.agents)) c.args.remaining.now _ _ _ _ _ _ (omega (arith, c.loop-turn-test.true)) c.loop-turn.invariant.along gives;
      count = omega (arith, c.loop-turn.invariant.count, c.loop-turn-test.true);
      ready = c.in_default.ensures.ready;
      same = c.one_turn-answer.ensures.same ∙ c.loop-turn.invariant.same;
      room = omega (arith, c.loop-turn.invariant.room, c.loop-turn.invariant.count, c.loop-turn-test.true, gives.4.within);
      moving = c.in_default.ensures.source.moving ∙ c.loop-turn.invariant.moving;
      moving_writes = c.in_default.ensures.sink.moving ∙ c.loop-turn.invariant.moving_writes;
      reads = c.in_default.ensures.source.told (λ e. absurd cc) ∙ c.loop-turn.invariant.reads;
      moved = writes_on _ _ _ _ _ _ c.loop-turn.invariant.moved (c.in_default.ensures.sink.moved);
      signer = omega (arith, c.loop-turn.invariant.signer, c.in_default.ensures.signer.later);
      writes = c.in_default.ensures.sink.told (λ e. absurd cc) ∙ c.loop-turn.invariant.writes;
    }

pub returns-in-Some-clause-run : goal.returns-in-Some-clause-run
returns-in-Some-clause-run g c =
    let gives = rw c.loop-turn.invariant.same at c.in-Some.ensures.gives in
    (turn_ends (run (run_turn (hosts_of c.args.gate.now) (g.V.Verifier.accepts c.args.verifier.now))) (spot c.args.at.now.place c.args.at.now.last (kept c.args.at.now.session c.args.at.now.agents)) c.args.remaining.now _ _ _ _ _ c.in-Some.answer (omega (arith, c.loop-turn-test.true)) c.loop-turn.invariant.along gives)

pub returns-clause-run : goal.returns-clause-run
returns-clause-run g c =
    let none : 0 ≡ c.args.remaining.now - c.loop-turn.turn = omega (arith, c.loop-turn-test.false) in
    let at : Spot RunState = spot c.loop-turn.at.place c.loop-turn.at.last (kept c.loop-turn.at.session c.loop-turn.at.agents) in
    let now : Streams = streams (g.S.Source.left c.loop-turn.source) (g.K.RecordSink.contents c.loop-turn.sink) (g.S.Source.reads c.loop-turn.source) (g.G.LocalSigner.calls c.loop-turn.signer) in
    let ends = limit_ends (run_turn (hosts_of c.args.gate.now) (g.V.Verifier.accepts c.args.verifier.now)) at now (g.S.Source.left c.at_limit.new.source) (g.S.Source.reads c.at_limit.new.source) c.at_limit.result c.at_limit.ensures.gives c.at_limit.ensures.count in
    (along_ends (run (run_turn (hosts_of c.args.gate.now) (g.V.Verifier.accepts c.args.verifier.now))) (spot c.args.at.now.place c.args.at.now.last (kept c.args.at.now.session c.args.at.now.agents)) c.args.remaining.now c.loop-turn.turn at _ now _ c.at_limit.result (omega (arith, c.loop-turn.invariant.count)) c.loop-turn.invariant.along
    (subst (λ (n : ℕ). Ends n at.place at.last (run (run_turn (hosts_of c.args.gate.now) (g.V.Verifier.accepts c.args.verifier.now)) n at) now (record now { left = g.S.Source.left c.at_limit.new.source; reads = g.S.Source.reads c.at_limit.new.source }) c.at_limit.result) none ends))

-- ---- at the end of the source

pub returns-in-Some-clause-paused : goal.returns-in-Some-clause-paused
returns-in-Some-clause-paused g c = λ is.
    pauses_still (run (run_turn (hosts_of c.args.gate.now) (g.V.Verifier.accepts c.args.verifier.now))) _ _ _ _ _ _ _ (streams (g.S.Source.left c.loop-turn.source) (g.K.RecordSink.contents c.loop-turn.sink) (g.S.Source.reads c.loop-turn.source) (g.G.LocalSigner.calls c.loop-turn.signer)) (streams (g.S.Source.left c.one_turn-answer.new.source) (g.K.RecordSink.contents c.one_turn-answer.new.sink) (g.S.Source.reads c.one_turn-answer.new.source) (g.G.LocalSigner.calls c.one_turn-answer.new.signer))
    c.loop-turn.invariant.count c.loop-turn.invariant.along (c.in-Some.ensures.ended (ap Some is))

pub returns-clause-paused : goal.returns-clause-paused
returns-clause-paused g c = λ is.
    pauses_still (run (run_turn (hosts_of c.args.gate.now) (g.V.Verifier.accepts c.args.verifier.now))) _ _ _ _ _ _ _ (streams (g.S.Source.left c.loop-turn.source) (g.K.RecordSink.contents c.loop-turn.sink) (g.S.Source.reads c.loop-turn.source) (g.G.LocalSigner.calls c.loop-turn.signer)) (streams (g.S.Source.left c.at_limit.new.source) (g.K.RecordSink.contents c.loop-turn.sink) (g.S.Source.reads c.at_limit.new.source) (g.G.LocalSigner.calls c.loop-turn.signer))
    c.loop-turn.invariant.count c.loop-turn.invariant.along (refl, limit_still _ _ c.at_limit.result is c.at_limit.ensures.gives, refl, refl)

pub returns-in-Some-clause-ready : goal.returns-in-Some-clause-ready
returns-in-Some-clause-ready g c = λ is.
    let here = c.in-Some.ensures.ended (ap Some is) in
    subst IsReady (sym (ap (λ (at : Spot RunState). at.state.one) here.0)) c.loop-turn.invariant.ready

pub returns-in-Some-clause-room : goal.returns-in-Some-clause-room
returns-in-Some-clause-room g c = λ is.
    let here = c.in-Some.ensures.ended (ap Some is) in
    let place = ap (λ (at : Spot RunState). at.place) here.0 in
    omega (arith, place, c.loop-turn.invariant.room, c.requires.room)

pub returns-clause-ready : goal.returns-clause-ready
returns-clause-ready g c = λ is. c.loop-turn.invariant.ready

pub returns-clause-room : goal.returns-clause-room
returns-clause-room g c = λ is. omega (arith, c.loop-turn.invariant.room, c.requires.room)

pub returns-in-Some-clause-counts : goal.returns-in-Some-clause-counts
returns-in-Some-clause-counts g c =
    let so = c.loop-turn.invariant in
    let turn = c.in-Some.ensures in
    record {
      last_read = omega (arith, turn.source.last, so.moving);
      last_write = omega (arith, turn.sink.last, so.moving_writes);
      writes = writes_end _ _ _ _ _ _ so.moved turn.sink.writes;
      faults = record {
        read_later = omega (arith, turn.source.later, so.reads);
        write_later = omega (arith, turn.sink.later, so.writes);
        read_fault = λ e. let rose = turn.source.fault (ap Some e) in omega (arith, rose, so.reads);
        read_told = λ no. turn.source.told (λ e. no cc) ∙ so.reads;
        write_fault = λ e. let rose = turn.sink.fault (ap Some e) in omega (arith, rose, so.writes);
        write_told = λ no. turn.sink.told (λ e. no cc) ∙ so.writes;
      };
    }

pub returns-clause-counts : goal.returns-clause-counts
returns-clause-counts g c =
    let so = c.loop-turn.invariant in
    let limit = c.at_limit.ensures in
    record {
      last_read = omega (arith, limit.last, so.moving);
      last_write = omega (arith, so.moving_writes);
      writes = moved_for _ _ _ _ so.moved;
      faults = record {
        read_later = omega (arith, limit.later, so.reads);
        write_later = omega (arith, so.writes);
        read_fault = λ e. let rose = limit.fault e in omega (arith, rose, so.reads);
        read_told = λ no. limit.told no ∙ so.reads;
        write_fault = λ e. absurd (rw e at limit.gives);
        write_told = λ no. so.writes;
      };
    }

pub returns-in-Some-clause-signer : goal.returns-in-Some-clause-signer
returns-in-Some-clause-signer g c =
    let turn = c.in-Some.ensures.signer in
    record {
      later = omega (arith, turn.later, c.loop-turn.invariant.signer);
      fault = λ e. let rose = turn.fault (ap Some e) in omega (arith, rose, c.loop-turn.invariant.signer);
    }

pub returns-clause-signer : goal.returns-clause-signer
returns-clause-signer g c = record {
  later = c.loop-turn.invariant.signer;
  fault = λ e. absurd (rw e at c.at_limit.ensures.gives);
}
