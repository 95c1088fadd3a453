use Rattle.sshc_agent.specs.Talk.{seen}
use Rattle.sshc_agent.proofs.Talking.{asks_turn, begun, ended_turn, goes_turn, gone, unfetched}
use Rattle.sshc_agent.proofs.Ticking.{closed_last, ended_last, no_call, one_more, stopped}
use Rattle.sshc_agent.proofs.Signed.{caused_nothing, caused_on, signs_nothing, signs_on}
use Rattle.sshc_agent.proofs.serving.serve_one.Goals as goal

pub loop-init : goal.loop-init
loop-init g c = (tt, tt, rw c.new-frames.ensures (begun _ _ _ _), no_call _ _, signs_nothing _ _, caused_nothing _ _)

pub returns-in-Err : goal.returns-in-Err
returns-in-Err g c =
    record {
      serves =
          unfetched _ _ _ _ (seen (g.S.Source.left c.loop.stream) (g.S.Sink.contents c.loop.stream) (g.S.Source.faults c.loop.stream) (g.S.Sink.faults c.loop.stream))
          (seen (g.S.Source.left c.fetch.new.stream) (g.S.Sink.contents c.fetch.new.stream) (g.S.Source.faults c.fetch.new.stream) (g.S.Sink.faults c.fetch.new.stream))
          _ c.loop.frames c.fetch.new.frames c.loop.answer _ c.loop.invariant.2 c.in-Err.ensures.fetched c.fetch.ensures.unwritten.0;
      moments = stopped _ _ _ _ c.loop.invariant.3;
      signs = c.loop.invariant.4;
      caused = c.loop.invariant.5;
    }

pub returns-in-Ok-None : goal.returns-in-Ok-None
returns-in-Ok-None g c =
    let f = rw c.in-Ok-None.field-0-is at c.in-Ok-None.ensures.fetched in
    record {
      serves =
          gone _ _ _ _ (seen (g.S.Source.left c.loop.stream) (g.S.Sink.contents c.loop.stream) (g.S.Source.faults c.loop.stream) (g.S.Sink.faults c.loop.stream))
          (seen (g.S.Source.left c.fetch.new.stream) (g.S.Sink.contents c.fetch.new.stream) (g.S.Source.faults c.fetch.new.stream) (g.S.Sink.faults c.fetch.new.stream))
          _ c.close.result c.loop.frames c.fetch.new.frames c.loop.answer c.loop.invariant.2 f c.fetch.ensures.unwritten.0 c.close.ensures.closes;
      moments = closed_last _ _ _ _ _ _ c.loop.invariant.3 c.close.ensures.tick c.close.ensures.closes;
      signs = signs_on _ _ _ _ _ _ c.loop.invariant.4 c.close.ensures.signs;
      caused = caused_on _ _ _ _ _ _ c.loop.invariant.5 c.close.ensures.caused;
    }

pub loop-preserved-in-Goes : goal.loop-preserved-in-Goes
loop-preserved-in-Goes g c =
    let f = rw c.in-Ok-Some.field-0-is at c.in-Ok-Some.ensures.fetched in
    let t = rw c.in-Goes.is at c.turn-next_seat.ensures.turned in (
      tt,
      tt,
      goes_turn _ _ _ _ (seen (g.S.Source.left c.loop.stream) (g.S.Sink.contents c.loop.stream) (g.S.Source.faults c.loop.stream) (g.S.Sink.faults c.loop.stream))
          (seen (g.S.Source.left c.fetch.new.stream) (g.S.Sink.contents c.fetch.new.stream) (g.S.Source.faults c.fetch.new.stream) (g.S.Sink.faults c.fetch.new.stream))
          (seen (g.S.Source.left c.turn-next_seat.new.stream) (g.S.Sink.contents c.turn-next_seat.new.stream) (g.S.Source.faults c.turn-next_seat.new.stream) (g.S.Sink.faults c.turn-next_seat.new.stream))
          _ _ c.loop.frames c.fetch.new.frames c.loop.answer c.in-Ok-Some.input c.loop.invariant.2 f c.fetch.ensures.later c.fetch.ensures.unwritten c.turn-next_seat.ensures.unread c.turn-next_seat.ensures.later t,
      one_more _ _ _ _ _ _ c.loop.invariant.3 c.turn-next_seat.ensures.tick _ t.0 t.1,
      signs_on _ _ _ _ _ _ c.loop.invariant.4 c.turn-next_seat.ensures.signs,
      caused_on _ _ _ _ _ _ c.loop.invariant.5 c.turn-next_seat.ensures.caused,
    )

pub loop-preserved : goal.loop-preserved
loop-preserved g c =
    let f = rw c.in-Ok-Some.field-0-is at c.in-Ok-Some.ensures.fetched in
    let t = rw c.in-Asks.is at c.turn-next_seat.ensures.turned in (
      tt,
      tt,
      asks_turn _ _ _ _ (seen (g.S.Source.left c.loop.stream) (g.S.Sink.contents c.loop.stream) (g.S.Source.faults c.loop.stream) (g.S.Sink.faults c.loop.stream))
          (seen (g.S.Source.left c.fetch.new.stream) (g.S.Sink.contents c.fetch.new.stream) (g.S.Source.faults c.fetch.new.stream) (g.S.Sink.faults c.fetch.new.stream))
          (seen (g.S.Source.left c.turn-next_seat.new.stream) (g.S.Sink.contents c.turn-next_seat.new.stream) (g.S.Source.faults c.turn-next_seat.new.stream) (g.S.Sink.faults c.turn-next_seat.new.stream))
          _ _ c.loop.frames c.fetch.new.frames c.loop.answer c.in-Ok-Some.input c.loop.invariant.2 f c.fetch.ensures.later c.fetch.ensures.unwritten c.turn-next_seat.ensures.unread c.turn-next_seat.ensures.later c.in-Asks.input t,
      one_more _ _ _ _ _ _ c.loop.invariant.3 c.turn-next_seat.ensures.tick _ t.0 t.1,
      signs_on _ _ _ _ _ _ c.loop.invariant.4 c.turn-next_seat.ensures.signs,
      caused_on _ _ _ _ _ _ c.loop.invariant.5 c.turn-next_seat.ensures.caused,
    )

pub returns-in-Ends : goal.returns-in-Ends
returns-in-Ends g c =
    let f = rw c.in-Ok-Some.field-0-is at c.in-Ok-Some.ensures.fetched in
    let t = rw c.in-Ends.is at c.turn-next_seat.ensures.turned in
    record {
      serves =
          ended_turn _ _ _ _ (seen (g.S.Source.left c.loop.stream) (g.S.Sink.contents c.loop.stream) (g.S.Source.faults c.loop.stream) (g.S.Sink.faults c.loop.stream))
          (seen (g.S.Source.left c.fetch.new.stream) (g.S.Sink.contents c.fetch.new.stream) (g.S.Source.faults c.fetch.new.stream) (g.S.Sink.faults c.fetch.new.stream))
          (seen (g.S.Source.left c.turn-next_seat.new.stream) (g.S.Sink.contents c.turn-next_seat.new.stream) (g.S.Source.faults c.turn-next_seat.new.stream) (g.S.Sink.faults c.turn-next_seat.new.stream))
          _ _ c.loop.frames c.fetch.new.frames c.loop.answer c.in-Ok-Some.input c.loop.invariant.2 f c.fetch.ensures.later c.fetch.ensures.unwritten c.turn-next_seat.ensures.unread c.turn-next_seat.ensures.later c.in-Ends.ended c.result.result c.result.ensures t;
      moments =
          ended_last _ _ _ _ _ _ c.loop.invariant.3 c.turn-next_seat.ensures.tick (g.A.Agent.allows c.args.agent.now) (g.A.Agent.confirms c.args.agent.now) c.in-Ok-Some.input
          (seen (g.S.Source.left c.fetch.new.stream) (g.S.Sink.contents c.fetch.new.stream) (g.S.Source.faults c.fetch.new.stream) (g.S.Sink.faults c.fetch.new.stream))
          (seen (g.S.Source.left c.turn-next_seat.new.stream) (g.S.Sink.contents c.turn-next_seat.new.stream) (g.S.Source.faults c.turn-next_seat.new.stream) (g.S.Sink.faults c.turn-next_seat.new.stream))
          c.in-Ends.ended t;
      signs = signs_on _ _ _ _ _ _ c.loop.invariant.4 c.turn-next_seat.ensures.signs;
      caused = caused_on _ _ _ _ _ _ c.loop.invariant.5 c.turn-next_seat.ensures.caused;
    }
