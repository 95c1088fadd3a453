use Rattle.std.proofs.Common.{◌≡◌, true, false, arith, ◌<◌, ◌≤◌, length, ◌∙◌}
use Rattle.sshc_wire.specs.OutgoingLaws.{grows_on}
use Rattle.sshc_mux.proofs.AddingLemmas.{after_error, grew, same_muted}
use Rattle.sshc_mux.proofs.SendingLemmas.{whole_at, rest_at, part_at, whole_none, part_none}
use Rattle.sshc_mux.proofs.waiting.push_sent.Goals as goal

pub returns-then-bytes-left-clause-output : goal.returns-then-bytes-left-clause-output
returns-then-bytes-left-clause-output c =
    let within : c.loop-at.at < length c.args.pending.now.items = omega arith in
    part_at _ _ _ _ _ _ _ _ within c.index-chunk.ensures c.stream.ensures c.bytes-bytes.ensures _ _ _ _ (omega arith) c.split_at.ensures.front c.in_ok-push_pieces.ensures.output c.loop-at.invariant.output

pub loop-at-preserved : goal.loop-at-preserved
loop-at-preserved c =
    let within : c.loop-at.at < length c.args.pending.now.items = omega arith in
    let fits : length c.bytes-bytes.result.now ≤ c.loop-at.left = omega arith in
    record {
      size = omega arith;
      none = λ nothing. (whole_none 0 _ _ _ _ _ _ _ within c.index-chunk.ensures c.stream-in-loop-at.ensures c.bytes-bytes.ensures fits (c.loop-at.invariant.none nothing)).1;
      within = omega arith;
      output = whole_at _ _ _ _ _ _ _ _ within c.index-chunk.ensures c.stream-in-loop-at.ensures c.bytes-bytes.ensures _ _ _ fits c.in_ok-push_pieces-2.ensures.output c.loop-at.invariant.output;
      some = grew _ _ _ _ c.loop-at.invariant.some c.in_ok-push_pieces-2.ensures.output;
      same = same_muted _ _ _ c.in_ok-push_pieces-2.ensures.output ∙ c.loop-at.invariant.same;
      rest = rest_at 0 0 _ _ _ _ _ _ within c.index-chunk.ensures c.stream-in-loop-at.ensures c.bytes-bytes.ensures _ fits c.loop-at.invariant.rest;
    }

pub returns-in_err-push_pieces-clause-succeeds : goal.returns-in_err-push_pieces-clause-succeeds
returns-in_err-push_pieces-clause-succeeds c =
    let within : c.loop-at.at < length c.args.pending.now.items = omega arith in
    λ nothing. let no : false ≡ true = c.in_err-push_pieces.ensures.succeeds
    (part_none 0 _ _ _ _ _ _ _ within c.index-chunk.ensures c.stream.ensures c.bytes-bytes.ensures _ (omega arith) c.split_at.ensures.front (c.loop-at.invariant.none nothing)) in absurd (cc)

pub returns-in_err-push_pieces-2-clause-succeeds : goal.returns-in_err-push_pieces-2-clause-succeeds
returns-in_err-push_pieces-2-clause-succeeds c =
    let within : c.loop-at.at < length c.args.pending.now.items = omega arith in
    let fits : length c.bytes-bytes.result.now ≤ c.loop-at.left = omega arith in
    λ nothing. let no : false ≡ true = c.in_err-push_pieces-2.ensures.succeeds
    (whole_none 0 _ _ _ _ _ _ _ within c.index-chunk.ensures c.stream-in-loop-at.ensures c.bytes-bytes.ensures fits (c.loop-at.invariant.none nothing)).0 in absurd (cc)

pub returns-in_err-push_pieces-clause-some : goal.returns-in_err-push_pieces-clause-some
returns-in_err-push_pieces-clause-some c = after_error _ _ (grows_on _ _ _ c.loop-at.invariant.some c.in_err-push_pieces.ensures.some)

pub returns-in_err-push_pieces-2-clause-some : goal.returns-in_err-push_pieces-2-clause-some
returns-in_err-push_pieces-2-clause-some c = after_error _ _ (grows_on _ _ _ c.loop-at.invariant.some c.in_err-push_pieces-2.ensures.some)
