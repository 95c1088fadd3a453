use Rattle.std.proofs.Common.{arith, rules, length, ◌-◌, ◌+◌, ◌≡◌, ◌≤◌, take, ◌∙◌, length-take, length-drop}
use borrow.Rule.Slice.PartMut.{put_mid}
use Rattle.std.proofs.lemmas.Grind.{common_steps}
use Rattle.sshc_wire.proofs.Counts.{some_moved, still_cause}
use Rattle.sshc_wire.proofs.Pieces.{filled_more, length_filled, given_more}
use Rattle.sshc_wire.proofs.source.read_front.Goals as goal

pub returns-in-Err-read_full : goal.returns-in-Err-read_full
returns-in-Err-read_full g c =
    let fits : c.in-Ok.first ≤ length c.read.new.buf = c.in-Ok.ensures.bound in
    let kept : g.S.Source.faults c.read.new.self ≡ g.S.Source.faults c.args.source.now = c.in-Ok.ensures.cause.same (λ e. absurd cc) in
    let moved : g.S.Source.empty_reads c.read.new.self ≡ g.S.Source.empty_reads c.args.source.now = some_moved _ _ _ _ c.if-first-eq0.false c.in-Ok.ensures.empty in
    let size : length c.read_full.new.buf ≡ length c.read.new.buf - c.in-Ok.first = grind (arith, common_steps, length-take, length-drop, c.read_full.auto.buf) in
    let whole_buf : length c.read.new.buf ≡ c.args.count = grind (arith, common_steps, length-take, length-drop, c.read.auto.buf) in
    record {
      bytes = search rules;
      bound = search rules;
      end = search rules;
      none = given_more c.in-Ok.first (length c.read_full.new.buf) c.args.count _ _ _ c.read.new.buf _ _ _ (omega arith) fits (omega arith) (omega (arith, c.read.ensures.counted)) c.in-Ok.ensures.bytes c.in-Err-read_full.ensures.none;
      cause = still_cause _ _ _ c.in-Err-read_full.failed kept c.in-Err-read_full.ensures.cause;
      whole = search rules;
      short = search rules;
      empty = search rules;
      last = omega (arith, c.read_full.ensures.last);
      apart = c.read_full.ensures.apart ∙ c.read.ensures.apart;
    }

pub returns : goal.returns
returns g c =
    let fits : c.in-Ok.first ≤ length c.read.new.buf = c.in-Ok.ensures.bound in
    let within : c.in-Ok-read_full.rest ≤ length c.read_full.new.buf = c.in-Ok-read_full.ensures.bound in
    let all : length (take (c.in-Ok.first + c.in-Ok-read_full.rest) (put_mid c.in-Ok.first (length c.read.new.buf - c.in-Ok.first) c.read.new.buf c.read_full.new.buf)) ≡ c.in-Ok.first + c.in-Ok-read_full.rest = length_filled c.in-Ok.first c.in-Ok-read_full.rest c.read.new.buf c.read_full.new.buf fits within in
    let size : length c.read_full.new.buf ≡ length c.read.new.buf - c.in-Ok.first = grind (arith, common_steps, length-take, length-drop, c.read_full.auto.buf) in
    let whole_buf : length c.read.new.buf ≡ c.args.count = grind (arith, common_steps, length-take, length-drop, c.read.auto.buf) in
    let kept : g.S.Source.faults c.read.new.self ≡ g.S.Source.faults c.args.source.now = c.in-Ok.ensures.cause.same (λ e. absurd cc) in
    let moved : g.S.Source.empty_reads c.read.new.self ≡ g.S.Source.empty_reads c.args.source.now = some_moved _ _ _ _ c.if-first-eq0.false c.in-Ok.ensures.empty in
    record {
      bytes = filled_more c.in-Ok.first c.in-Ok-read_full.rest _ c.read.new.buf c.read_full.new.buf _ _ _ fits within c.in-Ok.ensures.bytes c.in-Ok-read_full.ensures.bytes;
      bound = omega arith;
      end = λ few. c.in-Ok-read_full.ensures.end (omega arith);
      none = search rules;
      cause = record {
        later = omega (arith, c.in-Ok-read_full.ensures.cause.later);
        fault = λ e. absurd cc;
        same = λ e. c.in-Ok-read_full.ensures.cause.same (λ e. absurd cc) ∙ kept;
      };
      whole = λ full. omega (arith, c.in-Ok-read_full.ensures.whole (omega arith), c.read.ensures.counted);
      short = omega (arith, c.in-Ok-read_full.ensures.short, c.read.ensures.counted);
      empty = λ full. let up : c.in-Ok-read_full.rest ≡ length c.read_full.new.buf = omega arith in c.in-Ok-read_full.ensures.empty up ∙ moved;
      last = omega (arith, c.read_full.ensures.last);
      apart = c.read_full.ensures.apart ∙ c.read.ensures.apart;
    }
