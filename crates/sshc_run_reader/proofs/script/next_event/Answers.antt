use Rattle.std.proofs.Common.{arith, refl, ap, inr, ◌∙◌, ◌≡◌, ◌<◌, ◌++◌, length, length-append}
use Rattle.sshc_run_reader.specs.FrontLaws.{front_short}
use Rattle.sshc_run_reader.specs.Script.{whole_front}
use Rattle.sshc_run_reader.proofs.Fronts.{no_length, cut_body, ends_in_body, event_failed, whole_is, failed_read, two_parts, not_empty}
use Rattle.sshc_run_reader.proofs.script.next_event.Goals as goal

pub returns-in-Err-clause-gives : goal.returns-in-Err-clause-gives
returns-in-Err-clause-gives g c =
    let none = c.in-Err.ensures.none in
    failed_read _ _ _ c.in-Err.failed _ none.0 _ _ c.read_failed.ensures none.2 (front_short _ none.0 none.1) none.3

pub returns-in_default-clause-gives : goal.returns-in_default-clause-gives
returns-in_default-clause-gives g c =
    let some : 0 < length c.in-Ok.head.now = not_empty _ c.if-is_empty.ensures in
    let head = c.in-Ok.ensures in
    let bad = no_length _ _ _ some head.bound head.end (c.in_default.ensures.none refl) in
    (c.in-Ok.head.now, head.bytes, (bad, head.short))

pub returns-in-Err-read_front-clause-gives : goal.returns-in-Err-read_front-clause-gives
returns-in-Err-read_front-clause-gives g c =
    let four : length c.in-Ok.head.now ≡ 4 = omega (arith, c.in-Some.ensures.size, c.in-Ok.ensures.bound) in
    let none = c.in-Err-read_front.ensures.none in
    failed_read _ _ _ c.in-Err-read_front.failed _ (c.in-Ok.head.now ++ none.0) _ _
    c.read_failed-in-Err-read_front.ensures (two_parts _ _ _ _ _ c.in-Ok.ensures.bytes none.2)
    (inr (cut_body _ _ _ _ four c.in-Some.ensures.some none.1))
    (omega (arith, c.in-Ok.ensures.whole four, none.3, length-append c.in-Ok.head.now none.0))

pub returns-then-body-length-clause-gives : goal.returns-then-body-length-clause-gives
returns-then-body-length-clause-gives g c =
    let four : length c.in-Ok.head.now ≡ 4 = omega (arith, c.in-Some.ensures.size, c.in-Ok.ensures.bound) in
    let body = c.in-Ok-read_front.ensures in
    let short : length c.in-Ok-read_front.body.now < c.in-Some.length = omega arith in
    let both = length-append c.in-Ok.head.now c.in-Ok-read_front.body.now in (
      c.in-Ok.head.now ++ c.in-Ok-read_front.body.now,
      two_parts _ _ _ _ _ c.in-Ok.ensures.bytes body.bytes,
      (
        ends_in_body _ _ _ _ _ four c.in-Some.ensures.some short (body.end short),
        omega (arith, c.in-Ok.ensures.whole four, body.short, both),
      ),
    )

pub returns-in-Ok-raw_event-clause-gives : goal.returns-in-Ok-raw_event-clause-gives
returns-in-Ok-raw_event-clause-gives g c =
    let four : length c.in-Ok.head.now ≡ 4 = omega (arith, c.in-Some.ensures.size, c.in-Ok.ensures.bound) in
    let full : length c.in-Ok-read_front.body.now ≡ c.in-Some.length = omega (arith, c.in-Ok-read_front.ensures.bound) in
    let both = length-append c.in-Ok.head.now c.in-Ok-read_front.body.now in
    let n = c.in-Some.ensures in (
      c.in-Ok.head.now ++ c.in-Ok-read_front.body.now,
      two_parts _ _ _ _ _ c.in-Ok.ensures.bytes c.in-Ok-read_front.ensures.bytes,
      (
        record {
          within = omega (arith, c.in-Ok-raw_event.ensures.size, full, n.within.1);
          size = omega (arith, both, four, c.in-Ok-raw_event.ensures.size);
          is = λ more. whole_is _ _ _ _ more four n.some n.within.0 n.within.1 full
              ∙ ap (λ r. whole_front r more) c.in-Ok-raw_event.ensures.head;
        },
        omega (arith, c.in-Ok.ensures.whole four, c.in-Ok-read_front.ensures.whole full, both),
      ),
    )

pub returns-in-Err-raw_event-clause-gives : goal.returns-in-Err-raw_event-clause-gives
returns-in-Err-raw_event-clause-gives g c =
    let four : length c.in-Ok.head.now ≡ 4 = omega (arith, c.in-Some.ensures.size, c.in-Ok.ensures.bound) in
    let full : length c.in-Ok-read_front.body.now ≡ c.in-Some.length = omega (arith, c.in-Ok-read_front.ensures.bound) in
    let n = c.in-Some.ensures in
    let both = length-append c.in-Ok.head.now c.in-Ok-read_front.body.now in
    event_failed _ _ _ c.in-Err-raw_event.e _ _ (c.in-Ok.head.now ++ c.in-Ok-read_front.body.now) _ _
    (λ more. whole_is _ _ _ _ more four n.some n.within.0 n.within.1 full)
    (two_parts _ _ _ _ _ c.in-Ok.ensures.bytes c.in-Ok-read_front.ensures.bytes) c.in-Err-raw_event.ensures.head
    (omega (arith, c.in-Ok.ensures.whole four, c.in-Ok-read_front.ensures.whole full, both)) c.not_read.ensures
