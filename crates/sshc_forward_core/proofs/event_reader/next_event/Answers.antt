use Rattle.std.proofs.Common.{arith, refl, vec_len, ◌≡◌, ◌<◌, length}
use Rattle.sshc_forward_core.proofs.EventFronts.{no_length, ends_in_body, event_failed, whole_event, first_failed, second_failed, not_empty}
use Rattle.sshc_forward_core.proofs.event_reader.next_event.Goals as goal

pub returns-in-Err-clause-gives : goal.returns-in-Err-clause-gives
returns-in-Err-clause-gives g c = first_failed c.in-Err.failed _ _ _ c.read_failed.ensures c.in-Err.ensures.none.0 c.in-Err.ensures.none.2

pub returns-in_default-length_of-clause-gives : goal.returns-in_default-length_of-clause-gives
returns-in_default-length_of-clause-gives g c =
    let out = rw c.as_slice.ensures.value at (c.in_default-length_of.ensures.none refl) in
    let some : 0 < vec_len c.read_into.new.bytes = not_empty _ c.if-is_empty.ensures in
    no_length c.read_into.new.bytes.items _ _ (omega (arith, some)) c.in_default.ensures.bound c.in_default.ensures.end out c.in_default.ensures.bytes

pub returns-in-Err-read_into-clause-gives : goal.returns-in-Err-read_into-clause-gives
returns-in-Err-read_into-clause-gives g c =
    second_failed c.in-Err-read_into.failed _ c.read_into.new.bytes.items _ _ _ c.in_default.ensures.bytes c.read_failed-in-Err-read_into.ensures c.in-Err-read_into.ensures.none.0 c.in-Err-read_into.ensures.none.2

pub returns-then-len-length-clause-gives : goal.returns-then-len-length-clause-gives
returns-then-len-length-clause-gives g c =
    let is = rw c.as_slice.ensures.value at c.in-Some.ensures.some in
    let size = rw c.as_slice.ensures.value at c.in-Some.ensures.size in
    let four : length c.read_into.new.bytes.items ≡ 4 = omega (arith, size, c.in_default.ensures.bound) in
    let short : length c.read_into-2.new.bytes.items < c.in-Some.length = omega arith in
    ends_in_body c.in-Some.length c.read_into.new.bytes.items c.read_into-2.new.bytes.items _ _ _ four is short c.in_default.ensures.bytes c.in_default-read_into.ensures.bytes (c.in_default-read_into.ensures.end short)

pub returns-in-Ok-clause-gives : goal.returns-in-Ok-clause-gives
returns-in-Ok-clause-gives g c =
    let is = rw c.as_slice.ensures.value at c.in-Some.ensures.some in
    let size = rw c.as_slice.ensures.value at c.in-Some.ensures.size in
    let four : length c.read_into.new.bytes.items ≡ 4 = omega (arith, size, c.in_default.ensures.bound) in
    let full : length c.read_into-2.new.bytes.items ≡ c.in-Some.length = omega (arith, c.in_default-read_into.ensures.bound) in
    let good = rw c.as_slice-2.ensures.value at c.in-Ok.ensures in
    whole_event c.in-Some.length _ c.read_into.new.bytes.items c.read_into-2.new.bytes.items _ _ _ four is c.in-Some.ensures.within.0 c.in-Some.ensures.within.1 full c.in_default.ensures.bytes c.in_default-read_into.ensures.bytes good

pub returns-in-Err-event_in-clause-gives : goal.returns-in-Err-event_in-clause-gives
returns-in-Err-event_in-clause-gives g c =
    let is = rw c.as_slice.ensures.value at c.in-Some.ensures.some in
    let size = rw c.as_slice.ensures.value at c.in-Some.ensures.size in
    let four : length c.read_into.new.bytes.items ≡ 4 = omega (arith, size, c.in_default.ensures.bound) in
    let full : length c.read_into-2.new.bytes.items ≡ c.in-Some.length = omega (arith, c.in_default-read_into.ensures.bound) in
    let fails = rw c.as_slice-2.ensures.value at c.in-Err-event_in.ensures in
    event_failed c.in-Some.length c.in-Err-event_in.e _ c.read_into.new.bytes.items c.read_into-2.new.bytes.items _ _ _ four is c.in-Some.ensures.within.0 c.in-Some.ensures.within.1 full c.in_default.ensures.bytes c.in_default-read_into.ensures.bytes fails c.not_read.ensures
