-- One more piece of a buffer that is filled, and of a text that is written.
use Rattle.std.proofs.Common.{◌≡◌, ℕ, ◌+◌, ◌-◌, ◌<◌, ◌≤◌, List, ◌++◌, length, take, drop, ap, sym, ◌∙◌, arith, length-append, length-take, length-drop, drop-drop, Option}
use Rattle.std.proofs.lemmas.List.{take-append-drop, take-append-le, take-take, take_all}
use Rattle.std.proofs.Math.Seq.{take-append-add}
use borrow.Rule.Slice.PartMut.{put_mid, post_of}
use Rattle.sshc_wire.specs.Contents.{prepend, append}
use Rattle.sshc_wire.specs.ContentsLaws.{prepend-prepend, append-append}

pub take_two : (xs : List ℕ) (f n : ℕ) → f ≤ length xs → take (f + n) xs ≡ take f xs ++ take n (drop f xs)
take_two xs f n h =
    let same : length (take f xs) ≡ f = grind (arith, length-take) in
    let front : take (length (take f xs) + n) (take f xs ++ drop f xs) ≡ take f xs ++ take n (drop f xs) = take-append-add (take f xs) (drop f xs) n in
    rw (same, take-append-drop) at front

pub take_two_put : (f n k : ℕ) (buf piece : List ℕ) → f ≤ length buf → n ≤ length piece → take (f + n) (put_mid f k buf piece) ≡ take f buf ++ take n piece
take_two_put f n k buf piece fits within =
    let same : length (take f buf) ≡ f = grind (arith, length-take) in
    let front : take (length (take f buf) + n) (take f buf ++ (piece ++ post_of f k buf)) ≡ take f buf ++ take n (piece ++ post_of f k buf) = take-append-add (take f buf) (piece ++ post_of f k buf) n in
    let short : take n (piece ++ post_of f k buf) ≡ take n piece = take-append-le n piece (post_of f k buf) within in
    rw (same, short) at front

-- a read that continues behind the filled bytes
pub filled_more : (f n k : ℕ) (buf piece : List ℕ) (a b c : Option (List ℕ)) → f ≤ length buf → n ≤ length piece →
    a ≡ prepend (take f buf) b → b ≡ prepend (take n piece) c → a ≡ prepend (take (f + n) (put_mid f k buf piece)) c
filled_more f n k buf piece a b c fits within first second =
    first ∙ ap (λ o. prepend (take f buf) o) second ∙ prepend-prepend (take f buf) (take n piece) c
    ∙ ap (λ t. prepend t c) (sym (take_two_put f n k buf piece fits within))

-- a write that continues behind the written bytes
pub written_more : (f n : ℕ) (piece : List ℕ) (a b c : Option (List ℕ)) → f ≤ length piece → n ≤ length (take (length piece - f) (drop f piece)) →
    b ≡ append a (take f piece) → c ≡ append b (take n (take (length piece - f) (drop f piece))) → c ≡ append a (take (f + n) piece)
written_more f n piece a b c fits within first second =
    let le : n ≤ length piece - f = grind (arith, length-take, length-drop) in
    second ∙ ap (λ o. append o (take n (take (length piece - f) (drop f piece)))) first
    ∙ append-append a (take f piece) (take n (take (length piece - f) (drop f piece)))
    ∙ ap (λ t. append a (take f piece ++ t)) (take-take n (length piece - f) (drop f piece) le)
    ∙ ap (λ t. append a t) (sym (take_two piece f n fits))

-- it stays within the piece
pub within_piece : (f n : ℕ) (piece : List ℕ) → f ≤ length piece → n ≤ length (take (length piece - f) (drop f piece)) → f + n ≤ length piece
within_piece f n piece fits within = grind (arith, length-take, length-drop)

pub within_buffer : (f n : ℕ) (buf piece : List ℕ) → f ≤ length buf → n ≤ length piece → f + n ≤ length (put_mid f (length buf - f) buf piece)
within_buffer f n buf piece fits within = grind (arith, length-append, length-take)

-- all of the filled bytes are in the buffer
pub length_filled : (f n : ℕ) (buf piece : List ℕ) → f ≤ length buf → n ≤ length piece → length (take (f + n) (put_mid f (length buf - f) buf piece)) ≡ f + n
length_filled f n buf piece fits within = grind (arith, length-take, length-append)

-- bytes that were read, and then those before an error
pub given_more : (f n count r0 r1 r2 : ℕ) (front : List ℕ) (a b c : Option (List ℕ)) → 0 < f → f ≤ length front → n + f ≤ count → r1 ≤ r0 + 1 →
    a ≡ prepend (take f front) b → ((given : List ℕ) × (length given < n) × (b ≡ prepend given c) × (r2 ≤ r1 + length given + 1)) →
    (given : List ℕ) × (length given < count) × (a ≡ prepend given c) × (r2 ≤ r0 + length given + 1)
given_more f n count r0 r1 r2 front a b c some fits within counted first more =
    let long : length (take f front ++ more.0) ≡ f + length more.0 = grind (arith, length-append, length-take) in
    let short : length more.0 < n = more.1 in
    let reads : r2 ≤ r1 + length more.0 + 1 = more.3 in
    (take f front ++ more.0, omega arith, first ∙ ap (λ o. prepend (take f front) o) more.2 ∙ prepend-prepend (take f front) more.0 c, omega arith)

-- the next bytes of a list, copied to the front of a buffer
pub next_bytes : (at n : ℕ) (contents left buf : List ℕ) → left ≡ drop at contents → take n buf ≡ take n left → drop at contents ≡ take n buf ++ drop (at + n) contents
next_bytes at n contents left buf is same =
    sym (take-append-drop n (drop at contents))
    ∙ ap (λ t. t ++ drop n (drop at contents)) (ap (take n) (sym is) ∙ sym same)
    ∙ ap (λ t. take n buf ++ t) (drop-drop n at contents)

-- all behind a place
pub range_to_end : (at : ℕ) (whole contents : List ℕ) → whole ≡ contents → take (length whole - at) (drop at whole) ≡ drop at contents
range_to_end at whole contents is =
    take_all (length whole - at) (drop at whole) (omega (arith, length-drop at whole)) ∙ ap (drop at) is
