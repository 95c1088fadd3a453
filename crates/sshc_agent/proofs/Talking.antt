-- A connection that continues by one call, and the ways in which it ends.
use Rattle.std.proofs.Common.{◌≡◌, ◌≤◌, ◌⊎◌, ℕ, List, [], ◌∷◌, ◌++◌, Option, Some, None, Result, Ok, Err, refl, sym, ap, subst, ◌∙◌, arith, append_assoc, inl, inr}
use Rattle.std.proofs.lemmas.List.{append-nil}
use Rattle.sshc_wire.specs.CasesLaws.{some_is}
use Rattle.sshc_wire.specs.declared.error.NoMemory.{NoMemory}
use Rattle.sshc_wire.specs.Contents.{IsAtEnd, append, prepend}
use Rattle.sshc_wire.specs.ContentsLaws.{append-append, append-nothing, prepend-nothing, prepend-prepend}
use Rattle.sshc_wire.specs.Faults.{Rose}
use Rattle.sshc_agent_core.specs.declared.input.AgentInput.{AgentInput}
use Rattle.sshc_agent_core.specs.declared.input.AgentInput.TheVariants as inputs
use Rattle.sshc_agent_core.specs.declared.input.AgentOutput.{AgentOutput}
use Rattle.sshc_agent_core.specs.declared.input.AgentOutput.TheVariants as outputs
use Rattle.sshc_agent_core.specs.AgentFrames.{FrameBytes, Gives, next_in, no_bytes, pushed}
use Rattle.sshc_agent_core.specs.FrameLaws.{gives_more, gives_on, pushed_on}
use Rattle.sshc_agent_shared.specs.declared.call.Call.{Call}
use Rattle.sshc_agent_shared.specs.Kept.{SeatState}
use Rattle.sshc_agent.specs.declared.turn.Next.TheVariants as steps
use Rattle.sshc_agent.specs.declared.turn.Ended.{Ended}
use Rattle.sshc_agent.specs.declared.turn.Ended.TheVariants as ends
use Rattle.sshc_agent.specs.Talk.{AllGoOn, Allows, Closes, Confirms, Ending, EndsLast, Fetched, FitsQuestion, Follows, GoesOn, IsCall, IsClose, IsClosed, IsRefused, Last, EndsWith, Opens, Question, RanOut, Returns, Serves, Serving, StreamSeen, Turned, closed, framed, framed_in, key, question, read_failed, refused, replies_of, reply, request, starved, whole, write_failed}

-- ---- bytes

pub nothing_written : (o : Option (List ℕ)) → o ≡ append o []
nothing_written o = sym (append-nothing o)

-- ---- lists of calls

framed_push : (calls : List Call) (c : Call) → framed_in (calls ++ c ∷ []) ≡ framed_in calls ++ framed c.input
framed_push [] c = append-nil (framed c.input)
framed_push (x ∷ calls) c = ap (λ (y : List AgentInput). framed x.input ++ y) (framed_push calls c) ∙ sym (append_assoc (framed x.input) (framed_in calls) (framed c.input))

replies_push : (calls : List Call) (c : Call) → replies_of (calls ++ c ∷ []) ≡ replies_of calls ++ reply c.output
replies_push [] c = append-nil (reply c.output)
replies_push (x ∷ calls) c = ap (λ (y : List ℕ). reply x.output ++ y) (replies_push calls c) ∙ sym (append_assoc (reply x.output) (replies_of calls) (reply c.output))

follows_push : (allows : Allows) (confirms : Confirms) (asked : Option Question) (calls : List Call) (c : Call) (after : Option Question)
    → Follows allows confirms asked calls after → FitsQuestion allows confirms after c.input → Follows allows confirms asked (calls ++ c ∷ []) (question c.output)
follows_push allows confirms asked [] c after f fits = (subst (λ (a : Option Question). FitsQuestion allows confirms a c.input) f fits, refl)
follows_push allows confirms asked (x ∷ calls) c after f fits = (f.0, follows_push allows confirms (question x.output) calls c after f.1 fits)

going_push : (calls : List Call) (c : Call) → AllGoOn calls → GoesOn c → AllGoOn (calls ++ c ∷ [])
going_push [] c all is = (is, tt)
going_push (x ∷ calls) c all is = (all.0, going_push calls c all.1 is)

going_last : (calls : List Call) → AllGoOn calls → EndsLast calls
going_last [] all = tt
going_last (x ∷ []) all = tt
going_last (x ∷ y ∷ calls) all = (all.0, going_last (y ∷ calls) all.1)

ends_last : (calls : List Call) (c : Call) → AllGoOn calls → EndsLast (calls ++ c ∷ [])
ends_last [] c all = tt
ends_last (x ∷ []) c all = (all.0, tt)
ends_last (x ∷ y ∷ calls) c all = (all.0, ends_last (y ∷ calls) c all.1)

-- ---- inputs

framed_closes : (input : AgentInput) → framed input ≡ input ∷ [] → IsClose input → ⊥
framed_closes (inputs.Frame bytes) e c = absurd c
framed_closes (inputs.Oversize length) e c = absurd c
framed_closes (inputs.RequestAnswer told) e c = absurd c
framed_closes (inputs.KeyAnswer told) e c = absurd c
framed_closes inputs.Close e c = cc

framed_fits : (allows : Allows) (confirms : Confirms) (input : AgentInput) → framed input ≡ input ∷ [] → FitsQuestion allows confirms None input
framed_fits allows confirms (inputs.Frame bytes) e = tt
framed_fits allows confirms (inputs.Oversize length) e = tt
framed_fits allows confirms (inputs.RequestAnswer told) e = cc
framed_fits allows confirms (inputs.KeyAnswer told) e = cc
framed_fits allows confirms inputs.Close e = tt

answer_closes : (allows : Allows) (confirms : Confirms) (asked : Question) (input : AgentInput) → FitsQuestion allows confirms (Some asked) input → IsClose input → ⊥
answer_closes allows confirms asked (inputs.Frame bytes) f c = absurd c
answer_closes allows confirms asked (inputs.Oversize length) f c = absurd c
answer_closes allows confirms asked (inputs.RequestAnswer told) f c = absurd c
answer_closes allows confirms asked (inputs.KeyAnswer told) f c = absurd c
answer_closes allows confirms (request message) inputs.Close f c = absurd f
answer_closes allows confirms (key blob) inputs.Close f c = absurd f

answer_framed : (allows : Allows) (confirms : Confirms) (asked : Question) (input : AgentInput) → FitsQuestion allows confirms (Some asked) input → framed input ≡ []
answer_framed allows confirms (request message) (inputs.Frame bytes) f = absurd f
answer_framed allows confirms (request message) (inputs.Oversize length) f = absurd f
answer_framed allows confirms (key blob) (inputs.Frame bytes) f = absurd f
answer_framed allows confirms (key blob) (inputs.Oversize length) f = absurd f
answer_framed allows confirms asked (inputs.RequestAnswer told) f = refl
answer_framed allows confirms asked (inputs.KeyAnswer told) f = refl
answer_framed allows confirms asked inputs.Close f = refl

ok_is : (x y : Option AgentInput) → ◌≡◌ {A = Result (Option AgentInput) NoMemory} (Ok x) (Ok y) → x ≡ y
ok_is x y e = cc

by_output : (output : AgentOutput) → IsClosed output → (question output ≡ None) × (reply output ≡ [])
by_output (outputs.Closed cause) is = (refl, refl)
by_output (outputs.Answer frame) is = absurd is
by_output (outputs.AskRequest message) is = absurd is
by_output (outputs.AskKey blob) is = absurd is
by_output outputs.Nothing is = absurd is

asks_open : (output : AgentOutput) (q : Question) → question output ≡ Some q → IsClosed output → ⊥
asks_open (outputs.Closed cause) q asks is = cc
asks_open (outputs.Answer frame) q asks is = absurd is
asks_open (outputs.AskRequest message) q asks is = absurd is
asks_open (outputs.AskKey blob) q asks is = absurd is
asks_open outputs.Nothing q asks is = absurd is

-- ---- a connection

module _ (allows : Allows) (confirms : Confirms) (before : StreamSeen) (seat0 : SeatState) where
  -- no call was made yet
  pub begun : Serving allows confirms before before seat0 seat0 no_bytes None
  begun =
      record {
        added = [];
        calls = sym (append-nil seat0.calls);
        conn = refl;
        given = [];
        read = sym (prepend-nothing before.left);
        inputs = refl;
        asked = None;
        questions = refl;
        opens = tt;
        going = tt;
        held = nothing_written before.held;
        read_later = omega arith;
        write_later = omega arith;
        unrefused = refl;
      }

  -- an input that is to be passed to the agent
  pub record Taking (now : StreamSeen) (seat : SeatState) (frames : FrameBytes) (input : AgentInput) : Type 0 where
    pub added : List Call
    pub calls : seat.calls ≡ seat0.calls ++ added
    pub conn : seat.conn ≡ seat0.conn
    pub given : List ℕ
    pub read : before.left ≡ prepend given now.left
    pub prior : FrameBytes
    pub earlier : Gives (pushed no_bytes given) (framed_in added) prior
    pub inputs : Gives (pushed no_bytes given) (framed_in added ++ framed input) frames
    pub asked : Option Question
    pub questions : Follows allows confirms None added asked
    pub fits : FitsQuestion allows confirms asked input
    pub opens : (IsClose input → ⊥)
    pub going : AllGoOn added
    pub held : now.held ≡ append before.held (replies_of added)
    pub read_later : before.read_faults ≤ now.read_faults
    pub write_later : before.write_faults ≤ now.write_faults
    pub unrefused : seat.refused ≡ seat0.refused

  -- more bytes were read
  more_read : (now next : StreamSeen) (given more : List ℕ) → before.left ≡ prepend given now.left → now.left ≡ prepend more next.left → before.left ≡ prepend (given ++ more) next.left
  more_read now next given more is was = is ∙ (ap (prepend given) was ∙ prepend-prepend given more next.left)

  more_given : (given more : List ℕ) (taken : List AgentInput) (frames : FrameBytes) → Gives (pushed no_bytes given) taken frames → Gives (pushed no_bytes (given ++ more)) taken (pushed frames more)
  more_given given more taken frames g = subst (λ (s : FrameBytes). Gives s taken (pushed frames more)) (pushed_on no_bytes given more) (gives_more (pushed no_bytes given) frames taken more g)

  pub taken : (now next : StreamSeen) (seat : SeatState) (frames frames' : FrameBytes) (answer : Option AgentInput) (input : AgentInput)
      → Serving allows confirms before now seat0 seat frames answer → Fetched answer frames frames' now next (Ok (Some input))
      → next.held ≡ now.held → now.read_faults ≤ next.read_faults → next.write_faults ≡ now.write_faults
      → Taking next seat frames' input
  taken now next seat frames frames' None input s f held later same = by_asked s.asked refl
    where
      none_asked : (asked : Option Question) → Opens allows confirms asked None → asked ≡ None
      none_asked None o = refl
      none_asked (Some q) o = absurd o

      by_asked : (asked : Option Question) → s.asked ≡ asked → Taking next seat frames' input
      by_asked asked is =
          let more = f.0 in
          let none : s.asked ≡ None = none_asked s.asked s.opens in
          let earlier = more_given s.given more (framed_in s.added) frames s.inputs in
          record {
            added = s.added;
            calls = s.calls;
            conn = s.conn;
            given = s.given ++ more;
            read = more_read now next s.given more s.read f.1;
            prior = pushed frames more;
            earlier = earlier;
            inputs = gives_on (pushed no_bytes (s.given ++ more)) (pushed frames more) frames' (framed_in s.added) (framed input) earlier (subst (λ (x : List AgentInput). Gives (pushed frames more) x frames') (sym f.2) (frames', f.3, refl));
            asked = s.asked;
            questions = s.questions;
            fits = subst (λ (a : Option Question). FitsQuestion allows confirms a input) (sym none) (framed_fits allows confirms input f.2);
            opens = framed_closes input f.2;
            going = s.going;
            held = held ∙ s.held;
            read_later = omega (arith, s.read_later, later);
            write_later = omega (arith, s.write_later, same);
            unrefused = s.unrefused;
          }
  taken now next seat frames frames' (Some a) input s f held later same = by_asked s.asked s.opens refl
    where
      by_asked : (asked : Option Question) → Opens allows confirms asked (Some a) → s.asked ≡ asked → Taking next seat frames' input
      by_asked None o is = absurd o
      by_asked (Some q) o is =
          let input_is : a ≡ input = some_is a input (sym (ok_is (Some input) (Some a) f.0)) in
          let fits : FitsQuestion allows confirms (Some q) input = subst (λ (x : AgentInput). FitsQuestion allows confirms (Some q) x) input_is o in
          let none : framed input ≡ [] = answer_framed allows confirms q input fits in
          let given : Gives (pushed no_bytes s.given) (framed_in s.added) frames' = subst (λ (t : FrameBytes). Gives (pushed no_bytes s.given) (framed_in s.added) t) (sym f.1) s.inputs in
          record {
            added = s.added;
            calls = s.calls;
            conn = s.conn;
            given = s.given;
            read = s.read ∙ ap (λ (t : StreamSeen). prepend s.given t.left) (sym f.2);
            prior = frames';
            earlier = given;
            inputs = subst (λ (x : List AgentInput). Gives (pushed no_bytes s.given) x frames') (sym (append-nil (framed_in s.added)) ∙ ap (λ (x : List AgentInput). framed_in s.added ++ x) (sym none)) given;
            asked = s.asked;
            questions = s.questions;
            fits = subst (λ (x : Option Question). FitsQuestion allows confirms x input) (sym is) fits;
            opens = answer_closes allows confirms q input fits;
            going = s.going;
            held = held ∙ s.held;
            read_later = omega (arith, s.read_later, later);
            write_later = omega (arith, s.write_later, same);
            unrefused = s.unrefused;
          }

  -- ---- the call was taken

  module _ (now next : StreamSeen) (seat seat' : SeatState) (frames : FrameBytes) (input : AgentInput) (t : Taking now seat frames input)
      (left : next.left ≡ now.left) (reads : next.read_faults ≡ now.read_faults) (later : now.write_faults ≤ next.write_faults) where
    read_still : before.left ≡ prepend t.given next.left
    read_still = t.read ∙ ap (prepend t.given) (sym left)

    module _ (c : Call) (is : IsCall seat seat' input c) where
      calls_are : seat'.calls ≡ seat0.calls ++ (t.added ++ c ∷ [])
      calls_are = is.calls ∙ (ap (λ (x : List Call). x ++ c ∷ []) t.calls ∙ append_assoc seat0.calls t.added (c ∷ []))

      inputs_are : Gives (pushed no_bytes t.given) (framed_in (t.added ++ c ∷ [])) frames
      inputs_are = subst (λ (x : List AgentInput). Gives (pushed no_bytes t.given) x frames) (ap (λ (x : AgentInput). framed_in t.added ++ framed x) (sym is.given) ∙ sym (framed_push t.added c)) t.inputs

      questions_are : Follows allows confirms None (t.added ++ c ∷ []) (question c.output)
      questions_are = follows_push allows confirms None t.added c t.asked t.questions (subst (FitsQuestion allows confirms t.asked) (sym is.given) t.fits)

      going_are : (IsClosed c.output → ⊥) → AllGoOn (t.added ++ c ∷ [])
      going_are unclosed = going_push t.added c t.going (record { unclosing = λ x. t.opens (subst IsClose is.given x); unclosed = unclosed })

      pub goes_on : (answer : Option AgentInput) → (IsClosed c.output → ⊥) → Opens allows confirms (question c.output) answer → next.held ≡ append now.held (reply c.output) → Serving allows confirms before next seat0 seat' frames answer
      goes_on answer unclosed opens wrote =
          record {
            added = t.added ++ c ∷ [];
            calls = calls_are;
            conn = is.conn ∙ t.conn;
            given = t.given;
            read = read_still;
            inputs = inputs_are;
            asked = question c.output;
            questions = questions_are;
            opens = opens;
            going = going_are unclosed;
            held = wrote ∙ (ap (λ (x : Option (List ℕ)). append x (reply c.output)) t.held ∙ (append-append before.held (replies_of t.added) (reply c.output) ∙ ap (append before.held) (sym (replies_push t.added c))));
            read_later = omega (arith, t.read_later, reads);
            write_later = omega (arith, t.write_later, later);
            unrefused = is.unrefused ∙ t.unrefused;
          }

      cut_at : (front rest : List ℕ) {T : Type 0} → reply c.output ≡ front ++ rest → (rest ≡ []) ⊎ T → (rest ≡ []) ⊎ (Last (λ call. EndsWith (reply call.output) rest) (t.added ++ c ∷ []) × T)
      cut_at front rest parts (inl none) = inl none
      cut_at front rest parts (inr why) = inr ((t.added, c, refl, (front, parts)), why)

      -- it was the last one
      pub stops : (result : Result (Unit {0}) NoMemory) → question c.output ≡ None
          → (front rest : List ℕ) → reply c.output ≡ front ++ rest → next.held ≡ append now.held front
          → (rest ≡ []) ⊎ (Rose before.write_faults next.write_faults ⊎ RanOut result)
          → Ending before next seat0 seat' (t.added ++ c ∷ []) frames result
          → Serves allows confirms before next seat0 seat' result
      stops result none front rest parts wrote cut ending =
          record {
            added = t.added ++ c ∷ [];
            calls = calls_are;
            conn = is.conn ∙ t.conn;
            given = t.given;
            read = read_still;
            rest = frames;
            inputs = inputs_are;
            asked = question c.output;
            questions = questions_are;
            unanswered = inl none;
            ends = ends_last t.added c t.going;
            written = replies_of t.added ++ front;
            unwritten = rest;
            held = wrote ∙ (ap (λ (x : Option (List ℕ)). append x front) t.held ∙ append-append before.held (replies_of t.added) front);
            output = replies_push t.added c ∙ (ap (λ (x : List ℕ). replies_of t.added ++ x) parts ∙ sym (append_assoc (replies_of t.added) front rest));
            cut = cut_at front rest parts cut;
            ending = ending;
          }

    -- the call was refused
    pub refused_call : (result : Result (Unit {0}) NoMemory) → IsRefused seat seat' → next.held ≡ now.held → Serves allows confirms before next seat0 seat' result
    refused_call result is same =
        let counted : Rose seat0.refused seat'.refused = subst (λ (n : ℕ). Rose n seat'.refused) t.unrefused is.counted in
        record {
          added = t.added;
          calls = is.calls ∙ t.calls;
          conn = is.conn ∙ t.conn;
          given = t.given;
          read = read_still;
          rest = t.prior;
          inputs = t.earlier;
          asked = t.asked;
          questions = t.questions;
          unanswered = inr (inl counted);
          ends = going_last t.added t.going;
          written = replies_of t.added;
          unwritten = [];
          held = same ∙ t.held;
          output = sym (append-nil (replies_of t.added));
          cut = inl refl;
          ending = refused counted;
        }

  -- ---- the source ended or failed

  none_open : (asked : Option Question) → Opens allows confirms asked None → asked ≡ None
  none_open None o = refl
  none_open (Some q) o = absurd o

  risen : (a b c : ℕ) → a ≤ b → Rose b c → Rose a c
  risen a b c le rose = omega (arith, le, rose)

  why : (now next : StreamSeen) (seat : SeatState) (added : List Call) (rest : FrameBytes) → before.read_faults ≤ now.read_faults
      → next_in rest ≡ None → Rose now.read_faults next.read_faults ⊎ IsAtEnd next.left → Last (λ call. IsClose call.input) added → Ending before next seat0 seat added rest (Ok tt)
  why now next seat added rest later none (inl rose) last = read_failed (risen before.read_faults now.read_faults next.read_faults later rose) last
  why now next seat added rest later none (inr end) last = whole none end last

  pub gone : (now next : StreamSeen) (seat seat' : SeatState) (frames frames' : FrameBytes) (answer : Option AgentInput)
      → Serving allows confirms before now seat0 seat frames answer → Fetched answer frames frames' now next (Ok None)
      → next.held ≡ now.held → Closes seat seat'
      → Serves allows confirms before next seat0 seat' (Ok tt)
  gone now next seat seat' frames frames' (Some a) s f held closes = let e : ◌≡◌ {A = Result (Option AgentInput) NoMemory} (Ok None) (Ok (Some a)) = f.0 in cc
  gone now next seat seat' frames frames' None s (more, left, pushed_is, none, end) held (inl (c, is, silent, unsaid)) =
      let earlier : Gives (pushed no_bytes (s.given ++ more)) (framed_in s.added) frames' = subst (λ (t : FrameBytes). Gives (pushed no_bytes (s.given ++ more)) (framed_in s.added) t) (sym pushed_is) (more_given s.given more (framed_in s.added) frames s.inputs) in
      let unframed : framed_in (s.added ++ c ∷ []) ≡ framed_in s.added = framed_push s.added c ∙ (ap (λ (x : AgentInput). framed_in s.added ++ framed x) is.given ∙ append-nil (framed_in s.added)) in
      let no_question : s.asked ≡ None = none_open s.asked s.opens in
      record {
        added = s.added ++ c ∷ [];
        calls = is.calls ∙ (ap (λ (x : List Call). x ++ c ∷ []) s.calls ∙ append_assoc seat0.calls s.added (c ∷ []));
        conn = is.conn ∙ s.conn;
        given = s.given ++ more;
        read = more_read now next s.given more s.read left;
        rest = frames';
        inputs = subst (λ (x : List AgentInput). Gives (pushed no_bytes (s.given ++ more)) x frames') (sym unframed) earlier;
        asked = question c.output;
        questions = follows_push allows confirms None s.added c s.asked s.questions
            (subst (λ (a : Option Question). FitsQuestion allows confirms a c.input) (sym no_question) (subst (λ (x : AgentInput). FitsQuestion allows confirms None x) (sym is.given) tt));
        unanswered = inl silent;
        ends = ends_last s.added c s.going;
        written = replies_of s.added;
        unwritten = [];
        held = held ∙ s.held;
        output = replies_push s.added c ∙ ap (λ (x : List ℕ). replies_of s.added ++ x) unsaid;
        cut = inl refl;
        ending = why now next seat' (s.added ++ c ∷ []) frames' s.read_later none end (s.added, c, refl, subst IsClose (sym is.given) tt);
      }
  gone now next seat seat' frames frames' None s (more, left, pushed_is, none, end) held (inr is) =
      let earlier : Gives (pushed no_bytes (s.given ++ more)) (framed_in s.added) frames' = subst (λ (t : FrameBytes). Gives (pushed no_bytes (s.given ++ more)) (framed_in s.added) t) (sym pushed_is) (more_given s.given more (framed_in s.added) frames s.inputs) in
      record {
        added = s.added;
        calls = is.calls ∙ s.calls;
        conn = is.conn ∙ s.conn;
        given = s.given ++ more;
        read = more_read now next s.given more s.read left;
        rest = frames';
        inputs = earlier;
        asked = s.asked;
        questions = s.questions;
        unanswered = inl (none_open s.asked s.opens);
        ends = going_last s.added s.going;
        written = replies_of s.added;
        unwritten = [];
        held = held ∙ s.held;
        output = sym (append-nil (replies_of s.added));
        cut = inl refl;
        ending = refused (subst (λ (n : ℕ). Rose n seat'.refused) s.unrefused is.counted);
      }

  -- memory ran out before a call
  pub unfetched : (now next : StreamSeen) (seat : SeatState) (frames frames' : FrameBytes) (answer : Option AgentInput) (e : NoMemory)
      → Serving allows confirms before now seat0 seat frames answer → Fetched answer frames frames' now next (Err e)
      → next.held ≡ now.held
      → Serves allows confirms before next seat0 seat (Err e)
  unfetched now next seat frames frames' (Some a) e s f held = let x : ◌≡◌ {A = Result (Option AgentInput) NoMemory} (Err e) (Ok (Some a)) = f.0 in cc
  unfetched now next seat frames frames' None e s (more, left) held =
      record {
        added = s.added;
        calls = s.calls;
        conn = s.conn;
        given = s.given ++ more;
        read = more_read now next s.given more s.read left;
        rest = pushed frames more;
        inputs = more_given s.given more (framed_in s.added) frames s.inputs;
        asked = s.asked;
        questions = s.questions;
        unanswered = inl (none_open s.asked s.opens);
        ends = going_last s.added s.going;
        written = replies_of s.added;
        unwritten = [];
        held = held ∙ s.held;
        output = sym (append-nil (replies_of s.added));
        cut = inl refl;
        ending = starved tt;
      }

  -- ---- one round: an input is fetched and passed to the agent

  module _ (now mid next : StreamSeen) (seat seat' : SeatState) (frames frames' : FrameBytes) (answer : Option AgentInput) (input : AgentInput)
      (s : Serving allows confirms before now seat0 seat frames answer) (f : Fetched answer frames frames' now mid (Ok (Some input)))
      (read : now.read_faults ≤ mid.read_faults) (unwritten : (mid.held ≡ now.held) × (mid.write_faults ≡ now.write_faults))
      (unread : (next.left ≡ mid.left) × (next.read_faults ≡ mid.read_faults)) (write : mid.write_faults ≤ next.write_faults) where
    taking : Taking mid seat frames' input
    taking = taken now mid seat frames frames' answer input s f unwritten.0 read unwritten.1

    pub round_goes : (c : Call) → IsCall seat seat' input c → (IsClosed c.output → ⊥) → question c.output ≡ None → next.held ≡ append mid.held (reply c.output) → Serving allows confirms before next seat0 seat' frames' None
    round_goes c is unclosed none wrote =
        goes_on mid next seat seat' frames' input taking unread.0 unread.1 write c is None unclosed (subst (λ (q : Option Question). Opens allows confirms q None) (sym none) tt) wrote

    pub round_asks : (given : AgentInput) (c : Call) (q : Question) → IsCall seat seat' input c → question c.output ≡ Some q → FitsQuestion allows confirms (Some q) given → reply c.output ≡ [] → next.held ≡ mid.held
        → Serving allows confirms before next seat0 seat' frames' (Some given)
    round_asks given c q is asks fits silent same =
        goes_on mid next seat seat' frames' input taking unread.0 unread.1 write c is (Some given) (asks_open c.output q asks) (subst (λ (x : Option Question). Opens allows confirms x (Some given)) (sym asks) fits)
        (same ∙ (nothing_written mid.held ∙ ap (append mid.held) (sym silent)))

    pub round_refused : IsRefused seat seat' → next.held ≡ mid.held → Serves allows confirms before next seat0 seat' (Ok tt)
    round_refused is same = refused_call mid next seat seat' frames' input taking unread.0 unread.1 write (Ok tt) is same

    closed_asks : (c : Call) → IsClosed c.output → (question c.output ≡ None) × (reply c.output ≡ [])
    closed_asks c is = by_output c.output is

    pub round_closed : (c : Call) → IsCall seat seat' input c → IsClosed c.output → next.held ≡ mid.held → Serves allows confirms before next seat0 seat' (Ok tt)
    round_closed c is shut same =
        let quiet = closed_asks c shut in
        stops mid next seat seat' frames' input taking unread.0 unread.1 write c is (Ok tt) quiet.0 [] [] quiet.1 (same ∙ nothing_written mid.held) (inl refl) (closed (taking.added, c, refl, shut))

    pub round_write_failed : (c : Call) → IsCall seat seat' input c → question c.output ≡ None → (front rest : List ℕ) → reply c.output ≡ front ++ rest → next.held ≡ append mid.held front
        → Rose mid.write_faults next.write_faults → Serves allows confirms before next seat0 seat' (Ok tt)
    round_write_failed c is none front rest parts wrote rose =
        let rises : Rose before.write_faults next.write_faults = risen before.write_faults mid.write_faults next.write_faults taking.write_later rose in
        stops mid next seat seat' frames' input taking unread.0 unread.1 write c is (Ok tt) none front rest parts wrote (inr (inl rises)) (write_failed rises)

    pub round_starved : (e : NoMemory) (c : Call) → IsCall seat seat' input c → question c.output ≡ None → (front rest : List ℕ) → reply c.output ≡ front ++ rest → next.held ≡ append mid.held front
        → Serves allows confirms before next seat0 seat' (Err e)
    round_starved e c is none front rest parts wrote =
        stops mid next seat seat' frames' input taking unread.0 unread.1 write c is (Err e) none front rest parts wrote (inr (inr tt)) (starved tt)

    pub goes_turn : Turned allows confirms input mid next seat seat' steps.Goes → Serving allows confirms before next seat0 seat' frames' None
    goes_turn (c, is, (unclosed, none, wrote)) = round_goes c is unclosed none wrote

    pub asks_turn : (given : AgentInput) → Turned allows confirms input mid next seat seat' (steps.Asks given) → Serving allows confirms before next seat0 seat' frames' (Some given)
    asks_turn given (c, is, (q, asks, fits, silent, same)) = round_asks given c q is asks fits silent same

    pub ended_turn : (ended : Ended) (result : Result (Unit {0}) NoMemory) → Returns ended result → Turned allows confirms input mid next seat seat' (steps.Ends ended) → Serves allows confirms before next seat0 seat' result
    ended_turn ends.Refused (Ok done) returns (is, same) = round_refused is same
    ended_turn ends.Refused (Err e) returns t = absurd returns
    ended_turn ends.Closed (Ok done) returns (c, is, (shut, same)) = round_closed c is shut same
    ended_turn ends.Closed (Err e) returns t = absurd returns
    ended_turn ends.WriteFailed (Ok done) returns (c, is, (none, (front, rest, parts, wrote), rose)) = round_write_failed c is none front rest parts wrote rose
    ended_turn ends.WriteFailed (Err e) returns t = absurd returns
    ended_turn ends.Starved (Ok done) returns t = absurd returns
    ended_turn ends.Starved (Err e) returns (c, is, (none, (front, rest, parts, wrote))) = round_starved e c is none front rest parts wrote
