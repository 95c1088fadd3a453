-- What a call does that is told the signer's answer.
use Rattle.std.proofs.Common.{◌≡◌, ℕ, Option, Some, None, Result, List, [], ◌∷◌, ◌++◌, length, Ok, Err, refl, sym, ap, subst, ◌∙◌}
use Rattle.std.proofs.lemmas.List.{drop_at}
use Rattle.std.specs.Prelude.{Vec}
use Rattle.std.specs.declared.alloc.Global.{Global}
use Rattle.sshc_key.specs.declared.signer.SignRefused.{SignRefused}
use Rattle.sshc_key.specs.declared.signer.SignRefused.TheVariants.{Refused, NoMemory as Out}
use Rattle.sshc_wire.specs.declared.error.NoMemory.{NoMemory}
use Rattle.sshc_key.specs.Signers.{SignCall, since}
use Rattle.sshc_key.specs.Asking.{Answer, Asking, Makes, MakesFirst, SignRequest, asks, call_of, done}
use Rattle.sshc_key.specs.AskingLaws.{none_first}
use Rattle.sshc_agent_core.specs.declared.input.AgentInput.{AgentInput}
use Rattle.sshc_agent_core.specs.declared.input.AgentOutput.{AgentOutput}
use Rattle.sshc_agent_core.specs.declared.agent_core.turn.Turn.{Turn as Taken}
use Rattle.sshc_agent_core.specs.declared.agent_core.turn.Turn.TheVariants as takes
use Rattle.sshc_agent_core.specs.declared.key_list.HeldKey.{HeldKey}
use Rattle.sshc_agent_core.specs.declared.signing.Told.{Told}
use Rattle.sshc_agent_core.specs.declared.signing.Told.TheVariants as told
use Rattle.sshc_agent_core.specs.AgentList.{AgentList, standing}
use Rattle.sshc_agent_core.specs.AgentTable.{Finishes, Steps, turned}
use Rattle.sshc_agent_core.specs.AgentTable.Sign.{bytes_row, flags_row, hash_of, sign_row, signed_row}
use Rattle.sshc_wire.specs.declared.error.WireError.{WireError}
use Rattle.sshc_wire.specs.Reads.{number_at, string_at}
use Rattle.std.specs.Int.{w32}
use Rattle.sshc_key.specs.declared.signer.Asker.TheVariants.{Agent}
use Rattle.sshc_agent_core.specs.Asked.{IsShortTold, answer_of, told_of}
use Rattle.sshc_agent_core.specs.SignerLists.{AreShort}
use Rattle.sshc_agent_core.specs.StepLaws.{WasRefused}
use Rattle.sshc_agent_core.specs.Turn.{Follows, FollowsTold, Outcome, Turn, asked_in, told_calls}

-- a call and its answer are the first of the calls that the row makes
pub told_first : (asking : Asking Outcome) (answer : Option Answer) → MakesFirst asking (told_calls (asked_in asking) answer)
told_first (done o) answer = tt
told_first (asks q on) None = tt
told_first (asks q on) (Some answer) = (refl, none_first (on answer))

turned_is : (conn : ℕ) (turn : Turn) (old mid new : AgentList) (taken : Taken) (answer : Option Answer) (result : Result AgentOutput NoMemory)
    → Follows turn old mid (Ok taken) → Finishes conn taken mid new answer result → FollowsTold (turned conn turn) old new answer result
turned_is conn turn old mid new (takes.Says stands output) answer result (is, conns) (says, next) =
    let o : Outcome = record { next = standing conn stands mid; output = output } in
    let same : o ≡ record { next = new; output = output } = ap (λ (l : AgentList). record { next = l; output = output }) (sym next) in
    subst (λ (t : Turn). FollowsTold (turned conn t) old new answer result) (sym is)
    (subst (λ (r : Result AgentOutput NoMemory). FollowsTold (done o) old new answer r) (sym says) same)
turned_is conn turn old mid new (takes.Signs rest) answer result (same, key, is) finishes =
    subst (λ (t : Turn). FollowsTold (turned conn t) old new answer result) (sym is)
    (subst (λ (l : AgentList). FollowsTold (sign_row conn mid key rest.now) l new answer result) same (finishes key))

-- bytes and flags of a sign request were read, and then the signer's answer was taken
pub answered : (conn : ℕ) (l new : AgentList) (rest from bytes behind left : List ℕ) (flags : ℕ) (answer : Option Answer) (result : Result AgentOutput NoMemory) → from ≡ rest → string_at from ≡ Ok (bytes, behind) → number_at w32 behind ≡ Ok (flags, left)
    → ((q : SignRequest) → FollowsTold (asks q (λ a. signed_row conn l a)) l new answer result) → (key : HeldKey) → FollowsTold (sign_row conn l key rest) l new answer result
unfolding sign_row
answered conn l new rest from bytes behind left flags answer result same read flagged follows key =
    subst (λ (r : Result (List ℕ × List ℕ) WireError). FollowsTold (bytes_row r conn l key) l new answer result) (sym (ap string_at (sym same) ∙ read))
    (subst (λ (r : Result (ℕ × List ℕ) WireError). FollowsTold (flags_row r bytes conn l key) l new answer result) (sym flagged)
    (follows (record { by = Agent conn; key = key.pair; hash = hash_of key.pair.public.0 flags; bytes = bytes })))

-- a row's turn was taken, and then finished
pub finished : (conn : ℕ) (turn : Turn) (old mid new : AgentList) (taken : Taken) (answer : Option Answer) (result : Result AgentOutput NoMemory)
    → Follows turn old mid (Ok taken) → Finishes conn taken mid new answer result → FollowsTold (turned conn turn) old new answer result
finished conn turn old mid new taken answer result follows finishes = turned_is conn turn old mid new taken answer result follows finishes

-- the calls that a list gained
pub gained_is : (calls calls' gained : List SignCall) → calls' ≡ calls ++ gained → since calls calls' ≡ gained
gained_is calls calls' gained is = ap (since calls) is ∙ drop_at calls gained (length calls) refl

-- ---- answers

-- a refusal is told only where the signer refused
pub refused_told : (q : Option SignRequest) (answer : Option Answer) → WasRefused (told_calls q answer) → answer ≡ Some None
refused_told None answer was = let clash = was.one in absurd cc
refused_told (Some q) None was = let clash = was.one in absurd cc
refused_told (Some q) (Some None) was = refl
refused_told (Some q) (Some (Some signature)) was = let clash : call_of q (Some signature) ∷ [] ≡ call_of was.asked None ∷ [] = was.one in absurd (signed_not q was.asked signature clash)
  where
    signed_not : (q r : SignRequest) (signature : List ℕ) → call_of q (Some signature) ∷ [] ≡ call_of r None ∷ [] → ⊥
    signed_not q r signature e = let same : Some signature ≡ None = ap answer_in e in cc
      where
        answer_in : List SignCall → Answer
        answer_in [] = None
        answer_in (call ∷ calls) = call.answer

pub short_told : (q : Option SignRequest) (t : Told) → IsShortTold t → AreShort (told_calls q (told_of t))
short_told None t short = tt
short_told (Some q) told.Unanswered short = tt
short_told (Some q) (told.Signed signature) short = (short, tt)
short_told (Some q) told.Refused short = (tt, tt)

-- a refusal is what a signer returned
pub refused_by : (r : Result (Vec ℕ Global) SignRefused) → answer_of r ≡ Some None → r ≡ Err Refused
refused_by (Ok v) is = absurd cc
refused_by (Err Refused) is = refl
refused_by (Err Out) is = absurd cc

-- the step of the calls that a list gained
pub stepped : (now conn : ℕ) (input : AgentInput) (before after : AgentList) (output : AgentOutput) (q : Option SignRequest) (answer told : Option Answer) (calls calls' : List SignCall)
    → calls' ≡ calls ++ told_calls q answer → told ≡ answer → Steps now conn input before after (told_calls q told) output → Steps now conn input before after (since calls calls') output
stepped now conn input before after output q answer told calls calls' gained same steps =
    subst (λ (g : List SignCall). Steps now conn input before after g output) (ap (told_calls q) same ∙ sym (gained_is calls calls' (told_calls q answer) gained)) steps
