-- Calls whose signatures are made outside the lock: what was asked, and what a locked agent takes.
use Rattle.std.proofs.Common.{◌≡◌, inl, inr, ℕ, Bool, true, List, [], ◌∷◌, ◌++◌, length, Option, Some, None, Result, Ok, Err, IfOk, IfSome, refl, sym, ap, subst, ◌∙◌}
use Rattle.std.proofs.lemmas.List.{drop_at}
use Rattle.sshc_key.specs.Asking.{Answer, Asking, SignRequest, asks, call_of as answered_by}
use Rattle.sshc_key.specs.Signers.{SignCall, since}
use Rattle.sshc_agent_core.specs.declared.entry.Entry.{Entry}
use Rattle.sshc_agent_core.specs.declared.input.AgentInput.{AgentInput}
use Rattle.sshc_agent_core.specs.declared.input.AgentInput.TheVariants.{KeyAnswer}
use Rattle.sshc_agent_core.specs.declared.input.AgentOutput.{AgentOutput}
use Rattle.sshc_agent_core.specs.AgentHistory.{IsPermitted, request_of, stands_in}
use Rattle.sshc_agent_core.specs.AgentList.{AgentList}
use Rattle.sshc_agent_core.specs.AgentTable.{agent_row}
use Rattle.sshc_agent_core.specs.Asked.{asked_of}
use Rattle.sshc_agent_core.specs.ShapeLaws.{row_does}
use Rattle.sshc_agent_core.specs.StepShape.{RowDoes, begun}
use Rattle.sshc_agent_core.specs.Turn.{Outcome, asked_in}
use Rattle.sshc_agent_shared.specs.declared.error.LastingRefused.{LastingRefused}
use Rattle.sshc_agent_shared.specs.Apart.{IsQuestion, signed_calls}
use Rattle.sshc_agent_shared.specs.Generations.{IsReached}
use Rattle.sshc_agent_shared.specs.Kept.{IsHistoryFrom, IsHistoryOf}
use Rattle.sshc_agent_shared.specs.Lasting.{KeepsLockOn}
use Rattle.sshc_agent_shared.specs.LastingApart.{AsksLastingOnce, IsLastingQuestion}
use Rattle.sshc_agent_shared.proofs.Seams.{reached_now}

-- ---- what is asked

-- what an input asks is permitted
pub asked_permits : (now conn : ℕ) (input : AgentInput) (l : AgentList) (q : SignRequest) → asked_of now conn input l ≡ Some q → IsPermitted now conn input l q.by q.key
unfolding asked_of
asked_permits now conn input l q asked = by (row_does now conn input l)
  where
    of_row : (row : Asking Outcome) → agent_row now conn input l ≡ row → asked_in row ≡ Some q
    of_row row is = sym (ap asked_in is) ∙ asked

    by : RowDoes conn (begun now conn l) (request_of (stands_in l conn) input) (input ≡ KeyAnswer true) (agent_row now conn input l) → IsPermitted now conn input l q.by q.key
    by (RowDoes.passes is) = let clash = of_row _ is in absurd cc
    by (RowDoes.ends output ends is) = let clash = of_row _ is in absurd cc
    by (RowDoes.answers whole next stands output request says is) = let clash = of_row _ is in absurd cc
    by (RowDoes.wants whole key wanted request may pair by_is is) =
        let same : wanted ≡ q = some_is wanted q (of_row _ is) in
        subst (λ (r : SignRequest). IsPermitted now conn input l r.by r.key) same
        (record {
          whole = whole;
          request = request;
          key = key;
          may = record { unlocked = may.unlocked; body = may.body; blob = may.blob; rest = may.rest; frame = may.frame; names = may.names; is_held = may.is_held; confirms = may.confirms };
          pair_is = pair;
          asker = by_is;
        })
      where
        some_is : (a b : SignRequest) → Some a ≡ Some b → a ≡ b
        some_is a b e = ap (of a) e
          where
            of : SignRequest → Option SignRequest → SignRequest
            of other None = other
            of other (Some r) = r

-- what an input asks of an agent to which a history leads
pub question_of : (by_asking : Bool) (journal : List Entry) (now conn : ℕ) (input : AgentInput) (l : AgentList) (q : SignRequest) → IsHistoryOf by_asking journal l → asked_of now conn input l ≡ Some q → IsQuestion conn now input q
question_of by_asking journal now conn input l q history asked =
    record {
      earlier = journal;
      legal = record { asks = by_asking; last = l; leads = history.leads; numbers = history.numbers };
      asked = asked;
      permitted = asked_permits now conn input l q asked;
    }

-- the same of an agent to which generations lead
pub lasting_question : (named : Bool) (start : AgentList) (journal : List Entry) (now conn : ℕ) (input : AgentInput) (l : AgentList) (q : SignRequest) → IsReached named start → IsHistoryFrom start journal l → asked_of now conn input l ≡ Some q → IsLastingQuestion named conn now input q
lasting_question named start journal now conn input l q reached history asked =
    record {
      before = l;
      reached = reached_now named start l journal reached history.leads history.numbers;
      asked = asked;
      permitted = asked_permits now conn input l q asked;
    }

-- the same of what may be asked
pub lasting_asked :
    (named own : Bool) (start : AgentList) (journal : List Entry) (now conn : ℕ) (input : AgentInput) (l : AgentList) (r : Option SignRequest)
    → own ≡ named → IsReached own start → IsHistoryFrom start journal l → IfSome r (λ q. asked_of now conn input l ≡ Some q) → IfSome r (λ q. IsLastingQuestion named conn now input q)
lasting_asked named own start journal now conn input l None same reached history asked = tt
lasting_asked named own start journal now conn input l (Some q) same reached history asked =
    lasting_question named start journal now conn input l q (subst (λ (b : Bool). IsReached b start) same reached) history asked

-- ---- what was asked, and what is taken

-- the calls that a list gained
pub gained_by : (calls calls' gained : List SignCall) → calls' ≡ calls ++ gained → since calls calls' ≡ gained
gained_by calls calls' gained is = ap (since calls) is ∙ drop_at calls gained (length calls) refl

-- the signer was asked once at most
pub lasting_once :
    (named : Bool) (conn now : ℕ) (input : AgentInput) (calls calls' : List SignCall) (q : SignRequest) (signed : Option SignCall)
    → IsLastingQuestion named conn now input q → calls' ≡ calls ++ signed_calls signed → IfSome signed (λ s. s ≡ answered_by q s.answer) → AsksLastingOnce named conn now input (since calls calls')
lasting_once named conn now input calls calls' q None question gained is = inl (gained_by calls calls' [] gained)
lasting_once named conn now input calls calls' q (Some s) question gained is = inr (q, s.answer, gained_by calls calls' (s ∷ []) gained ∙ ap (λ (c : SignCall). c ∷ []) is, question)

-- a locked agent takes no signature
pub locked_none :
    (now conn : ℕ) (input : AgentInput) (old new : AgentList) (gained : List SignCall) (r : Result AgentOutput LastingRefused)
    → IfOk r (λ out. (p : List ℕ) → old.passphrase ≡ Some p → KeepsLockOn p now conn input old new gained out)
    → IfOk r (λ out. (p : List ℕ) → old.passphrase ≡ Some p → KeepsLockOn p now conn input old new [] out)
locked_none now conn input old new gained (Err e) locked = tt
locked_none now conn input old new gained (Ok output) locked = λ p lock.
    let held = locked p lock in
    record { mid = held.mid; keeps = held.keeps; lock = record { unsigned = refl; lock = held.lock.lock } }
