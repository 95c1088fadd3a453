-- What a reply of the peer's tells the request that it answers, and that the row answers so.
use Rattle.std.proofs.Common.{◌≡◌, ◌≢◌, ℕ, suc, Bool, true, false, List, [], ◌∷◌, length, Option, Some, None, Result, Ok, Err, refl, ap, sym, ◌∙◌, arith}
use Rattle.std.specs.Prelude.{◌==◌, if◌then◌else◌}
use Rattle.std.specs.Int.{w32, from_be_bytes}
use Rattle.std.proofs.lemmas.Bool.Decides.{nat_tests}
use Rattle.sshc_wire.specs.Wire.{IsBytes}
use Rattle.sshc_wire.specs.declared.resolution.HostKeysFault.{HostKeysFault}
use Rattle.sshc_wire.specs.declared.resolution.Resolution.{Resolution}
use Rattle.sshc_wire.specs.declared.resolution.Resolution.TheVariants as told
use Rattle.sshc_wire.specs.declared.ticket.Ticket.{Ticket}
use Rattle.sshc_auth.specs.Row.{resolved}
use Rattle.sshc_client_packets.specs.HostKeyProof.{Accepts, proof_judged}
use Rattle.sshc_client_packets.specs.Replies.{forward_port}
use Rattle.sshc_client_packets.proofs.ProofLemmas.{judged_is_proof}
use Rattle.sshc_client_table.specs.declared.reply_entry.ReplyKind.{ReplyKind}
use Rattle.sshc_client_table.specs.declared.reply_entry.ReplyKind.TheVariants as kinds
use Rattle.sshc_client_table.specs.declared.reply_entry.ReplyEntry.{ReplyEntry}
use Rattle.sshc_client_table.specs.Moves.{or_none, reply_answer}
use Rattle.sshc_client_table.specs.SessionRow.{SessionRow, goes}
use Rattle.sshc_client_table.specs.SessionTable.Replies.{failure_of, port_answer, proof_answer, replied_row, success_of}
use Rattle.sshc_client_table.specs.StepLaws.{TellsFailure, TellsPort, TellsProof, TellsSuccess, answer_to, neither, no_proof, number, proof, same}

-- ---- the answer to a ticket

under_ticket : (ticket : Option Ticket) (resolution : Resolution) → resolved (or_none ticket) resolution ≡ answer_to ticket (Some resolution)
under_ticket None resolution = refl
under_ticket (Some ticket) resolution = refl

no_answer : (ticket : Option Ticket) → [] ≡ answer_to ticket None
no_answer None = refl
no_answer (Some ticket) = refl

-- the answer is written as the law says
abbrev pub IsWritten : ReplyEntry → Option Resolution → Type 0
IsWritten first answer = (rest : List ReplyEntry) → reply_answer (first ∷ rest) answer ≡ answer_to first.ticket answer

-- ---- 81

port_written : (first : ReplyEntry) (body : List ℕ) (a : Resolution) → TellsPort body a → IsWritten first (Some a)
port_written first body a (same is) = λ rest. under_ticket first.ticket (told.ForwardPort 0)
port_written first body a (number is) = λ rest. under_ticket first.ticket (told.ForwardPort (from_be_bytes w32 body))
port_written first body a (neither some other) = λ rest. under_ticket first.ticket told.Denied

zero_is : (n : ℕ) → (n == 0) ≡ true → n ≡ 0
zero_is n is = grind (arith, nat_tests)

empty_is : (body : List ℕ) → (length body == 0) ≡ true → body ≡ []
empty_is [] is = refl
empty_is (b ∷ body) is = let none : suc (length body) ≡ 0 = zero_is (length (b ∷ body)) is in absurd cc

not_zero : (n : ℕ) → (n == 0) ≡ false → n ≢ 0
not_zero n is = λ none. let clash : true ≡ false = sym (ap (λ (k : ℕ). k == 0) none) ∙ is in absurd cc

not_four : (n : ℕ) → (n == 4) ≡ false → n ≢ 4
not_four n is = λ four. let clash : true ≡ false = sym (ap (λ (k : ℕ). k == 4) four) ∙ is in absurd cc

is_four : (n : ℕ) → (n == 4) ≡ true → n ≡ 4
is_four n is = grind (arith, nat_tests)

port_by : (zero_is four_is : Bool) (body : List ℕ) → (length body == 0) ≡ zero_is → (length body == 4) ≡ four_is →
    TellsPort body (port_answer (if zero_is then Some 0 else (if four_is then Some (from_be_bytes w32 body) else None)))
port_by true four_is body zero_so four_so = same (empty_is body zero_so)
port_by false true body zero_so four_so = number (is_four (length body) four_so)
port_by false false body zero_so four_so = neither (not_zero (length body) zero_so) (not_four (length body) four_so)

port_told : (body : List ℕ) → TellsPort body (port_answer (forward_port body))
port_told body = port_by (length body == 0) (length body == 4) body refl refl

abbrev is_right : Result (Unit {0}) HostKeysFault → Bool
is_right (Ok u) = true
is_right (Err fault) = false

proof_by : (accepts : Accepts) (session_id : List ℕ) (first : ReplyEntry) (body : List ℕ) (judged : Result (Unit {0}) HostKeysFault) → proof_judged accepts session_id first.keys body ≡ judged →
    IsBytes body → TellsProof accepts session_id first.keys body (proof_answer judged)
proof_by accepts session_id first body (Ok u) is fits = proof ((judged_is_proof accepts session_id first.keys body fits).0 is)
proof_by accepts session_id first body (Err fault) is fits =
    no_proof (λ proves. let clash : true ≡ false = sym (ap is_right ((judged_is_proof accepts session_id first.keys body fits).1 proves)) ∙ ap is_right is in absurd cc) fault

proof_written : (first : ReplyEntry) (judged : Result (Unit {0}) HostKeysFault) → IsWritten first (Some (proof_answer judged))
proof_written first (Ok u) = λ rest. under_ticket first.ticket told.HostKeysProved
proof_written first (Err fault) = λ rest. under_ticket first.ticket (told.HostKeysRefused fault)

-- a row that goes on answers the request
pub record Answers (Tells : Option Resolution → Type 0) (first : ReplyEntry) (row : SessionRow) : Type 0 where
  pub answer : Option Resolution
  pub tells : Tells answer
  pub row_is : row ≡ replied_row answer
  pub written : IsWritten first answer

pub success_answers : (accepts : Accepts) (session_id body : List ℕ) (first : ReplyEntry) (kind : ReplyKind) → (success_of accepts session_id kind first.keys body).next ≡ goes →
    Answers (TellsSuccess accepts session_id body first kind) first (success_of accepts session_id kind first.keys body)
success_answers accepts session_id body first kinds.Forward next = record {
  answer = Some (port_answer (forward_port body));
  tells = (port_answer (forward_port body), refl, port_told body);
  row_is = refl;
  written = port_written first body (port_answer (forward_port body)) (port_told body);
}
success_answers accepts session_id [] first kinds.Done next = record { answer = Some told.Done; tells = (refl, refl); row_is = refl; written = λ rest. under_ticket first.ticket told.Done }
success_answers accepts session_id (b ∷ body) first kinds.Done next = absurd cc
success_answers accepts session_id [] first kinds.Ping next = record { answer = Some told.Pong; tells = (refl, refl); row_is = refl; written = λ rest. under_ticket first.ticket told.Pong }
success_answers accepts session_id (b ∷ body) first kinds.Ping next = absurd cc
success_answers accepts session_id [] first kinds.Keepalive next = record { answer = None; tells = (refl, refl); row_is = refl; written = λ rest. no_answer first.ticket }
success_answers accepts session_id (b ∷ body) first kinds.Keepalive next = absurd cc
success_answers accepts session_id [] first kinds.NoMoreSessions next = record { answer = None; tells = (refl, refl); row_is = refl; written = λ rest. no_answer first.ticket }
success_answers accepts session_id (b ∷ body) first kinds.NoMoreSessions next = absurd cc
success_answers accepts session_id body first kinds.Proof next = record {
  answer = Some (proof_answer (proof_judged accepts session_id first.keys body));
  tells = (proof_answer (proof_judged accepts session_id first.keys body), refl, proof_by accepts session_id first body (proof_judged accepts session_id first.keys body) refl);
  row_is = refl;
  written = proof_written first (proof_judged accepts session_id first.keys body);
}
success_answers accepts session_id body first kinds.Own next = record {
  answer = Some (told.GlobalReply body);
  tells = refl;
  row_is = refl;
  written = λ rest. under_ticket first.ticket (told.GlobalReply body);
}

-- ---- 82

pub failure_answers : (first : ReplyEntry) (kind : ReplyKind) → Answers (TellsFailure [] kind) first (replied_row (failure_of kind))
failure_answers first kinds.Forward = record { answer = Some told.Denied; tells = (refl, refl); row_is = refl; written = λ rest. under_ticket first.ticket told.Denied }
failure_answers first kinds.Ping = record { answer = Some told.Pong; tells = (refl, refl); row_is = refl; written = λ rest. under_ticket first.ticket told.Pong }
failure_answers first kinds.Keepalive = record { answer = None; tells = (refl, refl); row_is = refl; written = λ rest. no_answer first.ticket }
failure_answers first kinds.NoMoreSessions = record { answer = None; tells = (refl, refl); row_is = refl; written = λ rest. no_answer first.ticket }
failure_answers first kinds.Done = record { answer = Some told.Denied; tells = (refl, refl); row_is = refl; written = λ rest. under_ticket first.ticket told.Denied }
failure_answers first kinds.Proof = record { answer = Some told.Denied; tells = (refl, refl); row_is = refl; written = λ rest. under_ticket first.ticket told.Denied }
failure_answers first kinds.Own = record { answer = Some told.Denied; tells = (refl, refl); row_is = refl; written = λ rest. under_ticket first.ticket told.Denied }
