-- What a call states of an opened channel follows from the answer that it had.
use Rattle.std.proofs.Common.{Option, Result, Ok, Err}
use Rattle.sshc_wire.specs.declared.channel_id.ChannelId.{ChannelId}
use Rattle.sshc_wire.specs.declared.ticket.Ticket.{Ticket}
use Rattle.sshc_auth.specs.declared.error.Error.{Error}
use Rattle.sshc_handle_tickets.specs.Answers.{open_answer}
use Rattle.sshc_handle_calls.proofs.Answering.{answers}
use Rattle.sshc_handle_calls.specs.Answering.{Answers}
use Rattle.sshc_handle_calls.specs.Asking.{Asks}
use Rattle.sshc_handle_calls.specs.Lines.{Calls, LineCall}
use Rattle.sshc_handle.specs.SomeLine.{IsChannelOf}

-- the channel of an answer's number is the answer
channel_answers : (opened channel : Result ChannelId Error) → IsChannelOf opened channel → Answers open_answer opened → Answers open_answer channel
channel_answers (Ok id) (Ok channel) same h = rw same h
channel_answers (Ok id) (Err e) same h = rw same tt
channel_answers (Err e) channel same h = rw same h

pub answers_opened : (call : Result (Option Ticket) Error → LineCall) (old new : Calls) (opened channel : Result ChannelId Error)
    → IsChannelOf opened channel → Asks open_answer call old new opened → Answers open_answer channel
answers_opened call old new opened channel same asks =
    channel_answers opened channel same (answers open_answer call old new opened asks)
