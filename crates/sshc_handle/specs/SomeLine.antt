-- What a call states that takes a line of its own to a session: what it did on the line, and, where it opens a channel,
-- what it returns for the number that was opened.
use Rattle.std.specs.Prelude.{◌≡◌, Option, Result, Ok, Err}
use Rattle.sshc_wire.specs.declared.channel_id.ChannelId.{ChannelId}
use Rattle.sshc_wire.specs.declared.ticket.Ticket.{Ticket}
use Rattle.sshc_auth.specs.declared.error.Error.{Error}
use Rattle.sshc_auth.specs.declared.error.Error.TheVariants.{NoMemory}
use Rattle.sshc_handle_tickets.specs.Answers.{open_answer}
use Rattle.sshc_handle_calls.specs.Asking.{Asks}
use Rattle.sshc_handle_calls.specs.Lines.{Calls, LineCall}

-- on some line that was used, the law holds of its calls before and after
pub record OnSomeLine (used law : Calls → Calls → Type 0) : Type 0 where
  pub old : Calls
  pub new : Calls
  pub is_used : used old new
  pub by_law : law old new

-- the channel of the number that was opened, unless memory ran out for it
abbrev pub IsChannelOf : Result ChannelId Error → Result ChannelId Error → Type 0
IsChannelOf (Ok id) (Ok channel) = channel ≡ id
IsChannelOf (Ok id) (Err e) = e ≡ NoMemory
IsChannelOf (Err e) channel = channel ≡ Err e

-- the call asks for a channel, and returns the one of the number that the answer has
pub record Opens (call : Result (Option Ticket) Error → LineCall) (old new : Calls) (channel : Result ChannelId Error) : Type 0 where
  pub opened : Result ChannelId Error
  pub asks : Asks open_answer call old new opened
  pub is_channel : IsChannelOf opened channel
