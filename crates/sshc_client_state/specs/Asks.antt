-- A global request as it is passed to a call, as plain data (RFC 4254, section 4).
use Rattle.sshc_client_table.specs.Messages.{Ask, CancelForward, CancelForwardSocket, Forward, ForwardSocket, KeepAlive, NoMore, OwnRequest, Ping, Prove}
use Rattle.sshc_client_state.specs.declared.ask.Ask.{Ask as Lent}
use Rattle.sshc_client_state.specs.declared.ask.Ask.TheVariants as lent

abbrev pub ask_of : Lent → Ask
ask_of (lent.Forward ticket address port) = Forward ticket address.now port
ask_of (lent.CancelForward ticket address port) = CancelForward ticket address.now port
ask_of (lent.ForwardSocket ticket path) = ForwardSocket ticket path.now
ask_of (lent.CancelForwardSocket ticket path) = CancelForwardSocket ticket path.now
ask_of (lent.KeepAlive want_reply) = KeepAlive want_reply
ask_of (lent.NoMore want_reply) = NoMore want_reply
ask_of (lent.Ping ticket) = Ping ticket
ask_of (lent.Prove ticket keys) = Prove ticket keys.now
ask_of (lent.OwnRequest ticket name body) = OwnRequest ticket name.now body.now
