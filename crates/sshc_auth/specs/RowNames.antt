-- The names that the laws of the opening table cite, from one place. Declares nothing.
pub use Rattle.sshc_auth.specs.Causes.{AllCaused, Caused, IsCause, IsKeptKey, WasToldNo, Why, why}
pub use Rattle.sshc_auth.specs.OpeningState.{OpeningState, is_awaiting}
pub use Rattle.sshc_auth.specs.OpeningTable.{banner_asks, banner_at_end, event_asks, exchange_asks, is_exchanging, is_held_back, is_pk_ok, key_asked, number_asks, packet_asks, packet_row_in, turn_row}
unfoldable pub use Rattle.sshc_auth.specs.OpeningTable.{asked_of, auth_packet_row, auth_row, held_packet_row, numbered_row, open_row, payload_row, plain_row}
unfoldable pub use Rattle.sshc_auth.specs.OpeningTable.Auth.{authenticate_again_row, userauth_banner_row}
pub use Rattle.sshc_auth.specs.OpeningTable.AuthGssapi.{gssapi_step, last_token}
pub use Rattle.sshc_auth.specs.OpeningTable.AuthKey.{signed_by_row, taken}
unfoldable pub use Rattle.sshc_auth.specs.OpeningTable.AuthPrompts.{info_response_row}
pub use Rattle.sshc_auth.specs.OpeningTable.Awaiting.{behind_session_id, is_signed, unsigned_row}
pub use Rattle.sshc_auth.specs.OpeningTable.Exchange.{accepted_row, exchange_row_in, exchanged, has_kept_key, peer_kexinit_row_at}
unfoldable pub use Rattle.sshc_auth.specs.OpeningTable.Exchange.{exchange_done_row}
pub use Rattle.sshc_auth.specs.OpeningTable.ExtInfo.{extensions_row}
pub use Rattle.sshc_auth.specs.OpeningTable.Order.{is_out_of_turn}
pub use Rattle.sshc_auth.specs.OpeningTable.Packets.{counted_with, is_too_much}
pub use Rattle.sshc_auth.specs.OpeningTable.Service.{asked_for_service, stored_request}
unfoldable pub use Rattle.sshc_auth.specs.OpeningTable.Service.{authenticate_first_row}
pub use Rattle.sshc_auth.specs.OpeningTable.User.{answered_row}
unfoldable pub use Rattle.sshc_auth.specs.OpeningTable.User.{rekey_row, user_disconnect_row}
pub use Rattle.sshc_auth.specs.Passwords.{FitsRequest, HasShortUser, password_packet, times_asked, times_waiting, times_written}
pub use Rattle.sshc_auth.specs.Row.{FollowsAsking, Next, Row, SignerAt, Span, Steps, broken_row, ends, ends_at, goes, opens, passed_over, refused, refuses, resolved, stays, with_part}
pub use Rattle.sshc_auth.specs.SessionWords.{HandsCertificate, HandsKey, HandsNothing, IsFirst, IsNoPacket, KeepsRequest, KeepsSession, Kept, SignsStored, kept_of, reported}
pub use Rattle.sshc_auth.specs.Stepping.{Answered, GateAnswers, GateRefused, Judged, Lent, StaysClosed, StepsBy, Tells, exchange_in, gained, map_step, span_of, told_of}
pub use Rattle.sshc_auth.specs.declared.error.Error.{Error}
pub use Rattle.sshc_auth.specs.declared.extension.Extension.{Extension}
pub use Rattle.sshc_auth.specs.declared.opening.Class.{Class}
pub use Rattle.sshc_auth.specs.declared.opening.Phase.{Phase}
pub use Rattle.sshc_auth.specs.declared.step.Asks.{Asks}
pub use Rattle.sshc_auth.specs.declared.step.Step.{Step}
pub use Rattle.sshc_auth.specs.declared.step.Told.{Told}
pub use Rattle.sshc_auth_event.specs.HostKey.{host_key, is_same_key}
pub use Rattle.sshc_auth_event.specs.declared.event.Event.{Event}
pub use Rattle.sshc_auth_event.specs.declared.method.Method.{Method}
pub use Rattle.sshc_auth_request.specs.RequestTexts.{gssapi_complete}
unfoldable pub use Rattle.sshc_auth_request.specs.RequestTexts.{gssapi_mic, gssapi_token, request, service_request, signed}
pub use Rattle.sshc_key.specs.Asking.{Always, Answer, Asking, Makes, asks, done}
pub use Rattle.sshc_key.specs.KeyGrammar.{Key, key_text}
pub use Rattle.sshc_key.specs.Signers.{SignCall}
pub use Rattle.sshc_key.specs.declared.identity.PublicKeyOrCertificate.{PublicKeyOrCertificate}
pub use Rattle.sshc_transport.specs.declared.exchange.ExchangeFlag.{ExchangeFlag}
pub use Rattle.sshc_transport.specs.declared.exchange.ExchangeKey.{ExchangeKey}
pub use Rattle.sshc_transport.specs.declared.exchange.ExchangeResult.{ExchangeResult}
pub use Rattle.sshc_wire.specs.Outgoing.{Outgoing, kept, shown}
unfoldable pub use Rattle.sshc_wire.specs.Reads.{string_at, text_at}
pub use Rattle.sshc_wire.specs.Records.{IsResolved}
pub use Rattle.sshc_wire.specs.Wire.{IsShort}
pub use Rattle.sshc_wire.specs.declared.disconnect.Disconnect.{Disconnect}
pub use Rattle.sshc_wire.specs.declared.error.WireError.{WireError}
pub use Rattle.sshc_wire.specs.declared.hash_alg.HashAlg.{HashAlg}
pub use Rattle.sshc_wire.specs.declared.methods.MethodKind.{MethodKind}
pub use Rattle.sshc_wire.specs.declared.record.Record.{Record}
pub use Rattle.sshc_wire.specs.declared.resolution.Resolution.{Resolution}
pub use Rattle.sshc_wire.specs.declared.ticket.Ticket.{Ticket}
