-- The names that most proofs of runs cite, passed on from one place. Declares nothing.
pub use Rattle.std.proofs.lemmas.List.{append-nil}
pub use Rattle.sshc_auth.specs.OpeningState.{OpeningState, shut}
unfoldable pub use Rattle.sshc_auth.specs.OpeningTable.{asked_of, open_row}
pub use Rattle.sshc_auth.specs.Row.{ends, Next, opens, refuses, Row, stays}
pub use Rattle.sshc_auth.specs.declared.ended.Ended.{Ended}
pub use Rattle.sshc_auth_event.specs.declared.event.Event.{Event}
pub use Rattle.sshc_client.specs.Follows.{all_moves, default_opinions}
pub use Rattle.sshc_client_packets.specs.HostKeyProof.{Accepts}
pub use Rattle.sshc_client_table.specs.SessionRow.{goes, SessionRow}
pub use Rattle.sshc_client_table.specs.SessionState.{is_live, is_open, SessionState}
unfoldable pub use Rattle.sshc_client_table.specs.SessionTable.{session_row}
pub use Rattle.sshc_key.specs.Asking.{Always, Answer, asked_on, Asking, asks, call_of, done, Makes, MakesFirst, SignRequest}
pub use Rattle.sshc_key.specs.AskingLaws.{all_first, always_also, always_makes, always_on, first_on, makes_on, none_first}
pub use Rattle.sshc_key.specs.Signers.{SignCall, since}
unfoldable pub use Rattle.sshc_run_reader.specs.EventReading.{event_of}
pub use Rattle.sshc_run_reader.specs.Script.{Bad, bad, End, Frame, frame_at, Front, Head, ScriptStop, size_of, stop_of, taken, Whole, whole, whole_front}
unfoldable pub use Rattle.sshc_run_reader.specs.Script.{events, front, head_at, sized_front, stop}
pub use Rattle.sshc_run_reader.specs.declared.error.EventError.{EventError}
pub use Rattle.sshc_wire.specs.Contents.{append, prepend, WritesMove, WroteFront}
pub use Rattle.sshc_wire.specs.ContentsLaws.{append-append, append-nothing, moved_for, no_writes, prepend-nothing, writes_end, writes_on}
pub use Rattle.sshc_wire.specs.declared.record.Record.{Record}
pub use Rattle.sshc_run_script.specs.AgentsTurn.{agent_read_turn, going_on, served_turn}
unfoldable pub use Rattle.sshc_run_script.specs.AgentsTurn.{agents_turn}
pub use Rattle.sshc_run_script.specs.Configured.{RunSettings}
pub use Rattle.sshc_run_script.specs.KnownHosts.{as_handler, Hosts, Judges}
unfoldable pub use Rattle.sshc_run_script.specs.KnownHosts.{verdict}
pub use Rattle.sshc_run_script.specs.Machine.{ended, goes_on, IsNoEnd, Machine, NeverAtEnd, Onward, opened, RunStop, stop_next, stopped, TurnOf, Turns, unanswered_stop}
pub use Rattle.sshc_run_script.specs.Outcome.{cut, Ending, ending_of, Ends, EndsAs, EndsBy, HasEarlier, HasWritten, HoldsAtMost, IsCut, IsExact, stop_as, Streams, streams, told, unread}
pub use Rattle.sshc_run_script.specs.Part.{AsksBy, IsWholePart, Own, own_answers, own_calls, own_events, own_records, PartOf, SaysBy, StopsElse}
pub use Rattle.sshc_run_script.specs.Ready.{IsReady}
pub use Rattle.sshc_run_script.specs.RecordLines.{line, lines}
pub use Rattle.sshc_run_script.specs.RunTurn.{kept, run_machine, run_turn, RunState}
pub use Rattle.sshc_run_script.specs.ScriptRun.{after, answers_of, answers_since, asked_run, at_end, at_first, Run, run_on, RunOf, script_run, Spot, spot, spot_after, stopped_with, Table}
unfoldable pub use Rattle.sshc_run_script.specs.ScriptRun.{events_run, run}
pub use Rattle.sshc_run_script.specs.SessionPart.{is_session_asker, IsAgentCause, session_own}
pub use Rattle.sshc_run_script.specs.SessionTurn.{emptied, in_session, onward, read_turn, said_by, SessionTurn, step_turn}
unfoldable pub use Rattle.sshc_run_script.specs.SessionTurn.{session_turn}
pub use Rattle.sshc_run_script.specs.Turn.{asked_turn, error_of, event_turn, handler_error_of, judged_turn, next_turn, row_turn, stops, Turn}
unfoldable pub use Rattle.sshc_run_script.specs.Turn.{opening_turn}
pub use Rattle.sshc_run_script.specs.TurnContracts.{BringsOn, Came, CutBy, hosts_of, step_answer, StopsBy, TakeAs, TakeGives, Took}
pub use Rattle.sshc_run_script.specs.declared.error.RunError.{RunError}
pub use Rattle.sshc_run_script.specs.declared.known_hosts_handler.HandlerError.{HandlerError}
