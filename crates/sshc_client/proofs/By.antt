-- Words that proofs of functions unfold, from one place with a short path.
pub use Rattle.sshc_client_table.specs.SessionTable.{numbered_row}
pub use Rattle.sshc_client_table.specs.SessionTable.Opens.{channel_open_row, open_confirmation_row, open_failure_row}
pub use Rattle.sshc_client_table.specs.SessionTable.Requests.{channel_request_row, global_request_row}
pub use Rattle.sshc_client_table.specs.SessionTable.Streams.{channel_close_row, channel_data_row, channel_extended_data_row, channel_report_row, window_adjust_row}
