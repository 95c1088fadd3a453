use Rattle.std.proofs.Common.{inl}
use Rattle.sshc_run.proofs.script_words.run_default.Goals as goal

pub returns-in-Ok : goal.returns-in-Ok
returns-in-Ok g c =
    let default = c.in-Ok.ensures in
    record { gives = inl (rw (default.window_size, default.anonymous, default.inactivity_timeout, default.max_events, default.maximum_packet_size, default.keepalive_interval, default.keepalive_max, default.agent_asks) at c.run_told.ensures.runs) }
