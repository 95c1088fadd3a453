use Rattle.std.proofs.Common.{rules, ◌≡◌, ◌&&◌, [], false, option_copied, ℕ, ◌+◌, ◌-◌, ◌*◌, ◌<◌, ◌≤◌, length, ◌/◌, ◌%◌, Bool, true, nat_eq, nat_lt, List, ◌∷◌, ◌++◌, slice_index_or, slice_set, bit_and, bit_or, Fits, w8, w32, w64, Bor, MutBor}
use Rattle.sshc_auth.specs.OpeningTable.{asked_of}
use Rattle.sshc_auth.specs.Stepping.{HasExchange, exchange_in}
use Rattle.sshc_client_table.specs.SessionState.{is_open}
use Rattle.sshc_client_state.specs.OpeningStep.{goes_on, lent_session}
use Rattle.sshc_client.specs.Asked.{AsksHandler, StepsBefore, verdict_gate}
use Rattle.sshc_client.specs.Handling.{handler_at}
use Rattle.sshc_client.specs.HandledStep.{Before, EndsBy, handler_gate, has_left}
use Rattle.sshc_client.proofs.BeforeLemmas.{exchange_there, steps_behind}
use Rattle.sshc_client.proofs.session.Session.step_asking.Goals as goal

pub ask_handler-requires-after_bounds : goal.ask_handler-requires-after_bounds
ask_handler-requires-after_bounds g c κs within = exchange_there _ c.args.event.now _ c.requires.asked

pub returns-in-Ok : goal.returns-in-Ok
returns-in-Ok g c = steps_behind _ g.H.Handler.told_as (g.H.Handler.judges c.args.handler.now) _ _ _ _ _ _ _ _ _ _ _ _ _ _ _ c.requires.fresh c.requires.asked c.in-Ok.ensures c.requires.early c.step_asked.ensures
