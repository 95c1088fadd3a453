use Rattle.std.proofs.Common.{ap, sym, ◌∙◌}
use Rattle.sshc_handle_tickets.specs.Lines.{has_some, number_in}
use Rattle.sshc_handle_tickets.proofs.LineLemmas.{first_found, none_first}
use Rattle.sshc_handle_tickets.proofs.line.Line.first_channel.Goals as goal

pub returns-in-Some : goal.returns-in-Some
returns-in-Some g c =
    rw (← c.self.view_is)
    (c.channel_at.ensures ∙ ap (number_in g.X.Numbered.channel) (sym (first_found (has_some g.X.Numbered.channel) c.self.inside.indexed c.in-Some.place c.in-Some.ensures.sorted c.in-Some.ensures.found)))

pub returns-in-None : goal.returns-in-None
returns-in-None g c = rw (← c.self.view_is) (ap (number_in g.X.Numbered.channel) (sym (none_first (has_some g.X.Numbered.channel) c.self.inside.indexed c.in-None.ensures.sorted c.in-None.ensures.none)))
