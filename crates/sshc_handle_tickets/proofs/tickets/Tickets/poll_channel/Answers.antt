use Rattle.std.proofs.Common.{rules, refl, ◌∙◌}
use Rattle.sshc_handle_tickets.proofs.Closing.{any_closed, kept_left, left_by, marked_put, room_put}
use Rattle.sshc_handle_tickets.proofs.tickets.Tickets.poll_channel.Goals as goal

pub mark-requires : goal.mark-requires
mark-requires c = record { there = c.self.invariant.closing _ (any_closed _ _ c.take_on_channel-output.result c.take_on_channel-output.ensures.taken c.in-Some-Channel-default-Close.id (search rules) _ refl) }

pub invariant_of-self : goal.invariant_of-self
invariant_of-self c =
    record {
      room = room_put c.self.inside.held c.take_on_channel-output.new.self c.self.inside.closed.items c.push_reserved.new.self.items c.in-Some-Channel-default-Close.id _ (search rules) c.push_reserved.ensures.items (search rules);
      marked = marked_put c.self.inside.marks c.mark.new.self _ _ c.in-Some-Channel-default-Close.id c.self.invariant.marked c.mark.ensures.marked c.push_reserved.ensures.items;
      closing = λ n good. c.mark.ensures.kept n ∙ c.self.invariant.closing n (left_by _ _ _ c.take_on_channel-output.ensures.rest n good);
    }

pub invariant_of-self-in_default : goal.invariant_of-self-in_default
invariant_of-self-in_default c = kept_left _ _ _ _ _ _ c.self.invariant c.take_on_channel-output.ensures.rest c.take_on_channel-output.ensures.fewer

pub invariant_of-self-in_default-2 : goal.invariant_of-self-in_default-2
invariant_of-self-in_default-2 c = kept_left _ _ _ _ _ _ c.self.invariant c.take_on_channel-output.ensures.rest c.take_on_channel-output.ensures.fewer

pub invariant_of-self-in_default-3 : goal.invariant_of-self-in_default-3
invariant_of-self-in_default-3 c = kept_left _ _ _ _ _ _ c.self.invariant c.take_on_channel-output.ensures.rest c.take_on_channel-output.ensures.fewer
