use Rattle.std.proofs.Common.{rules, ◌≡◌, ℕ, ◌≤◌, ◌+◌, ◌++◌, ◌∷◌, [], length, arith, refl, sym, ap, ◌∙◌, if◌then◌else◌, ◌==◌}
use Rattle.sshc_agent_core.specs.AgentHistory.{count_of}
use Rattle.sshc_agent_shared.specs.Calls.{entry_of, entry_weight}
use Rattle.sshc_agent_shared.specs.Kept.{weight_of}
use Rattle.sshc_agent_shared.proofs.Histories.{count_at_most, entries_weigh}
use Rattle.sshc_agent_shared.proofs.Keeping.{due_none, kept_push, kept_same}
use Rattle.sshc_agent_shared.proofs.generation.Generation.try_call.Goals as goal

pub overflow_cast-result : goal.overflow_cast-result
overflow_cast-result g c =
    let k = c.self.invariant in
    omega (arith, c.audit.ensures.bound, c.seat.invariant.1, c.len-own.ensures, k.book, k.weighs, k.within, entries_weigh c.self.inside.made c.self.inside.journal.items, c.self.ranges)

pub invariant_of-self-in_default : goal.invariant_of-self-in_default
invariant_of-self-in_default g c = kept_same _ _ _ _ _ _ _ _ _ _ _ _ _ c.self.invariant c.make.ensures.journal c.make.ensures.counts c.audit.ensures.total

pub raise-requires-clause-fits : goal.raise-requires-clause-fits
raise-requires-clause-fits g c =
    let k = c.self.invariant in
    omega (arith, c.make.ensures.counts c.seat.inside.conn, k.counted c.seat.inside.conn, count_at_most c.seat.inside.conn c.self.inside.journal.items, k.weighs, k.within, entries_weigh c.self.inside.made c.self.inside.journal.items, c.self.ranges)

pub invariant_of-self-2 : goal.invariant_of-self-2
invariant_of-self-2 g c =
    let k = c.self.invariant in
    kept_push _ _ _ _ _ _ _ _ _ _ _ _ _ _ _ _ _ _ _ _ _ k
    (c.at-kept.ensures ∙ k.counted c.seat.inside.conn)
    c.step-output.ensures.row
    (c.push_reserved.ensures.items ∙ (λ i. c.make.ensures.journal i ++ c.entries-entry.ensures.entry i ∷ []))
    (λ q. c.raise.ensures q ∙ ap (λ (n : ℕ). n + (if c.seat.inside.conn == q then 1 else 0)) (c.make.ensures.counts q))
    (omega (arith, c.add.ensures.total, c.audit.ensures.total))
    (omega (arith, c.frame_length-heavy.ensures))
    (omega (arith, c.if-left-heavy.false, c.if-left-heavy-lt-ENTRY_WEIGHT.false))

pub returns-clause-ok : goal.returns-clause-ok
returns-clause-ok g c =
    let k = c.self.invariant in
    let conn = c.seat.inside.conn in
    let own : c.at-kept.result ≡ length c.seat.inside.calls.items = omega (arith, c.if-own-kept.false, c.len-own.ensures) in
    let calls = c.push_reserved-2.ensures.items ∙ (λ i. c.make.ensures.calls i ++ c.entries-entry.ensures.call i ∷ []) in
    let parts = c.add.ensures.parts ∙ c.audit.ensures.parts in
    let amount = c.add.ensures.amount ∙ ap (λ (n : ℕ). n + 1) c.audit.ensures.amount in
    rw (← c.self.view_is, ← c.seat.view_is)
    (record {
      numbered = sym own ∙ (c.at-kept.ensures ∙ k.counted conn);
      step = c.step-output.ensures.row;
      journal = c.push_reserved.ensures.items ∙ ((λ i. c.make.ensures.journal i ++ c.entries-entry.ensures.entry i ∷ [])
          ∙ ap (λ (n : ℕ). c.self.inside.journal.items ++ entry_of conn n c.args.now c.args.input c.step-output.result ∷ []) own);
      asks = refl;
      made = refl;
      limit = refl;
      seat = λ i. record { conn = conn; calls = calls i; refused = c.seat.inside.refused; parts = parts i; amount = amount i };
    })

pub returns-clause-due : goal.returns-clause-due
returns-clause-due g c =
    let k = c.self.invariant in
    let same : length c.args.seat.now.calls ≡ count_of c.args.seat.now.conn c.args.self.now.of.journal =
    rw (← c.self.view_is, ← c.seat.view_is) (omega (arith, c.if-own-kept.false, c.len-own.ensures, c.at-kept.ensures, k.counted c.seat.inside.conn)) in
    let within : weight_of c.args.self.now.of + entry_weight c.args.input ≤ c.args.self.now.of.limit =
    rw (← c.self.view_is) (omega (arith, k.weighs, c.frame_length-heavy.ensures, c.if-left-heavy.false, c.if-left-heavy-lt-ENTRY_WEIGHT.false)) in
    rw (due_none c.args.self.now.of c.args.seat.now c.args.input same within) (search rules)
