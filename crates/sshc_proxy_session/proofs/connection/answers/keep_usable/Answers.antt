use Rattle.std.proofs.Common.{◌≡◌, ap, rules, ◌∙◌}
use Rattle.std.specs.Prelude.{filter}
use Rattle.std.proofs.lemmas.Fn.{filter_same}
use Rattle.sshc_proxy.specs.Listing.{keys_seen}
use Rattle.sshc_proxy_session.specs.SessionTable.{is_usable, parted}
use Rattle.sshc_proxy_session.proofs.AnswerLemmas.{kept_seen}
use Rattle.sshc_proxy_session.proofs.connection.answers.keep_usable.Goals as goal

pub returns : goal.returns
returns c =
    let kept : c.retain.new.self.items ≡ filter (λ k. is_usable c.args.policy.now (parted c.args.bindings.now) k.blob.now) c.args.keys.now.items =
    filter_same _ _ _ (λ x b f' k. search rules) _ _ c.retain.ensures.filtered in
    ap keys_seen kept ∙ kept_seen (λ blob. is_usable c.args.policy.now (parted c.args.bindings.now) blob) _
