use Rattle.std.proofs.Common.{◌≡◌, List, ℕ, ◌∷◌, ◌++◌, [], Result, IfOk, append_assoc, subst, ◌∙◌}
use Rattle.sshc_hosts.specs.Learning.{line_feed_after, added_line}
use Rattle.sshc_hosts.proofs.learning.added_line.Goals as goal

-- the parts of the line, in the order in which they are written
written : (old feed host key : List ℕ) → feed ≡ line_feed_after old → feed ++ (host ++ 32 ∷ (key ++ 10 ∷ [])) ≡ added_line old (host ++ 32 ∷ key)
written old feed host key same =
    rw same (simp append_assoc)

same_text : {E : Type 0} (r : Result (List ℕ) E) (a b : List ℕ) → a ≡ b → IfOk r (λ t. t ≡ a) → IfOk r (λ t. t ≡ b)
same_text r a b e h = subst (λ (x : List ℕ). IfOk r (λ t. t ≡ x)) e h

pub returns : goal.returns
returns c =
    same_text _ _ _ (let ok = c.in_ok-format.ensures in ok.ok ∙ written c.args.old.now _ c.args.host.now c.args.key.now c.line_feed_after-line_feed.ensures) c.from_string.ensures
