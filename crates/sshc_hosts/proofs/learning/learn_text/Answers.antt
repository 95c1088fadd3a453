use Rattle.std.proofs.Common.{◌≡◌, ℕ, List, ◌∷◌, ◌++◌, Result, Ok, Err, IfOk, subst, ap, sym, ◌∙◌, arith}
use Rattle.sshc_hosts.specs.HostText.{host_text}
use Rattle.sshc_hosts.specs.Learning.{added_line, learned, Learns}
use Rattle.sshc_hosts.proofs.LearningLaws.{learns}
use Rattle.sshc_key.specs.KeyGrammar.{Key}
use Rattle.sshc_key.specs.Algorithms.{openssh_text}
use Rattle.sshc_hosts.proofs.learning.learn_text.Goals as goal

-- the line by its parts
learned_by : (old host text line : List ℕ) (key : Key × List ℕ) → host ≡ text → line ≡ openssh_text key.0 key.1 → added_line old (host ++ 32 ∷ line) ≡ learned old text key
unfolding learned
learned_by old host text line key same is = ap (λ front. added_line old (front ++ 32 ∷ line)) same ∙ ap (λ back. added_line old (text ++ 32 ∷ back)) is

same_text : {E : Type 0} (r : Result (List ℕ) E) (a b : List ℕ) → a ≡ b → IfOk r (λ t. t ≡ a) → IfOk r (λ t. t ≡ b)
same_text r a b e h = subst (λ (x : List ℕ). IfOk r (λ t. t ≡ x)) e h

law_of : {E : Type 0} (P : List ℕ → Type 0) (r : Result (List ℕ) E) (a : List ℕ) → P a → IfOk r (λ t. t ≡ a) → IfOk r P
law_of P (Ok t) a p e = subst P (sym e) p
law_of P (Err e) a p h = tt

pub returns-clause-text : goal.returns-clause-text
returns-clause-text c =
    let host = c.in_ok-host.ensures in
    let line = c.in_ok-key.ensures.text in
    same_text _ _ _ (learned_by c.args.old.now _ _ _ c.args.key.now (c.as_str.ensures.same ∙ host) (c.as_str-2.ensures.value ∙ line)) c.added_line.ensures

pub returns-clause-law : goal.returns-clause-law
returns-clause-law c fit good =
    law_of (λ t. Learns c.args.old.now t (host_text c.args.host.now c.args.port) c.args.key.now.0) _ _
    (learns c.args.old.now c.args.host.now c.args.port c.args.key.now (omega arith) fit good (let again = c.in_ok-key.ensures.base64 good.fits good.nesting in again))
    (returns-clause-text c)
