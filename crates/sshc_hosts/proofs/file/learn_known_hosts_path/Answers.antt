use Rattle.std.proofs.Common.{◌≡◌, ℕ, List, Option, Result, Ok, OnOk, subst, ap, ◌∙◌}
use Rattle.std.specs.Prelude.{option_map}
use Rattle.std.specs.Str.{IsUtf8}
use Rattle.sshc_wire.specs.Contents.{with_text}
use Rattle.sshc_key.specs.KeyGrammar.{Key}
use Rattle.sshc_key.specs.declared.error.Error.{Error}
use Rattle.sshc_key.specs.KeyFiles.{Told, AnswersBy}
use Rattle.sshc_hosts.specs.HostsFile.{text_at, LearnsIn}
use Rattle.sshc_hosts.specs.Learning.{Learns}
use Rattle.sshc_hosts.proofs.FileLaws.{learns_in}
use Rattle.sshc_hosts.proofs.file.learn_known_hosts_path.Goals as goal

-- the law, where the texts and the files are those that the calls pass on
handed_on : (result : Result (Unit {0}) Error) (old mid new : Option Told) (path text text' added added' host : List ℕ) (key : Key)
    → mid ≡ old → text' ≡ text → added' ≡ added
    → AnswersBy {X = List ℕ} (λ t. t) (Ok text) old (λ told. text_at told path) → IsUtf8 text → IsUtf8 added → Learns text' added host key
    → OnOk result (new ≡ option_map (λ told. with_text told path added') mid) → OnOk result (LearnsIn old new path host key)
handed_on result old mid new path text text' added added' host key files same more is utf8 utf8' law e =
    let law' : Learns text added host key = subst (λ (t : List ℕ). Learns t added host key) same law in
    let written : option_map (λ told. with_text told path added') mid ≡ option_map (λ told. with_text told path added) old =
    ap (λ (a : List ℕ). option_map (λ told. with_text told path a) mid) more ∙ ap (option_map (λ told. with_text told path added)) files in
    learns_in result old new path text added host key is utf8 utf8' law' (subst (λ (n : Option Told). OnOk result (new ≡ n)) written e)

pub returns-clause-law : goal.returns-clause-law
returns-clause-law g c fit good =
    handed_on _ _ _ _ _ _ _ _ _ _ _ c.text_at.ensures.same c.as_str.ensures.same c.as_str-2.ensures.same c.in_ok-text.ensures.answer
    c.as_str.ensures.utf8 c.as_str-2.ensures.utf8 (let law = c.in_ok-added.ensures.law fit good in law) c.add_at.ensures.added
