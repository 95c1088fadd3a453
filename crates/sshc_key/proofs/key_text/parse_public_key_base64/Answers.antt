use Rattle.std.proofs.Common.{◌≡◌, ◌↔◌, ℕ, List, Some, sym, ap, subst, ◌∙◌}
use Rattle.std.specs.Prelude.{filter}
use Rattle.base64.specs.Engines.{standard}
use Rattle.base64.specs.GeneralPurpose.{decode_of}
use Rattle.sshc_key.specs.KeyGrammar.{Key}
use Rattle.sshc_key.specs.KeyText.{is_no_line_end}
use Rattle.sshc_key.specs.Nesting.{IsReadable, Parses, blob_key, key_or_fault}
use Rattle.sshc_key.specs.KeyLaws.{key_text_is_read}
use Rattle.sshc_key.specs.KeyLaws.Base64.{parsed_text}
use Rattle.sshc_key.proofs.key_text.parse_public_key_base64.Goals as goal

pub returns-in_err-text-clause-whole : goal.returns-in_err-text-clause-whole
returns-in_err-text-clause-whole c = λ k is. key_text_is_read _ k is

pub returns-in-Ok-clause-whole : goal.returns-in-Ok-clause-whole
returns-in-Ok-clause-whole c = λ k is. key_text_is_read _ k is

pub returns-in-Err-OutOfMemory-clause-whole : goal.returns-in-Err-OutOfMemory-clause-whole
returns-in-Err-OutOfMemory-clause-whole c = λ k is. key_text_is_read _ k is

pub returns-in-Ok-clause-grammar : goal.returns-in-Ok-clause-grammar
returns-in-Ok-clause-grammar c =
    let kept : filter is_no_line_end c.args.key.now ≡ c.deref.result.now =
    sym (c.deref.ensures.value ∙ c.in_ok-text.ensures ∙ ap (filter is_no_line_end) c.as_bytes.ensures.value) in
    let same = c.deref-in-Ok.ensures.value in
    parsed_text c.args.key.now c.in-Ok.blob.items c.parse_public_key.result (ap (decode_of standard) kept ∙ c.in-Ok.ensures.ok)
    (subst (λ (b : List ℕ). (k : Key) → (blob_key b ≡ Some k) ↔ IsReadable b k) same c.parse_public_key.ensures.grammar)
    (subst (λ (b : List ℕ). Parses c.parse_public_key.result (key_or_fault (blob_key b))) same c.parse_public_key.ensures.key)
