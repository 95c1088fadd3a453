-- A text without spaces is its first field.
use Rattle.std.proofs.Common.{◌≡◌, ℕ, Bool, true, false, cond, List, length, take, Option, Some, None, Result, Ok, Err, ap, subst, ◌∙◌}
use Rattle.std.specs.List.{position_or_len, before_first}
use Rattle.std.proofs.Math.Seq.{take-length}
use Rattle.sshc_key.specs.declared.error.Error.{Error}
use Rattle.sshc_key.specs.declared.error.Error.TheVariants.{ReadFault, SshKey}
use Rattle.sshc_key.specs.Gives.{GivesAll}
use Rattle.sshc_key.specs.KeyFiles.{is_space, named_certificate, certificate_named, certificate_fields, certificate_in}
use Rattle.sshc_key.specs.KeyGrammar.{Key, plain, certificate}
use Rattle.sshc_key.specs.KeyText.{decoded, decoded_key}
use Rattle.sshc_key.specs.Nesting.{key_or_fault}

pub whole_field : (text : List ℕ) → position_or_len is_space text ≡ length text → before_first is_space text ≡ text
whole_field text h = ap (λ (n : ℕ). take n text) h ∙ take-length text

-- ---- no text is a failed read

abbrev read_failed : Result Key Error
read_failed = Err ReadFault

no_fault_of_key : (o : Option Key) → key_or_fault o ≡ read_failed → ⊥
no_fault_of_key None e = cc
no_fault_of_key (Some k) e = cc

pub no_fault_of_text : (text : List ℕ) → decoded_key text ≡ read_failed → ⊥
unfolding decoded_key
no_fault_of_text text e = of_result _ e
  where
    of_result : {E : Type 0} (r : Result (List ℕ) E) → decoded r ≡ read_failed → ⊥
    of_result (Ok blob) e = no_fault_of_key _ e
    of_result (Err d) e = cc

no_fault_of_choice : (b : Bool) (k : Key) → cond b (Ok k) (Err SshKey) ≡ read_failed → ⊥
no_fault_of_choice true k e = cc
no_fault_of_choice false k e = cc

no_fault_of_named : (name : List ℕ) (k : Key) → named_certificate name k ≡ read_failed → ⊥
no_fault_of_named name (plain k) e = cc
no_fault_of_named name (certificate nonce key says signer signature) e = no_fault_of_choice _ (certificate nonce key says signer signature) e

no_fault_of_read : (name : List ℕ) (r : Result Key Error) → (r ≡ read_failed → ⊥) → certificate_named name r ≡ read_failed → ⊥
no_fault_of_read name (Ok k) none e = no_fault_of_named name k e
no_fault_of_read name (Err d) none e = none e

no_fault_of_fields : (o : Option (List ℕ × List ℕ)) → certificate_fields o ≡ read_failed → ⊥
no_fault_of_fields None e = cc
no_fault_of_fields (Some fields) e = no_fault_of_read fields.0 _ (no_fault_of_text _) e

pub no_read_fault : (text : List ℕ) → certificate_in text ≡ Err ReadFault → ⊥
unfolding certificate_in
no_read_fault text e = no_fault_of_fields _ e

pub not_read_fault : (r : Result Key Error) (text : List ℕ) → GivesAll (λ c. c) r (certificate_in text) → r ≡ read_failed → ⊥
not_read_fault r text gives is = no_read_fault text (subst (λ (x : Result Key Error). GivesAll (λ c. c) x (certificate_in text)) is gives)
