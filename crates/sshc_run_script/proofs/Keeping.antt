-- Records that are kept as their texts.
use Rattle.std.proofs.Common.{◌≡◌, ℕ, ◌+◌, ◌<◌, ◌≤◌, List, [], length, take, drop, Option, Some, slice_get, sym, arith, length-drop}
use Rattle.std.proofs.lemmas.List.{drop-drop, drop_all}
use Rattle.sshc_wire.specs.Contents.{append, WroteFront}
use Rattle.sshc_wire.specs.Outgoing.{text_in}
use Rattle.sshc_wire.specs.DigitLines.{text_line}
use Rattle.sshc_run_script.proofs.Lines.{cut_line_at, wrote_nothing}
use Rattle.sshc_run_script.proofs.RunNames.{Record, lines}
use Rattle.sshc_run_script.specs.RecordLines.{text_lines}

-- ---- the first one goes

pub next_kept : (texts : List (List ℕ)) (first : ℕ) → drop (first + 1) texts ≡ drop 1 (drop first texts)
next_kept texts first = sym (drop-drop 1 first texts)

pub last_kept : (texts : List (List ℕ)) (first : ℕ) → length texts ≤ first + 1 → [] ≡ drop 1 (drop first texts)
last_kept texts first few = sym (drop_all 1 (drop first texts) (omega (arith, few, length-drop first texts)))

-- ---- some are added

abbrev pub Kept : List (List ℕ) → Option (List ℕ)
Kept texts = Some (text_lines texts)

-- the next record isn't kept, and those before it are
pub cut_kept : (old now new : List (List ℕ)) (records : List Record) (at : ℕ) → at < length records →
    Kept now ≡ append (Kept old) (lines (take at records)) → new ≡ now → WroteFront (Kept old) (Kept new) (lines records)
cut_kept old now new records at within is same =
    rw same
    (cut_line_at records at (Kept old) (Kept now) (Kept now) within is (wrote_nothing (Kept now) (text_line (text_in (slice_get records at)))))
