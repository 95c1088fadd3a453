-- What was read and written on a stream, and then more.
use Rattle.std.proofs.Common.{◌≡◌, ℕ, List, [], ◌∷◌, ◌++◌, Err, refl, ap, sym, subst, ◌∙◌, append_assoc, inl, inr}
use Rattle.std.specs.Prelude.{Result}
use Rattle.std.specs.List.{flat_map}
use Rattle.std.proofs.lemmas.List.{append-nil, flat_map_more}
use Rattle.sshc_wire.specs.Contents.{append, prepend}
use Rattle.sshc_wire.specs.ContentsLaws.{append-append, append-nothing, prepend-nothing, prepend-prepend}
use Rattle.sshc_wire.specs.Faults.{Rose}
use Rattle.sshc_proxy.specs.declared.error.ProxyError.{ProxyError}
use Rattle.sshc_proxy.specs.Frames.{IsRead, IsReadFault, IsWriteFault, IsWritten, Stream}
use Rattle.sshc_proxy.specs.ProxyHistory.{Step}
use Rattle.sshc_proxy.specs.ProxyRun.{CountsFaults, Transfers}
use Rattle.sshc_proxy.specs.Relaying.{SameFaults}

-- ---- bytes

pub no_transfer : (s : Stream) → Transfers [] [] [] s s
no_transfer s = record { written = []; left = sym (prepend-nothing s.left); held = sym (append-nothing s.held); output = refl }

-- more was read
pub read_on : (read due unwritten given : List ℕ) (s m t : Stream) → Transfers (read ++ []) due unwritten s m → m.left ≡ prepend given t.left → t.held ≡ m.held → Transfers (read ++ given) due unwritten s t
read_on read due unwritten given s m t had left held = record {
  written = had.written;
  left = had.left ∙ ap (prepend (read ++ [])) left ∙ prepend-prepend (read ++ []) given t.left ∙ ap (λ (b : List ℕ). prepend (b ++ given) t.left) (append-nil read);
  held = held ∙ had.held;
  output = had.output;
}

-- of what was due a front was written
pub written_on : (read due piece front rest : List ℕ) (s m t : Stream) → Transfers read due piece s m → piece ≡ front ++ rest → t.left ≡ m.left → t.held ≡ append m.held front → Transfers read due rest s t
written_on read due piece front rest s m t had is left held = record {
  written = had.written ++ front;
  left = had.left ∙ ap (prepend read) (sym left);
  held = held ∙ ap (λ o. append o front) had.held ∙ append-append s.held had.written front;
  output = had.output ∙ ap (λ (p : List ℕ). had.written ++ p) is ∙ sym (append_assoc had.written front rest);
}

-- a step takes what was read, and makes its output due
pub stepped_on : (f g : Step → List ℕ) (steps : List Step) (step : Step) (s m : Stream) → Transfers (flat_map f steps ++ f step) (flat_map g steps) [] s m
    → Transfers (flat_map f (steps ++ step ∷ []) ++ []) (flat_map g (steps ++ step ∷ [])) (g step) s m
stepped_on f g steps step s m had = record {
  written = had.written;
  left = had.left ∙ ap (λ (b : List ℕ). prepend b m.left) (flat_map_more f [] steps step ∙ sym (append-nil (flat_map f (steps ++ step ∷ []))));
  held = had.held;
  output = sym (flat_map_more g [] steps step) ∙ ap (λ (b : List ℕ). b ++ g step) (had.output ∙ append-nil had.written);
}

-- ---- counts of faults

pub same_faults : (s : Stream) → SameFaults s s
same_faults s = record { read_faults = refl; write_faults = refl }

pub read_same : (given : List ℕ) (s m t : Stream) → SameFaults s m → IsRead given m t → SameFaults s t
read_same given s m t same read = record { read_faults = read.read_faults ∙ same.read_faults; write_faults = read.write_faults ∙ same.write_faults }

pub written_same : (given : List ℕ) (s m t : Stream) → SameFaults s m → IsWritten given m t → SameFaults s t
written_same given s m t same written = record { read_faults = written.read_faults ∙ same.read_faults; write_faults = written.write_faults ∙ same.write_faults }

-- another result than this stream's fault
pub unfaulted : (fault : ProxyError) (s t : Stream) (result : Result (Unit {0}) ProxyError) → (result ≡ Err fault → ⊥) → SameFaults s t → CountsFaults fault s t result
unfaulted fault s t result other same = record { rose = λ e. absurd (other e); same = λ _. (same.read_faults, same.write_faults) }

pub read_faulted : (fault : ProxyError) (given : List ℕ) (s m t : Stream) → SameFaults s m → IsReadFault given m t → CountsFaults fault s t (Err fault)
read_faulted fault given s m t same read = record {
  rose = λ _. inl (subst (λ (n : ℕ). Rose n t.read_faults) same.read_faults read.read_faults);
  same = λ other. absurd (other refl);
}

pub write_faulted : (fault : ProxyError) (given : List ℕ) (s m t : Stream) → SameFaults s m → IsWriteFault given m t → CountsFaults fault s t (Err fault)
write_faulted fault given s m t same written = record {
  rose = λ _. inr (subst (λ (n : ℕ). Rose n t.write_faults) same.write_faults written.write_faults);
  same = λ other. absurd (other refl);
}
