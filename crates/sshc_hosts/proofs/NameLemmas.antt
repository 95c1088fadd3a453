-- The names of algorithms have neither spaces nor line feeds.
use Rattle.std.proofs.Common.{◌≡◌, ℕ, Bool, true, false, eqb, List, refl, sym, ap, ◌∙◌}
use Rattle.std.proofs.lemmas.Bool.{eqb-true}
use Rattle.std.proofs.lemmas.List.Sums.{AllPass-from_list_all}
use Rattle.sshc_key.specs.KeyGrammar.{Key, key_name, Fits}
use Rattle.sshc_key.specs.KeyLaws.Words.{is_word_byte, is_word, name_word}
use Rattle.sshc_hosts.specs.Learning.{Lacks}

other_byte : (b byte : ℕ) (same : Bool) → eqb b byte ≡ same → is_word_byte byte ≡ false → is_word_byte b ≡ true → same ≡ false
other_byte b byte false e white h = refl
other_byte b byte true e white h = let bad : false ≡ true = sym white ∙ ap is_word_byte (sym (eqb-true b byte e)) ∙ h in absurd cc

-- a word lacks each byte that can't occur in a word
word_lacks : (w : List ℕ) (byte : ℕ) → is_word_byte byte ≡ false → is_word w ≡ true → Lacks w byte
word_lacks w byte white h k d within = other_byte _ byte _ refl white (AllPass-from_list_all is_word_byte w h k d within)

-- the name of a key's algorithm is one field of one line
pub name_no_space : (key : Key) → Fits key → Lacks (key_name key) 32
name_no_space key fits = word_lacks (key_name key) 32 refl (name_word key fits.0)

pub name_no_line_feed : (key : Key) → Fits key → Lacks (key_name key) 10
name_no_line_feed key fits = word_lacks (key_name key) 10 refl (name_word key fits.0)
