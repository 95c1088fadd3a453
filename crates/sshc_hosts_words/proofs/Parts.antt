-- The request, from the second argument, the place and the arguments after KNOWN.
use Rattle.std.proofs.Common.{◌≡◌, ℕ, List, [], ◌∷◌, length, refl, arith, Option, Some, None, IfSome}
use Rattle.std.specs.Prelude.{codes}
use Rattle.sshc_hosts_words.specs.Port.{IsPort}
use Rattle.sshc_hosts_words.specs.Asked.{Place, Asked, check, keys, learn, Asks, HasParts, asked_by}
use Rattle.sshc_hosts_words.specs.declared.asked.HostsWords.{HostsWords}

pub no_words : (words : List (List ℕ)) → length words ≡ 0 → words ≡ []
no_words [] h = refl
no_words (word ∷ words) h = absurd (omega (arith, h))

parts_ask : (asked : Asked) (words : List (List ℕ)) (verb word : List ℕ) (at : Place) (last : List (List ℕ)) → words ≡ codes "hosts" ∷ verb ∷ at.host ∷ word ∷ at.path ∷ last
    → IsPort word at.port → HasParts verb at last asked → Asks words asked
parts_ask (check p key) words verb word at last is port parts = (word, rw (← parts.1) cc, rw (← parts.1) port)
parts_ask (keys p) words verb word at last is port parts = (word, rw (← parts.1) cc, rw (← parts.1) port)
parts_ask (learn p key) words verb word at last is port parts = (word, rw (← parts.1) cc, rw (← parts.1) port)

pub asks_by : (result : Option HostsWords) (words : List (List ℕ)) (verb word : List ℕ) (at : Place) (last : List (List ℕ)) → words ≡ codes "hosts" ∷ verb ∷ at.host ∷ word ∷ at.path ∷ last
    → IsPort word at.port → IfSome result (λ asked. HasParts verb at last (asked_by asked)) → IfSome result (λ asked. Asks words (asked_by asked))
asks_by None words verb word at last is port parts = tt
asks_by (Some asked) words verb word at last is port parts = parts_ask (asked_by asked) words verb word at last is port parts
