-- Reading an event's fields agrees with their grammar: single parts, lists, parts that follow one another, and values
-- of several variants.
use Rattle.std.proofs.Common.{◌≡◌, ◌↔◌, ℕ, ◌<◌, ◌^◌, Bool, true, false, List, [], ◌∷◌, ◌++◌, Option, Some, None, Result, Ok, Err, refl, sym, ap, subst, ◌∙◌, arith}
use Rattle.sshc_wire.specs.Format.{IsFormat, done, made_at, part_at}
use Rattle.sshc_wire.specs.FormatLaws.{part, ok_is}
use Rattle.sshc_wire.specs.Grammar.{IsGrammar, SpelledAs, IsFlag, InRow, Converted, converted_at, IsCounted, TakesAtLeast}
use Rattle.sshc_wire.specs.GrammarLaws.{of_format, flags, in_row, made_of, converted, faults_seen, counted_parts, spelled_so}
use Rattle.sshc_wire.specs.PartsLaws.{strings, texts, number32, a_byte}
use Rattle.sshc_wire.specs.Reads.{Reader, ◌>>=◌, byte_at}
use Rattle.sshc_wire.specs.Wire.{IsBytes, IsShort, u32_text, string_text}
use Rattle.sshc_wire.specs.declared.channel_open_failure.ChannelOpenFailure.{ChannelOpenFailure}
use Rattle.sshc_wire.specs.declared.error.WireError.{WireError}
use Rattle.sshc_run_reader.specs.declared.channel_sort.ChannelSort.{ChannelSort}
use Rattle.sshc_run_reader.specs.declared.channel_sort.ChannelSort.TheVariants as channel_sorts
use Rattle.sshc_run_reader.specs.declared.error.EventError.{EventError}
use Rattle.sshc_run_reader.specs.declared.error.EventError.TheVariants.{Bad}
use Rattle.sshc_run_reader.specs.declared.method_sort.MethodSort.{MethodSort}
use Rattle.sshc_run_reader.specs.declared.method_sort.MethodSort.TheVariants as method_sorts
use Rattle.sshc_run_reader.specs.ChannelSorts.{channel_sort_number, channel_sort_numbered}
use Rattle.sshc_run_reader.specs.ChannelSortsLaws.{channel_sort_again, channel_sort_is}
use Rattle.sshc_run_reader.specs.MethodSorts.{method_sort_number, method_sort_numbered}
use Rattle.sshc_run_reader.specs.MethodSortsLaws.{method_sort_again, method_sort_is}
use Rattle.sshc_run_reader.specs.EventParts.{as_bad, or_bad, u8_at, u32_at, flag_at, octets_at, words_at, ticket_at, channel_at, strings_at, texts_at, mode_at, modes_at, hash_numbered, hash_at, reason_numbered, reason_at, failure_numbered, failure_at, method_sort_at, channel_sort_at, token_of, token_at, plain_key, key_at, whole_certificate, certificate_at, whole_pair, pair_field_at, keys_at, IsU8, IsU32, IsString, IsText, IsTicket, IsChannel, IsMode}
use Rattle.sshc_run_reader.specs.EventFields.{IsHash, IsToken, IsSecret, IsNames, IsSize, IsMethodSort, IsSort, IsOpenReply}
use Rattle.sshc_run_reader.specs.EventReading.{secret_of, secret_at, names_at, size_at, reply_of, open_reply_at, named_at, addressed_at}

-- ---- parts

wire_part : {A : Type 0} {t : A → List ℕ} {F : A → Type 0} {f : Reader WireError A} → IsFormat t F f →
    IsGrammar (SpelledAs t F) (part_at as_bad f)
wire_part p = faults_seen as_bad (of_format p)

ticket : IsGrammar IsTicket ticket_at
unfolding ticket_at u32_at
ticket = made_of (λ n. record { 0 = n }) IsTicket (λ a bytes h. h) (λ b bytes h. (b.0, refl, h)) (wire_part number32)

channel : IsGrammar IsChannel channel_at
unfolding channel_at u32_at
channel = made_of (λ n. record { 0 = n }) IsChannel (λ a bytes h. h) (λ b bytes h. (b.0, refl, h)) (wire_part number32)

string_takes : (F : List ℕ → Type 0) → TakesAtLeast 4 (SpelledAs string_text F)
unfolding string_text u32_text
string_takes F x bytes h = rw h.0 (omega arith)

mode_takes : TakesAtLeast 5 IsMode
unfolding u32_text
mode_takes m bytes (a, b, is, one, four) = rw (is, one.0, four.0) (omega arith)

-- a byte that represents one of the values that have numbers
sort_byte : {S : Type 0} (number : S → ℕ) (numbered : ℕ → Option S) → ((s : S) → numbered (number s) ≡ Some s) →
    ((n : ℕ) (s : S) → numbered n ≡ Some s → number s ≡ n) → ((s : S) → number s < 256) →
    IsGrammar (λ s bytes. bytes ≡ number s ∷ []) (converted_at (λ n. or_bad (numbered n)) (part_at as_bad byte_at))
sort_byte {S} number numbered again is small =
    spelled_so _ (λ s bytes h. h.1.0 ∙ ap (λ (n : ℕ). n ∷ []) (sym (is h.0 s (found (numbered h.0) s h.2))))
    (λ s bytes h. (number s, (h, small s), ap or_bad (again s))) (converted _ (wire_part a_byte))
  where
    found : (o : Option S) (s : S) → or_bad o ≡ Ok s → o ≡ Some s
    found None s e = absurd cc
    found (Some t) s e = cc

method_small : (s : MethodSort) → method_sort_number s < 256
method_small method_sorts.Nothing = omega arith
method_small s = omega arith

channel_small : (s : ChannelSort) → channel_sort_number s < 256
channel_small channel_sorts.Data = omega arith
channel_small s = omega arith

-- what was converted has the property
pub ok_so : {B : Type 0} {x y : B} (T : B → Type 0) → done {E = EventError} x ≡ done y → T x → T y
ok_so T e h = subst T (ok_is {E = EventError} _ _ e) h

secret_there : (secret : Option (List ℕ)) (bytes : List ℕ) →
    Converted secret_of (InRow IsFlag IsString) secret bytes → IsSecret secret bytes
secret_there secret bytes ((true, body), h, e) = ok_so (λ s. IsSecret s bytes) e h
secret_there secret bytes ((false, []), h, e) = ok_so (λ s. IsSecret s bytes) e h
secret_there secret bytes ((false, (b ∷ body)), h, e) = absurd cc

secret_back : (secret : Option (List ℕ)) (bytes : List ℕ) →
    IsSecret secret bytes → Converted secret_of (InRow IsFlag IsString) secret bytes
secret_back (Some x) bytes h = ((true, x), h, refl)
secret_back None bytes h = ((false, []), h, refl)

abbrev IsReply : Bool × ChannelOpenFailure → List ℕ → Type 0
IsReply a bytes = InRow IsFlag (Converted failure_numbered IsU32) a bytes

reply_there : (a : Bool × ChannelOpenFailure) (bytes : List ℕ) → IsReply a bytes → IsOpenReply (reply_of a.0 a.1) bytes
reply_there (true, reason) bytes h = (reason, h)
reply_there (false, reason) bytes h = h

reply_back : (r : Result (Unit {0}) ChannelOpenFailure) (bytes : List ℕ) → IsOpenReply r bytes →
    (a : Bool × ChannelOpenFailure) × (reply_of a.0 a.1 ≡ r) × IsReply a bytes
reply_back (Ok u) bytes (reason, h) = ((true, reason), refl, h)
reply_back (Err reason) bytes h = ((false, reason), refl, h)

pub record Parts : Type 0 where
  pub a_string : IsGrammar IsString octets_at
  pub a_text : IsGrammar IsText words_at
  pub a_u32 : IsGrammar IsU32 u32_at
  pub a_u8 : IsGrammar IsU8 u8_at
  pub a_flag : IsGrammar IsFlag flag_at
  pub a_ticket : IsGrammar IsTicket ticket_at
  pub a_channel : IsGrammar IsChannel channel_at
  pub a_hash : IsGrammar IsHash hash_at
  pub a_reason : IsGrammar (Converted reason_numbered IsU32) reason_at
  pub a_method_sort : IsGrammar IsMethodSort method_sort_at
  pub a_channel_sort : IsGrammar (λ s bytes. IsSort (Some s) bytes) channel_sort_at
  pub a_token : IsGrammar IsToken token_at
  pub a_key : IsGrammar (Converted plain_key IsString) key_at
  pub a_certificate : IsGrammar (Converted whole_certificate IsString) certificate_at
  pub a_pair : IsGrammar (Converted whole_pair IsString) pair_field_at
  pub some_strings : IsGrammar (IsCounted IsString) strings_at
  pub some_texts : IsGrammar (IsCounted IsText) texts_at
  pub some_keys : IsGrammar (IsCounted (Converted plain_key IsString)) keys_at
  pub some_modes : IsGrammar (IsCounted IsMode) modes_at
  pub a_secret : IsGrammar IsSecret secret_at
  pub some_names : IsGrammar IsNames names_at
  pub a_size : IsGrammar IsSize size_at
  pub an_open_reply : IsGrammar IsOpenReply open_reply_at
  pub a_named : IsGrammar (InRow IsTicket IsText) named_at
  pub an_address : IsGrammar (InRow IsTicket (InRow IsText IsU32)) addressed_at

pub parts : Parts
unfolding octets_at words_at u32_at u8_at flag_at ticket_at channel_at hash_at reason_at failure_at method_sort_at channel_sort_at token_at key_at certificate_at pair_field_at strings_at texts_at keys_at mode_at modes_at secret_at names_at size_at open_reply_at named_at addressed_at
parts =
    let text : IsGrammar IsText words_at = wire_part texts in
    let string : IsGrammar IsString octets_at = wire_part strings in
    let u32 : IsGrammar IsU32 u32_at = wire_part number32 in
    let u8 : IsGrammar IsU8 u8_at = wire_part a_byte in
    let flag : IsGrammar IsFlag flag_at = faults_seen as_bad flags in
    let count : IsFormat u32_text (λ n. n < 2 ^ 32) u32_at = part as_bad number32 in
    record {
      a_string = string;
      a_text = text;
      a_u32 = u32;
      a_u8 = u8;
      a_flag = flag;
      a_ticket = ticket;
      a_channel = channel;
      a_hash = converted hash_numbered u8;
      a_reason = converted reason_numbered u32;
      a_method_sort = sort_byte method_sort_number method_sort_numbered method_sort_again method_sort_is method_small;
      a_channel_sort =
          sort_byte channel_sort_number channel_sort_numbered channel_sort_again channel_sort_is channel_small;
      a_token = converted token_of string;
      a_key = converted plain_key string;
      a_certificate = converted whole_certificate string;
      a_pair = converted whole_pair string;
      some_strings = counted_parts 4 Bad (string_takes _) count string;
      some_texts = counted_parts 4 Bad (string_takes _) count text;
      some_keys = counted_parts 4 Bad (λ x b h. string_takes IsShort h.0 b h.1) count (converted plain_key string);
      some_modes = counted_parts 5 Bad mode_takes count
          (made_of (λ x. (record { 0 = x.0 }, x.1)) IsMode (λ a b h. h) (λ m b h. ((m.0.0, m.1), refl, h))
          (in_row u8 u32));
      a_secret = spelled_so IsSecret secret_there secret_back (converted secret_of (in_row flag string));
      some_names = made_of _ IsNames (λ a bytes h. h)
          (λ n bytes h. ((n.kex, (n.key, (n.cipher, (n.client_mac, (n.server_mac, n.strict_kex))))), refl, h))
          (in_row text (in_row text (in_row text (in_row text (in_row text flag)))));
      a_size = in_row u32 (in_row u32 (in_row u32 u32));
      an_open_reply = made_of _ IsOpenReply reply_there reply_back (in_row flag (converted failure_numbered u32));
      a_named = in_row ticket text;
      an_address = in_row ticket (in_row text u32);
    }

-- ---- values of several variants

-- this value is read just from the bytes that spell it
pub record ReadsOne {E B : Type 0} (U : List ℕ → Type 0) (reader : Reader E B) (b : B) : Type 0 where
  pub takes : (bytes rest : List ℕ) → IsBytes bytes → reader bytes ≡ Ok (b, rest) →
      (front : List ℕ) × (bytes ≡ front ++ rest) × U front
  pub again : (front rest : List ℕ) → U front → reader (front ++ rest) ≡ Ok (b, rest)

-- made of its parts
abbrev pub MadeOf : {A B : Type 0} → (A → B) → (A → List ℕ → Type 0) → B → List ℕ → Type 0
MadeOf {A} make S b bytes = (a : A) × (make a ≡ b) × S a bytes

pub made_so : {E A B : Type 0} {S : A → List ℕ → Type 0} {f : Reader E A} (make : A → B) → IsGrammar S f →
    IsGrammar (MadeOf make S) (made_at make f)
made_so make p = made_of make _ (λ a bytes h. (a, refl, h)) (λ b bytes h. h) p

pub one_made : {E A B : Type 0} {S : A → List ℕ → Type 0} {f : Reader E A} (make : A → B) (U : B → List ℕ → Type 0) →
    (b : B) →
    ((a : A) (bytes : List ℕ) → S a bytes → U (make a) bytes) → ((bytes : List ℕ) → U b bytes → MadeOf make S b bytes) →
    IsGrammar S f → ReadsOne (U b) (made_at make f) b
one_made make U b there back p = record {
  takes = λ bytes rest fits e.
      let h = (made_so make p).takes bytes b rest fits e in
      (h.0, h.1, subst (λ y. U y h.0) h.2.1 (there h.2.0 h.0 h.2.2));
  again = λ front rest u. (made_so make p).again b front rest (back front u);
}

pub self : {P : Type 0} → P ↔ P
self = ((λ h. h), (λ h. h))

-- where its parts tell which value it is
pub one_of : {E A B : Type 0} {S : A → List ℕ → Type 0} {f : Reader E A} (make : A → B) (U : B → List ℕ → Type 0) →
    (x : A) → ((a : A) (bytes : List ℕ) → S a bytes ↔ U (make a) bytes) → IsGrammar S f →
    ReadsOne (U (make x)) (made_at make f) (make x)
one_of make U x same p = one_made make U (make x) (λ a b h. (same a b).0 h) (λ b h. (x, refl, (same x b).1 h)) p

pub one_alone : {E B : Type 0} (b : B) → ReadsOne {E = E} (λ bytes. bytes ≡ []) (λ bytes. Ok (b, bytes)) b
one_alone {E} b = record {
  takes = λ bytes rest fits e. ([], ap (λ (p : _). p.1) (ok_is {E = E} (b, bytes) (b, rest) e), refl);
  again = λ front rest h. rw h refl;
}

-- what was read is of this sort
abbrev pub Sorted : {E T B : Type 0} → (B → T) → T → Result (B × List ℕ) E → Type 0
Sorted sort_of sort (Ok x) = sort_of x.0 ≡ sort
Sorted sort_of sort (Err e) = Unit {0}

pub made_sorted : {E T A B : Type 0} (sort_of : B → T) (sort : T) (make : A → B) (read : Result (A × List ℕ) E) →
    ((a : A) → sort_of (make a) ≡ sort) → Sorted sort_of sort (read >>= λ a. Ok (make a.0, a.1))
made_sorted sort_of sort make (Ok a) each = each a.0
made_sorted sort_of sort make (Err e) each = tt

pub by_sort : {E T B : Type 0} {U : B → List ℕ → Type 0} (sort_of : B → T) (g : T → Reader E B) →
    ((sort : T) (bytes : List ℕ) → Sorted sort_of sort (g sort bytes)) → ((b : B) → ReadsOne (U b) (g (sort_of b)) b) →
    (sort : T) → IsGrammar (λ b bytes. (sort_of b ≡ sort) × U b bytes) (g sort)
by_sort sort_of g sorted one sort = record {
  takes = λ bytes b rest fits e.
      let is : sort_of b ≡ sort = subst (Sorted sort_of sort) e (sorted sort bytes) in
      let h = (one b).takes bytes rest fits (subst (λ s. g s bytes ≡ Ok (b, rest)) (sym is) e) in
      (h.0, h.1, (is, h.2));
  again = λ b front rest h. subst (λ s. g s (front ++ rest) ≡ Ok (b, rest)) h.0 ((one b).again front rest h.1);
}
