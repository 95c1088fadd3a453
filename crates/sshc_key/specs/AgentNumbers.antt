-- Numbers of the agent's protocol as the draft prints them (draft-miller-ssh-agent, sections 3 and 5). Definitions take them from
-- here and not from the code, whose constants equal them (`agent_numbers` in proofs/StandardFacts.antt).
use Rattle.std.specs.Prelude.{ℕ}

abbrev pub FAILURE : ℕ
FAILURE = 5

abbrev pub SUCCESS : ℕ
SUCCESS = 6

abbrev pub REQUEST_IDENTITIES : ℕ
REQUEST_IDENTITIES = 11

abbrev pub IDENTITIES_ANSWER : ℕ
IDENTITIES_ANSWER = 12

abbrev pub SIGN_REQUEST : ℕ
SIGN_REQUEST = 13

abbrev pub SIGN_RESPONSE : ℕ
SIGN_RESPONSE = 14

abbrev pub ADD_IDENTITY : ℕ
ADD_IDENTITY = 17

abbrev pub REMOVE_IDENTITY : ℕ
REMOVE_IDENTITY = 18

abbrev pub REMOVE_ALL_IDENTITIES : ℕ
REMOVE_ALL_IDENTITIES = 19

abbrev pub ADD_SMARTCARD_KEY : ℕ
ADD_SMARTCARD_KEY = 20

abbrev pub REMOVE_SMARTCARD_KEY : ℕ
REMOVE_SMARTCARD_KEY = 21

abbrev pub LOCK : ℕ
LOCK = 22

abbrev pub UNLOCK : ℕ
UNLOCK = 23

abbrev pub ADD_ID_CONSTRAINED : ℕ
ADD_ID_CONSTRAINED = 25

abbrev pub ADD_SMARTCARD_KEY_CONSTRAINED : ℕ
ADD_SMARTCARD_KEY_CONSTRAINED = 26

abbrev pub EXTENSION : ℕ
EXTENSION = 27

abbrev pub EXTENSION_RESPONSE : ℕ
EXTENSION_RESPONSE = 29

abbrev pub CONSTRAIN_LIFETIME : ℕ
CONSTRAIN_LIFETIME = 1

abbrev pub CONSTRAIN_CONFIRM : ℕ
CONSTRAIN_CONFIRM = 2

abbrev pub CONSTRAIN_EXTENSION : ℕ
CONSTRAIN_EXTENSION = 255

abbrev pub SSH_AGENT_RSA_SHA2_256 : ℕ
SSH_AGENT_RSA_SHA2_256 = 2

abbrev pub SSH_AGENT_RSA_SHA2_512 : ℕ
SSH_AGENT_RSA_SHA2_512 = 4

abbrev pub MAX_AGENT_FRAME_LEN : ℕ
MAX_AGENT_FRAME_LEN = 262144
