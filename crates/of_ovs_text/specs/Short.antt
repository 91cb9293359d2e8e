-- MESSAGES WITHOUT LISTS: those without content, ROLE_REQUEST and SET_CONFIG.
use Rattle.std.specs.Prelude.{ℕ, ◌^◌, ◌==◌, List, [], ◌∷◌, codes, length, Option, Some, None, Ok, Err, if◌then◌else◌}
use Rattle.std.specs.Str.{bytes_eq}
use Rattle.of_formats.specs.declared.messages.TheConstants.{BARRIER_REQUEST, ECHO_REQUEST, FEATURES_REQUEST, GET_CONFIG_REQUEST, HELLO, ROLE_REQUEST, SET_CONFIG}
use Rattle.of_formats.specs.Structs.{written}
use Rattle.of_formats.specs.Tables as tables
use Rattle.of_messages.specs.Written.{message}
use Rattle.of_ovs_words.specs.{Numbers.number_in, Words.word_name, Words.word_value}
use Rattle.of_ovs_text.specs.{Cutting.after_leading, Cutting.leading_word, Reasons.BytesOrReason, Reasons.reason_of_word}

-- the type of the messages of a kind that have no content (OpenFlow 1.3.5, 7.5.1, 7.5.2, 7.3.1, 7.3.2 and 7.3.8)
unfoldable pub bare_type : List ℕ → Option ℕ
bare_type kind =
    if bytes_eq kind (codes "hello") then Some HELLO
    else if bytes_eq kind (codes "echo") then Some ECHO_REQUEST
    else if bytes_eq kind (codes "features") then Some FEATURES_REQUEST
    else if bytes_eq kind (codes "get-config") then Some GET_CONFIG_REQUEST
    else if bytes_eq kind (codes "barrier") then Some BARRIER_REQUEST
    else None

unfoldable pub bare_words_said : ℕ → ℕ → List ℕ → BytesOrReason
bare_words_said xid type rest = if length rest == 0 then Ok (message type xid []) else Err (reason_of_word rest)

-- OFPCR_ROLE_* (7.3.9)
unfoldable pub role_named : List ℕ → Option ℕ
role_named word =
    if bytes_eq word (codes "nochange") then Some 0
    else if bytes_eq word (codes "equal") then Some 1
    else if bytes_eq word (codes "master") then Some 2
    else if bytes_eq word (codes "slave") then Some 3
    else None

-- a generation_id; 0 if there is no word
unfoldable pub generation_in : List ℕ → Option ℕ
generation_in word = if length word == 0 then Some 0 else number_in (2 ^ 64) word

abbrev pub role_request : ℕ → Option ℕ → Option ℕ → List ℕ → BytesOrReason
role_request xid (Some role) (Some generation) rest = Ok (message ROLE_REQUEST xid (written tables.role (role ∷ generation ∷ [])))
role_request xid (Some role) None rest = Err (reason_of_word (after_leading rest))
role_request xid None generation rest = Err (reason_of_word (leading_word rest))

-- ROLE [GENERATION_ID]
unfoldable pub role_words_said : ℕ → List ℕ → BytesOrReason
role_words_said xid rest = role_request xid (role_named (leading_word rest)) (generation_in (after_leading rest)) rest

abbrev pub set_config : ℕ → Option ℕ → List ℕ → BytesOrReason
set_config xid (Some miss_send_len) word = Ok (message SET_CONFIG xid (written tables.switch_config (0 ∷ miss_send_len ∷ [])))
set_config xid None word = Err (reason_of_word word)

-- miss_send_len=N, without flags (7.3.2)
unfoldable pub config_words_said : ℕ → List ℕ → BytesOrReason
config_words_said xid word = set_config xid (if bytes_eq (word_name word) (codes "miss_send_len") then number_in (2 ^ 16) (word_value word) else None) word
