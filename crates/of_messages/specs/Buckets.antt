-- Buckets of a group on the wire (OpenFlow 1.3.5, 7.3.4.2): their length, weight, watched port and watched group, four bytes of padding, and actions.
use Rattle.std.specs.Prelude.{ℕ, ◌-◌, ◌%◌, ◌==◌, nat_lt, Bool, true, false, not, ◌||◌, List, [], ◌∷◌, length, take, drop, Option, Some, None, Result, Ok, Err}
use Rattle.byteorder.specs.Endian.{big_number}
use Rattle.of_wire.specs.{declared.codes.TheConstants.OFPGMFC_BAD_BUCKET, declared.codes.TheConstants.OFPGMFC_OUT_OF_BUCKETS, declared.code.Code.Code, Items.Items, Items.items_from}
use Rattle.of_actions.specs.{declared.action.Action.Action, Actions.actions_said}
use Rattle.of_groups.specs.declared.bucket.Bucket.{Bucket}
use Rattle.of_formats.specs.Structs.{numbers, size}
use Rattle.of_formats.specs.Tables as tables

-- the length of the whole bucket
abbrev pub bucket_len_at : List ℕ → ℕ
bucket_len_at rest = big_number 2 rest

abbrev pub actions_in : List ℕ → List ℕ
actions_in rest = take (bucket_len_at rest - size tables.bucket) (drop (size tables.bucket) rest)

abbrev pub actions_fault : Result (List Action) Code → List (Bool × Code)
actions_fault (Ok actions) = []
actions_fault (Err code) = (true, code) ∷ []

-- The refusals of the bucket that begins `rest`, in order, after the buckets `seen`: OFPGMFC_OUT_OF_BUCKETS for the 17th, OFPGMFC_BAD_BUCKET for a length that is none, and that of its actions.
unfoldable pub bucket_refusals : List Bucket → List ℕ → List (Bool × Code)
bucket_refusals seen rest =
    (nat_lt 15 (length seen), OFPGMFC_OUT_OF_BUCKETS)
    ∷ (nat_lt (length rest) (size tables.bucket), OFPGMFC_BAD_BUCKET)
    ∷ (nat_lt (bucket_len_at rest) (size tables.bucket) || not (bucket_len_at rest % 8 == 0) || nat_lt (length rest) (bucket_len_at rest), OFPGMFC_BAD_BUCKET)
    ∷ actions_fault (actions_said false (actions_in rest))

-- a bucket whose counters are 0
abbrev pub bucket_with : List ℕ → Result (List Action) Code → Option Bucket
bucket_with (len ∷ weight ∷ watch_port ∷ watch_group ∷ []) (Ok actions) =
    Some (record { weight = weight; watch_port = watch_port; watch_group = watch_group; actions = actions; packets = 0; bytes = 0 })
bucket_with other actions = None

unfoldable pub bucket_of_bytes : List ℕ → Option Bucket
bucket_of_bytes rest = bucket_with (numbers tables.bucket 0 rest) (actions_said false (actions_in rest))

abbrev pub buckets : Items Bucket
buckets = record { refusals = bucket_refusals; value_at = bucket_of_bytes; size_at = bucket_len_at }

-- the buckets that bytes are, to their end, or the code of the first refusal
unfoldable pub buckets_said : List ℕ → Result (List Bucket) Code
buckets_said bytes = items_from buckets (length bytes) [] bytes
