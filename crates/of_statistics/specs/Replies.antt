-- MULTIPART_REPLY (OpenFlow 1.3.5, 7.3.5), and rows that are packed greedily, each row whole, into replies.
use Rattle.std.specs.Prelude.{◌≡◌, ◌<◌, ◌≤◌, ℕ, ◌+◌, nat_le, List, [], ◌∷◌, ◌++◌, length, drop, if◌then◌else◌}
use Rattle.std.specs.List.{All, concat, flat_map}
use Rattle.of_formats.specs.{Structs.written, declared.messages.TheConstants.MULTIPART_REPLY}
use Rattle.of_formats.specs.Tables as tables
use Rattle.of_messages.specs.Written.{message_header, message}

-- the type of the request, flags, and the body
unfoldable pub reply : ℕ → ℕ → ℕ → List ℕ → List ℕ
reply xid kind flags body = message MULTIPART_REPLY xid (written tables.multipart (kind ∷ flags ∷ []) ++ body)

-- for contracts inside this crate: the 16 bytes before the body
unfoldable pub head_bytes : ℕ → ℕ → ℕ → ℕ → List ℕ
head_bytes size xid kind flags = message_header MULTIPART_REPLY size xid ++ written tables.multipart (kind ∷ flags ∷ [])

-- OFPMPF_REPLY_MORE: more replies follow
abbrev pub more : ℕ
more = 1

-- how many bytes of rows a reply has at most: those of a message, 65,535, less the 16 before the rows
abbrev pub most : ℕ
most = 65519

-- replies that are being written: those that are full, and the rows of the one that takes the next row where that fits
pub record Draft : Type 0 where
  pub xid : ℕ
  pub kind : ℕ
  pub full : List (List ℕ)
  pub rows : List ℕ

abbrev pub empty_draft : ℕ → ℕ → Draft
empty_draft xid kind = record { xid = xid; kind = kind; full = []; rows = [] }

abbrev pub filled : Draft → List ℕ
filled d = reply d.xid d.kind more d.rows

-- a row that does not fit begins another reply
abbrev pub with_row : Draft → List ℕ → Draft
with_row d row =
    if nat_le (length d.rows + length row) most
    then record d { rows = d.rows ++ row }
    else record d { full = d.full ++ filled d ∷ []; rows = row }

unfoldable pub with_rows : Draft → List (List ℕ) → Draft
with_rows d [] = d
with_rows d (row ∷ rows) = with_rows (with_row d row) rows

-- the last reply has no flag
abbrev pub closed : Draft → List (List ℕ)
closed d = d.full ++ reply d.xid d.kind 0 d.rows ∷ []

-- THE REPLIES OF ROWS: no rows give one reply without rows
abbrev pub replies : ℕ → ℕ → List (List ℕ) → List (List ℕ)
replies xid kind rows = closed (with_rows (empty_draft xid kind) rows)

-- ---- what that means

-- a reply that holds the rows `front`, and could not hold the next one too
pub record IsFull (xid kind : ℕ) (front : List (List ℕ)) (next reply_bytes : List ℕ) : Type 0 where
  pub holds : reply_bytes ≡ reply xid kind more (concat front)
  pub full : most < length (concat front) + length next

-- the last reply holds the rest, and each before it as many rows as it can
abbrev pub AreReplies : ℕ → ℕ → List (List ℕ) → List (List ℕ) → Type 0
AreReplies xid kind rows [] = ⊥
AreReplies xid kind rows (m ∷ []) = m ≡ reply xid kind 0 (concat rows)
AreReplies xid kind rows (m ∷ n ∷ ms) =
    (front : List (List ℕ)) × (next : List ℕ) × (behind : List (List ℕ)) × (rows ≡ front ++ next ∷ behind) × IsFull xid kind front next m × AreReplies xid kind (next ∷ behind) (n ∷ ms)

-- the rows of replies, one after the other
abbrev pub rows_in : List (List ℕ) → List ℕ
rows_in messages = flat_map (λ m. drop 16 m) messages

-- each has at most `size` bytes
abbrev pub AreWithin : ℕ → List (List ℕ) → Type 0
AreWithin size = All (λ bytes. length bytes ≤ size)
