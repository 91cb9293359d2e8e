-- Rows one after the other, and replies that hold some of them each.
use Rattle.std.proofs.Common.{◌≡◌, ◌≤◌, ℕ, ◌+◌, Bool, true, false, List, [], ◌∷◌, ◌++◌, length, map, refl, sym, ap, subst, ◌∙◌, arith}
use Rattle.std.specs.List.{All, concat, flat_map, AllByRecursion as ByRecursion}
use Rattle.std.proofs.lemmas.List.Elements.{recursion_from_All, All-from_recursion}
use Rattle.of_statistics.{specs.Replies.AreReplies, specs.Replies.most, specs.Replies.reply, specs.Replies.replies, proofs.Cutting.cut, proofs.Cutting.fit}
use Rattle.of_laws.specs.{Replied.Reply, Replied.EncodeAll, Replied.EncodesReply, Replied.flags, ReplyRows.AreReplyRows}

-- ---- rows that are written

-- each row, whatever follows
abbrev pub AreWritten : {X Y : Type 0} → (Y → List ℕ → List ℕ → Type 0) → (X → Y) → (X → List ℕ) → (X → Type 0) → Type 0
AreWritten {X} IsRow shown row Holds = (x : X) (rest : List ℕ) → Holds x → IsRow (shown x) (row x ++ rest) rest

pub rows_written : {X Y : Type 0} (IsRow : Y → List ℕ → List ℕ → Type 0) (shown : X → Y) (row : X → List ℕ) (Holds : X → Type 0) → AreWritten IsRow shown row Holds
    → (xs : List X) → ByRecursion Holds xs → AreReplyRows IsRow (map shown xs) (concat (map row xs))
rows_written IsRow shown row Holds each [] all = refl
rows_written IsRow shown row Holds each (x ∷ xs) all = let rest = concat (map row xs) in (rest, each x rest all.0, rows_written IsRow shown row Holds each xs all.1)

pub flat_is : {X : Type 0} (row : X → List ℕ) (xs : List X) → flat_map row xs ≡ concat (map row xs)
flat_is row [] = refl
flat_is row (x ∷ xs) = ap (λ (t : List ℕ). row x ++ t) (flat_is row xs)

-- ---- replies that hold some of them each

length_reply : (xid kind flag : ℕ) (body : List ℕ) → length (reply xid kind flag body) ≡ 16 + length body
unfolding reply
length_reply xid kind flag body = omega arith

record Split {X : Type 0} (row : X → List ℕ) (xs : List X) (front behind : List (List ℕ)) : Type 0 where
  these : List X
  others : List X
  whole : xs ≡ these ++ others
  here : map row these ≡ front
  there : map row others ≡ behind

one_more : {X : Type 0} (row : X → List ℕ) (x : X) (xs : List X) (r : List ℕ) (front behind : List (List ℕ)) → row x ≡ r → Split row xs front behind → Split row (x ∷ xs) (r ∷ front) behind
one_more {X} row x xs r front behind first s =
    let here : row x ∷ map row s.these ≡ r ∷ front = rw (first, s.here) refl in
    record { these = x ∷ s.these; others = s.others; whole = ap (λ (t : List X). x ∷ t) s.whole; here = here; there = s.there }

-- rows are separated as what they are rows of
split : {X : Type 0} (row : X → List ℕ) (xs : List X) (front behind : List (List ℕ)) → map row xs ≡ front ++ behind → Split row xs front behind
split row xs [] behind e = record { these = []; others = xs; whole = refl; here = refl; there = e }
split row [] (r ∷ front) behind e = absurd cc
split row (x ∷ xs) (r ∷ front) behind e =
    let first : row x ≡ r = cc in
    let rest : map row xs ≡ front ++ behind = cc in
    one_more row x xs r front behind first (split row xs front behind rest)

prepended : {X : Type 0} (Holds : X → Type 0) (xs ys : List X) → ByRecursion Holds (xs ++ ys) → ByRecursion Holds xs
prepended Holds [] ys all = tt
prepended Holds (x ∷ xs) ys all = (all.0, prepended Holds xs ys all.1)

behind : {X : Type 0} (Holds : X → Type 0) (xs ys : List X) → ByRecursion Holds (xs ++ ys) → ByRecursion Holds ys
behind Holds [] ys all = all
behind Holds (x ∷ xs) ys all = behind Holds xs ys all.1

-- one reply with all the rows is encoded, where they fit in it
abbrev pub IsEncoded : {X : Type 0} → ℕ → ℕ → (List X → Reply) → (X → List ℕ) → (X → Type 0) → Type 0
IsEncoded {X} xid kind told row Holds = (more : Bool) (xs : List X) → ByRecursion Holds xs → length (concat (map row xs)) ≤ most → EncodesReply xid more (told xs) (reply xid kind (flags more) (concat (map row xs)))

one_encoded : {X : Type 0} (xid kind : ℕ) (told : List X → Reply) (row : X → List ℕ) (Holds : X → Type 0) → IsEncoded xid kind told row Holds
    → (more : Bool) (xs : List X) (rows : List (List ℕ)) (m : List ℕ) → map row xs ≡ rows → ByRecursion Holds xs → m ≡ reply xid kind (flags more) (concat rows) → length m ≤ 65535 → EncodesReply xid more (told xs) m
one_encoded xid kind told row Holds encoded more xs rows m same all is fits =
    let whole : m ≡ reply xid kind (flags more) (concat (map row xs)) = is ∙ ap (λ (rs : List (List ℕ)). reply xid kind (flags more) (concat rs)) (sym same) in
    let short : length (concat (map row xs)) ≤ most = omega (arith, fits, ap length whole, length_reply xid kind (flags more) (concat (map row xs))) in
    subst (λ (b : List ℕ). EncodesReply xid more (told xs) b) (sym whole) (encoded more xs all short)

all_encoded : {X : Type 0} (xid kind : ℕ) (told : List X → Reply) (row : X → List ℕ) (Holds : X → Type 0) → IsEncoded xid kind told row Holds
    → (ms : List (List ℕ)) (xs : List X) (rows : List (List ℕ)) → map row xs ≡ rows → ByRecursion Holds xs → ByRecursion (λ m. length m ≤ 65535) ms → AreReplies xid kind rows ms → EncodeAll xid told xs ms
all_encoded xid kind told row Holds encoded [] xs rows same all fits are = are
all_encoded xid kind told row Holds encoded (m ∷ []) xs rows same all fits are = one_encoded xid kind told row Holds encoded false xs rows m same all are fits.0
all_encoded {X} xid kind told row Holds encoded (m ∷ n ∷ ms) xs rows same all fits are =
    let s = split row xs are.0 (are.1 ∷ are.2) (same ∙ are.3) in
    let each : ByRecursion Holds (s.these ++ s.others) = subst (λ (t : List X). ByRecursion Holds t) s.whole all in (
      s.these,
      s.others,
      s.whole,
      one_encoded xid kind told row Holds encoded true s.these are.0 m s.here (prepended Holds s.these s.others each) are.4.holds fits.0,
      all_encoded xid kind told row Holds encoded (n ∷ ms) s.others (are.1 ∷ are.2) s.there (behind Holds s.these s.others each) fits.1 are.5,
    )

short_rows : {X : Type 0} (row : X → List ℕ) (Holds : X → Type 0) → ((x : X) → Holds x → length (row x) ≤ most) → (xs : List X) → ByRecursion Holds xs → ByRecursion (λ r. length r ≤ most) (map row xs)
short_rows row Holds short [] all = tt
short_rows row Holds short (x ∷ xs) all = (short x all.0, short_rows row Holds short xs all.1)

-- where each row fits, so does each reply
pub encode_all : {X : Type 0} (xid kind : ℕ) (told : List X → Reply) (row : X → List ℕ) (Holds : X → Type 0) → IsEncoded xid kind told row Holds → ((x : X) → Holds x → length (row x) ≤ most)
    → (xs : List X) → All Holds xs → EncodeAll xid told xs (replies xid kind (map row xs))
encode_all xid kind told row Holds encoded short xs all =
    let each = recursion_from_All Holds xs all in
    let rows = map row xs in
    let room = All-from_recursion (λ r. length r ≤ most) rows (short_rows row Holds short xs each) in
    let fits = recursion_from_All (λ m. length m ≤ 65535) (replies xid kind rows) (fit xid kind rows room) in
    all_encoded xid kind told row Holds encoded (replies xid kind rows) xs rows refl each fits (cut xid kind rows)
