-- No bytes begin with two rows of groups, of what they count or of what they are.
use Rattle.std.proofs.Common.{◌≡◌, ℕ, ◌+◌, ◌-◌, ◌*◌, false, List, [], ◌∷◌, ◌++◌, length, take, drop, None, Result, Ok, Err, refl, sym, ap, subst, ◌∙◌, arith}
use Rattle.std.{specs.Prelude.slice_index, specs.Prelude.◌==◌, specs.Prelude.if◌then◌else◌, proofs.lemmas.List.take_at, proofs.lemmas.List.drop_at}
use Rattle.byteorder.specs.Endian.{big_number}
use Rattle.of_wire.specs.declared.code.Code.{Code}
use Rattle.of_actions.{specs.declared.action.Action.Action, specs.Actions.actions_said, proofs.ActionsComputed.actions_are}
use Rattle.of_groups.specs.{declared.bucket.Bucket.Bucket, declared.group.GroupKind.GroupKind}
use Rattle.of_groups.specs.{declared.group.GroupKind.TheVariants.All, declared.group.GroupKind.TheVariants.Indirect, declared.group.GroupKind.TheVariants.FastFailover, Groups.kind_number}
use Rattle.of_messages.specs.declared.group_mod.NewGroup.{NewGroup}
use Rattle.of_laws.specs.ReplyRows.{AreReplyRows, BucketStats, GroupStats, IsGroupRow, bucket_stats_cells, group_stats_cells, IsDescribed, group_description_cells}
use Rattle.of_laws.specs.{Buckets.AreBuckets, Buckets.BeginsWithBucket, Buckets.bucket_cells, Cells.Begins, Cells.StructCell, Cells.u16_cell}
use Rattle.of_laws.proofs.{OneReplyRow.HasBytes, OneReplyRow.IsOne, OneReplyRow.rows_one, Places.says, Places.rest_is, Places.size_is}

-- what the same bytes begin with, and has the same length, is the same
parted : (a b x y : List ℕ) (n : ℕ) → a ++ x ≡ b ++ y → length a ≡ n → length b ≡ n → (a ≡ b) × (x ≡ y)
parted a b x y n e long short =
    (sym (take_at a x n long) ∙ ap (take n) e ∙ take_at b y n short, sym (drop_at a x n long) ∙ ap (drop n) e ∙ drop_at b y n short)

-- ---- GROUP

same_bucket : (a b : BucketStats) → a.packets ≡ b.packets → a.bytes ≡ b.bytes → a ≡ b
same_bucket a b p q = λ i. record { packets = p i; bytes = q i }

counters_one : (xs ys : List BucketStats) (m rest others : List ℕ) → length xs ≡ length ys → Begins (bucket_stats_cells xs) m rest → Begins (bucket_stats_cells ys) m others → (xs ≡ ys) × (rest ≡ others)
counters_one [] [] m rest others e h k = (refl, sym h ∙ k)
counters_one [] (y ∷ ys) m rest others e h k = absurd (omega (arith, e))
counters_one (x ∷ xs) [] m rest others e h k = absurd (omega (arith, e))
counters_one (x ∷ xs) (y ∷ ys) m rest others e h k =
    let s = says 0 (bucket_stats_cells (x ∷ xs)) m m rest refl h in
    let t = says 0 (bucket_stats_cells (y ∷ ys)) m m others refl k in
    let first : x ≡ y = same_bucket x y (sym s.0 ∙ t.0) (sym s.1.0 ∙ t.1.0) in
    let less : length xs ≡ length ys = omega (arith, e) in
    let more = counters_one xs ys (drop 8 (drop 8 m)) rest others less h.2.2 k.2.2 in
    let behind : xs ≡ ys = more.0 in
    (rw (first, behind) refl, more.1)

abbrev group_at : List ℕ → List BucketStats → GroupStats
group_at m buckets = record {
  id = big_number 4 (drop 4 m);
  references = big_number 4 (drop 8 m);
  packets = big_number 8 (drop 16 m);
  bytes = big_number 8 (drop 24 m);
  duration_sec = big_number 4 (drop 32 m);
  duration_nsec = big_number 4 (drop 36 m);
  buckets = buckets;
}

same_group : (s : GroupStats) (a b c d e f : ℕ) → a ≡ s.id → b ≡ s.references → c ≡ s.packets → d ≡ s.bytes → e ≡ s.duration_sec → f ≡ s.duration_nsec
    → record { id = a; references = b; packets = c; bytes = d; duration_sec = e; duration_nsec = f; buckets = s.buckets } ≡ s
same_group s a b c d e f pa pb pc pd pe pf = rw (pa, pb, pc, pd, pe, pf) refl

record GroupRead (s : GroupStats) (m rest : List ℕ) : Type 0 where
  value : group_at m s.buckets ≡ s
  count : big_number 2 m ≡ 40 + 16 * length s.buckets
  counters : Begins (bucket_stats_cells s.buckets) (drop 40 m) rest

group_read : (s : GroupStats) (m rest : List ℕ) → IsGroupRow s m rest → GroupRead s m rest
group_read s m rest h =
    let cells : List StructCell = u16_cell (40 + 16 * length s.buckets) ∷ group_stats_cells s in
    let y = says 0 cells m m h.buckets refl h.front in
    let a = y.1.1.1.1 in
    record {
      value = same_group s _ _ _ _ _ _ y.1.0 y.1.1.0 y.1.1.1.0 a.0 a.1.0 a.1.1.0;
      count = y.0;
      counters = subst (λ (t : List ℕ). Begins (bucket_stats_cells s.buckets) t rest) (rest_is cells m h.buckets h.front) h.behind;
    }

pub group_one : IsOne IsGroupRow
group_one x y m rest others h k =
    let a = group_read x m rest h in
    let b = group_read y m others k in
    let long : length x.buckets ≡ length y.buckets = omega (arith, a.count, b.count) in
    let both = counters_one x.buckets y.buckets (drop 40 m) rest others long a.counters b.counters in
    (sym a.value ∙ ap (group_at m) both.0 ∙ b.value, both.1)

pub group_some : HasBytes IsGroupRow
group_some s m rest h = omega (arith, size_is (u16_cell (40 + 16 * length s.buckets) ∷ group_stats_cells s) m h.buckets h.front)

-- ---- GROUP_DESC

abbrev actions_in : Result (List Action) Code → List Action
actions_in (Ok actions) = actions
actions_in (Err code) = []

abbrev bucket_at : List ℕ → List Action → Bucket
bucket_at m actions = record { weight = big_number 2 (drop 2 m); watch_port = big_number 4 (drop 4 m); watch_group = big_number 4 (drop 8 m); actions = actions; packets = 0; bytes = 0 }

same_written : (s : Bucket) (a b c d e : ℕ) (actions : List Action) → a ≡ s.weight → b ≡ s.watch_port → c ≡ s.watch_group → actions ≡ s.actions → s.packets ≡ d → s.bytes ≡ e
    → record { weight = a; watch_port = b; watch_group = c; actions = actions; packets = d; bytes = e } ≡ s
same_written s a b c d e actions pa pb pc are pd pe = rw (pa, pb, pc, are, ← pd, ← pe) refl

-- after the first 16 bytes come the actions, of which the length says how many bytes they have
record BucketRead (b : Bucket) (m rest : List ℕ) : Type 0 where
  actions : List ℕ
  value : bucket_at m (actions_in (actions_said false actions)) ≡ b
  long : length actions ≡ big_number 2 m - 16
  whole : actions ++ rest ≡ drop 16 m

bucket_read : (b : Bucket) (m rest : List ℕ) → BeginsWithBucket b m rest → BucketRead b m rest
bucket_read b m rest h =
    let cells : List StructCell = bucket_cells (16 + length h.actions) b in
    let y = says 0 cells m m (h.actions ++ rest) refl h.front in
    let len : big_number 2 m ≡ 16 + length h.actions = y.0 in
    let are : actions_in (actions_said false h.actions) ≡ b.actions = ap actions_in (actions_are false h.actions b.actions None h.are) in
    record {
      actions = h.actions;
      value = same_written b _ _ _ 0 0 _ y.1.0 y.1.1.0 y.1.1.1.0 are h.packets h.bytes_used;
      long = omega (arith, len);
      whole = rest_is cells m (h.actions ++ rest) h.front;
    }

bucket_one : IsOne BeginsWithBucket
bucket_one x y m rest others h k =
    let a = bucket_read x m rest h in
    let b = bucket_read y m others k in
    let both = parted a.actions b.actions rest others (big_number 2 m - 16) (a.whole ∙ sym b.whole) a.long b.long in
    (sym a.value ∙ ap (λ (t : List ℕ). bucket_at m (actions_in (actions_said false t))) both.0 ∙ b.value, both.1)

bucket_some : HasBytes BeginsWithBucket
bucket_some b m rest h = omega (arith, size_is (bucket_cells (16 + length h.actions) b) m (h.actions ++ rest) h.front)

bucket_rows : (bs : List Bucket) (bytes : List ℕ) → AreBuckets bs bytes → AreReplyRows BeginsWithBucket bs bytes
bucket_rows [] bytes h = h
bucket_rows (b ∷ bs) bytes h = (h.0, h.1, bucket_rows bs h.0 h.2)

abbrev kind_at : ℕ → GroupKind
kind_at n = if n == 0 then All else if n == 2 then Indirect else FastFailover

kind_again : (k : GroupKind) → kind_at (kind_number k) ≡ k
kind_again All = refl
kind_again other = refl

abbrev described_at : List ℕ → List Bucket → NewGroup
described_at m buckets = record { id = big_number 4 (drop 4 m); kind = kind_at (slice_index m 2); buckets = buckets }

same_described : (g : NewGroup) (id : ℕ) (kind : GroupKind) → id ≡ g.id → kind ≡ g.kind → record { id = id; kind = kind; buckets = g.buckets } ≡ g
same_described g id kind pid pkind = rw (pid, pkind) refl

record DescribedRead (g : NewGroup) (m rest : List ℕ) : Type 0 where
  buckets : List ℕ
  are : AreReplyRows BeginsWithBucket g.buckets buckets
  value : described_at m g.buckets ≡ g
  long : length buckets ≡ big_number 2 m - 8
  whole : buckets ++ rest ≡ drop 8 m

described_read : (g : NewGroup) (m rest : List ℕ) → IsDescribed g m rest → DescribedRead g m rest
described_read g m rest h =
    let cells : List StructCell = u16_cell (8 + length h.buckets) ∷ group_description_cells g in
    let y = says 0 cells m m (h.buckets ++ rest) refl h.front in
    let len : big_number 2 m ≡ 8 + length h.buckets = y.0 in
    record {
      buckets = h.buckets;
      are = bucket_rows g.buckets h.buckets h.are;
      value = same_described g _ _ y.1.1.0 (ap kind_at y.1.0 ∙ kind_again g.kind);
      long = omega (arith, len);
      whole = rest_is cells m (h.buckets ++ rest) h.front;
    }

pub described_one : IsOne IsDescribed
described_one x y m rest others h k =
    let a = described_read x m rest h in
    let b = described_read y m others k in
    let both = parted a.buckets b.buckets rest others (big_number 2 m - 8) (a.whole ∙ sym b.whole) a.long b.long in
    let here : AreReplyRows BeginsWithBucket y.buckets a.buckets = subst (λ (t : List ℕ). AreReplyRows BeginsWithBucket y.buckets t) (sym both.0) b.are in
    let same : x.buckets ≡ y.buckets = rows_one BeginsWithBucket bucket_one bucket_some x.buckets y.buckets a.buckets a.are here in
    (sym a.value ∙ ap (described_at m) same ∙ b.value, both.1)

pub described_some : HasBytes IsDescribed
described_some g m rest h = omega (arith, size_is (u16_cell (8 + length h.buckets) ∷ group_description_cells g) m (h.buckets ++ rest) h.front)
