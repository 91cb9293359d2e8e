-- No bytes encode two replies: type and flags are in their places, and after the fields no bytes are two lists of rows.
use Rattle.std.proofs.Common.{◌≡◌, ℕ, ◌+◌, Bool, true, false, List, length, drop, refl, sym, ap, subst, ◌∙◌, arith}
use Rattle.byteorder.specs.Endian.{big_number}
use Rattle.of_laws.proofs.OneReplyRow.{IsOne, HasBytes, rows_one, flow_one, flow_some, table_one, table_some, port_one, port_some, described_one, described_some}
use Rattle.of_laws.specs.Replied.{Reply, EncodesReply, ReplyTail, aggregate, described_groups, described_ports, description, flags, flows, group_features, groups, ports, reply_cells, reply_fixed_part, reply_type, tables}
use Rattle.of_laws.specs.ReplyRows.{AggregateStats, AreReplyRows, IsDescribed, IsDescribedPort, IsFlow, IsGroupRow, IsPort, IsTable}
use Rattle.of_laws.proofs.OneReplyGroup.{group_one, group_some, described_one as described_group_one, described_some as described_group_some}
use Rattle.of_laws.proofs.Places.{Says, says, size, rest_is}

-- what is where: after the fields, which say what they say, comes the rest
record Laid (r : Reply) (m tail : List ℕ) : Type 0 where
  fields : Says 16 (reply_cells r) m
  there : tail ≡ drop (16 + size (reply_cells r)) m
  behind : ReplyTail r tail

record Head (x : ℕ) (more : Bool) (r : Reply) (m tail : List ℕ) : Type 0 where
  xid : big_number 4 (drop 4 m) ≡ x
  kind : big_number 2 (drop 8 m) ≡ reply_type r
  flag : big_number 2 (drop 10 m) ≡ flags more
  laid : Laid r m tail

head : (x : ℕ) (more : Bool) (r : Reply) (m : List ℕ) (s : EncodesReply x more r m) → Head x more r m s.tail
head x more r m s =
    let cells = reply_fixed_part r more (length m) x in
    let y = says 0 cells m m s.tail refl s.front in
    let a = y.1.1.1 in
    record {
      xid = a.0;
      kind = a.1.0;
      flag = a.1.1.0;
      laid = record { fields = a.1.1.1; there = rest_is cells m s.tail s.front ∙ ap (λ (n : ℕ). drop n m) place; behind = s.behind };
    }
  where
    place : size (reply_fixed_part r more (length m) x) ≡ 16 + size (reply_cells r)
    place = omega arith

one_flag : (more again : Bool) → flags more ≡ flags again → more ≡ again
one_flag false false e = refl
one_flag false true e = absurd (omega (arith, e))
one_flag true false e = absurd (omega (arith, e))
one_flag true true e = refl

one_tail : {X : Type 0} (IsRow : X → List ℕ → List ℕ → Type 0) → IsOne IsRow → HasBytes IsRow → (xs ys : List X) (a b c : List ℕ) → a ≡ c → b ≡ c → AreReplyRows IsRow xs a → AreReplyRows IsRow ys b → xs ≡ ys
one_tail IsRow one some xs ys a b c left right h k = rows_one IsRow one some xs ys a h (subst (λ (t : List ℕ). AreReplyRows IsRow ys t) (right ∙ sym left) k)

one_aggregate : (s t : AggregateStats) → s.packets ≡ t.packets → s.bytes ≡ t.bytes → s.flows ≡ t.flows → s ≡ t
one_aggregate s t p q r = λ i. record { packets = p i; bytes = q i; flows = r i }

one_kind : (r s : Reply) (m a b : List ℕ) → reply_type r ≡ reply_type s → Laid r m a → Laid s m b → r ≡ s
one_kind description description m a b e h k = refl
one_kind (flows xs) (flows ys) m a b e h k = ap flows (one_tail IsFlow flow_one flow_some xs ys a b (drop 16 m) h.there k.there h.behind k.behind)
one_kind (aggregate s) (aggregate t) m a b e h k = let x = h.fields in let y = k.fields in ap aggregate (one_aggregate s t (sym x.0 ∙ y.0) (sym x.1.0 ∙ y.1.0) (sym x.1.1.0 ∙ y.1.1.0))
one_kind (tables xs) (tables ys) m a b e h k = ap tables (one_tail IsTable table_one table_some xs ys a b (drop 16 m) h.there k.there h.behind k.behind)
one_kind (ports xs) (ports ys) m a b e h k = ap ports (one_tail IsPort port_one port_some xs ys a b (drop 16 m) h.there k.there h.behind k.behind)
one_kind (groups xs) (groups ys) m a b e h k = ap groups (one_tail IsGroupRow group_one group_some xs ys a b (drop 16 m) h.there k.there h.behind k.behind)
one_kind (described_groups xs) (described_groups ys) m a b e h k = ap described_groups (one_tail IsDescribed described_group_one described_group_some xs ys a b (drop 16 m) h.there k.there h.behind k.behind)
one_kind group_features group_features m a b e h k = refl
one_kind (described_ports xs) (described_ports ys) m a b e h k = ap described_ports (one_tail IsDescribedPort described_one described_some xs ys a b (drop 16 m) h.there k.there h.behind k.behind)
one_kind description other m a b e h k = absurd (omega (arith, e))
one_kind (flows xs) other m a b e h k = absurd (omega (arith, e))
one_kind (aggregate s) other m a b e h k = absurd (omega (arith, e))
one_kind (tables xs) other m a b e h k = absurd (omega (arith, e))
one_kind (ports xs) other m a b e h k = absurd (omega (arith, e))
one_kind (groups xs) other m a b e h k = absurd (omega (arith, e))
one_kind (described_groups xs) other m a b e h k = absurd (omega (arith, e))
one_kind group_features other m a b e h k = absurd (omega (arith, e))
one_kind (described_ports xs) other m a b e h k = absurd (omega (arith, e))

pub one_reply : (x y : ℕ) (more again : Bool) (r s : Reply) (bytes : List ℕ) → EncodesReply x more r bytes → EncodesReply y again s bytes → (x ≡ y) × (more ≡ again) × (r ≡ s)
one_reply x y more again r s bytes h k =
    let a = head x more r bytes h in
    let b = head y again s bytes k in
    (sym a.xid ∙ b.xid, one_flag more again (sym a.flag ∙ b.flag), one_kind r s bytes h.tail k.tail (sym a.kind ∙ b.kind) a.laid b.laid)
