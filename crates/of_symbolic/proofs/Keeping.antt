-- What is asked of the frame that came in is a field of a match in normal form, or one that agrees with each value; and what is open is unknown.
use Rattle.std.proofs.Common.{◌≡◌, ℕ, ◌-◌, ◌/◌, ◌%◌, ◌^◌, ◌≤◌, ◌≢◌, Bool, true, false, cond, eqb, Option, Some, None, refl, sym, ap, ◌∙◌, arith}
use Rattle.std.specs.Prelude.{bit_and, IfSome, not, slice_get, unwrap_or, ◌&&◌, ◌||◌, ⊤}
use Rattle.std.proofs.{lemmas.Bool.eqb-false, lemmas.Nat.and_mask, lemmas.Nat.and_mod}
use Rattle.of_layers.specs.declared.field.Field.{Field}
use Rattle.of_layers.specs.declared.field.Field.TheVariants.{InPort, Metadata, VlanVid, VlanPcp}
use Rattle.of_layers.specs.Fields.{row_of, ones_of}
use Rattle.of_headers.specs.FieldMap.{value}
use Rattle.of_oxm.specs.{declared.match_field.MatchField.MatchField, NormalForm.IsKept, NormalForm.IsKeptMask, Relations.agrees, Relations.bits_looked_at}
use Rattle.of_oxm.proofs.Joined.{covered}
use Rattle.of_symbolic.specs.Asking.{any_value, asked_at, asked_of_tag, by_tag, field_asked, is_received, own_pcp, own_vid, pcp_asked, pushed_pcp, pushed_vid, vid_asked, vid_bits, with_tag, without_tag}
use Rattle.of_symbolic.specs.declared.asking.Asked.{Asked}
use Rattle.of_symbolic.specs.declared.asking.Asked.TheVariants.{Never, Open, Nothing, Asks}
use Rattle.of_symbolic.specs.{declared.overlay.Overlay.Overlay, declared.overlay.PushedTag.PushedTag, declared.overlay.ReceivedTag.ReceivedTag, declared.overlay.TagNumber.TagNumber}
use Rattle.of_symbolic.specs.declared.overlay.TagNumber.TheVariants.{Value, Received, IfTagged, Unknown}
use Rattle.of_symbolic.{specs.Overlaid.is_number_known, specs.Pulling.is_pcp_unknown, specs.Pulling.is_unknown_at, specs.Pulling.is_vid_unknown, specs.Tags.is_inner, proofs.Holding.IsVid}
use Rattle.of_regions.{specs.Conditions.IsCondition, proofs.NarrowingLemmas.any_value as any_value_condition, proofs.NarrowingLemmas.kept_condition}

-- ---- VLAN_VID

bits_most : (f : Field) (v : ℕ) (mask : Option ℕ) → IfSome mask (IsKeptMask f v) → unwrap_or mask (ones_of f) ≤ ones_of f
bits_most f v None h = omega arith
bits_most f v (Some m) h = let k = h.not_all in omega (arith, k)

vid_ones : (f : Field) → f ≡ VlanVid → ones_of f ≡ 8191
unfolding row_of
vid_ones f at = ap ones_of at

pub kept_vid : (e : MatchField) → IsKept e → e.field ≡ VlanVid → IsVid e
kept_vid e h at = record { at = at; bits = omega (arith, bits_most e.field e.value e.mask h.mask, vid_ones e.field at); covered = covered e h }

-- ---- fields in normal form

abbrev pub KeptIfAsked : Asked → Type 0
KeptIfAsked (Asks x) = IsCondition x
KeptIfAsked other = ⊤

with_kept : IsKept with_tag
unfolding row_of
with_kept = record { value = omega arith; mask = record { maskable = refl; some = omega arith; not_all = omega arith; within = refl; covers = refl } }

without_kept : IsKept without_tag
unfolding row_of
without_kept = record { value = omega arith; mask = record { maskable = refl; some = omega arith; not_all = omega arith; within = refl; covers = refl } }

by_tag_kept : (a b : Bool) → KeptIfAsked (by_tag a b)
by_tag_kept true true = tt
by_tag_kept true false = kept_condition with_tag with_kept
by_tag_kept false true = kept_condition without_tag without_kept
by_tag_kept false false = tt

set_kept : (f : Field) (b : Bool) → KeptIfAsked (cond b (Asks (any_value f)) Never)
set_kept f true = any_value_condition (any_value f) refl refl
set_kept f false = tt

pub field_kept : (s : Option ℕ) (e : MatchField) → IsKept e → KeptIfAsked (field_asked s e)
field_kept None e h = kept_condition e h
field_kept (Some n) e h = set_kept e.field (agrees e (Some n))

vid_bits_kept : (e : MatchField) → IsVid e → eqb (bits_looked_at e % 4096) 0 ≡ false → IsKept (vid_bits e)
unfolding row_of
vid_bits_kept e k n =
    let ne : bits_looked_at e % 4096 ≢ 0 = eqb-false _ _ n in
    let within : bit_and (bits_looked_at e % 4096) (2 ^ 13 - 1) ≡ bits_looked_at e % 4096 = and_mask (bits_looked_at e % 4096) 13 ∙ omega arith in
    record {
      value = omega arith;
      mask = record {
        maskable = refl;
        some = omega (arith, ne);
        not_all = omega arith;
        within = within;
        covers = sym (and_mod e.value (bits_looked_at e) 12) ∙ ap (λ (x : ℕ). x % 4096) k.covered;
      };
    }

tagged_kept : (e : MatchField) (rest : Asked) (t u : Bool) → (u ≡ false → KeptIfAsked rest) → KeptIfAsked (cond (not t) Never (cond u Nothing rest))
tagged_kept e rest true true h = tt
tagged_kept e rest true false h = h refl
tagged_kept e rest false u h = tt

pub vid_kept : (p : Option PushedTag) (own : Option ReceivedTag) (e : MatchField) → IsKept e → e.field ≡ VlanVid → KeptIfAsked (vid_asked p own e)
vid_kept (Some p) own e h at = by_number p.vid
  where
    by_number : (k : TagNumber) → KeptIfAsked (pushed_vid k e)
    by_number (Value n) = by_tag_kept _ _
    by_number (IfTagged n) = by_tag_kept _ _
    by_number Received = tagged_kept e (Asks (vid_bits e)) (eqb (bits_looked_at e / 4096) (e.value / 4096)) (eqb (bits_looked_at e % 4096) 0) (λ n. kept_condition (vid_bits e) (vid_bits_kept e (kept_vid e h at) n))
    by_number Unknown = tagged_kept e Open (eqb (bits_looked_at e / 4096) (e.value / 4096)) (eqb (bits_looked_at e % 4096) 0) (λ n. tt)
vid_kept None (Some own) e h at = by_number own.vid
  where
    by_number : (k : Option ℕ) → KeptIfAsked (own_vid k e)
    by_number None = kept_condition e h
    by_number (Some n) = by_tag_kept _ _
vid_kept None None e h at = tt

pub pcp_kept : (tagged : Bool) (p : Option PushedTag) (own : Option ReceivedTag) (e : MatchField) → IsKept e → KeptIfAsked (pcp_asked tagged p own e)
pcp_kept tagged (Some p) own e h = by_number p.pcp
  where
    by_test : (b : Bool) → KeptIfAsked (cond b Open (Asks e))
    by_test true = tt
    by_test false = kept_condition e h

    by_number : (k : TagNumber) → KeptIfAsked (pushed_pcp tagged k e)
    by_number Received = by_test (eqb e.value 0 && not tagged)
    by_number Unknown = tt
    by_number other = by_tag_kept _ _
pcp_kept tagged None (Some own) e h = by_number own.pcp
  where
    by_number : (k : Option ℕ) → KeptIfAsked (own_pcp k e)
    by_number None = kept_condition e h
    by_number (Some n) = by_tag_kept _ _
pcp_kept tagged None None e h = tt

-- ---- what is open

by_tag_closed : (a b : Bool) → by_tag a b ≡ Open → ⊥
by_tag_closed true true e = cc
by_tag_closed true false e = cc
by_tag_closed false true e = cc
by_tag_closed false false e = cc

set_closed : (s : Option ℕ) (e : MatchField) → field_asked s e ≡ Open → ⊥
set_closed None e h = cc
set_closed (Some n) e h = by_test (agrees e (Some n)) h
  where
    by_test : (b : Bool) → cond b (Asks (any_value e.field)) Never ≡ Open → ⊥
    by_test true k = cc
    by_test false k = cc

tagged_open : (t u : Bool) → cond (not t) Never (cond u Nothing Open) ≡ Open → not u ≡ true
tagged_open true true h = absurd cc
tagged_open true false h = refl
tagged_open false u h = absurd cc

tagged_closed : (x : MatchField) (t u : Bool) → cond (not t) Never (cond u Nothing (Asks x)) ≡ Open → ⊥
tagged_closed x true true h = cc
tagged_closed x true false h = cc
tagged_closed x false u h = cc

pushed_vid_open : (k : TagNumber) (e : MatchField) → pushed_vid k e ≡ Open → (not (is_number_known k) && not (eqb (bits_looked_at e % 4096) 0)) ≡ true
pushed_vid_open Received e h = absurd (tagged_closed (vid_bits e) (eqb (bits_looked_at e / 4096) (e.value / 4096)) (eqb (bits_looked_at e % 4096) 0) h)
pushed_vid_open Unknown e h = tagged_open (eqb (bits_looked_at e / 4096) (e.value / 4096)) (eqb (bits_looked_at e % 4096) 0) h
pushed_vid_open other e h = absurd (by_tag_closed _ _ h)

own_vid_open : (k : Option ℕ) (e : MatchField) → own_vid k e ≡ Open → ⊥
own_vid_open None e h = cc
own_vid_open (Some n) e h = by_tag_closed _ _ h

vid_open : (p : Option PushedTag) (own : Option ReceivedTag) (e : MatchField) → vid_asked p own e ≡ Open → is_vid_unknown p own e ≡ true
vid_open (Some p) own e h = pushed_vid_open p.vid e h
vid_open None (Some own) e h = absurd (own_vid_open own.vid e h)
vid_open None None e h = refl

zero_open : (e : MatchField) (b : Bool) → cond b Open (Asks e) ≡ Open → b ≡ true
zero_open e true h = refl
zero_open e false h = absurd cc

pushed_pcp_open : (tagged : Bool) (k : TagNumber) (e : MatchField) → pushed_pcp tagged k e ≡ Open → (not (is_number_known k) || (is_received k && (eqb e.value 0 && not tagged))) ≡ true
pushed_pcp_open tagged Received e h = zero_open e (eqb e.value 0 && not tagged) h
pushed_pcp_open tagged Unknown e h = refl
pushed_pcp_open tagged other e h = absurd (by_tag_closed _ _ h)

own_pcp_open : (k : Option ℕ) (e : MatchField) → own_pcp k e ≡ Open → ⊥
own_pcp_open None e h = cc
own_pcp_open (Some n) e h = by_tag_closed _ _ h

pcp_open : (tagged : Bool) (p : Option PushedTag) (own : Option ReceivedTag) (e : MatchField) → pcp_asked tagged p own e ≡ Open → is_pcp_unknown tagged p own e ≡ true
pcp_open tagged (Some p) own e h = pushed_pcp_open tagged p.pcp e h
pcp_open tagged None (Some own) e h = absurd (own_pcp_open own.pcp e h)
pcp_open tagged None None e h = refl

metadata_closed : (b : Bool) → cond b Nothing Never ≡ Open → ⊥
metadata_closed true h = cc
metadata_closed false h = cc

tag_open : (inner : Bool) (a : Asked) → asked_of_tag inner a ≡ Open → a ≡ Open
tag_open true (Asks x) h = absurd cc
tag_open true Never h = absurd cc
tag_open true Open h = refl
tag_open true Nothing h = absurd cc
tag_open false a h = h

pub open_unknown : (o : Overlay) (metadata : ℕ) (tagged : Bool) (e : MatchField) (f : Field) → asked_at o metadata tagged e f ≡ Open → is_unknown_at o tagged e f ≡ true
open_unknown o metadata tagged e InPort h = absurd cc
open_unknown o metadata tagged e Metadata h = absurd (metadata_closed (agrees e (Some metadata)) h)
open_unknown o metadata tagged e VlanVid h = vid_open (slice_get o.pushed.items 0) o.own e (tag_open (is_inner o.own) (vid_asked (slice_get o.pushed.items 0) o.own e) h)
open_unknown o metadata tagged e VlanPcp h = pcp_open tagged (slice_get o.pushed.items 0) o.own e (tag_open (is_inner o.own) (pcp_asked tagged (slice_get o.pushed.items 0) o.own e) h)
open_unknown o metadata tagged e f h = absurd (set_closed (value o.set f) e h)
