use Rattle.std.proofs.Common.{◌≡◌, ◌≤◌, ◌<◌, ◌^◌, true, arith, sym, ap, ◌∙◌, subst, List, ℕ, length, take, drop, ◌++◌}
use Rattle.std.proofs.lemmas.List.{length-append, length-take-le, length-drop}
use Rattle.of_layers.specs.{Reading.layers_of, WellFormed.AreBytes}
use Rattle.of_headers.specs.Tags.{popped}
use Rattle.of_rewrite.{specs.Frames.frame_popped, specs.Tagging.has_tag, proofs.TagPut.untagged_pops, proofs.TagPut.pop_is, proofs.TagPut.Tagged, proofs.TagPut.is_tagged}
use Rattle.of_rewrite.proofs.TagFrames.{Popped, tag_popped, none_popped}
use Rattle.of_rewrite.proofs.frame.Frame.pop_vlan.Goals as goal

-- a frame that had a tag
record Removed (old new : List ℕ) : Type 0 where
  layers : layers_of new ≡ popped (layers_of old)
  frame : new ≡ frame_popped old
  shorter : length new ≤ length old
  long : 14 ≤ length new

removed : (old read new : List ℕ) → read ≡ old → 14 ≤ length old → AreBytes read → has_tag old ≡ true → new ≡ take 12 old ++ drop 16 old → Removed old new
removed old read new v long bytes has is =
    let all : AreBytes old = subst AreBytes v bytes in
    let p : Popped old new = tag_popped old new long all has is in
    let t : Tagged old = is_tagged old has in
    let room : 18 ≤ length old = t.long in
    record {
      layers = pop_is old new has is;
      frame = p.frame;
      shorter = p.long;
      long = omega (arith, ap length is, room, length-append (take 12 old) (drop 16 old), length-take-le 12 old (omega (arith, room)), length-drop 16 old);
    }

pub returns-then-is_tagged : goal.returns-then-is_tagged
returns-then-is_tagged c =
    let long : 14 ≤ length c.args.self.now = rw (← c.self.view_is) c.self.invariant.0 in
    let has : has_tag c.args.self.now ≡ true = sym (ap has_tag (c.deref-2.ensures.value ∙ c.self.view_is)) ∙ sym c.is_tagged.ensures ∙ c.if-is_tagged.true in
    let r = removed c.args.self.now c.deref.result.now c.remove_tag.new.bytes.items (c.deref.ensures.value ∙ c.self.view_is) long c.all_bytes.ensures has (c.remove_tag.ensures ∙ ap (λ (s : List ℕ). take 12 s ++ drop 16 s) c.self.view_is) in
    record { frame = r.frame; layers = r.layers; length = r.shorter }

pub returns-else-is_tagged-clause-layers : goal.returns-else-is_tagged-clause-layers
returns-else-is_tagged-clause-layers c =
    untagged_pops c.args.self.now (sym (ap has_tag (c.deref-2.ensures.value ∙ c.self.view_is)) ∙ sym c.is_tagged.ensures ∙ c.if-is_tagged.false)

pub returns-else-is_tagged-clause-frame : goal.returns-else-is_tagged-clause-frame
returns-else-is_tagged-clause-frame c =
    let v : c.deref.result.now ≡ c.args.self.now = c.deref.ensures.value ∙ c.self.view_is in
    let long : 14 ≤ length c.args.self.now = rw (← c.self.view_is) c.self.invariant.0 in
    let bytes : AreBytes c.args.self.now = rw (← v) c.all_bytes.ensures in
    none_popped c.args.self.now long bytes (sym (ap has_tag (c.deref-2.ensures.value ∙ c.self.view_is)) ∙ sym c.is_tagged.ensures ∙ c.if-is_tagged.false)

pub invariant_of-self : goal.invariant_of-self
invariant_of-self c =
    let has : has_tag c.self.inside.bytes.items ≡ true = sym (ap has_tag c.deref-2.ensures.value) ∙ sym c.is_tagged.ensures ∙ c.if-is_tagged.true in
    let r = removed c.self.inside.bytes.items c.deref.result.now c.remove_tag.new.bytes.items c.deref.ensures.value c.self.invariant.0 c.all_bytes.ensures has c.remove_tag.ensures in
    let shorter : length c.remove_tag.new.bytes.items ≤ length c.self.inside.bytes.items = r.shorter in
    let most : length c.self.inside.bytes.items < 2 ^ 61 = c.self.invariant.1 in
    (r.long, omega (arith, shorter, most), c.popped-self-inside.ensures.known c.self.inside.bytes.items c.remove_tag.new.bytes.items c.self.invariant.2 r.layers)
